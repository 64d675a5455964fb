-- The vertex after one: the next in its row, the first of the next row, or the first of the next layer.
use Rattle.std.proofs.Common.{◌≡◌, ℕ, ◌+◌, ◌-◌, ◌*◌, ◌/◌, ◌%◌, ◌<◌, ◌≤◌, ◌⊎◌, inl, inr, arith, refl, sym, ◌∙◌, ap, subst, length}
use Rattle.definitions.specs.declared.Dims.{Dims}
use Rattle.definitions.specs.declared.Vertex.{Vertex}
use Rattle.definitions.specs.Lattice.{InDomain, id, layers, vertex, vertex_at, vertices}
use Rattle.lattice_counts.specs.Counts.{before_in_layer, below_layer, even_len, odd_len, row_len}
use Rattle.lattice_laws.proofs.Laws.{ids_count_vertices}
use Rattle.lattice_counts.proofs.Ranks.{all_length, below_grows, layer_length, rank}
use Rattle.lattice_counts.proofs.Places.{vertex_by_place}

first_in_domain : (d : Dims) → InDomain d (vertex 0 0 0)
first_in_domain d = record { h_below = omega arith; y_below = omega arith; x_below = omega arith; y_alike = refl; x_alike = refl }

-- the first vertex has id 0
pub first_vertex : (d : Dims) → vertex 0 0 0 ≡ vertex_at d 0
first_vertex d = sym (vertex_by_place d (vertex 0 0 0) 0 (first_in_domain d) (none (even_len d) (odd_len d) (row_len d.nx 0))).0
  where
    none : (e o w : ℕ) → 0 / 2 * (e + o) + 0 % 2 * e + (0 / 2 * w + 0 / 2) ≡ 0
    none e o w = omega arith

-- the vertex of an id, and the one after it
pub record HasId (d : Dims) (v : Vertex) (n : ℕ) : Type 0 where
  pub domain : InDomain d v
  pub number : n ≡ id d v

has_id : (d : Dims) (v : Vertex) (n : ℕ) → n < length (vertices d) → v ≡ vertex_at d n → HasId d v n
has_id d v n lt e =
    let i = ids_count_vertices d in
    record { domain = subst (InDomain d) (sym e) (i.inside n lt); number = sym (ap (id d) e ∙ i.rank n lt) }

-- in a loop over ids, whose end is known by sizes e that are d
pub in_loop : (d e : Dims) (v : Vertex) (n end : ℕ) → e ≡ d → end ≡ length (vertices e) → n < end → (n < length (vertices d) → v ≡ vertex_at d n) → HasId d v n
in_loop d e v n end same count lt at =
    let below : n < length (vertices d) = subst (λ m. n < m) (count ∙ ap (λ s. length (vertices s)) same) lt in
    has_id d v n below (at below)

pub next_has_id : (d : Dims) (v w : Vertex) (n : ℕ) → HasId d v n → (id d v + 1 < length (vertices d) → w ≡ vertex_at d (id d v + 1)) → n + 1 < length (vertices d) → w ≡ vertex_at d (n + 1)
next_has_id d v w n h next lt =
    let e : id d v + 1 ≡ n + 1 = ap (λ m. m + 1) (sym h.number) in
    next (subst (λ m. m < length (vertices d)) (sym e) lt) ∙ ap (vertex_at d) e

module _ (d : Dims) (v : Vertex) (k : InDomain d v) where
  place : id d v ≡ below_layer d v.h + before_in_layer d v
  place = rank d v k

  pub next_in_row : v.x + 2 < 2 * d.nx + 3 → vertex v.h v.y (v.x + 2) ≡ vertex_at d (id d v + 1)
  next_in_row lt =
      sym (vertex_by_place d (vertex v.h v.y (v.x + 2)) (id d v + 1)
      (record { h_below = k.h_below; y_below = k.y_below; x_below = lt; y_alike = k.y_alike; x_alike = alike v.x v.h k.x_alike })
      (sums (below_layer d v.h) (v.y / 2 * row_len d.nx v.h) (v.x / 2) ((v.x + 2) / 2) (id d v) (half v.x) place)).0
    where
      alike : (x h : ℕ) → x % 2 ≡ h % 2 → (x + 2) % 2 ≡ h % 2
      alike x h e = omega arith

      half : (x : ℕ) → (x + 2) / 2 ≡ x / 2 + 1
      half x = omega arith

      sums : (b p q r n : ℕ) → r ≡ q + 1 → n ≡ b + (p + q) → b + (p + r) ≡ n + 1
      sums b p q r n e f = omega arith

  -- behind the last vertex of a row, and of a layer
  row_ends : 2 * d.nx + 3 ≤ v.x + 2 → v.x / 2 + 1 ≡ row_len d.nx v.h
  row_ends le = ends d.nx v.x v.h le k.x_below k.x_alike
    where
      ends : (n x h : ℕ) → 2 * n + 3 ≤ x + 2 → x < 2 * n + 3 → x % 2 ≡ h % 2 → x / 2 + 1 ≡ n + 2 - h % 2
      ends n x h le lt e = omega arith

  layer_ends : 2 * d.ny + 3 ≤ v.y + 2 → v.y / 2 + 1 ≡ row_len d.ny v.h
  layer_ends le = ends d.ny v.y v.h le k.y_below k.y_alike
    where
      ends : (n x h : ℕ) → 2 * n + 3 ≤ x + 2 → x < 2 * n + 3 → x % 2 ≡ h % 2 → x / 2 + 1 ≡ n + 2 - h % 2
      ends n x h le lt e = omega arith

  pub next_row : 2 * d.nx + 3 ≤ v.x + 2 → v.y + 2 < 2 * d.ny + 3 → vertex v.h (v.y + 2) (v.h % 2) ≡ vertex_at d (id d v + 1)
  next_row le lt =
      sym (vertex_by_place d (vertex v.h (v.y + 2) (v.h % 2)) (id d v + 1)
      (record { h_below = k.h_below; y_below = lt; x_below = small v.h d.nx; y_alike = alike v.y v.h k.y_alike; x_alike = same v.h })
      ((λ i. below_layer d v.h + (half v.y i * row_len d.nx v.h + none v.h i)) ∙ sums (below_layer d v.h) (v.y / 2) (row_len d.nx v.h) (v.x / 2) (id d v) place (row_ends le))).0
    where
      small : (h n : ℕ) → h % 2 < 2 * n + 3
      small h n = omega arith

      alike : (x h : ℕ) → x % 2 ≡ h % 2 → (x + 2) % 2 ≡ h % 2
      alike x h e = omega arith

      same : (h : ℕ) → h % 2 % 2 ≡ h % 2
      same h = omega arith

      half : (x : ℕ) → (x + 2) / 2 ≡ x / 2 + 1
      half x = omega arith

      none : (h : ℕ) → h % 2 / 2 ≡ 0
      none h = omega arith

      sums : (b q w x n : ℕ) → n ≡ b + (q * w + x) → x + 1 ≡ w → b + ((q + 1) * w + 0) ≡ n + 1
      sums b q w x n e f = omega arith

  -- the ids of a layer end where those of the next begin
  above : 2 * d.nx + 3 ≤ v.x + 2 → 2 * d.ny + 3 ≤ v.y + 2 → below_layer d (v.h + 1) ≡ id d v + 1
  above lx ly =
      below_grows d v.h ∙ ap (λ m. below_layer d v.h + m) (layer_length d v.h ∙ ap (λ m. m * row_len d.nx v.h) (sym (layer_ends ly)))
      ∙ sums (below_layer d v.h) (v.y / 2) (row_len d.nx v.h) (v.x / 2) (id d v) place (row_ends lx)
    where
      sums : (b q w x n : ℕ) → n ≡ b + (q * w + x) → x + 1 ≡ w → b + (q + 1) * w ≡ n + 1
      sums b q w x n e f = omega arith

  pub next_layer : 2 * d.nx + 3 ≤ v.x + 2 → 2 * d.ny + 3 ≤ v.y + 2 → id d v + 1 < length (vertices d) → vertex (v.h + 1) ((v.h + 1) % 2) ((v.h + 1) % 2) ≡ vertex_at d (id d v + 1)
  next_layer lx ly below = elim (last_or_not v.h (layers d) k.h_below) [
    | inl lt ↦
        sym (vertex_by_place d (vertex (v.h + 1) ((v.h + 1) % 2) ((v.h + 1) % 2)) (id d v + 1)
        (record { h_below = lt; y_below = small (v.h + 1) d.ny; x_below = small (v.h + 1) d.nx; y_alike = same (v.h + 1); x_alike = same (v.h + 1) })
        ((λ i. above lx ly i + (none (v.h + 1) i * row_len d.nx (v.h + 1) + none (v.h + 1) i)) ∙ plain (id d v + 1) (row_len d.nx (v.h + 1)))).0
    | inr e ↦
        (let all : id d v + 1 ≡ length (vertices d) = sym (above lx ly) ∙ ap (below_layer d) e ∙ sym (all_length d) in
        absurd (omega arith))
  ]
    where
      last_or_not : (m n : ℕ) → m < n → (m + 1 < n) ⊎ (m + 1 ≡ n)
      last_or_not m n lt = grind arith

      small : (h n : ℕ) → h % 2 < 2 * n + 3
      small h n = omega arith

      same : (h : ℕ) → h % 2 % 2 ≡ h % 2
      same h = omega arith

      none : (h : ℕ) → h % 2 / 2 ≡ 0
      none h = omega arith

      plain : (n w : ℕ) → n + (0 * w + 0) ≡ n
      plain n w = omega arith
