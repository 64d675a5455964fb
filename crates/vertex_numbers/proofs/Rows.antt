-- What is known along a row, and what vertices add that have one sign with their neighbours upwards.
use Rattle.std.proofs.Common.{◌≡◌, ◌⊎◌, inl, inr, ℕ, ◌+◌, ◌-◌, ◌*◌, ◌%◌, ◌^◌, ◌<◌, ◌≤◌, Bool, List, if◌then◌else◌, length, Fits, w32, arith, sym, ap, subst, ◌∙◌}
use Rattle.std.specs.List.{range_with_len, sum_by}
use Rattle.definitions.specs.declared.Dims.{Dims}
use Rattle.definitions.specs.declared.Sign.{Sign}
use Rattle.definitions.specs.declared.State.{State}
use Rattle.definitions.specs.declared.Vertex.{Vertex}
use Rattle.definitions.specs.Lattice.{InDomain, IsDims, id, layers, vertex, vertex_at, vertices}
use Rattle.definitions.specs.Layout.{layer_start}
use Rattle.definitions.specs.Mesh.{ArePadded}
use Rattle.lattice_counts.specs.Counts.{row_len}
use Rattle.lattice_counts.proofs.Ranks.{all_small}
use Rattle.node_laws.specs.Used.{told}
use Rattle.vertex_numbers.specs.Alike.{AreAlike, HasColumn, IsColumn}
use Rattle.vertex_numbers.specs.Counts.{nodes_at_id, pieces_at_id, vertex_nodes, vertex_pieces}
use Rattle.vertex_numbers.specs.Numbering.{mesh_bits}
use Rattle.vertex_numbers.specs.Rows.{AreAlikeWithin, IsRow, row_vertex, sign_if_plus}
use Rattle.vertex_numbers.specs.declared.runs.Row.{Row}
use Rattle.vertex_numbers.proofs.Columns.{alike, next_x}
use Rattle.vertex_numbers.proofs.LayerIds.{of_row, row_id, row_within}
use Rattle.vertex_numbers.proofs.OneSign.{mesh_bits_of_run, nodes_of_run, pieces_of_run}
use Rattle.vertex_numbers.proofs.Sums.{sum_same}
use Rattle.vertex_numbers.proofs.Upwards.{column_next}

-- the rows before one, and where it starts
module _ (d : Dims) (is : IsDims d) (h j b n : ℕ) (layer : h < layers d) (row : j < row_len d.ny h) (below : b ≡ layer_start d h) (columns : n ≡ row_len d.nx h) where
  pub start_fits : Fits w32 (b + j * n)
  start_fits = small b (j * n) (length (vertices d)) (subst (λ p. p < length (vertices d)) (λ i. sym below i + j * sym columns i + 0) (row_within d is h layer j 0 row (omega arith))) (all_small d is)
    where
      small : (b p l : ℕ) → b + p + 0 < l → l ≤ 2 ^ 27 → Fits w32 (b + p)
      small b p l w a = omega arith

  pub before_fits : Fits w32 (j * n)
  before_fits = less b (j * n) start_fits
    where
      less : (b p : ℕ) → Fits w32 (b + p) → Fits w32 p
      less b p f = omega arith

module _ (d : Dims) (is : IsDims d) (r : Row) (row : IsRow d r) where
  -- the vertex at a place
  module _ (i : ℕ) (lt : i < row_len d.nx r.h) where
    pub inside : InDomain d (row_vertex r.h r.j i)
    inside = let a = row.layer in let b = row.row in record { h_below = a; y_below = omega arith; x_below = omega arith; y_alike = omega arith; x_alike = omega arith }

    pub place_id : id d (row_vertex r.h r.j i) ≡ r.start + i
    place_id = row_id d is r.h row.layer r.j i row.row lt ∙ ap (λ n. n + i) (sym row.start)

    pub place_at : vertex_at d (r.start + i) ≡ row_vertex r.h r.j i
    place_at = ap (λ n. vertex_at d (n + i)) row.start ∙ of_row d is r.h row.layer r.j i row.row lt

    pub place_within : r.start + i < length (vertices d)
    place_within = subst (λ n. n + i < length (vertices d)) (sym row.start) (row_within d is r.h row.layer r.j i row.row lt)

  -- the column of the next vertex
  further : (i : ℕ) → vertex r.h (r.j * 2 + r.h % 2) (i * 2 + r.h % 2 + 2) ≡ row_vertex r.h r.j (i + 1)
  further i = ap (vertex r.h (r.j * 2 + r.h % 2)) (sym (next_x i (r.h % 2)))

  in_row : (i : ℕ) → i < r.followed → i < row_len d.nx r.h
  in_row i lt = let s = row.short in omega arith

  pub next_place : (i : ℕ) → i < r.followed → i + 1 < row_len d.nx r.h
  next_place i lt = let s = row.short in omega arith

  pub column_after : (i : ℕ) → i < r.followed → HasColumn d (row_vertex r.h r.j (i + 1))
  column_after i lt = subst (HasColumn d) (further i) (column_next d (row_vertex r.h r.j i) (inside i (in_row i lt)) (row.next i lt))

  -- one more vertex with the sign
  pub alike_more : (t : Vertex → State) (s : Sign) (a k : ℕ) → k < r.followed → AreAlikeWithin d t r a k s → IsColumn d t (row_vertex r.h r.j k) s → IsColumn d t (row_vertex r.h r.j (k + 1)) s → AreAlikeWithin d t r a (k + 1) s
  alike_more t s a k lt so here next n lo hi = elim (before_or_at n k hi) [ inl below ↦ so n lo below | inr e ↦ subst (λ m. AreAlike d t (row_vertex r.h r.j m) s) (sym e) last ]
    where
      before_or_at : (n k : ℕ) → n < k + 1 → (n < k) ⊎ (n ≡ k)
      before_or_at n k hi = grind arith

      last : AreAlike d t (row_vertex r.h r.j k) s
      last = alike d t (row_vertex r.h r.j k) s (inside k (in_row k lt)) (row.next k lt) here (subst (λ (v : Vertex). IsColumn d t v s) (sym (further k)) next)

  -- what the vertices of a run add
  module _ (t : Vertex → State) (b : Bool) (a e : ℕ) (le : a ≤ e) (within : e ≤ row_len d.nx r.h) (run : AreAlikeWithin d t r a e (sign_if_plus b)) where
    at_id : {X : Type 0} (f : Vertex → X) (x : X) → ((k : ℕ) → a ≤ k → k < e → f (row_vertex r.h r.j k) ≡ x) → (n : ℕ) → r.start + a ≤ n → n < r.start + a + (e - a) → f (vertex_at d n) ≡ x
    at_id f x h n lo hi =
        let k = n - r.start in
        let m : n ≡ r.start + k = omega arith in
        ap (λ m. f (vertex_at d m)) m ∙ ap f (place_at k (omega arith)) ∙ h k (omega arith) (omega arith)

    pub run_nodes : sum_by (nodes_at_id d t) (range_with_len (r.start + a) (e - a)) ≡ (e - a) * (if b then 1 else 0)
    run_nodes = sum_same (nodes_at_id d t) (if b then 1 else 0) (r.start + a) (e - a) (at_id (vertex_nodes d t) (if b then 1 else 0) (λ k lo hi. nodes_of_run d t (row_vertex r.h r.j k) b (run k lo hi)))

    pub run_pieces : sum_by (pieces_at_id d t) (range_with_len (r.start + a) (e - a)) ≡ (e - a) * (if b then 6 else 0)
    run_pieces = sum_same (pieces_at_id d t) (if b then 6 else 0) (r.start + a) (e - a) (at_id (vertex_pieces d t) (if b then 6 else 0) (λ k lo hi. pieces_of_run d t (row_vertex r.h r.j k) b (run k lo hi)))

  pub run_bits : (ss : List State) → ArePadded d ss → (b : Bool) (a e : ℕ) → e ≤ row_len d.nx r.h → AreAlikeWithin d (told d ss) r a e (sign_if_plus b) → (n : ℕ) → r.start + a ≤ n → n < r.start + e → mesh_bits d ss n ≡ (if b then 1 else 0)
  run_bits ss padded b a e within run n lo hi =
      let k = n - r.start in
      let m : n ≡ r.start + k = omega arith in
      let lt : k < row_len d.nx r.h = omega arith in
      ap (mesh_bits d ss) (m ∙ sym (place_id k lt)) ∙ mesh_bits_of_run d ss padded (row_vertex r.h r.j k) (inside k lt) b (run k (omega arith) (omega arith))
