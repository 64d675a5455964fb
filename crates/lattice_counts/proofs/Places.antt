-- From ids and places in a layer to vertices.
use Rattle.std.proofs.Common.{refl, ◌≡◌, ℕ, ◌+◌, ◌-◌, ◌*◌, ◌/◌, ◌%◌, ◌<◌, ◌≤◌, arith, sym, ◌∙◌, ap, length, map, get_or, subst}
use Rattle.std.specs.List.{range_with_len}
use Rattle.std.proofs.lemmas.List.FromFn.{fill_by_all}
use Rattle.std.proofs.Math.Nat.{mul-le-mul_left, mod-lt, div-lt_iff_lt-mul, lt_of_mul-lt-mul_right}
use Rattle.definitions.specs.declared.Vertex.{Vertex}
use Rattle.definitions.specs.declared.Dims.{Dims}
use Rattle.definitions.specs.Lattice.{vertex, InDomain, IsDims, layer, layers, vertices, id, vertex_at}
use Rattle.definitions.specs.Layout.{layer_len}
use Rattle.lattice_laws.proofs.Vertices.{vertex_at-id}
use Rattle.std.proofs.lemmas.Nat.{div-mul-add}
use Rattle.lattice_counts.specs.Counts.{row_len, even_len, odd_len, below_layer, before_in_layer, vertex_in_layer, PlaceInLayer, StandsInLayer}
use Rattle.lattice_counts.proofs.Ranks.{whole_count, layer_length, even_layer, odd_layer, below_grows, all_length, in_layer, at_place, below_rises, rank}

-- the layer with an id, and the id's place in it, lead to the vertex
pub vertex_by_place : (d : Dims) (v : Vertex) (n : ℕ) → InDomain d v → below_layer d v.h + before_in_layer d v ≡ n → (vertex_at d n ≡ v) × (id d v ≡ n)
vertex_by_place d v n k e = (ap (vertex_at d) (sym (rank d v k ∙ e)) ∙ (vertex_at-id d v k).1, rank d v k ∙ e)

-- a place in a row and the row in the layer
pub place_of_row : (d : Dims) (h p : ℕ) → IsDims d → h < layers d → p < row_len d.ny h * row_len d.nx h → PlaceInLayer d h p
place_of_row d h p is lt below =
    let w0 : 0 < row_len d.nx h = let x = is.nx_positive in omega arith in
    let r : p / row_len d.nx h < row_len d.ny h = rows (row_len d.nx h) (row_len d.ny h) p w0 below in
    let c : p % row_len d.nx h < row_len d.nx h = mod-lt p w0 in
    record {
      domain = record {
        h_below = lt;
        y_below = at_most (p / row_len d.nx h) h d.ny r;
        x_below = at_most (p % row_len d.nx h) h d.nx c;
        y_alike = alike (p / row_len d.nx h) h;
        x_alike = alike (p % row_len d.nx h) h;
      };
      place = (λ i. half (p / row_len d.nx h) h i * row_len d.nx h + half (p % row_len d.nx h) h i) ∙ whole p (row_len d.nx h) w0;
    }
  where
    rows : (w m p : ℕ) → 0 < w → p < m * w → p / w < m
    rows w m p w0 below = (div-lt_iff_lt-mul w0).1 below

    at_most : (q h n : ℕ) → q < n + 2 - h % 2 → q * 2 + h % 2 < 2 * n + 3
    at_most q h n lt = omega arith

    alike : (q h : ℕ) → (q * 2 + h % 2) % 2 ≡ h % 2
    alike q h = omega arith

    half : (q h : ℕ) → (q * 2 + h % 2) / 2 ≡ q
    half q h = omega arith

    whole : (p w : ℕ) → 0 < w → p / w * w + p % w ≡ p
    whole p w w0 = omega arith

-- an id's layer, from its part of the two layers in which it stands
module _ (d : Dims) (is : IsDims d) (n : ℕ) (below : n < length (vertices d)) where
  abbrev pub pair : ℕ
  pair = even_len d + odd_len d

  even_some : 0 < even_len d
  even_some =
      let x = is.nx_positive in let y = is.ny_positive in
      let m : (d.nx + 2) * 1 ≤ (d.nx + 2) * (d.ny + 2) = mul-le-mul_left (d.nx + 2) (let h : 1 ≤ d.ny + 2 = omega arith in h) in
      omega arith

  n_below : n < (d.nz + 1) * pair + even_len d
  n_below = subst (λ m. n < m) (all_length d ∙ whole_count (even_len d) (odd_len d) d.nz) below

  pair_some : 0 < pair
  pair_some = let e = even_some in omega arith

  halves : n / pair * pair + n % pair ≡ n
  halves = whole n pair pair_some
    where
      whole : (p w : ℕ) → 0 < w → p / w * w + p % w ≡ p
      whole p w w0 = omega arith

  pub in_even : n % pair < even_len d → StandsInLayer d n (2 * (n / pair)) (n % pair)
  in_even lt = record {
    layer = (let q : n / pair < d.nz + 1 + 1 = lt_of_mul-lt-mul_right pair (least n (n / pair) (n % pair) (d.nz + 1) (even_len d) (odd_len d) n_below halves) in double (n / pair) d.nz q);
    place = subst (λ m. n % pair < m) (sym (even_layer d (2 * (n / pair)) (parity (n / pair)))) lt;
    sum = (λ i. half (n / pair) i * pair + parity (n / pair) i * even_len d + n % pair) ∙ plain (n / pair * pair) (even_len d) (n % pair) ∙ halves;
  }
    where
      least : (n q r z e o : ℕ) → n < z * (e + o) + e → q * (e + o) + r ≡ n → q * (e + o) < (z + 1) * (e + o)
      least n q r z e o lt e1 = omega arith

      double : (q z : ℕ) → q < z + 1 + 1 → 2 * q < 2 * z + 3
      double q z lt = omega arith

      parity : (q : ℕ) → (2 * q) % 2 ≡ 0
      parity q = omega arith

      half : (q : ℕ) → (2 * q) / 2 ≡ q
      half q = omega arith

      plain : (p e r : ℕ) → p + 0 * e + r ≡ p + r
      plain p e r = omega arith

  pub in_odd : even_len d ≤ n % pair → StandsInLayer d n (2 * (n / pair) + 1) (n % pair - even_len d)
  in_odd le = record {
    layer = (let q : n / pair < d.nz + 1 = lt_of_mul-lt-mul_right pair (least n (n / pair) (n % pair) (d.nz + 1) (even_len d) (odd_len d) n_below halves le) in double (n / pair) d.nz q);
    place = subst (λ m. n % pair - even_len d < m) (sym (odd_layer d (2 * (n / pair) + 1) (parity (n / pair)))) (let r : n % pair < pair = mod-lt n pair_some in rest (n % pair) (even_len d) (odd_len d) r le);
    sum = (λ i. half (n / pair) i * pair + parity (n / pair) i * even_len d + (n % pair - even_len d)) ∙ plain (n / pair * pair) (even_len d) (n % pair) le ∙ halves;
  }
    where
      least : (n q r z e o : ℕ) → n < z * (e + o) + e → q * (e + o) + r ≡ n → e ≤ r → q * (e + o) < z * (e + o)
      least n q r z e o lt e1 le = omega arith

      double : (q z : ℕ) → q < z + 1 → 2 * q + 1 < 2 * z + 3
      double q z lt = omega arith

      parity : (q : ℕ) → (2 * q + 1) % 2 ≡ 1
      parity q = omega arith

      half : (q : ℕ) → (2 * q + 1) / 2 ≡ q
      half q = omega arith

      rest : (r e o : ℕ) → r < e + o → e ≤ r → r - e < o
      rest r e o lt le = omega arith

      plain : (p e r : ℕ) → e ≤ r → p + 1 * e + (r - e) ≡ p + r
      plain p e r le = omega arith

-- the vertices of a layer by their places in it
module _ (d : Dims) (h : ℕ) (is : IsDims d) (lt : h < layers d) where
  in_place : (p : ℕ) → p < layer_len d h → PlaceInLayer d h p
  in_place p below = place_of_row d h p is lt (subst (λ n. p < n) (layer_length d h) below)

  pub vertex_at_place : (p : ℕ) → p < layer_len d h → vertex_at d (below_layer d h + p) ≡ vertex_in_layer d h p
  vertex_at_place p below =
      let i = in_place p below in
      ap (λ n. vertex_at d (below_layer d h + n)) (sym i.place) ∙ at_place d (vertex_in_layer d h p) i.domain

  pub layer_listed : layer d h ≡ map (vertex_in_layer d h) (range_with_len 0 (layer_len d h))
  layer_listed =
      fill_by_all (vertex_in_layer d h) (layer d h) (layer_len d h) (vertex 0 0 0) refl
      (λ p below. let i = in_place p below in ap (λ n. get_or (layer d h) n (vertex 0 0 0)) (sym i.place) ∙ in_layer d (vertex_in_layer d h p) i.domain)

-- a layer ends where the next begins, within all vertices
pub layer_within : (d : Dims) (h : ℕ) → h < layers d → below_layer d h + layer_len d h ≤ length (vertices d)
layer_within d h lt =
    let n = layers d - (h + 1) in
    let e : h + 1 + n ≡ layers d = omega arith in
    let r : below_layer d (h + 1) ≤ below_layer d (layers d) = subst (λ m. below_layer d (h + 1) ≤ below_layer d m) e (below_rises d (h + 1) n) in
    let g = below_grows d h in
    let c = all_length d in
    chain (below_layer d h) (below_layer d (h + 1)) (layer_len d h) (below_layer d (layers d)) (length (vertices d)) g r c
  where
    chain : (a b l t c : ℕ) → b ≡ a + l → b ≤ t → c ≡ t → a + l ≤ c
    chain a b l t c g r e = omega arith

pub vertices_listed : (d : Dims) → vertices d ≡ map (vertex_at d) (range_with_len 0 (length (vertices d)))
vertices_listed d = fill_by_all (vertex_at d) (vertices d) (length (vertices d)) (vertex 0 0 0) refl (λ k h. refl)

-- the i-th vertex of row j of a layer
pub vertex_of_row : (d : Dims) (h j i : ℕ) → i < row_len d.nx h → vertex_in_layer d h (j * row_len d.nx h + i) ≡ vertex h (j * 2 + h % 2) (i * 2 + h % 2)
vertex_of_row d h j i lt =
    let q : (j * row_len d.nx h + i) / row_len d.nx h ≡ j = div-mul-add j (row_len d.nx h) i lt in
    let r : (j * row_len d.nx h + i) % row_len d.nx h ≡ i = rest j (row_len d.nx h) i lt q in
    (λ t. vertex h (q t * 2 + h % 2) (r t * 2 + h % 2))
  where
    rest : (j w i : ℕ) → i < w → (j * w + i) / w ≡ j → (j * w + i) % w ≡ i
    rest j w i lt q =
        let e : (j * w + i) / w * w ≡ j * w = ap (λ n. n * w) q in
        let m : (j * w + i) / w * w + (j * w + i) % w ≡ j * w + i = whole (j * w + i) w (let p : 0 < w = omega arith in p) in
        omega arith
      where
        whole : (p w : ℕ) → 0 < w → p / w * w + p % w ≡ p
        whole p w w0 = omega arith
