-- The place of a vertex in the list of all vertices, which is its id, by a closed formula.
use Rattle.std.proofs.Common.{◌≡◌, ℕ, ◌+◌, ◌-◌, ◌*◌, ◌/◌, ◌%◌, ◌^◌, ◌<◌, ◌≤◌, ◌⊎◌, inl, inr, arith, sym, ◌∙◌, ap, zero-add, add-zero, zero, suc, Bool, true, false, List, length, map, get_or, nat_lt, subst, cond}
use Rattle.std.specs.Prelude.{flat_map, count_by}
use Rattle.std.specs.List.{range_with_len, AllByRecursion}
use Rattle.std.proofs.lemmas.Bool.Decides.{nat_tests}
use Rattle.std.proofs.lemmas.List.{get_or-map, length-map}
use Rattle.std.proofs.lemmas.List.FromFn.{get_or-map-range_with_len, length-map-range_with_len}
use Rattle.std.proofs.Math.Nat.{mul-le-mul_right}
use Rattle.std.proofs.lemmas.List.Sums.{sum_by-append}
use Rattle.definitions.specs.declared.Vertex.{Vertex}
use Rattle.definitions.specs.declared.Dims.{Dims}
use Rattle.definitions.specs.Lattice.{vertex, InDomain, IsDims, axis, layer, layers, vertices, id, vertex_at}
use Rattle.definitions.specs.Layout.{layer_len, layer_start}
use Rattle.lattice_laws.proofs.AscendingLists.{all_map, all_flat_map}
use Rattle.lattice_laws.proofs.Vertices.{id-vertex_at, vertex_at-id}
use Rattle.std.proofs.lemmas.List.Folds.{flat_map-map}
use Rattle.lattice_counts.specs.Counts.{row_len, even_len, odd_len, below_layer, before_in_layer, AreSmall, LayersCountVertices}
use Rattle.lattice_counts.proofs.Ranges.{get_or-flat_map_range, length-flat_map_range, count_none, count_all_true, count_all_false}
use Rattle.lattice_counts.proofs.Sizes.{nx_small, ny_small, nz_small, even_small, in_all}

even_or_odd : (n : ℕ) → (n % 2 ≡ 0) ⊎ (n % 2 ≡ 1)
even_or_odd n = grind arith

-- all layers
pub whole_count : (e o z : ℕ) → (2 * z + 3) / 2 * (e + o) + (2 * z + 3) % 2 * e ≡ (z + 1) * (e + o) + e
whole_count e o z =
    let q : (2 * z + 3) / 2 ≡ z + 1 = omega arith in
    let r : (2 * z + 3) % 2 ≡ 1 = omega arith in
    (λ i. q i * (e + o) + r i * e) ∙ ap (λ m. (z + 1) * (e + o) + m) (one e)
  where
    one : (e : ℕ) → 1 * e ≡ e
    one e = omega arith

module _ (d : Dims) where
  abbrev row : ℕ → ℕ → List Vertex
  row h y = map (λ x. vertex h y x) (axis d.nx h)

  -- the i-th row of layer h
  abbrev row_at : ℕ → ℕ → List Vertex
  row_at h i = row h (2 * i + h % 2)

  row_length : (h y : ℕ) → length (row h y) ≡ row_len d.nx h
  row_length h y = length-map (axis d.nx h) (λ x. vertex h y x) ∙ length-map-range_with_len (λ i. 2 * i + h % 2) 0 (d.nx + 2 - h % 2)

  layer_rows : (h : ℕ) → layer d h ≡ flat_map (row_at h) (range_with_len 0 (row_len d.ny h))
  layer_rows h = flat_map-map (row h) (λ i. 2 * i + h % 2) (range_with_len 0 (d.ny + 2 - h % 2))

  -- the rows below row n
  rows_length : (h n : ℕ) → length (flat_map (row_at h) (range_with_len 0 n)) ≡ n * row_len d.nx h
  rows_length h n =
      plain (length (flat_map (row_at h) (range_with_len 0 n))) n (row_len d.nx h)
      (length-flat_map_range (row_at h) (λ j. j * row_len d.nx h) (λ j. grows j (row_len d.nx h) (row_length h (2 * j + h % 2))) 0 n)
    where
      grows : (j w : ℕ) {r : ℕ} → r ≡ w → (j + 1) * w ≡ j * w + r
      grows j w e = omega arith

      plain : (l n w : ℕ) → 0 * w + l ≡ (0 + n) * w → l ≡ n * w
      plain l n w e = omega arith

  pub layer_length : (h : ℕ) → layer_len d h ≡ row_len d.ny h * row_len d.nx h
  layer_length h = ap length (layer_rows h) ∙ rows_length h (row_len d.ny h)

  -- layers in twos
  pub even_layer : (h : ℕ) → h % 2 ≡ 0 → row_len d.ny h * row_len d.nx h ≡ even_len d
  even_layer h e = (λ i. (d.ny + 2 - e i) * (d.nx + 2 - e i)) ∙ plain d.nx d.ny
    where
      plain : (x y : ℕ) → (y + 2 - 0) * (x + 2 - 0) ≡ (x + 2) * (y + 2)
      plain x y = (λ i. flat y i * flat x i) ∙ swap (y + 2) (x + 2)
        where
          flat : (n : ℕ) → n + 2 - 0 ≡ n + 2
          flat n = omega arith

          swap : (m n : ℕ) → m * n ≡ n * m
          swap m n = omega arith

  pub odd_layer : (h : ℕ) → h % 2 ≡ 1 → row_len d.ny h * row_len d.nx h ≡ odd_len d
  odd_layer h e = (λ i. (d.ny + 2 - e i) * (d.nx + 2 - e i)) ∙ plain d.nx d.ny
    where
      plain : (x y : ℕ) → (y + 2 - 1) * (x + 2 - 1) ≡ (x + 1) * (y + 1)
      plain x y =
          let a : y + 2 - 1 ≡ y + 1 = omega arith in
          let b : x + 2 - 1 ≡ x + 1 = omega arith in
          (λ i. a i * b i) ∙ swap (y + 1) (x + 1)
        where
          swap : (m n : ℕ) → m * n ≡ n * m
          swap m n = omega arith

  pub below_grows : (j : ℕ) → below_layer d (j + 1) ≡ below_layer d j + length (layer d j)
  below_grows j =
      elim (even_or_odd j) [
        | inl e ↦
            (let q : (j + 1) / 2 ≡ j / 2 = omega arith in
            let r : (j + 1) % 2 ≡ 1 = omega arith in
            let l : length (layer d j) ≡ even_len d = layer_length j ∙ even_layer j e in
            (λ i. q i * (even_len d + odd_len d) + r i * even_len d) ∙ even (even_len d) (odd_len d) (j / 2) ∙ sym (λ i. j / 2 * (even_len d + odd_len d) + e i * even_len d + l i))
        | inr e ↦
            (let q : (j + 1) / 2 ≡ j / 2 + 1 = omega arith in
            let r : (j + 1) % 2 ≡ 0 = omega arith in
            let l : length (layer d j) ≡ odd_len d = layer_length j ∙ odd_layer j e in
            (λ i. q i * (even_len d + odd_len d) + r i * even_len d) ∙ odd (even_len d) (odd_len d) (j / 2) ∙ sym (λ i. j / 2 * (even_len d + odd_len d) + e i * even_len d + l i))
      ]
    where
      even : (e o q : ℕ) → q * (e + o) + 1 * e ≡ q * (e + o) + 0 * e + e
      even e o q = omega arith

      odd : (e o q : ℕ) → (q + 1) * (e + o) + 0 * e ≡ q * (e + o) + 1 * e + o
      odd e o q = omega arith

  -- the layers below layer n
  layers_length : (n : ℕ) → length (flat_map (layer d) (range_with_len 0 n)) ≡ below_layer d n
  layers_length n =
      none (even_len d) (odd_len d) (length (flat_map (layer d) (range_with_len 0 n)))
      ∙ length-flat_map_range (layer d) (below_layer d) below_grows 0 n ∙ ap (below_layer d) (zero-add n)
    where
      none : (e o l : ℕ) → l ≡ 0 / 2 * (e + o) + 0 % 2 * e + l
      none e o l = omega arith

  pub all_length : length (vertices d) ≡ below_layer d (layers d)
  unfolding vertices
  all_length = layers_length (layers d)

  -- ---- the place of a vertex

  in_row : (v : Vertex) → InDomain d v → get_or (row_at v.h (v.y / 2)) (v.x / 2) (vertex 0 0 0) ≡ v
  in_row v k =
      get_or-map (λ x. vertex v.h (2 * (v.y / 2) + v.h % 2) x) (axis d.nx v.h) (v.x / 2) 0 (vertex 0 0 0) (subst (λ n. v.x / 2 < n) (sym (length-map-range_with_len (λ i. 2 * i + v.h % 2) 0 (d.nx + 2 - v.h % 2))) (half_below v.x v.h d.nx k.x_below k.x_alike))
      ∙ ap (vertex v.h (2 * (v.y / 2) + v.h % 2)) (get_or-map-range_with_len (λ i. 2 * i + v.h % 2) 0 (d.nx + 2 - v.h % 2) (v.x / 2) (v.x / 2) 0 (half_below v.x v.h d.nx k.x_below k.x_alike) (zero-add (v.x / 2)))
      ∙ (λ i. vertex v.h (halves v.y v.h k.y_alike i) (halves v.x v.h k.x_alike i))
    where
      half_below : (x h n : ℕ) → x < 2 * n + 3 → x % 2 ≡ h % 2 → x / 2 < n + 2 - h % 2
      half_below x h n lt e = omega arith

      halves : (x h : ℕ) → x % 2 ≡ h % 2 → 2 * (x / 2) + h % 2 ≡ x
      halves x h e = omega arith

  pub in_layer : (v : Vertex) → InDomain d v → get_or (layer d v.h) (before_in_layer d v) (vertex 0 0 0) ≡ v
  in_layer v k =
      ap (λ l. get_or l (before_in_layer d v) (vertex 0 0 0)) (layer_rows v.h)
      ∙ ap (λ m. get_or (flat_map (row_at v.h) (range_with_len 0 (row_len d.ny v.h))) (m + v.x / 2) (vertex 0 0 0)) (sym (rows_length v.h (v.y / 2)))
      ∙ get_or-flat_map_range (row_at v.h) 0 (row_len d.ny v.h) (v.y / 2) (v.x / 2) (vertex 0 0 0) (half_below v.y v.h d.ny k.y_below k.y_alike)
      (subst (λ n. v.x / 2 < n) (sym (row_length v.h (2 * (0 + v.y / 2) + v.h % 2))) (half_below v.x v.h d.nx k.x_below k.x_alike))
      ∙ ap (λ j. get_or (row_at v.h j) (v.x / 2) (vertex 0 0 0)) (zero-add (v.y / 2))
      ∙ in_row v k
    where
      half_below : (x h n : ℕ) → x < 2 * n + 3 → x % 2 ≡ h % 2 → x / 2 < n + 2 - h % 2
      half_below x h n lt e = omega arith

  -- a vertex's place in its layer is within the layer
  pub within_layer : (v : Vertex) → InDomain d v → before_in_layer d v < layer_len d v.h
  within_layer v k =
      subst (λ n. before_in_layer d v < n) (sym (layer_length v.h)) (place (v.y / 2) (v.x / 2) (row_len d.ny v.h) (row_len d.nx v.h) (half_below v.y v.h d.ny k.y_below k.y_alike) (half_below v.x v.h d.nx k.x_below k.x_alike))
    where
      half_below : (x h n : ℕ) → x < 2 * n + 3 → x % 2 ≡ h % 2 → x / 2 < n + 2 - h % 2
      half_below x h n lt e = omega arith

      place : (j i m n : ℕ) → j < m → i < n → j * n + i < m * n
      place j i m n hj hi = let a : (j + 1) * n ≤ m * n = mul-le-mul_right n (let h : j + 1 ≤ m = omega arith in h) in omega arith

  pub at_place : (v : Vertex) → InDomain d v → vertex_at d (below_layer d v.h + before_in_layer d v) ≡ v
  unfolding vertices
  at_place v k =
      ap (λ m. get_or (flat_map (layer d) (range_with_len 0 (layers d))) (m + before_in_layer d v) (vertex 0 0 0)) (sym (layers_length v.h))
      ∙ get_or-flat_map_range (layer d) 0 (layers d) v.h (before_in_layer d v) (vertex 0 0 0) k.h_below (subst (λ j. before_in_layer d v < length (layer d j)) (sym (zero-add v.h)) (within_layer v k))
      ∙ ap (λ j. get_or (layer d j) (before_in_layer d v) (vertex 0 0 0)) (zero-add v.h)
      ∙ in_layer v k

  pub below_rises : (j n : ℕ) → below_layer d j ≤ below_layer d (j + n)
  below_rises j zero = let e : below_layer d (j + 0) ≡ below_layer d j = ap (below_layer d) (add-zero j) in omega arith
  below_rises j (suc n) =
      let e : below_layer d (j + suc n) ≡ below_layer d (j + n + 1) = ap (below_layer d) (let s : j + suc n ≡ j + n + 1 = omega arith in s) in
      let g = below_grows (j + n) in
      let r = below_rises j n in
      chain (below_layer d j) (below_layer d (j + suc n)) (below_layer d (j + n + 1)) (below_layer d (j + n)) (length (layer d (j + n))) e g r
    where
      chain : (a b c m l : ℕ) → b ≡ c → c ≡ m + l → a ≤ m → a ≤ b
      chain a b c m l e g r = omega arith

  place_within : (v : Vertex) → InDomain d v → below_layer d v.h + before_in_layer d v < length (vertices d)
  place_within v k =
      let n = layers d - (v.h + 1) in
      let e : v.h + 1 + n ≡ layers d = let h = k.h_below in omega arith in
      let r : below_layer d (v.h + 1) ≤ below_layer d (layers d) = subst (λ m. below_layer d (v.h + 1) ≤ below_layer d m) e (below_rises (v.h + 1) n) in
      let g = below_grows v.h in
      let w = within_layer v k in
      chain (below_layer d v.h) (before_in_layer d v) (layer_len d v.h) (below_layer d (v.h + 1)) (below_layer d (layers d)) (length (vertices d)) g w r all_length
    where
      chain : (a p l b t c : ℕ) → b ≡ a + l → p < l → b ≤ t → c ≡ t → a + p < c
      chain a p l b t c g w r e = omega arith

  -- the id of a vertex
  pub rank : (v : Vertex) → InDomain d v → id d v ≡ below_layer d v.h + before_in_layer d v
  rank v k = ap (id d) (sym (at_place v k)) ∙ id-vertex_at d (below_layer d v.h + before_in_layer d v) (place_within v k)

  -- ---- how many vertices stand below a layer

  abbrev is_below : ℕ → Vertex → Bool
  is_below h v = nat_lt v.h h

  layer_all : (h j : ℕ) → (b : Bool) → nat_lt j h ≡ b → AllByRecursion (λ v. is_below h v ≡ b) (layer d j)
  layer_all h j b e = all_flat_map (λ v. is_below h v ≡ b) (row j) (λ y. all_map (λ v. is_below h v ≡ b) (λ x. vertex j y x) (λ x. e) (axis d.nx j)) (axis d.ny j)

  none_above : (h j : ℕ) → h ≤ j → count_by (is_below h) (layer d j) ≡ 0
  none_above h j le = count_all_false (is_below h) (layer d j) (layer_all h j false (not_below j h le))
    where
      not_below : (j h : ℕ) → h ≤ j → nat_lt j h ≡ false
      not_below j h le = grind (arith, nat_tests)

  all_below : (h j : ℕ) → j < h → count_by (is_below h) (layer d j) ≡ length (layer d j)
  all_below h j lt = count_all_true (is_below h) (layer d j) (layer_all h j true (below j h lt))
    where
      below : (j h : ℕ) → j < h → nat_lt j h ≡ true
      below j h lt = grind (arith, nat_tests)

  counted : (h a n : ℕ) → a + n ≡ h → (m : ℕ) → below_layer d a + count_by (is_below h) (flat_map (layer d) (range_with_len a (n + m))) ≡ below_layer d h
  counted h a zero e m =
      ap (λ k. below_layer d a + count_by (is_below h) (flat_map (layer d) (range_with_len a k))) (zero-add m)
      ∙ ap (λ k. below_layer d a + k) (count_none (layer d) (is_below h) a m (λ j le. none_above h j (omega arith)))
      ∙ add-zero (below_layer d a) ∙ ap (below_layer d) (let s : a ≡ h = omega arith in s)
  counted h a (suc n) e m =
      ap (λ k. below_layer d a + count_by (is_below h) (flat_map (layer d) (range_with_len a k))) (let s : suc n + m ≡ suc (n + m) = omega arith in s)
      ∙ ap (λ k. below_layer d a + k) (sum_by-append (λ v. cond (is_below h v) 1 0) (layer d a) (flat_map (layer d) (range_with_len (a + 1) (n + m))))
      ∙ join (below_layer d a) (below_layer d (a + 1)) (length (layer d a)) (count_by (is_below h) (layer d a)) (count_by (is_below h) (flat_map (layer d) (range_with_len (a + 1) (n + m)))) (below_grows a) (all_below h a (omega arith))
      ∙ counted h (a + 1) n (omega arith) m
    where
      join : (s t l p q : ℕ) → t ≡ s + l → p ≡ l → s + (p + q) ≡ t + q
      join s t l p q g e = omega arith

  pub start : (h : ℕ) → h ≤ layers d → layer_start d h ≡ below_layer d h
  unfolding vertices
  start h le =
      let m = layers d - h in
      let e : layers d ≡ h + m = omega arith in
      ap (λ k. count_by (is_below h) (flat_map (layer d) (range_with_len 0 k))) e
      ∙ none (even_len d) (odd_len d) (count_by (is_below h) (flat_map (layer d) (range_with_len 0 (h + m))))
      ∙ counted h 0 h (zero-add h) m
    where
      none : (e o l : ℕ) → l ≡ 0 / 2 * (e + o) + 0 % 2 * e + l
      none e o l = omega arith

  pub small : IsDims d → AreSmall d
  small is = record {
    nx = nx_small d is;
    ny = ny_small d is;
    nz = nz_small d is;
    even = even_small d is;
    all = subst (λ n. n ≤ 2 ^ 27) (sym (all_length ∙ whole_count (even_len d) (odd_len d) d.nz)) (in_all d is);
  }

-- the numbers of vertices below a layer are small
module _ (d : Dims) (is : IsDims d) where
  pub all_small : length (vertices d) ≤ 2 ^ 27
  all_small = let s = small d is in s.all

  pub below_layer_small : (h : ℕ) → h ≤ layers d → below_layer d h ≤ 2 ^ 27
  below_layer_small h le =
      let n = layers d - h in
      let e : h + n ≡ layers d = omega arith in
      let r : below_layer d h ≤ below_layer d (layers d) = subst (λ m. below_layer d h ≤ below_layer d m) e (below_rises d h n) in
      let c = all_length d in
      let s = all_small in
      chain (below_layer d h) (below_layer d (layers d)) (length (vertices d)) (2 ^ 27) r c s
    where
      chain : (a b c n : ℕ) → a ≤ b → c ≡ b → c ≤ n → a ≤ n
      chain a b c n r e s = omega arith

  pub pairs_small : (h : ℕ) → h ≤ layers d → h / 2 * (even_len d + odd_len d) ≤ 2 ^ 27
  pairs_small h le = let s = below_layer_small h le in part (h / 2 * (even_len d + odd_len d)) (h % 2 * even_len d) (2 ^ 27) s
    where
      part : (a b n : ℕ) → a + b ≤ n → a ≤ n
      part a b n h = omega arith

  pub place_small : (v : Vertex) → InDomain d v → below_layer d v.h + before_in_layer d v < 2 ^ 27
  place_small v k = let p = place_within d v k in let s = all_small in omega arith

  pub id_small : (v : Vertex) → InDomain d v → id d v < 2 ^ 27
  id_small v k = let r = rank d v k in let p = place_small v k in omega arith

pub id_within : (d : Dims) (v : Vertex) → InDomain d v → id d v < length (vertices d)
id_within d v k = (vertex_at-id d v k).0

pub layers_count_vertices : LayersCountVertices
layers_count_vertices d = record {
  len = layer_length d;
  start = start d;
  all = all_length d;
  rank = rank d;
  within = λ v k. (vertex_at-id d v k).0;
  small = small d;
}
