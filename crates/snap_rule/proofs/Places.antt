-- Writing at consecutive places of a list, a place or a row at a time.
use Rattle.std.proofs.Common.{◌≡◌, ◌≢◌, ℕ, ◌+◌, ◌-◌, ◌*◌, ◌<◌, ◌≤◌, ◌⊎◌, inl, inr, arith, refl, sym, ◌∙◌, ap, zero-add, map, List, [], ◌∷◌, length, get_or, below_more, get_or-set_other, get_or-set_same}
use Rattle.std.specs.List.{range_with_len}
use Rattle.std.proofs.Math.ListN.{set}
use Rattle.std.proofs.lemmas.List.FromFn.{fill_by_all}
use Rattle.definitions.specs.declared.Dims.{Dims}
use Rattle.definitions.specs.declared.Vertex.{Vertex}
use Rattle.definitions.specs.Lattice.{IsDims, layer, layers, vertices, vertex_at}
use Rattle.definitions.specs.Layout.{layer_len}
use Rattle.lattice_counts.specs.Counts.{vertex_in_layer}
use Rattle.lattice_counts.proofs.Places.{layer_listed, vertices_listed}
use Rattle.std.proofs.Math.Nat.{mul-le-mul_right}

-- one more element from place s on
pub put_more : (f : ℕ → ℕ) (xs : List ℕ) (s n z : ℕ) → s + n < length xs → ((i : ℕ) → i < n → get_or xs (s + i) 0 ≡ f i) → z ≡ f n → (i : ℕ) → i < n + 1 → get_or (set xs (s + n) z) (s + i) 0 ≡ f i
put_more f xs s n z lt known e =
    below_more (λ i. get_or (set xs (s + n) z) (s + i) 0 ≡ f i) n
    (λ i h. let ne : s + i ≢ s + n = omega arith in get_or-set_other xs (s + n) (s + i) z 0 ne ∙ known i h)
    (get_or-set_same xs (s + n) z 0 lt ∙ e)

pub put_above : (xs ys : List ℕ) (s n z : ℕ) → ((k : ℕ) → k < s → get_or xs k 0 ≡ get_or ys k 0) → (k : ℕ) → k < s → get_or (set xs (s + n) z) k 0 ≡ get_or ys k 0
put_above xs ys s n z same k h = let ne : k ≢ s + n = omega arith in get_or-set_other xs (s + n) k z 0 ne ∙ same k h

-- one more part of w elements, behind n elements from place s on
pub part_more : (f : ℕ → ℕ) (xs ys : List ℕ) (s n at w : ℕ) → at ≡ s + n → ((i : ℕ) → i < n → get_or xs (s + i) 0 ≡ f i) → ((k : ℕ) → k < at → get_or ys k 0 ≡ get_or xs k 0) → ((i : ℕ) → i < w → get_or ys (at + i) 0 ≡ f (n + i)) →
    (p : ℕ) → p < n + w → get_or ys (s + p) 0 ≡ f p
part_more f xs ys s n at w e known same new p lt = elim (where_is p n) [
  | inl h ↦ same (s + p) (omega arith) ∙ known p h
  | inr h ↦
      (let q : s + p ≡ at + (p - n) = omega arith in
      let r : n + (p - n) ≡ p = omega arith in
      ap (λ k. get_or ys k 0) q ∙ new (p - n) (omega arith) ∙ ap f r)
]
  where
    where_is : (p n : ℕ) → (p < n) ⊎ (n ≤ p)
    where_is p n = grind arith

pub rows_within : (j m w : ℕ) → j < m → j * w + w ≤ m * w
rows_within j m w h = let a : (j + 1) * w ≤ m * w = mul-le-mul_right w (let l : j + 1 ≤ m = omega arith in l) in omega arith

pub next_row : (j w : ℕ) → (j + 1) * w ≡ j * w + w
next_row j w = omega arith

map_of_map : {X : Type 0} (f : X → ℕ) (g : ℕ → X) (xs : List ℕ) → map (λ k. f (g k)) xs ≡ map f (map g xs)
map_of_map f g [] = refl
map_of_map f g (x ∷ xs) = ap (λ r. f (g x) ∷ r) (map_of_map f g xs)

-- a list that holds what F says of each vertex of a layer
pub layer_filled : (d : Dims) (h : ℕ) (F : Vertex → ℕ) (xs : List ℕ) → IsDims d → h < layers d → length xs ≡ layer_len d h → ((p : ℕ) → p < layer_len d h → get_or xs (0 + p) 0 ≡ F (vertex_in_layer d h p)) → xs ≡ map F (layer d h)
layer_filled d h F xs is lt len known =
    fill_by_all (λ p. F (vertex_in_layer d h p)) xs (layer_len d h) 0 len (λ p below. ap (λ k. get_or xs k 0) (sym (zero-add p)) ∙ known p below)
    ∙ map_of_map F (vertex_in_layer d h) (range_with_len 0 (layer_len d h))
    ∙ ap (map F) (sym (layer_listed d h is lt))

-- a list that holds what F says of each vertex
pub all_filled : (d : Dims) (F : Vertex → ℕ) (xs : List ℕ) → length xs ≡ length (vertices d) → ((k : ℕ) → k < length (vertices d) → get_or xs k 0 ≡ F (vertex_at d k)) → xs ≡ map F (vertices d)
all_filled d F xs len known =
    fill_by_all (λ k. F (vertex_at d k)) xs (length (vertices d)) 0 len known
    ∙ map_of_map F (vertex_at d) (range_with_len 0 (length (vertices d)))
    ∙ ap (map F) (sym (vertices_listed d))
