-- Sums over lists that are made of others, and over all vertices of the lattice by layers, rows and places in a row.
use Rattle.std.proofs.Common.{◌≡◌, ℕ, zero, suc, ◌+◌, ◌-◌, ◌*◌, ◌%◌, ◌≤◌, [], map, sym, ap, ◌∙◌, arith, add_assoc}
use Rattle.std.specs.Prelude.{sum_by}
use Rattle.std.specs.List.{range_with_len}
use Rattle.std.proofs.lemmas.List.Sums.{sum_by-cons}
use Rattle.list_words.proofs.Sums.{sum_by-map, sum_by-flat_map}
use Rattle.definitions.specs.declared.Dims.{Dims}
use Rattle.definitions.specs.declared.Vertex.{Vertex}
use Rattle.definitions.specs.Lattice.{vertex, vertices, layer, layers, axis}

-- over one more number
pub sum_by-range_more : (f : ℕ → ℕ) (a n : ℕ) → sum_by f (range_with_len a (suc n)) ≡ sum_by f (range_with_len a n) + f (a + n)
sum_by-range_more f a zero = sum_by-cons f a [] ∙ ends f a
  where
    ends : (f : ℕ → ℕ) (a : ℕ) → f a + 0 ≡ 0 + f (a + 0)
    ends f a = let e : a + 0 ≡ a = omega arith in rw e (omega arith)
sum_by-range_more f a (suc n) =
    sum_by-cons f a (range_with_len (a + 1) (suc n))
    ∙ ap (λ m. f a + m) (sum_by-range_more f (a + 1) n)
    ∙ sym (add_assoc (f a) (sum_by f (range_with_len (a + 1) n)) (f (a + 1 + n)))
    ∙ (λ t. sym (sum_by-cons f a (range_with_len (a + 1) n)) t + f (place t))
  where
    place : a + 1 + n ≡ a + suc n
    place = omega arith

-- of numbers that are at most m
pub sum_by-range_at_most : (f : ℕ → ℕ) (m a n : ℕ) → ((i : ℕ) → f i ≤ m) → sum_by f (range_with_len a n) ≤ n * m
sum_by-range_at_most f m a zero h = omega arith
sum_by-range_at_most f m a (suc n) h =
    let e = sum_by-cons f a (range_with_len (a + 1) n) in
    let first = h a in
    let rest = sum_by-range_at_most f m (a + 1) n h in
    omega arith

-- over all vertices
pub sum_over_vertices :
    (q : Vertex → ℕ) (d : Dims) →
    sum_by q (vertices d) ≡ sum_by (λ h. sum_by (λ j. sum_by (λ i. q (vertex h (2 * j + h % 2) (2 * i + h % 2))) (range_with_len 0 (d.nx + 2 - h % 2))) (range_with_len 0 (d.ny + 2 - h % 2))) (range_with_len 0 (layers d))
unfolding vertices
sum_over_vertices q d = sum_by-flat_map q (layer d) (range_with_len 0 (layers d)) ∙ (λ t. sum_by (λ h. over_layer h t) (range_with_len 0 (layers d)))
  where
    over_row : (h y : ℕ) → sum_by q (map (λ x. vertex h y x) (axis d.nx h)) ≡ sum_by (λ i. q (vertex h y (2 * i + h % 2))) (range_with_len 0 (d.nx + 2 - h % 2))
    over_row h y =
        sum_by-map q (λ x. vertex h y x) (axis d.nx h)
        ∙ sum_by-map (λ x. q (vertex h y x)) (λ i. 2 * i + h % 2) (range_with_len 0 (d.nx + 2 - h % 2))

    over_layer : (h : ℕ) → sum_by q (layer d h) ≡ sum_by (λ j. sum_by (λ i. q (vertex h (2 * j + h % 2) (2 * i + h % 2))) (range_with_len 0 (d.nx + 2 - h % 2))) (range_with_len 0 (d.ny + 2 - h % 2))
    over_layer h =
        sum_by-flat_map q (λ y. map (λ x. vertex h y x) (axis d.nx h)) (axis d.ny h)
        ∙ sum_by-map (λ y. sum_by q (map (λ x. vertex h y x) (axis d.nx h))) (λ j. 2 * j + h % 2) (range_with_len 0 (d.ny + 2 - h % 2))
        ∙ (λ t. sum_by (λ j. over_row h (2 * j + h % 2) t) (range_with_len 0 (d.ny + 2 - h % 2)))
