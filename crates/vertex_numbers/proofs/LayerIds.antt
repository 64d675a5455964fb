-- The vertices of a layer by their ids.
use Rattle.std.proofs.Common.{◌≡◌, ℕ, ◌+◌, ◌-◌, ◌*◌, ◌%◌, ◌<◌, ◌≤◌, length, map, arith, sym, ap, subst, ◌∙◌}
use Rattle.std.specs.List.{range_with_len}
use Rattle.std.proofs.Math.Nat.{mul-le-mul_right}
use Rattle.definitions.specs.declared.Dims.{Dims}
use Rattle.definitions.specs.declared.Vertex.{Vertex}
use Rattle.definitions.specs.Lattice.{IsDims, id, layer, layers, vertex, vertices, vertex_at}
use Rattle.definitions.specs.Layout.{layer_len, layer_start}
use Rattle.lattice_counts.specs.Counts.{below_layer, row_len, vertex_in_layer}
use Rattle.lattice_counts.proofs.Ranks.{layer_length, start}
use Rattle.lattice_counts.proofs.Places.{layer_listed, layer_within, vertex_at_place, vertex_of_row}
use Rattle.lattice_laws.proofs.Vertices.{id-vertex_at}
use Rattle.vertex_numbers.proofs.NodesTold.{map_ranges}

-- the rows of a layer are the layer
pub all_rows : (d : Dims) (h j n : ℕ) → n ≡ row_len d.ny h → n ≤ j → j ≤ n → j * row_len d.nx h ≡ layer_len d h
all_rows d h j n count past within = ap (λ m. m * row_len d.nx h) (both j n past within ∙ count) ∙ sym (layer_length d h)
  where
    both : (a b : ℕ) → b ≤ a → a ≤ b → a ≡ b
    both a b p q = omega arith

module _ (d : Dims) (is : IsDims d) (h : ℕ) (lt : h < layers d) where
  starts : layer_start d h ≡ below_layer d h
  starts = start d h (omega arith)

  at_place : (p : ℕ) → p < layer_len d h → vertex_at d (layer_start d h + p) ≡ vertex_in_layer d h p
  at_place p below = ap (λ s. vertex_at d (s + p)) starts ∙ vertex_at_place d h is lt p below

  -- an id of the layer is that of a vertex in it
  pub of_layer : (n : ℕ) → layer_start d h ≤ n → n < layer_start d h + layer_len d h → (vertex_at d n).h ≡ h
  of_layer n low high =
      ap (λ m. (vertex_at d m).h) (place n (layer_start d h) low) ∙ ap (λ (v : Vertex). v.h) (at_place (n - layer_start d h) (less n (layer_start d h) (layer_len d h) low high))
    where
      place : (n s : ℕ) → s ≤ n → n ≡ s + (n - s)
      place n s le = omega arith

      less : (n s l : ℕ) → s ≤ n → n < s + l → n - s < l
      less n s l low high = omega arith

  pub layer_ends : layer_start d h + layer_len d h ≤ length (vertices d)
  layer_ends = subst (λ s. s + layer_len d h ≤ length (vertices d)) (sym starts) (layer_within d h lt)

  pub layer_by_ids : layer d h ≡ map (vertex_at d) (range_with_len (layer_start d h) (layer_len d h))
  layer_by_ids =
      layer_listed d h is lt
      ∙ map_ranges (vertex_in_layer d h) (vertex_at d) 0 (layer_start d h) (layer_len d h)
      (λ k below. ap (vertex_in_layer d h) (let e : 0 + k ≡ k = omega arith in e) ∙ sym (at_place k below))

  -- the vertices of a row
  module _ (j i : ℕ) (row : j < row_len d.ny h) (column : i < row_len d.nx h) where
    in_layer : j * row_len d.nx h + i < layer_len d h
    in_layer = subst (λ n. j * row_len d.nx h + i < n) (sym (layer_length d h)) (within j i (row_len d.ny h) (row_len d.nx h) row column)
      where
        within : (j i m n : ℕ) → j < m → i < n → j * n + i < m * n
        within j i m n hj hi = let a : (j + 1) * n ≤ m * n = mul-le-mul_right n (let h : j + 1 ≤ m = omega arith in h) in omega arith

    pub row_within : layer_start d h + j * row_len d.nx h + i < length (vertices d)
    row_within = let e = layer_ends in less (layer_start d h) (j * row_len d.nx h) i (layer_len d h) (length (vertices d)) in_layer e
      where
        less : (s p i l n : ℕ) → p + i < l → s + l ≤ n → s + p + i < n
        less s p i l n a b = omega arith

    pub of_row : vertex_at d (layer_start d h + j * row_len d.nx h + i) ≡ vertex h (j * 2 + h % 2) (i * 2 + h % 2)
    of_row = ap (vertex_at d) (inner (layer_start d h) (j * row_len d.nx h) i) ∙ at_place (j * row_len d.nx h + i) in_layer ∙ vertex_of_row d h j i column
      where
        inner : (a b c : ℕ) → a + b + c ≡ a + (b + c)
        inner a b c = omega arith

    pub row_id : id d (vertex h (j * 2 + h % 2) (i * 2 + h % 2)) ≡ layer_start d h + j * row_len d.nx h + i
    row_id = ap (id d) (sym of_row) ∙ id-vertex_at d (layer_start d h + j * row_len d.nx h + i) row_within

-- the first vertex of a layer
pub first_of_layer : (d : Dims) (h : ℕ) → IsDims d → h < layers d → vertex h (h % 2) (h % 2) ≡ vertex_at d (layer_start d h)
first_of_layer d h is lt =
    (λ i. vertex h (none (h % 2) i) (none (h % 2) i)) ∙ sym (of_row d is h lt 0 0 (some d.ny h) (some d.nx h))
    ∙ ap (vertex_at d) (plain (layer_start d h) (row_len d.nx h))
  where
    none : (n : ℕ) → n ≡ 0 * 2 + n
    none n = omega arith

    some : (n h : ℕ) → 0 < row_len n h
    some n h = omega arith

    plain : (s w : ℕ) → s + 0 * w + 0 ≡ s
    plain s w = omega arith
