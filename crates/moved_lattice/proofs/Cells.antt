-- A point of a cube of side 2, over n, lies in one of 24 lattice tetrahedra: by its greatest and its second coordinate from the centre, and their signs.
use Rattle.std.proofs.Common.{◌≡◌, ℕ, ◌+◌, ◌-◌, ◌≤◌, arith, inl, inr, ◌⊎◌}
use Rattle.std.proofs.Math.IntN.{pos, negsuc}
use Rattle.std.proofs.lemmas.Int.{ints}
use lib.Signed.{◌≤ℤ◌}
use borrow.Author.Differences.{at_most_in}
use Rattle.lattice_laws.specs.Vectors.{Vector, vector, ◌-ᵥ◌, ◌*ᵥ◌}
use Rattle.lattice_laws.specs.Kinds.{Kind, kind_146, kind_256, kind_347, kind_357, kind_467, kind_567, Slot, slot_0, slot_1, slot_2, slot_3}
use Rattle.moved_lattice.specs.WeightedSums.{IsLattice}
use Rattle.moved_lattice.proofs.LatticeVertices.{even_lattice, odd_lattice}
use Rattle.moved_lattice.proofs.PointForms.{form_at}

-- a lattice tetrahedron none of whose forms is below 0 at p over n
pub record Located (p : Vector) (n : ℕ) : Type 0 where
  pub at : Vector
  pub lattice : IsLattice at
  pub kind : Kind
  pub forms : (s : Slot) → pos 0 ≤ℤ form_at kind s (p -ᵥ pos n *ᵥ at) (pos n)

-- The 24 tetrahedra: u is how far the greatest coordinate stands from the centre n, t how far the second does, and the third is no farther than t.
cell_x_above_y_above : (x y z n u t : ℕ) → x ≡ n + u → y ≡ n + t → z ≤ n + t → n ≤ z + t → t ≤ u → u ≤ n → Located (vector (pos x) (pos y) (pos z)) n
cell_x_above_y_above x y z n u t h0 h1 h2 h3 h4 h5 = record { at = vector (pos 2) (pos 2) (pos 0); lattice = even_lattice (vector (pos 1) (pos 1) (pos 0)); kind = kind_347; forms = go }
  where
    go : (s : Slot) → pos 0 ≤ℤ form_at kind_347 s (vector (pos x) (pos y) (pos z) -ᵥ pos n *ᵥ vector (pos 2) (pos 2) (pos 0)) (pos n)
    go slot_0 = at_most_in _ _ (omega (arith, ints))
    go slot_1 = at_most_in _ _ (omega (arith, ints))
    go slot_2 = at_most_in _ _ (omega (arith, ints))
    go slot_3 = at_most_in _ _ (omega (arith, ints))

cell_x_above_y_below : (x y z n u t : ℕ) → x ≡ n + u → y + t ≡ n → z ≤ n + t → n ≤ z + t → t ≤ u → u ≤ n → Located (vector (pos x) (pos y) (pos z)) n
cell_x_above_y_below x y z n u t h0 h1 h2 h3 h4 h5 = record { at = vector (pos 2) (pos 0) (pos 0); lattice = even_lattice (vector (pos 1) (pos 0) (pos 0)); kind = kind_567; forms = go }
  where
    go : (s : Slot) → pos 0 ≤ℤ form_at kind_567 s (vector (pos x) (pos y) (pos z) -ᵥ pos n *ᵥ vector (pos 2) (pos 0) (pos 0)) (pos n)
    go slot_0 = at_most_in _ _ (omega (arith, ints))
    go slot_1 = at_most_in _ _ (omega (arith, ints))
    go slot_2 = at_most_in _ _ (omega (arith, ints))
    go slot_3 = at_most_in _ _ (omega (arith, ints))

cell_x_above_z_above : (x y z n u t : ℕ) → x ≡ n + u → z ≡ n + t → y ≤ n + t → n ≤ y + t → t ≤ u → u ≤ n → Located (vector (pos x) (pos y) (pos z)) n
cell_x_above_z_above x y z n u t h0 h1 h2 h3 h4 h5 = record { at = vector (pos 1) (pos 1) (pos 1); lattice = odd_lattice (vector (pos 0) (pos 0) (pos 0)); kind = kind_146; forms = go }
  where
    go : (s : Slot) → pos 0 ≤ℤ form_at kind_146 s (vector (pos x) (pos y) (pos z) -ᵥ pos n *ᵥ vector (pos 1) (pos 1) (pos 1)) (pos n)
    go slot_0 = at_most_in _ _ (omega (arith, ints))
    go slot_1 = at_most_in _ _ (omega (arith, ints))
    go slot_2 = at_most_in _ _ (omega (arith, ints))
    go slot_3 = at_most_in _ _ (omega (arith, ints))

cell_x_above_z_below : (x y z n u t : ℕ) → x ≡ n + u → z + t ≡ n → y ≤ n + t → n ≤ y + t → t ≤ u → u ≤ n → Located (vector (pos x) (pos y) (pos z)) n
cell_x_above_z_below x y z n u t h0 h1 h2 h3 h4 h5 = record { at = vector (pos 2) (pos 0) (pos 0); lattice = even_lattice (vector (pos 1) (pos 0) (pos 0)); kind = kind_256; forms = go }
  where
    go : (s : Slot) → pos 0 ≤ℤ form_at kind_256 s (vector (pos x) (pos y) (pos z) -ᵥ pos n *ᵥ vector (pos 2) (pos 0) (pos 0)) (pos n)
    go slot_0 = at_most_in _ _ (omega (arith, ints))
    go slot_1 = at_most_in _ _ (omega (arith, ints))
    go slot_2 = at_most_in _ _ (omega (arith, ints))
    go slot_3 = at_most_in _ _ (omega (arith, ints))

cell_x_below_y_above : (x y z n u t : ℕ) → x + u ≡ n → y ≡ n + t → z ≤ n + t → n ≤ z + t → t ≤ u → u ≤ n → Located (vector (pos x) (pos y) (pos z)) n
cell_x_below_y_above x y z n u t h0 h1 h2 h3 h4 h5 = record { at = vector (pos 0) (pos 2) (pos 0); lattice = even_lattice (vector (pos 0) (pos 1) (pos 0)); kind = kind_347; forms = go }
  where
    go : (s : Slot) → pos 0 ≤ℤ form_at kind_347 s (vector (pos x) (pos y) (pos z) -ᵥ pos n *ᵥ vector (pos 0) (pos 2) (pos 0)) (pos n)
    go slot_0 = at_most_in _ _ (omega (arith, ints))
    go slot_1 = at_most_in _ _ (omega (arith, ints))
    go slot_2 = at_most_in _ _ (omega (arith, ints))
    go slot_3 = at_most_in _ _ (omega (arith, ints))

cell_x_below_y_below : (x y z n u t : ℕ) → x + u ≡ n → y + t ≡ n → z ≤ n + t → n ≤ z + t → t ≤ u → u ≤ n → Located (vector (pos x) (pos y) (pos z)) n
cell_x_below_y_below x y z n u t h0 h1 h2 h3 h4 h5 = record { at = vector (pos 0) (pos 0) (pos 0); lattice = even_lattice (vector (pos 0) (pos 0) (pos 0)); kind = kind_567; forms = go }
  where
    go : (s : Slot) → pos 0 ≤ℤ form_at kind_567 s (vector (pos x) (pos y) (pos z) -ᵥ pos n *ᵥ vector (pos 0) (pos 0) (pos 0)) (pos n)
    go slot_0 = at_most_in _ _ (omega (arith, ints))
    go slot_1 = at_most_in _ _ (omega (arith, ints))
    go slot_2 = at_most_in _ _ (omega (arith, ints))
    go slot_3 = at_most_in _ _ (omega (arith, ints))

cell_x_below_z_above : (x y z n u t : ℕ) → x + u ≡ n → z ≡ n + t → y ≤ n + t → n ≤ y + t → t ≤ u → u ≤ n → Located (vector (pos x) (pos y) (pos z)) n
cell_x_below_z_above x y z n u t h0 h1 h2 h3 h4 h5 = record { at = vector (negsuc 0) (pos 1) (pos 1); lattice = odd_lattice (vector (negsuc 0) (pos 0) (pos 0)); kind = kind_146; forms = go }
  where
    go : (s : Slot) → pos 0 ≤ℤ form_at kind_146 s (vector (pos x) (pos y) (pos z) -ᵥ pos n *ᵥ vector (negsuc 0) (pos 1) (pos 1)) (pos n)
    go slot_0 = at_most_in _ _ (omega (arith, ints))
    go slot_1 = at_most_in _ _ (omega (arith, ints))
    go slot_2 = at_most_in _ _ (omega (arith, ints))
    go slot_3 = at_most_in _ _ (omega (arith, ints))

cell_x_below_z_below : (x y z n u t : ℕ) → x + u ≡ n → z + t ≡ n → y ≤ n + t → n ≤ y + t → t ≤ u → u ≤ n → Located (vector (pos x) (pos y) (pos z)) n
cell_x_below_z_below x y z n u t h0 h1 h2 h3 h4 h5 = record { at = vector (pos 0) (pos 0) (pos 0); lattice = even_lattice (vector (pos 0) (pos 0) (pos 0)); kind = kind_256; forms = go }
  where
    go : (s : Slot) → pos 0 ≤ℤ form_at kind_256 s (vector (pos x) (pos y) (pos z) -ᵥ pos n *ᵥ vector (pos 0) (pos 0) (pos 0)) (pos n)
    go slot_0 = at_most_in _ _ (omega (arith, ints))
    go slot_1 = at_most_in _ _ (omega (arith, ints))
    go slot_2 = at_most_in _ _ (omega (arith, ints))
    go slot_3 = at_most_in _ _ (omega (arith, ints))

cell_y_above_x_above : (x y z n u t : ℕ) → y ≡ n + u → x ≡ n + t → z ≤ n + t → n ≤ z + t → t ≤ u → u ≤ n → Located (vector (pos x) (pos y) (pos z)) n
cell_y_above_x_above x y z n u t h0 h1 h2 h3 h4 h5 = record { at = vector (pos 2) (pos 2) (pos 0); lattice = even_lattice (vector (pos 1) (pos 1) (pos 0)); kind = kind_357; forms = go }
  where
    go : (s : Slot) → pos 0 ≤ℤ form_at kind_357 s (vector (pos x) (pos y) (pos z) -ᵥ pos n *ᵥ vector (pos 2) (pos 2) (pos 0)) (pos n)
    go slot_0 = at_most_in _ _ (omega (arith, ints))
    go slot_1 = at_most_in _ _ (omega (arith, ints))
    go slot_2 = at_most_in _ _ (omega (arith, ints))
    go slot_3 = at_most_in _ _ (omega (arith, ints))

cell_y_above_x_below : (x y z n u t : ℕ) → y ≡ n + u → x + t ≡ n → z ≤ n + t → n ≤ z + t → t ≤ u → u ≤ n → Located (vector (pos x) (pos y) (pos z)) n
cell_y_above_x_below x y z n u t h0 h1 h2 h3 h4 h5 = record { at = vector (pos 0) (pos 2) (pos 0); lattice = even_lattice (vector (pos 0) (pos 1) (pos 0)); kind = kind_467; forms = go }
  where
    go : (s : Slot) → pos 0 ≤ℤ form_at kind_467 s (vector (pos x) (pos y) (pos z) -ᵥ pos n *ᵥ vector (pos 0) (pos 2) (pos 0)) (pos n)
    go slot_0 = at_most_in _ _ (omega (arith, ints))
    go slot_1 = at_most_in _ _ (omega (arith, ints))
    go slot_2 = at_most_in _ _ (omega (arith, ints))
    go slot_3 = at_most_in _ _ (omega (arith, ints))

cell_y_above_z_above : (x y z n u t : ℕ) → y ≡ n + u → z ≡ n + t → x ≤ n + t → n ≤ x + t → t ≤ u → u ≤ n → Located (vector (pos x) (pos y) (pos z)) n
cell_y_above_z_above x y z n u t h0 h1 h2 h3 h4 h5 = record { at = vector (pos 1) (pos 1) (pos 1); lattice = odd_lattice (vector (pos 0) (pos 0) (pos 0)); kind = kind_256; forms = go }
  where
    go : (s : Slot) → pos 0 ≤ℤ form_at kind_256 s (vector (pos x) (pos y) (pos z) -ᵥ pos n *ᵥ vector (pos 1) (pos 1) (pos 1)) (pos n)
    go slot_0 = at_most_in _ _ (omega (arith, ints))
    go slot_1 = at_most_in _ _ (omega (arith, ints))
    go slot_2 = at_most_in _ _ (omega (arith, ints))
    go slot_3 = at_most_in _ _ (omega (arith, ints))

cell_y_above_z_below : (x y z n u t : ℕ) → y ≡ n + u → z + t ≡ n → x ≤ n + t → n ≤ x + t → t ≤ u → u ≤ n → Located (vector (pos x) (pos y) (pos z)) n
cell_y_above_z_below x y z n u t h0 h1 h2 h3 h4 h5 = record { at = vector (pos 0) (pos 2) (pos 0); lattice = even_lattice (vector (pos 0) (pos 1) (pos 0)); kind = kind_146; forms = go }
  where
    go : (s : Slot) → pos 0 ≤ℤ form_at kind_146 s (vector (pos x) (pos y) (pos z) -ᵥ pos n *ᵥ vector (pos 0) (pos 2) (pos 0)) (pos n)
    go slot_0 = at_most_in _ _ (omega (arith, ints))
    go slot_1 = at_most_in _ _ (omega (arith, ints))
    go slot_2 = at_most_in _ _ (omega (arith, ints))
    go slot_3 = at_most_in _ _ (omega (arith, ints))

cell_y_below_x_above : (x y z n u t : ℕ) → y + u ≡ n → x ≡ n + t → z ≤ n + t → n ≤ z + t → t ≤ u → u ≤ n → Located (vector (pos x) (pos y) (pos z)) n
cell_y_below_x_above x y z n u t h0 h1 h2 h3 h4 h5 = record { at = vector (pos 2) (pos 0) (pos 0); lattice = even_lattice (vector (pos 1) (pos 0) (pos 0)); kind = kind_357; forms = go }
  where
    go : (s : Slot) → pos 0 ≤ℤ form_at kind_357 s (vector (pos x) (pos y) (pos z) -ᵥ pos n *ᵥ vector (pos 2) (pos 0) (pos 0)) (pos n)
    go slot_0 = at_most_in _ _ (omega (arith, ints))
    go slot_1 = at_most_in _ _ (omega (arith, ints))
    go slot_2 = at_most_in _ _ (omega (arith, ints))
    go slot_3 = at_most_in _ _ (omega (arith, ints))

cell_y_below_x_below : (x y z n u t : ℕ) → y + u ≡ n → x + t ≡ n → z ≤ n + t → n ≤ z + t → t ≤ u → u ≤ n → Located (vector (pos x) (pos y) (pos z)) n
cell_y_below_x_below x y z n u t h0 h1 h2 h3 h4 h5 = record { at = vector (pos 0) (pos 0) (pos 0); lattice = even_lattice (vector (pos 0) (pos 0) (pos 0)); kind = kind_467; forms = go }
  where
    go : (s : Slot) → pos 0 ≤ℤ form_at kind_467 s (vector (pos x) (pos y) (pos z) -ᵥ pos n *ᵥ vector (pos 0) (pos 0) (pos 0)) (pos n)
    go slot_0 = at_most_in _ _ (omega (arith, ints))
    go slot_1 = at_most_in _ _ (omega (arith, ints))
    go slot_2 = at_most_in _ _ (omega (arith, ints))
    go slot_3 = at_most_in _ _ (omega (arith, ints))

cell_y_below_z_above : (x y z n u t : ℕ) → y + u ≡ n → z ≡ n + t → x ≤ n + t → n ≤ x + t → t ≤ u → u ≤ n → Located (vector (pos x) (pos y) (pos z)) n
cell_y_below_z_above x y z n u t h0 h1 h2 h3 h4 h5 = record { at = vector (pos 1) (negsuc 0) (pos 1); lattice = odd_lattice (vector (pos 0) (negsuc 0) (pos 0)); kind = kind_256; forms = go }
  where
    go : (s : Slot) → pos 0 ≤ℤ form_at kind_256 s (vector (pos x) (pos y) (pos z) -ᵥ pos n *ᵥ vector (pos 1) (negsuc 0) (pos 1)) (pos n)
    go slot_0 = at_most_in _ _ (omega (arith, ints))
    go slot_1 = at_most_in _ _ (omega (arith, ints))
    go slot_2 = at_most_in _ _ (omega (arith, ints))
    go slot_3 = at_most_in _ _ (omega (arith, ints))

cell_y_below_z_below : (x y z n u t : ℕ) → y + u ≡ n → z + t ≡ n → x ≤ n + t → n ≤ x + t → t ≤ u → u ≤ n → Located (vector (pos x) (pos y) (pos z)) n
cell_y_below_z_below x y z n u t h0 h1 h2 h3 h4 h5 = record { at = vector (pos 0) (pos 0) (pos 0); lattice = even_lattice (vector (pos 0) (pos 0) (pos 0)); kind = kind_146; forms = go }
  where
    go : (s : Slot) → pos 0 ≤ℤ form_at kind_146 s (vector (pos x) (pos y) (pos z) -ᵥ pos n *ᵥ vector (pos 0) (pos 0) (pos 0)) (pos n)
    go slot_0 = at_most_in _ _ (omega (arith, ints))
    go slot_1 = at_most_in _ _ (omega (arith, ints))
    go slot_2 = at_most_in _ _ (omega (arith, ints))
    go slot_3 = at_most_in _ _ (omega (arith, ints))

cell_z_above_x_above : (x y z n u t : ℕ) → z ≡ n + u → x ≡ n + t → y ≤ n + t → n ≤ y + t → t ≤ u → u ≤ n → Located (vector (pos x) (pos y) (pos z)) n
cell_z_above_x_above x y z n u t h0 h1 h2 h3 h4 h5 = record { at = vector (pos 1) (pos 1) (pos 1); lattice = odd_lattice (vector (pos 0) (pos 0) (pos 0)); kind = kind_467; forms = go }
  where
    go : (s : Slot) → pos 0 ≤ℤ form_at kind_467 s (vector (pos x) (pos y) (pos z) -ᵥ pos n *ᵥ vector (pos 1) (pos 1) (pos 1)) (pos n)
    go slot_0 = at_most_in _ _ (omega (arith, ints))
    go slot_1 = at_most_in _ _ (omega (arith, ints))
    go slot_2 = at_most_in _ _ (omega (arith, ints))
    go slot_3 = at_most_in _ _ (omega (arith, ints))

cell_z_above_x_below : (x y z n u t : ℕ) → z ≡ n + u → x + t ≡ n → y ≤ n + t → n ≤ y + t → t ≤ u → u ≤ n → Located (vector (pos x) (pos y) (pos z)) n
cell_z_above_x_below x y z n u t h0 h1 h2 h3 h4 h5 = record { at = vector (pos 1) (pos 1) (pos 1); lattice = odd_lattice (vector (pos 0) (pos 0) (pos 0)); kind = kind_357; forms = go }
  where
    go : (s : Slot) → pos 0 ≤ℤ form_at kind_357 s (vector (pos x) (pos y) (pos z) -ᵥ pos n *ᵥ vector (pos 1) (pos 1) (pos 1)) (pos n)
    go slot_0 = at_most_in _ _ (omega (arith, ints))
    go slot_1 = at_most_in _ _ (omega (arith, ints))
    go slot_2 = at_most_in _ _ (omega (arith, ints))
    go slot_3 = at_most_in _ _ (omega (arith, ints))

cell_z_above_y_above : (x y z n u t : ℕ) → z ≡ n + u → y ≡ n + t → x ≤ n + t → n ≤ x + t → t ≤ u → u ≤ n → Located (vector (pos x) (pos y) (pos z)) n
cell_z_above_y_above x y z n u t h0 h1 h2 h3 h4 h5 = record { at = vector (pos 1) (pos 1) (pos 1); lattice = odd_lattice (vector (pos 0) (pos 0) (pos 0)); kind = kind_567; forms = go }
  where
    go : (s : Slot) → pos 0 ≤ℤ form_at kind_567 s (vector (pos x) (pos y) (pos z) -ᵥ pos n *ᵥ vector (pos 1) (pos 1) (pos 1)) (pos n)
    go slot_0 = at_most_in _ _ (omega (arith, ints))
    go slot_1 = at_most_in _ _ (omega (arith, ints))
    go slot_2 = at_most_in _ _ (omega (arith, ints))
    go slot_3 = at_most_in _ _ (omega (arith, ints))

cell_z_above_y_below : (x y z n u t : ℕ) → z ≡ n + u → y + t ≡ n → x ≤ n + t → n ≤ x + t → t ≤ u → u ≤ n → Located (vector (pos x) (pos y) (pos z)) n
cell_z_above_y_below x y z n u t h0 h1 h2 h3 h4 h5 = record { at = vector (pos 1) (pos 1) (pos 1); lattice = odd_lattice (vector (pos 0) (pos 0) (pos 0)); kind = kind_347; forms = go }
  where
    go : (s : Slot) → pos 0 ≤ℤ form_at kind_347 s (vector (pos x) (pos y) (pos z) -ᵥ pos n *ᵥ vector (pos 1) (pos 1) (pos 1)) (pos n)
    go slot_0 = at_most_in _ _ (omega (arith, ints))
    go slot_1 = at_most_in _ _ (omega (arith, ints))
    go slot_2 = at_most_in _ _ (omega (arith, ints))
    go slot_3 = at_most_in _ _ (omega (arith, ints))

cell_z_below_x_above : (x y z n u t : ℕ) → z + u ≡ n → x ≡ n + t → y ≤ n + t → n ≤ y + t → t ≤ u → u ≤ n → Located (vector (pos x) (pos y) (pos z)) n
cell_z_below_x_above x y z n u t h0 h1 h2 h3 h4 h5 = record { at = vector (pos 1) (pos 1) (negsuc 0); lattice = odd_lattice (vector (pos 0) (pos 0) (negsuc 0)); kind = kind_467; forms = go }
  where
    go : (s : Slot) → pos 0 ≤ℤ form_at kind_467 s (vector (pos x) (pos y) (pos z) -ᵥ pos n *ᵥ vector (pos 1) (pos 1) (negsuc 0)) (pos n)
    go slot_0 = at_most_in _ _ (omega (arith, ints))
    go slot_1 = at_most_in _ _ (omega (arith, ints))
    go slot_2 = at_most_in _ _ (omega (arith, ints))
    go slot_3 = at_most_in _ _ (omega (arith, ints))

cell_z_below_x_below : (x y z n u t : ℕ) → z + u ≡ n → x + t ≡ n → y ≤ n + t → n ≤ y + t → t ≤ u → u ≤ n → Located (vector (pos x) (pos y) (pos z)) n
cell_z_below_x_below x y z n u t h0 h1 h2 h3 h4 h5 = record { at = vector (pos 1) (pos 1) (negsuc 0); lattice = odd_lattice (vector (pos 0) (pos 0) (negsuc 0)); kind = kind_357; forms = go }
  where
    go : (s : Slot) → pos 0 ≤ℤ form_at kind_357 s (vector (pos x) (pos y) (pos z) -ᵥ pos n *ᵥ vector (pos 1) (pos 1) (negsuc 0)) (pos n)
    go slot_0 = at_most_in _ _ (omega (arith, ints))
    go slot_1 = at_most_in _ _ (omega (arith, ints))
    go slot_2 = at_most_in _ _ (omega (arith, ints))
    go slot_3 = at_most_in _ _ (omega (arith, ints))

cell_z_below_y_above : (x y z n u t : ℕ) → z + u ≡ n → y ≡ n + t → x ≤ n + t → n ≤ x + t → t ≤ u → u ≤ n → Located (vector (pos x) (pos y) (pos z)) n
cell_z_below_y_above x y z n u t h0 h1 h2 h3 h4 h5 = record { at = vector (pos 1) (pos 1) (negsuc 0); lattice = odd_lattice (vector (pos 0) (pos 0) (negsuc 0)); kind = kind_567; forms = go }
  where
    go : (s : Slot) → pos 0 ≤ℤ form_at kind_567 s (vector (pos x) (pos y) (pos z) -ᵥ pos n *ᵥ vector (pos 1) (pos 1) (negsuc 0)) (pos n)
    go slot_0 = at_most_in _ _ (omega (arith, ints))
    go slot_1 = at_most_in _ _ (omega (arith, ints))
    go slot_2 = at_most_in _ _ (omega (arith, ints))
    go slot_3 = at_most_in _ _ (omega (arith, ints))

cell_z_below_y_below : (x y z n u t : ℕ) → z + u ≡ n → y + t ≡ n → x ≤ n + t → n ≤ x + t → t ≤ u → u ≤ n → Located (vector (pos x) (pos y) (pos z)) n
cell_z_below_y_below x y z n u t h0 h1 h2 h3 h4 h5 = record { at = vector (pos 1) (pos 1) (negsuc 0); lattice = odd_lattice (vector (pos 0) (pos 0) (negsuc 0)); kind = kind_347; forms = go }
  where
    go : (s : Slot) → pos 0 ≤ℤ form_at kind_347 s (vector (pos x) (pos y) (pos z) -ᵥ pos n *ᵥ vector (pos 1) (pos 1) (negsuc 0)) (pos n)
    go slot_0 = at_most_in _ _ (omega (arith, ints))
    go slot_1 = at_most_in _ _ (omega (arith, ints))
    go slot_2 = at_most_in _ _ (omega (arith, ints))
    go slot_3 = at_most_in _ _ (omega (arith, ints))

-- ---- which cell
le_or : (a b : ℕ) → (a ≤ b) ⊎ (b ≤ a)
le_or a b = grind arith

order : {A : Type 0} (u t w : ℕ) → (w ≤ t → t ≤ u → A) → (t ≤ w → w ≤ u → A) → (w ≤ u → u ≤ t → A) → (u ≤ w → w ≤ t → A) → (t ≤ u → u ≤ w → A) → (u ≤ t → t ≤ w → A) → A
order {A} u t w a b c d e f = go (le_or u t) (le_or t w) (le_or u w)
  where
    go : (u ≤ t) ⊎ (t ≤ u) → (t ≤ w) ⊎ (w ≤ t) → (u ≤ w) ⊎ (w ≤ u) → A
    go (inl p) (inl q) r = f p q
    go (inl p) (inr q) (inl r) = d r q
    go (inl p) (inr q) (inr r) = c r p
    go (inr p) (inl q) (inl r) = e p r
    go (inr p) (inl q) (inr r) = b q r
    go (inr p) (inr q) r = a q p

-- which side of n, and how far
data Side (x n : ℕ) : Type 0 where
  above : (u : ℕ) → x ≡ n + u → Side x n
  below : (u : ℕ) → x + u ≡ n → Side x n

side : (x n : ℕ) → Side x n
side x n = go (le_or n x)
  where
    go : (n ≤ x) ⊎ (x ≤ n) → Side x n
    go (inl h) = above (x - n) (omega arith)
    go (inr h) = below (n - x) (omega arith)

by_sides : (x y z n : ℕ) → x ≤ n + n → y ≤ n + n → z ≤ n + n → Side x n → Side y n → Side z n → Located (vector (pos x) (pos y) (pos z)) n
by_sides x y z n lx ly lz (above u ex) (above t ey) (above w ez) =
    order u t w
    (λ p q. cell_x_above_y_above x y z n u t ex ey (omega arith) (omega arith) q (omega arith))
    (λ p q. cell_x_above_z_above x y z n u w ex ez (omega arith) (omega arith) q (omega arith))
    (λ p q. cell_y_above_x_above x y z n t u ey ex (omega arith) (omega arith) q (omega arith))
    (λ p q. cell_y_above_z_above x y z n t w ey ez (omega arith) (omega arith) q (omega arith))
    (λ p q. cell_z_above_x_above x y z n w u ez ex (omega arith) (omega arith) q (omega arith))
    (λ p q. cell_z_above_y_above x y z n w t ez ey (omega arith) (omega arith) q (omega arith))
by_sides x y z n lx ly lz (above u ex) (above t ey) (below w ez) =
    order u t w
    (λ p q. cell_x_above_y_above x y z n u t ex ey (omega arith) (omega arith) q (omega arith))
    (λ p q. cell_x_above_z_below x y z n u w ex ez (omega arith) (omega arith) q (omega arith))
    (λ p q. cell_y_above_x_above x y z n t u ey ex (omega arith) (omega arith) q (omega arith))
    (λ p q. cell_y_above_z_below x y z n t w ey ez (omega arith) (omega arith) q (omega arith))
    (λ p q. cell_z_below_x_above x y z n w u ez ex (omega arith) (omega arith) q (omega arith))
    (λ p q. cell_z_below_y_above x y z n w t ez ey (omega arith) (omega arith) q (omega arith))
by_sides x y z n lx ly lz (above u ex) (below t ey) (above w ez) =
    order u t w
    (λ p q. cell_x_above_y_below x y z n u t ex ey (omega arith) (omega arith) q (omega arith))
    (λ p q. cell_x_above_z_above x y z n u w ex ez (omega arith) (omega arith) q (omega arith))
    (λ p q. cell_y_below_x_above x y z n t u ey ex (omega arith) (omega arith) q (omega arith))
    (λ p q. cell_y_below_z_above x y z n t w ey ez (omega arith) (omega arith) q (omega arith))
    (λ p q. cell_z_above_x_above x y z n w u ez ex (omega arith) (omega arith) q (omega arith))
    (λ p q. cell_z_above_y_below x y z n w t ez ey (omega arith) (omega arith) q (omega arith))
by_sides x y z n lx ly lz (above u ex) (below t ey) (below w ez) =
    order u t w
    (λ p q. cell_x_above_y_below x y z n u t ex ey (omega arith) (omega arith) q (omega arith))
    (λ p q. cell_x_above_z_below x y z n u w ex ez (omega arith) (omega arith) q (omega arith))
    (λ p q. cell_y_below_x_above x y z n t u ey ex (omega arith) (omega arith) q (omega arith))
    (λ p q. cell_y_below_z_below x y z n t w ey ez (omega arith) (omega arith) q (omega arith))
    (λ p q. cell_z_below_x_above x y z n w u ez ex (omega arith) (omega arith) q (omega arith))
    (λ p q. cell_z_below_y_below x y z n w t ez ey (omega arith) (omega arith) q (omega arith))
by_sides x y z n lx ly lz (below u ex) (above t ey) (above w ez) =
    order u t w
    (λ p q. cell_x_below_y_above x y z n u t ex ey (omega arith) (omega arith) q (omega arith))
    (λ p q. cell_x_below_z_above x y z n u w ex ez (omega arith) (omega arith) q (omega arith))
    (λ p q. cell_y_above_x_below x y z n t u ey ex (omega arith) (omega arith) q (omega arith))
    (λ p q. cell_y_above_z_above x y z n t w ey ez (omega arith) (omega arith) q (omega arith))
    (λ p q. cell_z_above_x_below x y z n w u ez ex (omega arith) (omega arith) q (omega arith))
    (λ p q. cell_z_above_y_above x y z n w t ez ey (omega arith) (omega arith) q (omega arith))
by_sides x y z n lx ly lz (below u ex) (above t ey) (below w ez) =
    order u t w
    (λ p q. cell_x_below_y_above x y z n u t ex ey (omega arith) (omega arith) q (omega arith))
    (λ p q. cell_x_below_z_below x y z n u w ex ez (omega arith) (omega arith) q (omega arith))
    (λ p q. cell_y_above_x_below x y z n t u ey ex (omega arith) (omega arith) q (omega arith))
    (λ p q. cell_y_above_z_below x y z n t w ey ez (omega arith) (omega arith) q (omega arith))
    (λ p q. cell_z_below_x_below x y z n w u ez ex (omega arith) (omega arith) q (omega arith))
    (λ p q. cell_z_below_y_above x y z n w t ez ey (omega arith) (omega arith) q (omega arith))
by_sides x y z n lx ly lz (below u ex) (below t ey) (above w ez) =
    order u t w
    (λ p q. cell_x_below_y_below x y z n u t ex ey (omega arith) (omega arith) q (omega arith))
    (λ p q. cell_x_below_z_above x y z n u w ex ez (omega arith) (omega arith) q (omega arith))
    (λ p q. cell_y_below_x_below x y z n t u ey ex (omega arith) (omega arith) q (omega arith))
    (λ p q. cell_y_below_z_above x y z n t w ey ez (omega arith) (omega arith) q (omega arith))
    (λ p q. cell_z_above_x_below x y z n w u ez ex (omega arith) (omega arith) q (omega arith))
    (λ p q. cell_z_above_y_below x y z n w t ez ey (omega arith) (omega arith) q (omega arith))
by_sides x y z n lx ly lz (below u ex) (below t ey) (below w ez) =
    order u t w
    (λ p q. cell_x_below_y_below x y z n u t ex ey (omega arith) (omega arith) q (omega arith))
    (λ p q. cell_x_below_z_below x y z n u w ex ez (omega arith) (omega arith) q (omega arith))
    (λ p q. cell_y_below_x_below x y z n t u ey ex (omega arith) (omega arith) q (omega arith))
    (λ p q. cell_y_below_z_below x y z n t w ey ez (omega arith) (omega arith) q (omega arith))
    (λ p q. cell_z_below_x_below x y z n w u ez ex (omega arith) (omega arith) q (omega arith))
    (λ p q. cell_z_below_y_below x y z n w t ez ey (omega arith) (omega arith) q (omega arith))

-- the tetrahedron that holds the point x, y, z over n of the cube at the origin
pub located_in_cube : (x y z n : ℕ) → x ≤ n + n → y ≤ n + n → z ≤ n + n → Located (vector (pos x) (pos y) (pos z)) n
located_in_cube x y z n lx ly lz = by_sides x y z n lx ly lz (side x n) (side y n) (side z n)
