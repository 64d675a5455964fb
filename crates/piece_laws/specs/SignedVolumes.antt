-- The sign of the volume of a lattice tetrahedron by its kind, and the rows of a piece.
use Rattle.std.specs.Prelude.{List}
use Rattle.std.proofs.Math.IntN.{ℤ, pos, negsuc}
use Rattle.definitions.specs.declared.Sign.{Sign}
use Rattle.definitions.specs.declared.Corner.{Corner}
use Rattle.exact.specs.Polynomials.{evaluate}
use Rattle.lattice_laws.specs.Vectors.{Vector, ◌*ᵥ◌}
use Rattle.lattice_laws.specs.Kinds.{Kind, kind_146, kind_256, kind_347, kind_357, kind_467, kind_567, Slot, slot_0, slot_1, slot_2, slot_3, number_of_slot}
use Rattle.moved_lattice.specs.WeightedSums.{vertex_of}
use Rattle.stencil_laws.specs.NodeRows.{moved_row}

-- 1 or -1: the sign of the determinant of a kind's three edges from its lowest vertex
abbrev pub kind_sign : Kind → ℤ
kind_sign kind_146 = negsuc 0
kind_sign kind_256 = pos 1
kind_sign kind_347 = pos 1
kind_sign kind_357 = negsuc 0
kind_sign kind_467 = pos 1
kind_sign kind_567 = negsuc 0

-- the lattice tetrahedron, 4096 units to a half unit
abbrev pub lattice_place : Vector → Kind → Slot → Vector
lattice_place b κ s = pos 4096 *ᵥ vertex_of b κ s

-- the rows of the four nodes of a piece, each 8192 times the node as a weighted sum of the lattice vertices
abbrev pub piece_rows : List ℤ → List Sign → Corner → Corner → Corner → Corner → Slot → Slot → ℤ
piece_rows r signs a b c d slot_0 j = evaluate r (moved_row signs a (number_of_slot j))
piece_rows r signs a b c d slot_1 j = evaluate r (moved_row signs b (number_of_slot j))
piece_rows r signs a b c d slot_2 j = evaluate r (moved_row signs c (number_of_slot j))
piece_rows r signs a b c d slot_3 j = evaluate r (moved_row signs d (number_of_slot j))
