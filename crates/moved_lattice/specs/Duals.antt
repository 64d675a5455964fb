-- For each kind of lattice tetrahedron the four linear forms that give a point's weights, and how far a vertex may be moved in each direction.
use Rattle.std.specs.Prelude.{ℕ}
use Rattle.std.proofs.Math.IntN.{pos, negsuc}
use Rattle.lattice_laws.specs.Vectors.{Vector, vector}
use Rattle.lattice_laws.specs.Kinds.{Kind, kind_146, kind_256, kind_347, kind_357, kind_467, kind_567, Slot, slot_0, slot_1, slot_2, slot_3, Direction, forward_1, backward_1, forward_2, backward_2, forward_7, backward_7}

-- how many parts of a step a vertex is moved at most: 1023 of a long edge, 2047 of a short one
abbrev pub limit : Direction → ℕ
limit forward_1 = 1023
limit forward_2 = 1023
limit forward_7 = 1023
limit backward_1 = 1023
limit backward_2 = 1023
limit backward_7 = 1023
limit _ = 2047

-- twice a weight is the slot's form at the point, from the lowest vertex; for slot_0 plus twice the sum of the weights
abbrev pub dual : Kind → Slot → Vector
dual kind_146 slot_0 = vector (negsuc 0) (pos 0) (negsuc 0)
dual kind_146 slot_1 = vector (pos 1) (pos 0) (negsuc 0)
dual kind_146 slot_2 = vector (pos 0) (negsuc 0) (pos 1)
dual kind_146 slot_3 = vector (pos 0) (pos 1) (pos 1)
dual kind_256 slot_0 = vector (pos 0) (negsuc 0) (negsuc 0)
dual kind_256 slot_1 = vector (pos 0) (pos 1) (negsuc 0)
dual kind_256 slot_2 = vector (negsuc 0) (pos 0) (pos 1)
dual kind_256 slot_3 = vector (pos 1) (pos 0) (pos 1)
dual kind_347 slot_0 = vector (pos 0) (pos 1) (negsuc 0)
dual kind_347 slot_1 = vector (negsuc 0) (negsuc 0) (pos 0)
dual kind_347 slot_2 = vector (pos 1) (negsuc 0) (pos 0)
dual kind_347 slot_3 = vector (pos 0) (pos 1) (pos 1)
dual kind_357 slot_0 = vector (pos 1) (pos 0) (negsuc 0)
dual kind_357 slot_1 = vector (negsuc 0) (negsuc 0) (pos 0)
dual kind_357 slot_2 = vector (negsuc 0) (pos 1) (pos 0)
dual kind_357 slot_3 = vector (pos 1) (pos 0) (pos 1)
dual kind_467 slot_0 = vector (negsuc 0) (pos 0) (negsuc 0)
dual kind_467 slot_1 = vector (pos 1) (negsuc 0) (pos 0)
dual kind_467 slot_2 = vector (pos 1) (pos 1) (pos 0)
dual kind_467 slot_3 = vector (negsuc 0) (pos 0) (pos 1)
dual kind_567 slot_0 = vector (pos 0) (negsuc 0) (negsuc 0)
dual kind_567 slot_1 = vector (negsuc 0) (pos 1) (pos 0)
dual kind_567 slot_2 = vector (pos 1) (pos 1) (pos 0)
dual kind_567 slot_3 = vector (pos 0) (negsuc 0) (pos 1)
