-- The matrix of a lattice tetrahedron whose vertices are moved: 8192 times each moved vertex as a weighted sum of the four lattice vertices.
use Rattle.std.specs.Prelude.{ℕ, ◌+◌}
use Rattle.std.proofs.Math.IntN.{ℤ, pos, ◌+ℤ◌, ◌*ℤ◌}
use Rattle.definitions.specs.Vectors.{dot}
use Rattle.lattice_laws.specs.Kinds.{Kind, Slot, slot_0, slot_1, slot_2, slot_3, Direction, step_vector}
use Rattle.moved_lattice.specs.Duals.{dual}

-- by how much slot j's weight, of 8192, grows with each part of a move in a direction
abbrev pub gain : Kind → Direction → Slot → ℤ
gain κ d j = dot (dual κ j) (step_vector d)

-- the row of the vertex in a slot that moved by t parts in a direction: 8192 times its weights
abbrev pub row : Kind → Slot → Direction → ℕ → Slot → ℤ
row κ slot_0 d t slot_0 = pos 8192 +ℤ pos t *ℤ gain κ d slot_0
row κ slot_1 d t slot_1 = pos 8192 +ℤ pos t *ℤ gain κ d slot_1
row κ slot_2 d t slot_2 = pos 8192 +ℤ pos t *ℤ gain κ d slot_2
row κ slot_3 d t slot_3 = pos 8192 +ℤ pos t *ℤ gain κ d slot_3
row κ _ d t j = pos t *ℤ gain κ d j

-- a sum over the slots but one
abbrev pub others : Slot → (Slot → ℕ) → ℕ
others slot_0 f = f slot_1 + f slot_2 + f slot_3
others slot_1 f = f slot_0 + f slot_2 + f slot_3
others slot_2 f = f slot_0 + f slot_1 + f slot_3
others slot_3 f = f slot_0 + f slot_1 + f slot_2
