-- The row of a displaced vertex: what each vertex of its lattice tetrahedron weighs in its place, in 8192 parts.
use Rattle.std.proofs.Math.IntN.{ℤ, pos, ◌+ℤ◌}
use Rattle.definitions.specs.Vectors.{dot}
use Rattle.lattice_laws.specs.Vectors.{Vector}
use Rattle.lattice_laws.specs.Kinds.{Kind, Slot, slot_0, slot_1, slot_2, slot_3}
use Rattle.moved_lattice.specs.Duals.{dual}

-- the row of the vertex in a slot, displaced by d
abbrev pub displaced_row : Kind → Slot → Vector → Slot → ℤ
displaced_row κ slot_0 d slot_0 = pos 8192 +ℤ dot (dual κ slot_0) d
displaced_row κ slot_1 d slot_1 = pos 8192 +ℤ dot (dual κ slot_1) d
displaced_row κ slot_2 d slot_2 = pos 8192 +ℤ dot (dual κ slot_2) d
displaced_row κ slot_3 d slot_3 = pos 8192 +ℤ dot (dual κ slot_3) d
displaced_row κ _ d j = pos 0 +ℤ dot (dual κ j) d
