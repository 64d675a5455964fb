use Rattle.std.proofs.Common.{◌≤◌, max, length}
use Rattle.face_neigh.specs.Pairs.{NotesPairs}
use Rattle.face_neigh.proofs.pairs.note_pairs.Given as goal

abbrev pub invariant-loop-k : goal.invariant-loop-k
invariant-loop-k l = NotesPairs l.initial.found l.found l.sides l.k × (l.k ≤ max 1 (length l.sides))
