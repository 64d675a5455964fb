use Rattle.std.proofs.Common.{◌≡◌, take}
use Rattle.std.specs.Prelude.{All}
use Rattle.face_neigh.specs.Sides.{IsSmall, sides}
use Rattle.face_neigh.proofs.sides.in_order.Given as goal

abbrev pub invariant-loop-number : goal.invariant-loop-number
invariant-loop-number l = (l.sides.items ≡ sides (take l.number l.tets)) × All IsSmall l.sides.items
