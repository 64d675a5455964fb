use Rattle.std.proofs.Common.{◌≡◌, ◌-◌, ◌++◌, map}
use Rattle.std.specs.Prelude.{filter}
use Rattle.std.specs.List.{range_with_len}
use Rattle.mesh_lists.specs.Parts.{place_on_edge}
use Rattle.vertex_numbers.specs.Bits.{has_bit}
use Rattle.mesh_lists.proofs.places.push_cuts.Given as goal

abbrev pub invariant-loop-dir : goal.invariant-loop-dir
invariant-loop-dir l = l.places.items ≡ l.initial.places.items ++ map (place_on_edge l.field l.v) (filter (has_bit l.bits) (range_with_len 1 (l.dir - 1)))
