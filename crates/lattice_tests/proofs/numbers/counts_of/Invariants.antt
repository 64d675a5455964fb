use Rattle.std.proofs.Common.{◌≡◌, map}
use Rattle.std.specs.List.{range_with_len}
use Rattle.vertex_numbers.specs.Counts.{count_of_layer}
use Rattle.lattice_tests.proofs.numbers.counts_of.Given as goal

abbrev pub invariant-loop-h : goal.invariant-loop-h
invariant-loop-h l = l.counts.items ≡ map (count_of_layer l.states.dims l.states.states) (range_with_len 0 l.h)
