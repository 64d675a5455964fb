use Rattle.std.proofs.Common.{◌≡◌, take}
use Rattle.vertex_numbers.specs.Offsets.{AreOffsets, counts_of}
use Rattle.vertex_numbers.proofs.offsets.Offsets.new.Given as goal

abbrev pub invariant-loop-count : goal.invariant-loop-count
invariant-loop-count l = record {
  counts : counts_of l.layers.items ≡ take l.count-index l.counts;
  offsets : AreOffsets l.layers.items l.nodes l.tets;
}
