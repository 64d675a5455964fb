use Rattle.std.proofs.Common.{◌≡◌, ◌++◌, flat_map, take}
use Rattle.std.specs.Int.{cast_unsigned, w64}
use Rattle.byteorder.specs.Endian.{little_bytes}
use Rattle.mha_write.proofs.push_samples.Given as goal

abbrev pub invariant-loop-n : goal.invariant-loop-n
invariant-loop-n l = l.text.items ≡ l.initial.text.items ++ flat_map (λ z. little_bytes l.size (cast_unsigned w64 z)) (take l.n l.samples.numbers)
