use Rattle.std.proofs.Common.{◌≡◌}
use Rattle.formats.specs.Heads.{refusal}
use Rattle.mha_read.proofs.FirstFaults.{fault_from}
use Rattle.mha_read.proofs.support.first_refusal.Given as goal

abbrev pub invariant-loop-key : goal.invariant-loop-key
invariant-loop-key l = fault_from l.world (refusal l.pairs) l.key-index ≡ fault_from l.world (refusal l.pairs) 0
