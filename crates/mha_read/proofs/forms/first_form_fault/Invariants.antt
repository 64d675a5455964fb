use Rattle.std.proofs.Common.{◌≡◌, ◌<◌, None}
use Rattle.formats.specs.declared.Key.TheVariants.{NDims}
use Rattle.formats.specs.Heads.{form_fault}
use Rattle.mha_read.proofs.FirstFaults.{fault_from}
use Rattle.mha_read.proofs.forms.first_form_fault.Given as goal

abbrev pub invariant-loop-key : goal.invariant-loop-key
invariant-loop-key l = record {
  same : fault_from l.world (form_fault l.pairs) l.key-index ≡ fault_from l.world (form_fault l.pairs) 0;
  dims : 1 < l.key-index → form_fault l.pairs NDims ≡ None;
}
