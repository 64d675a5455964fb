use Rattle.std.proofs.Common.{◌∙◌, ◌++◌, List, ℕ, ap}
use Rattle.mha_write.specs.Text.{mha_file}
use Rattle.mha_write.proofs.ReadBack.{reads_back}
use Rattle.mha_write.proofs.mha_text.Goals as goal

pub returns-in-Ok-push_all-clause-reads_back : goal.returns-in-Ok-push_all-clause-reads_back
returns-in-Ok-push_all-clause-reads_back c =
    reads_back c.args.volume.now c.samples.ensures.volume c.push_all.new.text.items (c.in-Ok-push_all.ensures ∙ ap (λ (before : List ℕ). before ++ mha_file c.args.volume.now) c.in-Ok.ensures.items)
