use Rattle.std.proofs.Common.{◌∙◌, ◌++◌, ap, take, List, ℕ}
use Rattle.mha_write.proofs.Parts.{first_bytes}
use Rattle.mha_write.proofs.push_sample.Goals as goal

pub returns : goal.returns
returns c =
    c.in_ok-extend_from_slice.ensures.items
    ∙ ap (λ (bytes : List ℕ). c.args.text.now.items ++ bytes) (ap (λ (bytes : List ℕ). take c.args.size bytes) c.to_le_bytes.ensures ∙ first_bytes c.args.size c.args.sample c.ranges.sample c.requires)
