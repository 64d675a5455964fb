use Rattle.std.proofs.Common.{◌∙◌, ◌++◌, List, ℕ, ap}
use Rattle.mha_write.proofs.Parts.{head_parts, five_parts}
use Rattle.mha_write.proofs.push_head.Goals as goal

pub returns : goal.returns
returns c =
    five_parts c.args.text.now.items _ _ _ _ _ _ _ _ _ _ c.in_ok-extend_from_slice.ensures.items c.in_ok-push_sizes.ensures c.in_ok-extend_from_slice-2.ensures.items (c.in_ok-extend_from_slice-3.ensures.items ∙ ap (λ (name : List ℕ). c.extend_from_slice-2.new.self.items ++ name) c.name_of.ensures) c.in_ok-extend_from_slice-4.ensures.items
    ∙ ap (λ (zs : List ℕ). c.args.text.now.items ++ zs) (head_parts c.args.dims c.args.kind)
