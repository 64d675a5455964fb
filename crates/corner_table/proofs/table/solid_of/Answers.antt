use Rattle.std.proofs.Common.{◌≡◌, ◌∙◌, ℕ, ◌<◌, length, get_or, ap, rules, arith}
use Rattle.std.proofs.lemmas.List.{get_or_default}
use Rattle.definitions.specs.declared.Sign.TheVariants.{Zero, Minus}
use Rattle.corner_table.specs.Rows.{entry, solid_at, sign_number}
use Rattle.corner_table.proofs.table.solid_of.Goals as goal

pub returns : goal.returns
unfolding solid_at
returns c =
    let len : length c.args.signs ≡ 4 = search rules in
    let number : (slot : ℕ) → slot < 4 → sign_number (get_or c.args.signs slot Minus) ≡ sign_number (get_or c.args.signs slot Zero) = λ slot lt. ap sign_number (get_or_default c.args.signs slot Minus Zero (omega arith)) in
    λ i. entry
    ((c.number_of.ensures.value ∙ number 0 (omega arith)) i)
    ((c.number_of-2.ensures.value ∙ number 1 (omega arith)) i)
    ((c.number_of-3.ensures.value ∙ number 2 (omega arith)) i)
    ((c.number_of-4.ensures.value ∙ number 3 (omega arith)) i)
