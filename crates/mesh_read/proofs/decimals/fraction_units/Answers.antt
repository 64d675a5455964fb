use Rattle.std.proofs.Common.{◌≡◌, ◌≢◌, ◌*◌, ◌^◌, ◌++◌, ℕ, List, length, take, subst, ap, ◌∙◌}
use Rattle.std.specs.Prelude.{MatchOption}
use Rattle.std.proofs.lemmas.List.{take-append-drop, take_rest, append-nil}
use Rattle.std.specs.Str.Parse.{digits_value}
use Rattle.mesh_read.proofs.decimals.fraction_units.Goals as goal

pub returns-then-fraction-gt13-clause-value : goal.returns-then-fraction-gt13-clause-value
returns-then-fraction-gt13-clause-value c =
    subst (λ (zs : List ℕ). MatchOption c.parts_units.result ((k : ℕ) → digits_value 10 zs * 8192 ≢ k * 10 ^ length zs) (λ q. digits_value 10 zs * 8192 ≡ q * 10 ^ length zs))
    (ap (λ (ys : List ℕ). take 13 c.args.fraction.now ++ ys) (take_rest c.args.fraction.now 13) ∙ take-append-drop 13 c.args.fraction.now) c.parts_units.ensures.value

pub returns-else-fraction-gt13-clause-value : goal.returns-else-fraction-gt13-clause-value
returns-else-fraction-gt13-clause-value c =
    subst (λ (zs : List ℕ). MatchOption c.parts_units-else-fraction-gt13.result ((k : ℕ) → digits_value 10 zs * 8192 ≢ k * 10 ^ length zs) (λ q. digits_value 10 zs * 8192 ≡ q * 10 ^ length zs))
    (append-nil c.args.fraction.now) c.parts_units-else-fraction-gt13.ensures.value
