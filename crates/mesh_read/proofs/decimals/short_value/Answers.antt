use Rattle.std.proofs.Common.{◌≡◌, ℕ, subst, ◌^◌, ◌<◌, ◌≤◌, length, Bool, Some, None, if◌then◌else◌, ap, ◌∙◌, sym, arith, lit<}
use Rattle.std.proofs.Math.Nat.{pow-le-pow_right}
use Rattle.std.proofs.lemmas.Bool.{le-leb}
use Rattle.std.specs.Str.Parse.{digits_value}
use Rattle.mesh_files.proofs.Digits.{digits_below, not_too_large}
use Rattle.mesh_read.proofs.decimals.short_value.Goals as goal

pub unreachable-requires : goal.unreachable-requires
unreachable-requires c =
    let below : digits_value 10 c.args.digits.now < 10 ^ length c.args.digits.now = digits_below c.args.digits.now c.requires.digits in
    let most : 10 ^ length c.args.digits.now ≤ 10 ^ 13 = pow-le-pow_right (lit< tt) c.requires.few in
    let e : None ≡ Some (digits_value 10 c.args.digits.now) = c.in-None.ensures.value ∙ ap (λ (b : Bool). if b then Some (digits_value 10 c.args.digits.now) else None) (le-leb _ _ (omega arith)) in
    cc

pub returns-clause-bound : goal.returns-clause-bound
returns-clause-bound c =
    let is = not_too_large _ _ _ (sym c.in-Some.ensures.value) in
    subst (λ (n : ℕ). n < 10 ^ length c.args.digits.now) (sym is.0) (digits_below c.args.digits.now c.requires.digits)
