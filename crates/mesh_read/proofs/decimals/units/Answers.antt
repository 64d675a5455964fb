use Rattle.std.proofs.Common.{◌+◌, ◌*◌, ◌<◌, ℕ, Bool, Some, None, if◌then◌else◌, ap, ◌∙◌, sym, arith}
use Rattle.std.specs.Str.Parse.{digits_value}
use Rattle.mesh_files.specs.Numbers.{units}
use Rattle.mesh_files.proofs.GridUnits.{are_units_from, not_units_large, not_units_fine}
use Rattle.mesh_files.proofs.Digits.{too_large, not_too_large}
use Rattle.mesh_read.proofs.decimals.units.Goals as goal

pub returns-in_default-clause-value : goal.returns-in_default-clause-value
returns-in_default-clause-value c =
    let above : 1048575 < digits_value 10 c.args.whole.now = too_large _ _ (sym c.in_default.ensures.value) in
    sym (ap (λ (b : Bool). if b then Some (units c.args.whole.now c.args.fraction.now) else None) (not_units_large c.args.whole.now c.args.fraction.now (omega arith)))

pub returns-in-Some-fraction_units-clause-value : goal.returns-in-Some-fraction_units-clause-value
returns-in-Some-fraction_units-clause-value c =
    let small = not_too_large _ _ _ (sym c.in-Some.ensures.value) in
    let both = are_units_from c.args.whole.now c.args.fraction.now c.in-Some-fraction_units.part c.requires.fraction (omega (arith, small.1)) c.in-Some-fraction_units.ensures.value in
    ap (λ (n : ℕ). Some (n * 8192 + c.in-Some-fraction_units.part)) small.0
    ∙ ap Some (sym both.1)
    ∙ sym (ap (λ (b : Bool). if b then Some (units c.args.whole.now c.args.fraction.now) else None) both.0)

pub returns-in-None-clause-value : goal.returns-in-None-clause-value
returns-in-None-clause-value c = sym (ap (λ (b : Bool). if b then Some (units c.args.whole.now c.args.fraction.now) else None) (not_units_fine c.args.whole.now c.args.fraction.now c.in-None.ensures.value))
