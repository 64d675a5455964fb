use Rattle.std.proofs.Common.{◌<◌, sym, subst, ◌/◌, ◌^◌, arith, unsigned_abs, w8}
use Rattle.std.proofs.lemmas.Int.{to_z-of_z, fits_signed_from_abs}
use Rattle.dihedral.specs.Fractions.{IsFraction}
use Rattle.dihedral.proofs.Reductions.{IsFraction-lowest}
use Rattle.dihedral.proofs.fractions.lowest.Goals as goal

pub returns-clause-fraction : goal.returns-clause-fraction
returns-clause-fraction c =
    λ h.
    let below : unsigned_abs c.args.a.sign < 2 ^ 7 = omega (arith, h.sign) in
    let sign = sym (to_z-of_z w8 c.args.a.sign (fits_signed_from_abs w8 c.args.a.sign below)) in
    let divisor = sym c.greatest_divisor-divisor.ensures.value in
    subst IsFraction (λ i. record { sign = sign i; num = c.args.a.num / divisor i; den = c.args.a.den / divisor i }) (IsFraction-lowest c.args.a h)
