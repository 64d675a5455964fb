use Rattle.std.proofs.Common.{◌≡◌, ◌*◌, ◌^◌, ◌≤◌, ap, sym, subst, ◌∙◌, arith, unsigned_abs, w8, to_z, of_z}
use Rattle.std.proofs.Math.IntN.{neg_ℤ}
use Rattle.std.proofs.Math.Nat.{one-le-mul}
use Rattle.std.specs.Int.{int_signum}
use Rattle.dihedral.specs.Fractions.{IsFraction}
use Rattle.dihedral.proofs.FaceSquares.{held, pair_fraction, sign_back}
use Rattle.dihedral.proofs.pair.Pair.square.Goals as goal

pub returns-clause-value : goal.returns-clause-value
returns-clause-value c =
    let product = c.args.self.now.product in
    let few : unsigned_abs product ≤ 9 * 2 ^ 58 = omega (arith, c.args.self.now.product_small) in
    let back = held product few in
    let size : c.unsigned_abs-size.result ≡ unsigned_abs product = c.unsigned_abs-size.ensures.value ∙ ap unsigned_abs back in
    let sign : to_z w8 (of_z w8 c.opposite_sign.result) ≡ int_signum (neg_ℤ product) =
    sign_back c.opposite_sign.result (neg_ℤ product) (c.opposite_sign.ensures ∙ ap (λ t. int_signum (neg_ℤ t)) back) in
    λ i. record { sign = sign i; num = size i * size i; den = c.args.self.now.one * c.args.self.now.other }

pub returns-clause-fraction : goal.returns-clause-fraction
returns-clause-fraction c = subst IsFraction (sym (returns-clause-value c)) (pair_fraction c.args.self.now.product _ (one-le-mul c.args.self.now.one_some c.args.self.now.other_some))
