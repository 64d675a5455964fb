use Rattle.std.proofs.Common.{◌≡◌, subst, arith, true, ◌^◌, ◌<◌, ◌≤◌, sym, unsigned_abs, w64, to_z, of_z}
use Rattle.std.proofs.Math.IntN.{ℤ, pos}
use Rattle.std.proofs.lemmas.Int.{to_z-of_z, fits_signed_from_abs}
use Rattle.std.proofs.lemmas.Float.{T_from_true}
use Rattle.std.specs.Int.Signed.{lt_z_yes}
use lib.Signed.{lt_z, ◌≤ℤ◌}
use Rattle.exact.proofs.IntegerOrder.{less_not_at_most}
use Rattle.mesh_probe.proofs.Boxes.{replaced_near}
use Rattle.mesh_probe.proofs.weights.weights_in_box.Goals as goal

-- a determinant that is found to be below 0 is no weight of a point that is held
never : (r w : ℤ) → r ≡ w → unsigned_abs r ≤ 2 ^ 58 → lt_z (to_z w64 (of_z w64 r)) (pos 0) ≡ true → pos 0 ≤ℤ w → ⊥
never r w e small h g =
    let below : unsigned_abs r < 2 ^ 63 = omega arith in
    let k : lt_z r (pos 0) ≡ true = subst (λ (t : ℤ). lt_z t (pos 0) ≡ true) (to_z-of_z w64 r (fits_signed_from_abs w64 r below)) h in
    less_not_at_most r (pos 0) (lt_z_yes (T_from_true (lt_z r (pos 0)) k)) (subst (λ (t : ℤ). pos 0 ≤ℤ t) (sym e) g)

pub det-first-requires : goal.det-first-requires
det-first-requires c = replaced_near c.args.tet c.args.point c.requires.near c.requires.inside 0

pub returns-then-first-lt0 : goal.returns-then-first-lt0
returns-then-first-lt0 c = λ h. never _ _ c.det-first.ensures.value c.det-first.ensures.small c.if-first-lt0.true (h 0 (omega arith))

pub det-second-requires : goal.det-second-requires
det-second-requires c = replaced_near c.args.tet c.args.point c.requires.near c.requires.inside 1

pub returns-then-second-lt0 : goal.returns-then-second-lt0
returns-then-second-lt0 c = λ h. never _ _ c.det-second.ensures.value c.det-second.ensures.small c.if-second-lt0.true (h 1 (omega arith))

pub det-third-requires : goal.det-third-requires
det-third-requires c = replaced_near c.args.tet c.args.point c.requires.near c.requires.inside 2

pub returns-then-third-lt0 : goal.returns-then-third-lt0
returns-then-third-lt0 c = λ h. never _ _ c.det-third.ensures.value c.det-third.ensures.small c.if-third-lt0.true (h 2 (omega arith))

pub det-fourth-requires : goal.det-fourth-requires
det-fourth-requires c = replaced_near c.args.tet c.args.point c.requires.near c.requires.inside 3

pub returns-then-fourth-lt0 : goal.returns-then-fourth-lt0
returns-then-fourth-lt0 c = λ h. never _ _ c.det-fourth.ensures.value c.det-fourth.ensures.small c.if-fourth-lt0.true (h 3 (omega arith))
