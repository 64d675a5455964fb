use Rattle.std.proofs.Common.{ℕ, ◌*◌, ◌/◌, ◌^◌, ◌≤◌, refl, subst}
use Rattle.std.proofs.lemmas.Bool.{leb-true}
use Rattle.dihedral.proofs.QuickBounds.{below_bound}
use Rattle.dihedral.proofs.bounds.is_below.Goals as goal

pub returns : goal.returns
returns c = λ h.
    let one = c.args.one / 2 ^ 34 in
    let other = c.args.other / 2 ^ 34 in
    below_bound c.args.size c.args.one c.args.other c.args.bound _ one other refl refl refl
    (subst (λ (n : ℕ). n ≤ c.args.bound * (one * other)) c.squared.ensures (subst (λ (n : ℕ). c.squared.result ≤ n) c.bounded.ensures (leb-true _ _ h)))
