use Rattle.std.proofs.Common.{ℕ, ◌*◌, ◌<◌, ◌≤◌, ap, sym, subst, ◌∙◌}
use Rattle.std.specs.Prelude.{option_map}
use Rattle.dihedral.specs.Fractions.{extremes_in_lowest_terms, in_lowest_terms}
use Rattle.dihedral.specs.Shapes.{Between}
use Rattle.dihedral.proofs.QuickBounds.{bound_some}
use Rattle.dihedral.proofs.running.Running.bounds.Goals as goal

pub returns-in-Some : goal.returns-in-Some
returns-in-Some c =
    λ x f w.
    let e = c.in-Some.found in
    subst (λ o. Between o (in_lowest_terms x)) (ap (option_map extremes_in_lowest_terms) (sym c.in-Some.is) ∙ c.self.view_is)
    (bound_some e c.new.result (c.self.invariant e c.in-Some.is) (λ h. c.bound_of.ensures.sign (subst (λ (n : ℕ). 0 < n) c.new.ensures.least h)) (subst (λ (n : ℕ). n * e.least.cosine.den ≤ e.least.cosine.num * 4096) (sym c.new.ensures.least) c.bound_of.ensures.below)
    (λ h. c.bound_of-in-Some.ensures.sign (subst (λ (n : ℕ). 0 < n) c.new.ensures.greatest h)) (subst (λ (n : ℕ). n * e.greatest.cosine.den ≤ e.greatest.cosine.num * 4096) (sym c.new.ensures.greatest) c.bound_of-in-Some.ensures.below) x f w)
