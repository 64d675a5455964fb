use Rattle.std.proofs.Common.{sym, ◌∙◌}
use Rattle.dihedral.proofs.ExtremesOfLists.{none_before, none_after, joined}
use Rattle.dihedral.proofs.extremes.fold.Goals as goal

pub returns-in_default-clause-joined : goal.returns-in_default-clause-joined
returns-in_default-clause-joined c = λ xs ys all h k. none_before xs ys c.args.b (sym c.in_default.is ∙ h) k

pub returns-in_default-b-clause-joined : goal.returns-in_default-b-clause-joined
returns-in_default-b-clause-joined c = λ xs ys all h k. none_after xs ys _ (sym c.in_default-b.is ∙ k) (sym c.in-Some.is ∙ h)

pub returns-in_default-b-clause-fractions : goal.returns-in_default-b-clause-fractions
returns-in_default-b-clause-fractions c = λ x e. c.requires.a x (c.in-Some.is ∙ e)

pub smaller-requires-clause-first : goal.smaller-requires-clause-first
smaller-requires-clause-first c = (c.requires.a c.in-Some.first c.in-Some.is).least

pub smaller-requires-clause-second : goal.smaller-requires-clause-second
smaller-requires-clause-second c = (c.requires.b c.in-Some-b.second c.in-Some-b.is).least

pub larger-requires-clause-first : goal.larger-requires-clause-first
larger-requires-clause-first c = (c.requires.a c.in-Some.first c.in-Some.is).greatest

pub larger-requires-clause-second : goal.larger-requires-clause-second
larger-requires-clause-second c = (c.requires.b c.in-Some-b.second c.in-Some-b.is).greatest

pub returns-clause-joined : goal.returns-clause-joined
returns-clause-joined c =
    λ xs ys all h k.
    joined xs ys c.in-Some.first c.in-Some-b.second (c.requires.a c.in-Some.first c.in-Some.is) all (sym c.in-Some.is ∙ h) (sym c.in-Some-b.is ∙ k) c.smaller.result c.larger.result c.smaller.ensures.value c.larger.ensures.value
