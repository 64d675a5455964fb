use Rattle.std.proofs.Common.{sym, subst, ◌∙◌}
use Rattle.bcc_lattice.specs.Bounds.{IsSmallPlace}
use Rattle.lattice_laws.specs.Vectors.{◌-ᵥ◌}
use Rattle.displacement_laws.specs.Displacements.{displacement}
use Rattle.displacement_laws.proofs.Displacements.{displacements_are_small, near_states_are_displaced}
use Rattle.moved_matrix.proofs.Words.{less_back, within_norm}
use Rattle.moved_matrix.proofs.matrix.displacement.Goals as goal

pub returns-clause-value : goal.returns-clause-value
returns-clause-value c =
    let p = c.place-at.result in
    let q = c.place-from.result in
    (λ i. record { x = less_back p.x q.x c.place-at.ensures.small.x c.place-from.ensures.small.x i; y = less_back p.y q.y c.place-at.ensures.small.y c.place-from.ensures.small.y i; z = less_back p.z q.z c.place-at.ensures.small.z c.place-from.ensures.small.z i })
    ∙ (λ i. c.place-at.ensures.place i -ᵥ c.place-from.ensures.place i)

pub returns-clause-small : goal.returns-clause-small
returns-clause-small c = subst (IsSmallPlace 2047) (sym (returns-clause-value c)) (within_norm (displacement c.args.v c.args.state) (displacements_are_small (displacement c.args.v c.args.state) (near_states_are_displaced c.args.v c.args.state c.requires)))
