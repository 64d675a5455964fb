use Rattle.std.proofs.Common.{◌*◌, ◌%◌, refl, ◌∙◌, arith, inl, inr}
use Rattle.std.specs.Ordering.{nat_cmp}
use Rattle.dihedral.proofs.Quotients.{by_wholes, by_rests, by_ends}
use Rattle.dihedral.proofs.fractions.by_quotients.Goals as goal
use Rattle.dihedral.proofs.fractions.by_quotients.Goals.{then-over-eq0-via-then-over-eq0, then-over-eq0-via-else-over-eq0+then-under-eq0}

pub returns-then-left-right : goal.returns-then-left-right
returns-then-left-right c =
    by_wholes c.loop-left.a c.loop-left.b c.loop-left.c c.loop-left.d c.cmp.result c.loop-left.invariant.b_some c.loop-left.invariant.d_some (λ e. absurd (omega arith)) c.cmp.ensures ∙ c.loop-left.invariant.same

pub returns-then-over-eq0 : goal.returns-then-over-eq0
returns-then-over-eq0 c =
    by_rests c.loop-left.a c.loop-left.b c.loop-left.c c.loop-left.d c.cmp-then-over-eq0.result (omega arith)
    (by_ends c.loop-left.b c.loop-left.d (c.loop-left.a % c.loop-left.b) (c.loop-left.c % c.loop-left.d) c.cmp-then-over-eq0.result c.loop-left.invariant.b_some c.loop-left.invariant.d_some
    (elim c.then-over-eq0.branch [ then-over-eq0-via-then-over-eq0 w ↦ inl (omega arith) | then-over-eq0-via-else-over-eq0+then-under-eq0 w ↦ inr (omega arith) ])
    c.cmp-then-over-eq0.ensures)
    ∙ c.loop-left.invariant.same

pub loop-left-preserved : goal.loop-left-preserved
loop-left-preserved c =
    record {
      b_some = omega arith;
      d_some = omega arith;
      same =
          by_rests c.loop-left.a c.loop-left.b c.loop-left.c c.loop-left.d (nat_cmp (c.loop-left.d * (c.loop-left.a % c.loop-left.b)) (c.loop-left.b * (c.loop-left.c % c.loop-left.d))) (omega arith) refl
          ∙ c.loop-left.invariant.same;
    }
