use Rattle.dihedral.proofs.LeadingBits.{apart-order}
use Rattle.dihedral.proofs.fractions.by_bits.Goals as goal

pub returns : goal.returns
returns c =
    apart-order c.args.a c.args.b c.args.c c.args.d c.args.left c.args.right c.by_parts.result
    (rw (← c.leading.ensures.part, ← c.leading-2.ensures.part, ← c.leading-3.ensures.part, ← c.leading-4.ensures.part) c.by_parts.ensures)
