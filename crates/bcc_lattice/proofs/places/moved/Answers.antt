use Rattle.std.proofs.Common.{◌≤◌, ◌^◌, sym, subst}
use Rattle.std.specs.Prelude.{unsigned_abs}
use Rattle.bcc_lattice.proofs.Steps.{moved_read, moved_small}
use Rattle.bcc_lattice.proofs.places.moved.Goals as goal

pub returns-clause-value : goal.returns-clause-value
returns-clause-value c = moved_read c.args.at c.args.step c.args.parts c.requires.at c.requires.step c.requires.parts

pub returns-clause-small : goal.returns-clause-small
returns-clause-small c =
    subst (λ z. unsigned_abs z ≤ 2 ^ 45) (sym (moved_read c.args.at c.args.step c.args.parts c.requires.at c.requires.step c.requires.parts))
    (moved_small c.args.at c.args.step c.args.parts c.requires.at c.requires.step c.requires.parts)
