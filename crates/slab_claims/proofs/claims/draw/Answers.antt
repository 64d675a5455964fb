use mathlib.Core.Option.{none}
use Rattle.atomic_table.specs.Table.{step}
use Rattle.slab_claims.proofs.Steps.{draws}
use Rattle.slab_claims.proofs.claims.draw.Goals as goal

pub fetch_add-requires : goal.fetch_add-requires
fetch_add-requires c =
    (c.requires.table.0, c.requires.table.1, draws _ _ _ _ c.args.seat.now.me (step c.args.shared.now.table_id.slots 0 1 0 none) c.requires.seat.0 c.requires.seat.1 c.requires.seat.2)
