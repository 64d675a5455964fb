use Rattle.std.proofs.Common.{◌≡◌, ◌<◌, ◌+◌, ◌*◌, ◌/◌, sym, subst, ◌∙◌, length}
use Rattle.definitions.specs.Lattice.{id, vertices}
use Rattle.lattice_counts.proofs.Ranks.{rank, id_within}
use Rattle.bcc_lattice.proofs.vertices.id.Goals as goal

pub returns-clause-within : goal.returns-clause-within
returns-clause-within c =
    let d = c.args.dims in
    let v = c.args.v in
    let same : c.ids_below.result + (v.y / 2 * c.columns-row.result + v.x / 2) ≡ id d v = (λ i. c.ids_below.ensures.value i + (v.y / 2 * c.columns-row.ensures.columns i + v.x / 2)) ∙ sym (rank d v c.requires.domain) in
    subst (λ n. n < length (vertices d)) (sym same) (id_within d v c.requires.domain)
