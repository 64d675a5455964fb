use Rattle.std.proofs.Common.{◌<◌, length, subst, sym}
use Rattle.definitions.specs.Lattice.{vertices}
use Rattle.lattice_counts.proofs.Ranks.{id_within}
use Rattle.vertex_numbers.proofs.source.StatesStateSource.sign_by_id.Goals as goal

pub sign-requires : goal.sign-requires
sign-requires c =
    let d = c.args.self.now.dims in
    subst (λ n. n < length (vertices d)) (sym c.requires.id) (id_within d c.args._v c.requires.domain)
