use Rattle.std.proofs.Common.{◌<◌, ◌≤◌, ℕ, length, take, arith, ap, sym, subst, ◌∙◌}
use Rattle.std.specs.Prelude.{sum_by}
use Rattle.definitions.specs.Lattice.{layers}
use Rattle.vertex_numbers.proofs.LayerStarts.{counts_len, counts_to}
use Rattle.vertex_numbers.proofs.starts.Starts.of_layers.Goals as goal

from_within : (from to l : ℕ) → from < to → to ≤ l → from ≤ l
from_within from to l a b = omega arith

pub node_start-requires : goal.node_start-requires
node_start-requires c =
    subst (λ n. c.args.from ≤ n) (sym (ap length c.requires.offsets ∙ counts_len c.args.states.now.dims c.args.states.now.states))
    (from_within c.args.from c.args.to (layers c.args.states.now.dims) c.requires.some c.requires.within)

pub starts_from-requires-clause-count : goal.starts_from-requires-clause-count
starts_from-requires-clause-count c =
    let s = c.args.states.now in
    c.node_start.ensures
    ∙ ap (λ counts. sum_by (λ c. c.nodes) (take c.args.from counts)) c.requires.offsets
    ∙ counts_to s.dims s.states c.args.from (from_within c.args.from c.args.to (layers s.dims) c.requires.some c.requires.within)
