use Rattle.std.proofs.Common.{◌≡◌, ◌≤◌, ◌<◌, ◌*◌, ◌+◌, ℕ, zero, suc, List, ◌∷◌, length, map, arith, refl, sym, ap, ◌∙◌}
use Rattle.std.specs.Prelude.{All, sum_by}
use Rattle.std.specs.List.{range_with_len}
use Rattle.std.proofs.lemmas.List.Sums.{sum_by-le}
use Rattle.definitions.specs.declared.Dims.{Dims}
use Rattle.definitions.specs.declared.State.{State}
use Rattle.definitions.specs.Lattice.{layers}
use Rattle.vertex_numbers.specs.declared.counts.LayerCount.{LayerCount}
use Rattle.vertex_numbers.specs.Counts.{count_of_layer}
use Rattle.vertex_numbers.proofs.LayerStarts.{counts_len}
use Rattle.lattice_tests.proofs.numbers.offsets_of.Goals as goal

numbered : (d : Dims) (ss : List State) (a n : ℕ) → map (λ c. c.h) (map (count_of_layer d ss) (range_with_len a n)) ≡ range_with_len a n
numbered d ss a zero = refl
numbered d ss a (suc n) = ap (λ hs. a ∷ hs) (numbered d ss (a + 1) n)

total_small : (f : LayerCount → ℕ) (counts : List LayerCount) → length counts ≤ 1000 → All (λ c. f c < 1000) counts → sum_by f counts ≤ 1000 * 1000
total_small f counts short small =
    let s = sum_by-le f 1000 counts (λ k d lt. let l = small k d lt in omega arith) in
    let m : length counts * 1000 ≤ 1000 * 1000 = omega arith in
    omega arith

pub new-requires-clause-layers : goal.new-requires-clause-layers
new-requires-clause-layers c =
    let s = c.args.states.now in
    let e = c.as_slice-counts.ensures.value ∙ c.in_ok-counts.ensures in
    ap (map (λ c. c.h)) e ∙ numbered s.dims s.states 0 (layers s.dims)
    ∙ ap (range_with_len 0) (sym (ap length e ∙ counts_len s.dims s.states))

pub new-requires-clause-nodes : goal.new-requires-clause-nodes
new-requires-clause-nodes c =
    let t = total_small (λ c. c.nodes) c.as_slice-counts.result.now c.if-counts-gt1000.false c.if-not-are_small.ensures.nodes in omega arith

pub new-requires-clause-tets : goal.new-requires-clause-tets
new-requires-clause-tets c =
    let t = total_small (λ c. c.tets) c.as_slice-counts.result.now c.if-counts-gt1000.false c.if-not-are_small.ensures.tets in omega arith
