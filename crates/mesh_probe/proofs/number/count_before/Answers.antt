use Rattle.std.proofs.Common.{◌≡◌, ℕ, ◌+◌, ◌*◌, ◌%◌, ◌^◌, ◌<◌, ◌≤◌, arith, ap, sym, subst, ◌∙◌, length, take}
use Rattle.std.specs.Prelude.{flat_map, sum_by}
use Rattle.definitions.specs.Lattice.{InDomain, IsDims, id, vertex, vertices}
use Rattle.lattice_laws.proofs.Vertices.{vertex_at-id}
use Rattle.lattice_counts.specs.Counts.{below_layer}
use Rattle.vertex_numbers.proofs.LayerStarts.{counts_len}
use Rattle.mesh_probe.specs.Holding.{pieces_from}
use Rattle.mesh_probe.proofs.PieceCounts.{below_layer_counts, few_before, first_of_layer, layer_first, length_grown}
use Rattle.mesh_probe.proofs.number.count_before.Goals as goal

at_most : (a b : ℕ) → a < b → a ≤ b
at_most a b h = omega arith

pub tet_start-count-requires : goal.tet_start-count-requires
tet_start-count-requires c =
    at_most _ _ (subst (λ n. c.args.v.h < n) (sym (ap length c.requires.offsets ∙ counts_len c.args.states.now.dims c.args.states.now.states)) c.requires.domain.h_below)

-- the first vertex of a layer is in the domain
corner_inside : (h y x ny nx : ℕ) → 1 ≤ ny → 1 ≤ nx → (h % 2 < 2 * ny + 3) × (h % 2 < 2 * nx + 3) × (h % 2 % 2 ≡ h % 2)
corner_inside h y x ny nx p q = (omega arith, omega arith, omega arith)

pub loop-n-init : goal.loop-n-init
loop-n-init c =
    let d = c.args.states.now.dims in
    let ss = c.args.states.now.states in
    let v = c.args.v in
    let is : IsDims d = subst IsDims c.dims-dims.ensures.dims c.dims-dims.ensures.sizes in
    let i = corner_inside v.h v.y v.x d.ny d.nx is.ny_positive is.nx_positive in
    let k : InDomain d (vertex v.h (v.h % 2) (v.h % 2)) = record { h_below = c.requires.domain.h_below; y_below = i.0; x_below = i.1; y_alike = i.2; x_alike = i.2 } in
    let first : c.id-n.result ≡ below_layer d v.h = c.id-n.ensures.id ∙ ap (λ e. id e (vertex v.h (v.h % 2) (v.h % 2))) c.dims-dims.ensures.dims ∙ first_of_layer d v.h k in
    let count : c.tet_start-count.result ≡ length (flat_map (pieces_from d ss) (take c.id-n.result (vertices d))) =
    c.tet_start-count.ensures ∙ ap (λ cs. sum_by (λ c. c.tets) (take v.h cs)) c.requires.offsets ∙ below_layer_counts d ss v.h (at_most _ _ c.requires.domain.h_below) ∙ ap (λ n. length (flat_map (pieces_from d ss) (take n (vertices d)))) (sym first)
    in
    record {
      count = count;
      few = subst (λ n. n ≤ 18 * 2 ^ 27) (sym count) (few_before d ss is c.id-n.result);
      within = subst (λ n. n ≤ id d v) (sym first) (layer_first d v c.requires.domain);
    }

pub loop-n-preserved : goal.loop-n-preserved
loop-n-preserved c =
    let d = c.args.states.now.dims in
    let ss = c.args.states.now.states in
    let is : IsDims d = subst IsDims c.dims-dims.ensures.dims c.dims-dims.ensures.sizes in
    let end : c.id-n-end.result ≡ id d c.args.v = c.id-n-end.ensures.id ∙ ap (λ e. id e c.args.v) c.dims-dims.ensures.dims in
    let lt : c.loop-n.n < id d c.args.v = subst (λ m. c.loop-n.n < m) end c.loop-n-test.true in
    let b = (vertex_at-id d c.args.v c.requires.domain).0 in
    let within : c.loop-n.n < length (vertices d) = omega arith in
    let count = length_grown (pieces_from d ss) (vertices d) c.loop-n.n (vertex 0 0 0) within c.loop-n.count c.from-count.result c.loop-n.invariant.count (c.from-count.ensures ∙ c.count_of_id.ensures.count) in
    record {
      count = count;
      few = subst (λ n. n ≤ 18 * 2 ^ 27) (sym count) (few_before d ss is (c.loop-n.n + 1));
      within = omega arith;
    }
