use Rattle.std.proofs.Common.{◌≡◌, ◌≤◌, ◌+◌, ◌*◌, ℕ, [], rules, refl, arith, sym, subst, length, get_or}
use Rattle.std.proofs.lemmas.List.{take_all}
use Rattle.std.proofs.lemmas.Option.{MatchOption-at_none, MatchOption-at_some}
use Rattle.definitions.specs.Mesh.{tet_pieces}
use Rattle.definitions.specs.States.{states}
use Rattle.definitions.specs.Tetrahedra.{tets_from}
use Rattle.std.specs.Prelude.{flat_map}
use Rattle.mesh_lists.proofs.Pieces.{ids_fit, tet_at, tets_count}
use Rattle.mesh_probe.specs.Found.{NoneHolds, IsFirstOf}
use Rattle.mesh_probe.proofs.TetsOfVertex.{first_of_all, length_more, none_more}
use Rattle.mesh_probe.proofs.pieces.found_from.Goals as goal

pub loop-n-init : goal.loop-n-init
loop-n-init g c = record { before = refl; few = omega arith; none = λ keys m h. m; count = omega arith }

pub in_tet-within-requires-clause-lattice : goal.in_tet-within-requires-clause-lattice
in_tet-within-requires-clause-lattice g c =
    let r = c.tets_at-tets in
    let six : length r.result.of ≡ 6 = search rules in
    let t = tet_at c.args.field.now.dims c.dims.result c.args.v r.result.len r.result.of c.loop-n.n (record { at = []; ids = [] }) c.dims.ensures.value six r.ensures.len c.loop-n-test.true r.ensures.tets r.ensures.ids r.ensures.lattice in
    let e = get_or r.result.of c.loop-n.n (record { at = []; ids = [] }) in
    t.lattice

pub in_tet-within-requires-clause-ids : goal.in_tet-within-requires-clause-ids
in_tet-within-requires-clause-ids g c =
    let r = c.tets_at-tets in
    let six : length r.result.of ≡ 6 = search rules in
    let t = tet_at c.args.field.now.dims c.dims.result c.args.v r.result.len r.result.of c.loop-n.n (record { at = []; ids = [] }) c.dims.ensures.value six r.ensures.len c.loop-n-test.true r.ensures.tets r.ensures.ids r.ensures.lattice in
    let e = get_or r.result.of c.loop-n.n (record { at = []; ids = [] }) in
    t.ids

pub in_tet-within-requires-clause-fit : goal.in_tet-within-requires-clause-fit
in_tet-within-requires-clause-fit g c =
    let r = c.tets_at-tets in
    let six : length r.result.of ≡ 6 = search rules in
    let t = tet_at c.args.field.now.dims c.dims.result c.args.v r.result.len r.result.of c.loop-n.n (record { at = []; ids = [] }) c.dims.ensures.value six r.ensures.len c.loop-n-test.true r.ensures.tets r.ensures.ids r.ensures.lattice in
    let e = get_or r.result.of c.loop-n.n (record { at = []; ids = [] }) in
    ids_fit c.args.field.now.dims e.at e.ids c.dims.ensures.field.sizes t.lattice t.ids

few_more : (m k n : ℕ) → m ≤ 3 * n → k ≤ 3 → m + k ≤ 3 * (n + 1)
few_more m k n h g = omega arith

count_more : (a b m n : ℕ) → a ≡ m + 4 * n → b ≡ a + 4 → b ≡ m + 4 * (n + 1)
count_more a b m n h g = omega arith

pub loop-n-preserved : goal.loop-n-preserved
loop-n-preserved g c =
    let r = c.tets_at-tets in
    let six : length r.result.of ≡ 6 = search rules in
    let t = tet_at c.args.field.now.dims c.dims.result c.args.v r.result.len r.result.of c.loop-n.n (record { at = []; ids = [] }) c.dims.ensures.value six r.ensures.len c.loop-n-test.true r.ensures.tets r.ensures.ids r.ensures.lattice in
    let e = get_or r.result.of c.loop-n.n (record { at = []; ids = [] }) in
    let f = c.args.field.now in
    let i = c.loop-n.invariant in
    let w = c.in_tet-within.ensures in
    record {
      before = length_more f c.args.shares c.args.point (tets_from f.dims c.args.v) c.loop-n.n e.at t.within t.here c.loop-n.before c.in_tet-within.result.len i.before w.len;
      few = few_more c.loop-n.before c.in_tet-within.result.len c.loop-n.n i.few w.few;
      none = none_more f c.args.shares c.args.point (tets_from f.dims c.args.v) c.loop-n.n e.at t.within t.here i.none (MatchOption-at_none (NoneHolds f c.args.shares c.args.point (tet_pieces f.dims (states f c.args.shares) e.at)) (λ q. IsFirstOf f c.args.shares c.args.point (tet_pieces f.dims (states f c.args.shares) e.at) q.rank q.nodes q.weights) c.in_default.is w.found);
      count = count_more (g.L.Ledger.count c.loop-n.ledger) (g.L.Ledger.count c.in_tet-within.new.ledger) (g.L.Ledger.count c.args.ledger.now) c.loop-n.n i.count w.count;
    }

pub returns-in-Some-clause-found : goal.returns-in-Some-clause-found
returns-in-Some-clause-found g c =
    let r = c.tets_at-tets in
    let six : length r.result.of ≡ 6 = search rules in
    let t = tet_at c.args.field.now.dims c.dims.result c.args.v r.result.len r.result.of c.loop-n.n (record { at = []; ids = [] }) c.dims.ensures.value six r.ensures.len c.loop-n-test.true r.ensures.tets r.ensures.ids r.ensures.lattice in
    let e = get_or r.result.of c.loop-n.n (record { at = []; ids = [] }) in
    let f = c.args.field.now in
    let i = c.loop-n.invariant in
    let q = c.in-Some.found in
    first_of_all f c.args.shares c.args.point (tets_from f.dims c.args.v) c.loop-n.n e.at t.within t.here c.loop-n.before q.rank q.nodes q.weights i.before i.none
    (MatchOption-at_some (NoneHolds f c.args.shares c.args.point (tet_pieces f.dims (states f c.args.shares) e.at)) (λ q. IsFirstOf f c.args.shares c.args.point (tet_pieces f.dims (states f c.args.shares) e.at) q.rank q.nodes q.weights) q c.in-Some.is c.in_tet-within.ensures.found)

pub returns-clause-found : goal.returns-clause-found
returns-clause-found g c =
    let f = c.args.field.now in
    let r = c.tets_at-tets in
    let six : length r.result.of ≡ 6 = search rules in
    let count = tets_count f.dims c.dims.result c.args.v r.result.len r.result.of c.dims.ensures.value six r.ensures.len r.ensures.tets in
    subst (λ ts. NoneHolds f c.args.shares c.args.point (flat_map (tet_pieces f.dims (states f c.args.shares)) ts)) (take_all c.loop-n.n (tets_from f.dims c.args.v) (subst (λ m. m ≤ c.loop-n.n) (sym count) c.loop-n-test.false)) c.loop-n.invariant.none
