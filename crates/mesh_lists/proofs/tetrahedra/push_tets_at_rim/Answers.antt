use Rattle.std.proofs.Common.{◌≡◌, ◌≤◌, List, [], ◌++◌, rules, ap, sym, subst, ◌∙◌, length, get_or, map}
use Rattle.std.specs.Prelude.{flat_map}
use Rattle.std.proofs.lemmas.List.{take_all}
use Rattle.definitions.specs.Lattice.{IsDims}
use Rattle.definitions.specs.Mesh.{node_keys, number_of, tet_pieces}
use Rattle.definitions.specs.Tetrahedra.{tets_from}
use Rattle.definitions.specs.declared.Vertex.{Vertex}
use Rattle.lattice_laws.specs.Ascending.{Has}
use Rattle.lattice_laws.proofs.Sublists.{has_at}
use Rattle.mesh_lists.proofs.Pieces.{ids_fit, tet_at, tets_count, tets_more}
use Rattle.mesh_lists.proofs.tetrahedra.push_tets_at_rim.Goals as goal

pub push_pieces-requires-clause-lowest : goal.push_pieces-requires-clause-lowest
push_pieces-requires-clause-lowest c =
    let r = c.tets_at-from in
    let d = c.args.states.now.dims in
    let six : length r.result.of ≡ 6 = search rules in
    let t = tet_at d c.dims.result c.args.v r.result.len r.result.of c.loop-n.n (record { at = []; ids = [] }) c.dims.ensures.dims six r.ensures.len c.loop-n-test.true r.ensures.tets r.ensures.ids r.ensures.lattice in
    subst (λ (x : List Vertex). Has x (tets_from d c.args.v)) (sym t.here) (has_at (tets_from d c.args.v) c.loop-n.n [] t.within)

pub push_pieces-requires-clause-lattice : goal.push_pieces-requires-clause-lattice
push_pieces-requires-clause-lattice c =
    let r = c.tets_at-from in
    let six : length r.result.of ≡ 6 = search rules in
    (tet_at c.args.states.now.dims c.dims.result c.args.v r.result.len r.result.of c.loop-n.n (record { at = []; ids = [] }) c.dims.ensures.dims six r.ensures.len c.loop-n-test.true r.ensures.tets r.ensures.ids r.ensures.lattice).lattice

pub push_pieces-requires-clause-ids : goal.push_pieces-requires-clause-ids
push_pieces-requires-clause-ids c =
    let r = c.tets_at-from in
    let six : length r.result.of ≡ 6 = search rules in
    (tet_at c.args.states.now.dims c.dims.result c.args.v r.result.len r.result.of c.loop-n.n (record { at = []; ids = [] }) c.dims.ensures.dims six r.ensures.len c.loop-n-test.true r.ensures.tets r.ensures.ids r.ensures.lattice).ids

pub push_pieces-requires-clause-small : goal.push_pieces-requires-clause-small
push_pieces-requires-clause-small c =
    let r = c.tets_at-from in
    let six : length r.result.of ≡ 6 = search rules in
    let t = tet_at c.args.states.now.dims c.dims.result c.args.v r.result.len r.result.of c.loop-n.n (record { at = []; ids = [] }) c.dims.ensures.dims six r.ensures.len c.loop-n-test.true r.ensures.tets r.ensures.ids r.ensures.lattice in
    let e = get_or r.result.of c.loop-n.n (record { at = []; ids = [] }) in
    ids_fit c.args.states.now.dims e.at e.ids (subst IsDims c.dims.ensures.dims c.dims.ensures.sizes) t.lattice t.ids

pub loop-n-preserved : goal.loop-n-preserved
loop-n-preserved c =
    let d = c.args.states.now.dims in
    let ss = c.args.states.now.states in
    let r = c.tets_at-from in
    let six : length r.result.of ≡ 6 = search rules in
    let t = tet_at d c.dims.result c.args.v r.result.len r.result.of c.loop-n.n (record { at = []; ids = [] }) c.dims.ensures.dims six r.ensures.len c.loop-n-test.true r.ensures.tets r.ensures.ids r.ensures.lattice in
    tets_more (map (number_of (node_keys d ss))) (tet_pieces d ss) (tets_from d c.args.v) c.loop-n.n [] c.args.tets.now.items c.loop-n.tets.items c.push_pieces.new.tets.items t.within c.loop-n.invariant
    (c.in_ok-push_pieces.ensures ∙ ap (λ v. c.loop-n.tets.items ++ map (map (number_of (node_keys d ss))) (tet_pieces d ss v)) t.here)

pub returns : goal.returns
returns c =
    let d = c.args.states.now.dims in
    let ss = c.args.states.now.states in
    let r = c.tets_at-from in
    let six : length r.result.of ≡ 6 = search rules in
    let count = tets_count d c.dims.result c.args.v r.result.len r.result.of c.dims.ensures.dims six r.ensures.len r.ensures.tets in
    c.loop-n.invariant
    ∙ ap (λ ts. c.args.tets.now.items ++ map (map (number_of (node_keys d ss))) (flat_map (tet_pieces d ss) ts)) (take_all c.loop-n.n (tets_from d c.args.v) (subst (λ m. m ≤ c.loop-n.n) (sym count) c.loop-n-test.false))
