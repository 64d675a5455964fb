use Rattle.std.proofs.Common.{[], ◌++◌, ◌<◌, ◌≤◌, ℕ, ap, refl, sym, subst, ◌∙◌, get_or, length, map}
use Rattle.std.specs.Prelude.{flat_map}
use Rattle.std.proofs.lemmas.List.{take_all}
use Rattle.definitions.specs.Lattice.{id}
use Rattle.definitions.specs.Mesh.{node_keys, number_of, tet_pieces}
use Rattle.definitions.specs.Tetrahedra.{tets_from}
use Rattle.lattice_laws.proofs.Sublists.{has_at}
use Rattle.mesh_lists.specs.Kinds.{AreTetVertices}
use Rattle.mesh_lists.proofs.Layers.{own_held}
use Rattle.mesh_lists.proofs.Numberings.{vertex_within}
use Rattle.mesh_lists.proofs.Pieces.{tets_more}
use Rattle.mesh_lists.proofs.PiecesOfKinds.{few_before, kinds_in_order, numbered_by, six_long}
use Rattle.mesh_lists.proofs.WholeTetrahedra.{later_held}
use Rattle.mesh_lists.proofs.kinds.push_kinds.Goals as goal

pub tet_vertices-around-requires-clause-own_within : goal.tet_vertices-around-requires-clause-own_within
tet_vertices-around-requires-clause-own_within c = vertex_within c.args.states.now.dims c.args.v c.args.id c.requires.domain c.requires.id

pub tet_vertices-around-requires-clause-own_low : goal.tet_vertices-around-requires-clause-own_low
tet_vertices-around-requires-clause-own_low c =
    (own_held c.args.states.now.dims c.args.states.now.states c.args.v c.args.starts.now c.args.id c.requires.numbers c.requires.domain c.requires.id).0

pub tet_vertices-around-requires-clause-own_high : goal.tet_vertices-around-requires-clause-own_high
tet_vertices-around-requires-clause-own_high c =
    (own_held c.args.states.now.dims c.args.states.now.states c.args.v c.args.starts.now c.args.id c.requires.numbers c.requires.domain c.requires.id).1

pub tet_vertices-around-requires-clause-low : goal.tet_vertices-around-requires-clause-low
tet_vertices-around-requires-clause-low c =
    (later_held c.args.states.now.dims c.args.states.now.states c.requires.padded c.args.starts.now c.args.v.h c.requires.numbers c.args.v c.args.later.now c.requires.domain refl c.requires.later).0

pub tet_vertices-around-requires-clause-high : goal.tet_vertices-around-requires-clause-high
tet_vertices-around-requires-clause-high c =
    (later_held c.args.states.now.dims c.args.states.now.states c.requires.padded c.args.starts.now c.args.v.h c.requires.numbers c.args.v c.args.later.now c.requires.domain refl c.requires.later).1

pub push_kind-requires-clause-few : goal.push_kind-requires-clause-few
push_kind-requires-clause-few c = few_before c.args.states.now.states c.args.starts.now c.args.id c.args.later.now c.tet_vertices-around.result c.tet_vertices-around.ensures

pub loop-kind-preserved : goal.loop-kind-preserved
loop-kind-preserved c =
    let d = c.args.states.now.dims in
    let ss = c.args.states.now.states in
    let n = c.args.starts.now in
    let v = c.args.v in
    let kind = c.loop-kind.kind in
    let ts = c.tet_vertices-around.result in
    let around : AreTetVertices ss n (id d v) c.args.later.now ts = subst (λ (m : ℕ). AreTetVertices ss n m c.args.later.now ts) c.requires.id c.tet_vertices-around.ensures in
    let within : kind < length (tets_from d v) = subst (λ (m : ℕ). kind < m) (sym (six_long d ss n v c.requires.domain c.args.later.now c.requires.later ts around)) c.loop-kind-test.true in
    let tet = get_or (tets_from d v) kind [] in
    tets_more (map (number_of (node_keys d ss))) (tet_pieces d ss) (tets_from d v) kind [] c.args.tets.now.items c.loop-kind.tets.items c.push_kind.new.tets.items within c.loop-kind.invariant
    (c.in_ok-push_kind.ensures ss n tet (map (id d) tet) (kinds_in_order d ss n v c.requires.domain c.args.later.now c.requires.later ts around kind c.loop-kind-test.true)
    ∙ ap (λ ps. c.loop-kind.tets.items ++ ps) (numbered_by d ss n c.requires.padded v c.requires.numbers c.requires.domain tet (has_at (tets_from d v) kind [] within)))

pub returns : goal.returns
returns c =
    let d = c.args.states.now.dims in
    let ss = c.args.states.now.states in
    let v = c.args.v in
    let ts = c.tet_vertices-around.result in
    let around : AreTetVertices ss c.args.starts.now (id d v) c.args.later.now ts = subst (λ (m : ℕ). AreTetVertices ss c.args.starts.now m c.args.later.now ts) c.requires.id c.tet_vertices-around.ensures in
    c.loop-kind.invariant
    ∙ ap (λ ts. c.args.tets.now.items ++ map (map (number_of (node_keys d ss))) (flat_map (tet_pieces d ss) ts))
    (take_all c.loop-kind.kind (tets_from d v) (subst (λ (m : ℕ). m ≤ c.loop-kind.kind) (sym (six_long d ss c.args.starts.now v c.requires.domain c.args.later.now c.requires.later ts around)) c.loop-kind-test.false))
