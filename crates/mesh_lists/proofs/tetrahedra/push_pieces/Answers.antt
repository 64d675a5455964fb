use Rattle.std.proofs.Common.{◌≡◌, ℕ, ◌<◌, ◌≤◌, ◌∷◌, [], ◌++◌, List, All, ap, sym, subst, ◌∙◌, length, get_or, map}
use Rattle.std.proofs.lemmas.List.{take_all}
use Rattle.definitions.specs.Mesh.{node_keys, number_of, tet_pieces}
use Rattle.lattice_laws.specs.NumberedTetrahedra.{IsNumberedTet}
use Rattle.lattice_laws.proofs.KeyOrder.{tet_ids_rise}
use Rattle.vertex_numbers.specs.Numbering.{HoldsKey, number_in}
use Rattle.mesh_lists.proofs.Pieces.{has_pieces, of_front, piece_is_numbered, piece_numbers, pieces_more}
use Rattle.mesh_lists.proofs.tetrahedra.push_pieces.Goals as goal

pub pieces-pieces-requires-clause-tet : goal.pieces-pieces-requires-clause-tet
pieces-pieces-requires-clause-tet c =
    subst (IsNumberedTet c.args.tet.now.at) (sym c.requires.ids) (tet_ids_rise c.args.states.now.dims c.args.tet.now.at c.requires.lattice)

pub numbers_of-requires : goal.numbers_of-requires
numbers_of-requires c =
    let d = c.args.states.now.dims in
    let ss = c.args.states.now.states in
    let tet = c.args.tet.now in
    let h = has_pieces d ss tet.at tet.ids c.signs_of.result c.pieces-pieces.result.len c.pieces-pieces.result.of c.requires.ids c.signs_of.ensures c.pieces-pieces.ensures.pieces c.pieces-pieces.ensures.len in
    let lt : c.loop-n.n < length (tet_pieces d ss tet.at) = subst (λ m. c.loop-n.n < m) h.count c.loop-n-test.true in
    subst (λ (keys : List ℕ). All (HoldsKey c.args.starts.now) keys) (sym (of_front c.pieces-pieces.result.len c.loop-n.n c.pieces-pieces.result.of (tet_pieces d ss tet.at) [] h.front c.loop-n-test.true))
    (piece_is_numbered d ss c.args.starts.now c.requires.padded c.args.v c.requires.numbers c.requires.domain tet.at c.requires.lowest c.loop-n.n [] lt)

pub loop-n-preserved : goal.loop-n-preserved
loop-n-preserved c =
    let d = c.args.states.now.dims in
    let ss = c.args.states.now.states in
    let tet = c.args.tet.now in
    let n = c.loop-n.n in
    let h = has_pieces d ss tet.at tet.ids c.signs_of.result c.pieces-pieces.result.len c.pieces-pieces.result.of c.requires.ids c.signs_of.ensures c.pieces-pieces.ensures.pieces c.pieces-pieces.ensures.len in
    let lt : n < length (tet_pieces d ss tet.at) = subst (λ m. n < m) h.count c.loop-n-test.true in
    let numbers : c.numbers_of.result ≡ map (number_of (node_keys d ss)) (get_or (tet_pieces d ss tet.at) n []) =
    c.numbers_of.ensures
    ∙ ap (map (number_in c.args.starts.now)) (of_front c.pieces-pieces.result.len n c.pieces-pieces.result.of (tet_pieces d ss tet.at) [] h.front c.loop-n-test.true)
    ∙ piece_numbers d ss c.args.starts.now c.requires.padded c.args.v c.requires.numbers c.requires.domain tet.at c.requires.lowest n [] lt
    in
    pieces_more (map (number_of (node_keys d ss))) (tet_pieces d ss tet.at) n [] c.args.tets.now.items c.loop-n.tets.items c.push.new.list.items lt c.loop-n.invariant
    (c.in_ok-push.ensures ∙ ap (λ t. c.loop-n.tets.items ++ t ∷ []) numbers)

pub returns : goal.returns
returns c =
    let d = c.args.states.now.dims in
    let ss = c.args.states.now.states in
    let tet = c.args.tet.now in
    let h = has_pieces d ss tet.at tet.ids c.signs_of.result c.pieces-pieces.result.len c.pieces-pieces.result.of c.requires.ids c.signs_of.ensures c.pieces-pieces.ensures.pieces c.pieces-pieces.ensures.len in
    c.loop-n.invariant
    ∙ ap (λ ps. c.args.tets.now.items ++ map (map (number_of (node_keys d ss))) ps) (take_all c.loop-n.n (tet_pieces d ss tet.at) (subst (λ m. m ≤ c.loop-n.n) h.count c.loop-n-test.false))
