use Rattle.std.proofs.Common.{◌≡◌, ◌++◌, ◌≤◌, ap, arith, sym, subst, ◌∙◌, ℕ, List, All, length}
use Rattle.mesh_lists.specs.Parts.{numbered_from}
use Rattle.slab_texts.specs.Texts.{AreAmong, AreMeasuredIn}
use Rattle.mesh_lists.proofs.Layers.{numbers_layers}
use Rattle.slab_texts.proofs.Pieces.{all_among, few_numbered}
use Rattle.slab_texts.proofs.tetrahedra.push_pieces.Goals as goal

pub push_tets_from-requires-clause-numbers : goal.push_tets_from-requires-clause-numbers
push_tets_from-requires-clause-numbers c =
    let n = c.args.nodes.now in
    numbers_layers c.args.states.now.dims c.args.states.now.states c.args.v.h n.start n.end n.starts c.requires.nodes.numbers c.requires.hold

pub push_all-requires-clause-among : goal.push_all-requires-clause-among
push_all-requires-clause-among c =
    let d = c.args.states.now.dims in
    let ss = c.args.states.now.states in
    let made : c.deref.result.now ≡ numbered_from d ss c.args.v = c.deref.ensures.value ∙ c.in_ok-push_tets_from.ensures ∙ ap (λ (xs : List (List ℕ)). xs ++ numbered_from d ss c.args.v) c.clear.ensures.items in
    subst (λ (ts : List (List ℕ)). All (AreAmong c.args.nodes.now) ts) (sym made) (all_among d ss c.args.nodes.now c.requires.nodes c.args.v c.requires.domain c.requires.hold)

pub push_all-requires-clause-measured : goal.push_all-requires-clause-measured
push_all-requires-clause-measured c =
    let d = c.args.states.now.dims in
    let ss = c.args.states.now.states in
    let made : c.deref.result.now ≡ numbered_from d ss c.args.v = c.deref.ensures.value ∙ c.in_ok-push_tets_from.ensures ∙ ap (λ (xs : List (List ℕ)). xs ++ numbered_from d ss c.args.v) c.clear.ensures.items in
    subst (AreMeasuredIn c.args.nodes.now) (sym made) c.requires.measured

pub push_all-requires-clause-room : goal.push_all-requires-clause-room
push_all-requires-clause-room c =
    let d = c.args.states.now.dims in
    let ss = c.args.states.now.states in
    let made : c.deref.result.now ≡ numbered_from d ss c.args.v = c.deref.ensures.value ∙ c.in_ok-push_tets_from.ensures ∙ ap (λ (xs : List (List ℕ)). xs ++ numbered_from d ss c.args.v) c.clear.ensures.items in
    let few : length c.deref.result.now ≤ 18 = subst (λ (ts : List (List ℕ)). length ts ≤ 18) (sym made) (few_numbered d ss c.args.v c.requires.domain) in
    let room = c.requires.room in
    omega arith

pub returns-clause-few : goal.returns-clause-few
returns-clause-few c =
    let d = c.args.states.now.dims in
    let ss = c.args.states.now.states in
    let made : c.deref.result.now ≡ numbered_from d ss c.args.v = c.deref.ensures.value ∙ c.in_ok-push_tets_from.ensures ∙ ap (λ (xs : List (List ℕ)). xs ++ numbered_from d ss c.args.v) c.clear.ensures.items in
    let few : length c.deref.result.now ≤ 18 = subst (λ (ts : List (List ℕ)). length ts ≤ 18) (sym made) (few_numbered d ss c.args.v c.requires.domain) in
    let b = c.push_all.ensures.few in
    omega arith
