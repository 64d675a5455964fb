use Rattle.std.proofs.Common.{sym, subst, All, List, ℕ}
use Rattle.std.specs.Prelude.{OnOk}
use Rattle.slab_texts.specs.Texts.{Adds, AreAmong, AreMeasuredIn}
use Rattle.mesh_lists.proofs.Layers.{numbers_layers}
use Rattle.slab_texts.proofs.Pieces.{all_among}
use Rattle.slab_texts.proofs.Stars.{are_star}
use Rattle.slab_texts.proofs.tetrahedra.push_from.Goals as goal

pub whole_numbers-requires-clause-numbers : goal.whole_numbers-requires-clause-numbers
whole_numbers-requires-clause-numbers c =
    let n = c.args.nodes.now in
    numbers_layers c.args.states.now.dims c.args.states.now.states c.args.v.h n.start n.end n.starts c.requires.nodes.numbers c.requires.hold

pub push_whole-requires-clause-among : goal.push_whole-requires-clause-among
push_whole-requires-clause-among c =
    subst (λ (ts : List (List ℕ)). All (AreAmong c.args.nodes.now) ts) c.in-Some.ensures.pieces
    (all_among c.args.states.now.dims c.args.states.now.states c.args.nodes.now c.requires.nodes c.args.v c.requires.domain c.requires.hold)

pub push_whole-requires-clause-star : goal.push_whole-requires-clause-star
push_whole-requires-clause-star c =
    are_star c.args.states.now.dims c.args.states.now.states c.args.nodes.now c.requires.plus c.args.v c.in-Some.whole.own c.in-Some.whole.later c.requires.domain c.in-Some.ensures.plus (push_whole-requires-clause-among c)

pub push_whole-requires-clause-measured : goal.push_whole-requires-clause-measured
push_whole-requires-clause-measured c = subst (AreMeasuredIn c.args.nodes.now) c.in-Some.ensures.pieces c.requires.measured

pub returns-in-Some-clause-adds : goal.returns-in-Some-clause-adds
returns-in-Some-clause-adds c =
    subst (λ (ts : List (List ℕ)). OnOk c.push_whole.result (Adds c.args.nodes.now c.args.out.now ts c.push_whole.new.out)) (sym c.in-Some.ensures.pieces) c.push_whole.ensures.adds
