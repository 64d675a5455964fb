use Rattle.std.proofs.Common.{◌∙◌, ◌++◌, [], arith, sym, subst}
use Rattle.definitions.specs.Angles.{extremes_of}
use Rattle.dihedral.specs.TetAngles.{six_angles}
use Rattle.slab_texts.specs.Texts.{Spans}
use Rattle.slab_texts.proofs.lines.take_tet.Goals as goal

pub take-requires-clause-near : goal.take-requires-clause-near
take-requires-clause-near c =
    let m = c.requires.measured in
    let s : Spans c.places_of.result = subst Spans (sym (c.places_of.ensures m.all m.row)) (m.measured 0 [] (omega arith)) in
    s.near

pub take-requires-clause-positive : goal.take-requires-clause-positive
take-requires-clause-positive c =
    let m = c.requires.measured in
    let s : Spans c.places_of.result = subst Spans (sym (c.places_of.ensures m.all m.row)) (m.measured 0 [] (omega arith)) in
    s.positive

pub returns : goal.returns
returns c = λ all r xs e. c.take.ensures xs e ∙ (λ i. extremes_of (xs ++ six_angles (c.places_of.ensures all r i) c.args.number c.args.numbers))
