use Rattle.std.proofs.Common.{◌∙◌, ◌++◌, List, ℕ, [], ap, append-nil, sym, take}
use Rattle.std.specs.Prelude.{flat_map}
use Rattle.std.specs.List.{enumerate_from}
use Rattle.std.proofs.lemmas.List.{take_all as take_whole}
use Rattle.definitions.specs.Angles.{angles_of, extremes_of}
use Rattle.slab_texts.proofs.Measured.{one_measured}
use Rattle.slab_texts.proofs.TakenAngles.{taken_more}
use Rattle.slab_texts.proofs.lines.take_all.Goals as goal

pub loop-n-init : goal.loop-n-init
loop-n-init c = λ all r xs e. e ∙ ap extremes_of (sym (append-nil xs))

pub take_tet-requires-clause-among : goal.take_tet-requires-clause-among
take_tet-requires-clause-among c = c.requires.among c.loop-n.n _ c.loop-n-test.true

pub take_tet-requires-clause-measured : goal.take_tet-requires-clause-measured
take_tet-requires-clause-measured c = one_measured c.args.nodes.now c.args.tets.now c.loop-n.n [] c.loop-n-test.true c.requires.measured

pub loop-n-preserved : goal.loop-n-preserved
loop-n-preserved c = λ all r xs e.
    c.take_tet.ensures all r (xs ++ flat_map (angles_of all) (enumerate_from c.args.number (take c.loop-n.n c.args.tets.now))) (c.loop-n.invariant all r xs e)
    ∙ taken_more all c.args.number c.loop-n.n c.args.tets.now xs c.loop-n-test.true

pub returns : goal.returns
returns c = λ all r xs e.
    c.loop-n.invariant all r xs e ∙ ap (λ (ts : List (List ℕ)). extremes_of (xs ++ flat_map (angles_of all) (enumerate_from c.args.number ts))) (take_whole c.loop-n.n c.args.tets.now c.loop-n-test.false)
