use Rattle.std.proofs.Common.{ℕ, List, All, ◌∙◌, sym, subst}
use Rattle.slab_texts.specs.Texts.{AddsTets, AreAmong, AreMeasuredIn}
use Rattle.slab_texts.proofs.lines.push_new_six.Goals as goal

pub push_all-requires-clause-among : goal.push_all-requires-clause-among
push_all-requires-clause-among c = subst (λ (ts : List (List ℕ)). All (AreAmong c.args.nodes.now) ts) (sym c.six_tets.ensures) c.requires.among

pub push_all-requires-clause-measured : goal.push_all-requires-clause-measured
push_all-requires-clause-measured c = subst (AreMeasuredIn c.args.nodes.now) (sym c.six_tets.ensures) c.requires.measured

pub returns-clause-adds : goal.returns-clause-adds
returns-clause-adds c = λ all r.
    let h = subst (λ (ts : List (List ℕ)). AddsTets all c.args.out.now ts c.push_all.new.out) c.six_tets.ensures (c.in_ok-push_all.ensures.adds all r) in
    record { text = h.text; writes = h.writes; numbering = h.numbering; number = h.number; angles = λ xs e. c.learn_star.ensures ∙ h.angles xs e }
