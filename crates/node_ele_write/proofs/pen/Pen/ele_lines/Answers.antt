use Rattle.std.proofs.Common.{◌≡◌, ℕ, ◌+◌, ◌++◌, List, [], ◌∙◌, append-nil, ap, arith, drop, map, subst, sym, take}
use Rattle.std.specs.Prelude.{OnOk}
use Rattle.std.proofs.lemmas.List.{drop_all}
use Rattle.mesh_texts.specs.Lines.{ele_lines, renumbered}
use Rattle.node_ele_write.proofs.TetLines.{lines_left}
use Rattle.node_ele_write.proofs.pen.Pen.ele_lines.Goals as goal

pub loop-n-init : goal.loop-n-init
loop-n-init c =
    let zero : c.args.number + 0 ≡ c.args.number = omega arith in
    record {
      left = (λ i. append-nil c.args.out.now.items i ++ ele_lines (zero i) (map (renumbered c.args.first) c.args.tets.now));
      within = omega arith;
    }

pub make_room-requires : goal.make_room-requires
make_room-requires c = c.loop-n.invariant.within

pub put_line-end-requires-clause-nodes : goal.put_line-end-requires-clause-nodes
put_line-end-requires-clause-nodes c = c.requires.nodes c.loop-n.n [] c.loop-n-test.true

pub loop-n-preserved : goal.loop-n-preserved
loop-n-preserved c =
    record {
      left =
          lines_left c.args.number c.args.first c.loop-n.n c.args.tets.now _ _ _ _ c.loop-n-test.true c.put_line-end.ensures.text
          (ap (λ (t : List ℕ). t ++ ele_lines (c.args.number + c.loop-n.n) (map (renumbered c.args.first) (drop c.loop-n.n c.args.tets.now))) c.in_ok-at.ensures.text ∙ c.loop-n.invariant.left);
      within = c.put_line-end.ensures.end;
    }

pub append-requires : goal.append-requires
append-requires c = c.loop-n.invariant.within

pub returns : goal.returns
returns c =
    let none : drop c.loop-n.n c.args.tets.now ≡ [] = drop_all c.loop-n.n c.args.tets.now c.loop-n-test.false in
    let all : c.loop-n.out.items ++ take c.loop-n.end c.loop-n.self.lines ≡ c.args.out.now.items ++ ele_lines c.args.number (map (renumbered c.args.first) c.args.tets.now) =
    sym (append-nil (c.loop-n.out.items ++ take c.loop-n.end c.loop-n.self.lines)) ∙ ap (λ (ts : List (List ℕ)). (c.loop-n.out.items ++ take c.loop-n.end c.loop-n.self.lines) ++ ele_lines (c.args.number + c.loop-n.n) (map (renumbered c.args.first) ts)) (sym none) ∙ c.loop-n.invariant.left
    in
    subst (λ (t : List ℕ). OnOk c.append.result (c.append.new.out.items ≡ t)) all c.append.ensures
