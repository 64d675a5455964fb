use Rattle.std.proofs.Common.{◌≡◌, ◌+◌, ◌≤◌, ◌++◌, drop, map, take}
use Rattle.mesh_texts.specs.Lines.{ele_lines, renumbered}
use Rattle.node_ele_write.specs.declared.tet_lines.TheConstants.{LINES}
use Rattle.node_ele_write.proofs.pen.Pen.ele_lines.Given as goal

abbrev pub invariant-loop-n : goal.invariant-loop-n
invariant-loop-n l = record {
  left : (l.out.items ++ take l.end l.self.lines) ++ ele_lines (l.number + l.n) (map (renumbered l.first) (drop l.n l.tets)) ≡ l.initial.out.items ++ ele_lines l.number (map (renumbered l.first) l.tets);
  within : l.end ≤ LINES;
}
