use Rattle.std.proofs.Common.{◌≡◌, ◌+◌, ◌-◌, ◌≤◌, ◌++◌, ◌∷◌, [], List, ℕ, arith, map, refl, subst}
use Rattle.std.specs.Prelude.{filter, if◌then◌else◌}
use Rattle.std.specs.List.{range_with_len}
use Rattle.mesh_texts.specs.Nodes.{Node}
use Rattle.vertex_numbers.specs.Bits.{has_bit}
use Rattle.mesh_lists.proofs.NodePlaces.{cuts_more}
use Rattle.slab_texts.specs.NodeLines.{AddsNodes, edge_node}
use Rattle.slab_texts.proofs.NodeLines.{more_nodes}
use Rattle.slab_texts.proofs.node_lines.push_cuts.Goals as goal

pub loop-dir-preserved : goal.loop-dir-preserved
loop-dir-preserved c =
    let g = edge_node c.args.field.now c.args.v in
    let has = has_bit c.args.bits in
    let dir = c.loop-dir.dir in
    let xs = map g (filter has (range_with_len 1 (dir - 1))) in
    let ys : List Node = if has dir then g dir ∷ [] else [] in
    record {
      adds =
          more_nodes c.args.frame.now c.args.out.now c.loop-dir.out c.push_cut.new.out xs ys (map g (filter has (range_with_len 1 (dir + 1 - 1))))
          (cuts_more g has dir [] xs (xs ++ ys) c.loop-dir.auto.dir refl refl)
          c.loop-dir.invariant.adds c.in_ok-push_cut.ensures.adds;
      few = further _ _ _ _ c.loop-dir.auto.dir c.loop-dir.invariant.few c.push_cut.ensures.few;
    }
  where
    further : (a b x n : ℕ) → 1 ≤ n → a ≤ x + (n - 1) → b ≤ a + 1 → b ≤ x + (n + 1 - 1)
    further a b x n low p q = omega arith

pub returns-clause-adds : goal.returns-clause-adds
returns-clause-adds c =
    let end : c.loop-dir.dir ≡ 8 = let t = c.loop-dir-test.false in let a = c.loop-dir.auto.dir-end in omega arith in
    subst (λ n. AddsNodes c.args.frame.now c.args.out.now (map (edge_node c.args.field.now c.args.v) (filter (has_bit c.args.bits) (range_with_len 1 (n - 1)))) c.loop-dir.out) end c.loop-dir.invariant.adds
