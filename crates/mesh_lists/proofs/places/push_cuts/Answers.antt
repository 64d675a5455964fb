use Rattle.std.proofs.Common.{◌≡◌, ◌-◌, ◌++◌, arith, ap, map, ◌∙◌}
use Rattle.std.specs.Prelude.{filter}
use Rattle.std.specs.List.{range_with_len}
use Rattle.vertex_numbers.specs.Bits.{has_bit}
use Rattle.mesh_lists.specs.Parts.{place_on_edge}
use Rattle.mesh_lists.proofs.NodePlaces.{cuts_more}
use Rattle.mesh_lists.proofs.places.push_cuts.Goals as goal

pub loop-dir-preserved : goal.loop-dir-preserved
loop-dir-preserved c = cuts_more (place_on_edge c.args.field.now c.args.v) (has_bit c.args.bits) c.loop-dir.dir c.args.places.now.items c.loop-dir.places.items c.push_cut.new.places.items c.loop-dir.auto.dir c.loop-dir.invariant c.in_ok-push_cut.ensures

pub returns : goal.returns
returns c =
    let end : c.loop-dir.dir ≡ 8 = let t = c.loop-dir-test.false in let a = c.loop-dir.auto.dir-end in omega arith in
    c.loop-dir.invariant ∙ ap (λ n. c.args.places.now.items ++ map (place_on_edge c.args.field.now c.args.v) (filter (has_bit c.args.bits) (range_with_len 1 (n - 1)))) end
