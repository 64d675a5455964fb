use Rattle.std.proofs.Common.{◌∙◌, sym, subst}
use Rattle.mesh_audit.specs.Triangles.{LeastTet, is_one_of_many, is_turned_pair}
use Rattle.mesh_audit.proofs.TriangleRuns.{run_is, next_fresh, crowded_after, turned_after, boundary_after}
use Rattle.mesh_audit.proofs.runs.find.Goals as goal

pub loop-start-preserved : goal.loop-start-preserved
loop-start-preserved c =
    let run = run_is c.args.triangles.now c.loop-start.start c.run_end-end.result c.requires.sorted c.loop-start-test.true c.run_end-end.ensures.some c.run_end-end.ensures.within (c.loop-start.invariant.fresh c.loop-start-test.true) c.run_end-end.ensures.same c.run_end-end.ensures.ends in
    record {
      within = c.run_end-end.ensures.within;
      fresh = λ lt. next_fresh c.args.triangles.now c.loop-start.start c.run_end-end.result run lt;
      crowded = subst (LeastTet (is_one_of_many c.args.triangles.now) _) (sym c.add.ensures.crowded) (crowded_after _ _ _ _ run c.loop-start.invariant.crowded);
      turned = subst (LeastTet (is_turned_pair c.args.triangles.now) _) (sym c.add.ensures.turned) (turned_after _ _ _ _ c.requires.nodes run c.loop-start.invariant.turned);
      boundary = c.add.ensures.boundary ∙ boundary_after _ _ _ _ run c.loop-start.invariant.boundary;
    }
