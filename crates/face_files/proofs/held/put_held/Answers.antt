use Rattle.std.proofs.Common.{List, ℕ, subst}
use Rattle.std.specs.Prelude.{OnErr, OnOk}
use Rattle.std.specs.Io.KnownBytes.{Appends}
use Rattle.std.proofs.lemmas.Result.{on_ok_weaker, on_err_weaker}
use Rattle.st_base.specs.Desk.{AppendsPart}
use Rattle.face_files.proofs.Holding.{held_written, part_written}
use Rattle.face_files.proofs.held.put_held.Goals as goal

pub returns-clause-all : goal.returns-clause-all
returns-clause-all g c =
    let old = (g.D.Desk.ports c.args.desk.now c.args.port).text in
    let new = (g.D.Desk.ports c.put_all-done.new.desk c.args.port).text in
    let told : OnOk c.put_all-done.result (Appends old new c.args.held.now.items) = subst (λ (l : List ℕ). OnOk c.put_all-done.result (Appends old new l)) c.deref.ensures.value c.put_all-done.ensures.all in
    λ before all h. on_ok_weaker c.put_all-done.result (λ k. held_written before old new c.args.held.now.items c.clear.new.self.items all c.clear.ensures.items k h) told

pub returns-clause-part : goal.returns-clause-part
returns-clause-part g c =
    let old = (g.D.Desk.ports c.args.desk.now c.args.port).text in
    let new = (g.D.Desk.ports c.put_all-done.new.desk c.args.port).text in
    let told : OnErr c.put_all-done.result (AppendsPart old new c.args.held.now.items) = subst (λ (l : List ℕ). OnErr c.put_all-done.result (AppendsPart old new l)) c.deref.ensures.value c.put_all-done.ensures.part in
    λ before all h. on_err_weaker c.put_all-done.result (λ k. part_written before old new c.args.held.now.items all k h) told
