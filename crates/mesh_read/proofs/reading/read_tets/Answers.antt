use Rattle.std.proofs.Common.{List, ℕ, Option, Ok, Err, subst}
use Rattle.mesh_files.specs.Files.{tets_of}
use Rattle.mesh_read.specs.Told.{Says, ReadsText}
use Rattle.mesh_read.proofs.Readings.{finish_ok, finish_err, long_tets, never_read_fault}
use Rattle.mesh_read.proofs.reading.read_tets.Goals as goal

pub returns-in-Ok-clause-told : goal.returns-in-Ok-clause-told
returns-in-Ok-clause-told g c = λ text e.
    let read = subst (λ (o : Option (List ℕ)). ReadsText o (g.D.Desk.input c.read_text.new.desk).left (Ok c.in-Ok.text)) e c.in-Ok.ensures.text in
    finish_ok (λ n. n) (tets_of c.args.nodes.now) c.tets_in.result text c.in-Ok.text.items _ c.in-Ok.ensures.within read.0 read.1 (subst (λ (zs : List ℕ). Says (λ n. n) c.tets_in.result (tets_of c.args.nodes.now zs)) c.as_slice.ensures.value c.tets_in.ensures.says)

pub returns-in-Err-clause-told : goal.returns-in-Err-clause-told
returns-in-Err-clause-told g c = λ text e. finish_err (λ n. n) (tets_of c.args.nodes.now text) c.in-Err.fault text _ (long_tets c.args.nodes.now text) (subst (λ (o : Option (List ℕ)). ReadsText o (g.D.Desk.input c.read_text.new.desk).left (Err c.in-Err.fault)) e c.in-Err.ensures.text)

pub returns-in-Ok-clause-fault : goal.returns-in-Ok-clause-fault
returns-in-Ok-clause-fault g c = λ e. absurd (never_read_fault (λ n. n) c.tets_in.result _ c.tets_in.ensures.says e)
