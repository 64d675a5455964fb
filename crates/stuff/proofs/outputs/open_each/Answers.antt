use Rattle.std.proofs.Common.{◌≡◌, ℕ, List, sym, ap, subst, ◌∙◌, arith}
use Rattle.formats.specs.declared.Port.TheVariants.{Report, Trouble}
use Rattle.st_base.specs.Desk.{MayTry, PortState, with_name}
use Rattle.stuff.specs.declared.outputs.MeshFile.{MeshFile}
use Rattle.stuff.specs.Ports.{IsOpened, mesh_files, turn}
use Rattle.stuff.specs.Outputs.{mesh_name}
use Rattle.stuff.specs.Writing.{AreOpened, IsThis}
use Rattle.stuff.proofs.FilesInTurn.{file_is_at, last_turn, name_is, one_more_name, perhaps_one_more, same_length}
use Rattle.stuff.proofs.PortEnds.{not_report, not_trouble}
use Rattle.stuff.proofs.Writings.{all_opened, not_opened, one_opened}
use Rattle.stuff.proofs.outputs.open_each.Goals as goal

pub open_output-requires-clause-closed : goal.open_output-requires-clause-closed
open_output-requires-clause-closed g c =
    let f = c.index-files-k.result in
    let at = file_is_at c.args.files.now c.requires.files.0 c.requires.files.1 c.loop-k.k f c.loop-k-test.true f c.index-files-k.is in
    ap (λ (s : PortState). s.is_open) (c.loop-k.invariant.later f.port (omega (arith, at.turn_is))) ∙ c.requires.closed f.port at.file

pub returns-in-Err-clause-reaches : goal.returns-in-Err-clause-reaches
returns-in-Err-clause-reaches g c = λ output faces texts ports names.
    let f = c.index-files-k.result in
    let at = file_is_at c.args.files.now faces ports c.loop-k.k f c.loop-k-test.true f c.index-files-k.is in
    not_opened g.D.Desk.ports (mesh_files faces) (mesh_name output) (IsThis texts) c.args.desk.now f.port c.loop-k.desk c.open_output.new.self at.file at.among
    c.in-Err.ensures.as_before (omega (arith, c.in-Err.ensures.cause.failed)) c.in-Err.ensures.apart.others
    (subst (λ (n : ℕ). AreOpened g.D.Desk.ports (mesh_files faces) n (mesh_name output) (IsThis texts) c.args.desk.now c.loop-k.desk) (sym at.turn_is) (c.loop-k.invariant.opened output faces texts ports names))

pub returns-in-Err-clause-tries : goal.returns-in-Err-clause-tries
returns-in-Err-clause-tries g c =
    let f = c.index-files-k.result in
    perhaps_one_more c.args.files.now c.loop-k.k f (g.D.Desk.tried c.args.desk.now) (g.D.Desk.tried c.loop-k.desk) (g.D.Desk.tried c.open_output.new.self) c.loop-k-test.true c.loop-k.invariant.tried
    (subst (λ (name : List ℕ). MayTry (g.D.Desk.tried c.loop-k.desk) (g.D.Desk.tried c.open_output.new.self) name) (c.deref.ensures.value ∙ ap (λ (m : MeshFile). m.name.items) c.index-files-k.is) c.in-Err.ensures.may_try)

pub returns-in-Err-clause-report : goal.returns-in-Err-clause-report
returns-in-Err-clause-report g c =
    let f = c.index-files-k.result in
    let at = file_is_at c.args.files.now c.requires.files.0 c.requires.files.1 c.loop-k.k f c.loop-k-test.true f c.index-files-k.is in
    c.in-Err.ensures.apart.others Report (λ e. not_report f.port at.file (sym e)) ∙ c.loop-k.invariant.later Report (omega (arith, at.early))

pub returns-in-Err-clause-trouble : goal.returns-in-Err-clause-trouble
returns-in-Err-clause-trouble g c =
    let f = c.index-files-k.result in
    let at = file_is_at c.args.files.now c.requires.files.0 c.requires.files.1 c.loop-k.k f c.loop-k-test.true f c.index-files-k.is in
    c.in-Err.ensures.apart.others Trouble (λ e. not_trouble f.port at.file (sym e)) ∙ c.loop-k.invariant.later Trouble (omega (arith, at.early))

pub loop-k-preserved : goal.loop-k-preserved
loop-k-preserved g c =
    let f = c.index-files-k.result in
    let i = c.loop-k.invariant in
    let e = c.in-Ok.ensures in
    let own = file_is_at c.args.files.now c.requires.files.0 c.requires.files.1 c.loop-k.k f c.loop-k-test.true f c.index-files-k.is in
    let name = c.deref.ensures.value ∙ ap (λ (m : MeshFile). m.name.items) c.index-files-k.is in
    record {
      opened = λ output faces texts ports names.
          let at = file_is_at c.args.files.now faces ports c.loop-k.k f c.loop-k-test.true f c.index-files-k.is in
          let called = name ∙ name_is c.args.files.now faces ports c.loop-k.k f c.loop-k-test.true output names ∙ ap (λ (m : MeshFile). mesh_name output m.port) (sym c.index-files-k.is) in
          let earlier = i.opened output faces texts ports names in
          subst (λ (n : ℕ). AreOpened g.D.Desk.ports (mesh_files faces) n (mesh_name output) (IsThis texts) c.args.desk.now c.open_output.new.self) (omega (arith, at.turn_is))
          (one_opened g.D.Desk.ports (mesh_files faces) (mesh_name output) (IsThis texts) c.args.desk.now f.port c.loop-k.desk c.open_output.new.self at.file at.among
          (subst (λ (n : List ℕ). IsOpened (g.D.Desk.ports c.open_output.new.self f.port) n) called (e.opened, e.told))
          (e.cause.kept ∙ earlier.none f.port (not_trouble f.port at.file)) e.apart.others
          (subst (λ (n : ℕ). AreOpened g.D.Desk.ports (mesh_files faces) n (mesh_name output) (IsThis texts) c.args.desk.now c.loop-k.desk) (sym at.turn_is) earlier));
      tried = one_more_name c.args.files.now c.loop-k.k f (g.D.Desk.tried c.args.desk.now) (g.D.Desk.tried c.loop-k.desk) (g.D.Desk.tried c.open_output.new.self) c.loop-k-test.true i.tried (subst (λ (n : List ℕ). g.D.Desk.tried c.open_output.new.self ≡ with_name (g.D.Desk.tried c.loop-k.desk) n) name e.tried);
      later = λ p le. e.apart.others p (λ same. omega (arith, ap turn same, own.turn_is, le)) ∙ i.later p (omega (arith, le));
      input = e.apart.input ∙ i.input;
      held = λ n. e.apart.held n ∙ i.held n;
    }

pub returns-clause-reaches : goal.returns-clause-reaches
returns-clause-reaches g c = λ output faces texts ports names.
    all_opened g.D.Desk.ports (mesh_files faces) (mesh_name output) (IsThis texts) c.args.desk.now c.loop-k.k c.loop-k.desk
    (λ p m. omega (arith, last_turn faces p m, same_length c.args.files.now faces ports, c.loop-k-test.false)) (c.loop-k.invariant.opened output faces texts ports names)
