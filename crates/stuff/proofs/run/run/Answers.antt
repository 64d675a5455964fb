use Rattle.std.proofs.Common.{◌≡◌, ◌∙◌, inl, inr, ap, sym, subst, [], ◌∷◌, ◌++◌, List, ℕ}
use Rattle.std.specs.Prelude.{slice_index_or}
use Rattle.file_audit.specs.Status.{audit_status, node_name, ele_name}
use Rattle.formats.specs.declared.Status.{Status}
use Rattle.command_line.specs.Grammar.{IsPlan, Command as Meaning, AuditFiles, MakeDemo}
use Rattle.command_words.specs.Commands.{meaning_of}
use Rattle.command_words.proofs.Places.{one_command}
use Rattle.st_base.specs.Desk.{InputState}
use Rattle.stuff.specs.Inputs.{told_input, IsInput}
use Rattle.stuff.specs.Outputs.{files_of, file_name, all_names, output_names, IsAuditText, IsTextFor, IsTextOf}
use Rattle.stuff.specs.Ports.{IsAtOutput, PortsEnd}
use Rattle.file_audit.specs.Status.{GrowsAlong, with_names}
use Rattle.stuff.specs.Ends.{AuditEnds, AuditOf, HoldsInput}
use Rattle.stuff.proofs.Audits.{audit_input, audit_words}
use Rattle.stuff.proofs.InputEndings.{at_output_words, bad_words, input_along, no_input, none_told, opened}
use Rattle.stuff.proofs.PortEnds.{ends_along}
use Rattle.stuff.proofs.TextsWritten.{audits_files, demo_written, field_told_along, makes_volume, reads_file, told_along}
use Rattle.file_audit.proofs.Tried.{may_grow, same_names}
use Rattle.stuff.proofs.Trying.{one_then, one_then_all}
use Rattle.stuff.proofs.Surveys.{plan_kept}
use Rattle.formats.specs.declared.Status.TheVariants.{ReadFault}
use Rattle.command_line.specs.declared.Plan.{Plan}
use Rattle.stuff.specs.Traces.{IsFieldOf, TraceEnds}
use Rattle.stuff.proofs.Traced.{along, any_field, audited, demo_traced, plan_of_demo, refused}
use Rattle.stuff.proofs.run.run.Goals as goal

pub returns-in-Err-clause-input : goal.returns-in-Err-clause-input
returns-in-Err-clause-input g c = bad_words c.args.words.now (g.D.Desk.held c.args.desk.now) c.in-Err.place (g.D.Desk.input c.args.desk.now) c.in-Err.ensures.place c.requires.start.input_faults

pub returns-in-Err-clause-demo : goal.returns-in-Err-clause-demo
returns-in-Err-clause-demo g c = λ size seed plan r. absurd (c.in-Err.ensures.place.unread (MakeDemo size seed plan) r)

-- ---- a volume from a file

pub work-requires-clause-file : goal.work-requires-clause-file
work-requires-clause-file g c κs within = (c.in-File.input, sym c.source.ensures ∙ c.in-File.is)

pub returns-in-Ok-open_input-clause-input : goal.returns-in-Ok-open_input-clause-input
returns-in-Ok-open_input-clause-input g c =
    let m = meaning_of c.in-Ok.command in
    let file = reads_file c.args.words.now c.in-Ok.command c.in-File.input c.word.result.now (sym c.source.ensures ∙ c.in-File.is) c.word.ensures in
    input_along (HoldsInput (g.D.Desk.input c.open_input.new.self).left m) (IsInput c.args.words.now (g.D.Desk.held c.args.desk.now)) (g.D.Desk.input c.work.new.desk)
    (opened c.args.words.now (g.D.Desk.held c.args.desk.now) m c.word.result.now (g.D.Desk.input c.open_input.new.self).left c.in-Ok.ensures.command file c.in-Ok-open_input.ensures.told) c.work.result c.work.ensures.input

pub returns-in-Ok-open_input-clause-ports : goal.returns-in-Ok-open_input-clause-ports
returns-in-Ok-open_input-clause-ports g c = λ d r.
    let m = meaning_of c.in-Ok.command in
    let file = reads_file c.args.words.now c.in-Ok.command c.in-File.input c.word.result.now (sym c.source.ensures ∙ c.in-File.is) c.word.ensures in
    subst (λ (x : Meaning). PortsEnd g.D.Desk.ports c.work.result (files_of x) (file_name c.args.words.now x) (IsTextFor (g.D.Desk.held c.args.desk.now) c.args.words.now x) c.args.desk.now c.work.new.desk) (one_command c.args.words.now m d c.in-Ok.ensures.command r)
    (ends_along g.D.Desk.ports c.work.result (files_of m) (file_name c.args.words.now m) (IsTextOf (g.D.Desk.input c.open_input.new.self).left m) (IsTextFor (g.D.Desk.held c.args.desk.now) c.args.words.now m)
    c.open_input.new.self c.args.desk.now c.work.new.desk (told_along (g.D.Desk.held c.args.desk.now) c.args.words.now c.word.result.now (g.D.Desk.input c.open_input.new.self).left m file c.in-Ok-open_input.ensures.told) c.in-Ok-open_input.ensures.apart.ports c.work.ensures.ports)

pub returns-in-Ok-open_input-clause-tried : goal.returns-in-Ok-open_input-clause-tried
returns-in-Ok-open_input-clause-tried g c = λ d r.
    let m = meaning_of c.in-Ok.command in
    let file = reads_file c.args.words.now c.in-Ok.command c.in-File.input c.word.result.now (sym c.source.ensures ∙ c.in-File.is) c.word.ensures in
    subst (λ (x : Meaning). GrowsAlong (all_names c.args.words.now x) (g.D.Desk.tried c.args.desk.now) (g.D.Desk.tried c.work.new.desk)) (one_command c.args.words.now m d c.in-Ok.ensures.command r)
    (subst (λ (xs : List (List ℕ)). GrowsAlong (xs ++ output_names c.args.words.now m) (g.D.Desk.tried c.args.desk.now) (g.D.Desk.tried c.work.new.desk)) (sym file.names)
    (one_then _ _ _ c.word.result.now (output_names c.args.words.now m) c.in-Ok-open_input.ensures.tried c.work.ensures.tries))

pub returns-in-Err-open_input-clause-tried : goal.returns-in-Err-open_input-clause-tried
returns-in-Err-open_input-clause-tried g c = λ d r.
    let m = meaning_of c.in-Ok.command in
    let file = reads_file c.args.words.now c.in-Ok.command c.in-File.input c.word.result.now (sym c.source.ensures ∙ c.in-File.is) c.word.ensures in
    subst (λ (x : Meaning). GrowsAlong (all_names c.args.words.now x) (g.D.Desk.tried c.args.desk.now) (g.D.Desk.tried c.open_input.new.self)) (one_command c.args.words.now m d c.in-Ok.ensures.command r)
    (subst (λ (xs : List (List ℕ)). GrowsAlong (xs ++ output_names c.args.words.now m) (g.D.Desk.tried c.args.desk.now) (g.D.Desk.tried c.open_input.new.self)) (sym file.names)
    (may_grow _ _ c.word.result.now (output_names c.args.words.now m) c.in-Err-open_input.ensures.may_try))

pub returns-in-Ok-open_input-clause-all_tried : goal.returns-in-Ok-open_input-clause-all_tried
returns-in-Ok-open_input-clause-all_tried g c = λ done d r.
    let m = meaning_of c.in-Ok.command in
    let file = reads_file c.args.words.now c.in-Ok.command c.in-File.input c.word.result.now (sym c.source.ensures ∙ c.in-File.is) c.word.ensures in
    subst (λ (x : Meaning). g.D.Desk.tried c.work.new.desk ≡ with_names (g.D.Desk.tried c.args.desk.now) (all_names c.args.words.now x)) (one_command c.args.words.now m d c.in-Ok.ensures.command r)
    (subst (λ (xs : List (List ℕ)). g.D.Desk.tried c.work.new.desk ≡ with_names (g.D.Desk.tried c.args.desk.now) (xs ++ output_names c.args.words.now m)) (sym file.names)
    (one_then_all _ _ _ c.word.result.now (output_names c.args.words.now m) c.in-Ok-open_input.ensures.tried (c.work.ensures.all_tried done)))

pub returns-in-Ok-open_input-clause-demo : goal.returns-in-Ok-open_input-clause-demo
returns-in-Ok-open_input-clause-demo g c = λ size seed plan r.
    let file = reads_file c.args.words.now c.in-Ok.command c.in-File.input c.word.result.now (sym c.source.ensures ∙ c.in-File.is) c.word.ensures in
    absurd (file.no_demo size seed plan (one_command c.args.words.now (meaning_of c.in-Ok.command) (MakeDemo size seed plan) c.in-Ok.ensures.command r))

pub returns-in-Err-open_input-clause-demo : goal.returns-in-Err-open_input-clause-demo
returns-in-Err-open_input-clause-demo g c = λ size seed plan r.
    let file = reads_file c.args.words.now c.in-Ok.command c.in-File.input c.word.result.now (sym c.source.ensures ∙ c.in-File.is) c.word.ensures in
    absurd (file.no_demo size seed plan (one_command c.args.words.now (meaning_of c.in-Ok.command) (MakeDemo size seed plan) c.in-Ok.ensures.command r))

-- ---- a volume that is made

pub returns-in-Phantom-clause-words : goal.returns-in-Phantom-clause-words
returns-in-Phantom-clause-words g c = at_output_words c.make_demo.result c.args.words.now (meaning_of c.in-Ok.command) c.make_demo.ensures.kind c.in-Ok.ensures.command

pub returns-in-Phantom-clause-input : goal.returns-in-Phantom-clause-input
returns-in-Phantom-clause-input g c =
    let p = makes_volume c.in-Ok.command c.in-Phantom.size c.in-Phantom.seed (sym c.source.ensures ∙ c.in-Phantom.is) in
    no_input c.make_demo.result c.args.words.now (g.D.Desk.held c.args.desk.now) (meaning_of c.in-Ok.command) (g.D.Desk.input c.make_demo.new.desk) c.in-Ok.ensures.command (ap (told_input (g.D.Desk.held c.args.desk.now) c.args.words.now) p.1)
    c.make_demo.ensures.kind (ap (λ (s : InputState). s.faults) c.make_demo.ensures.apart.input ∙ c.requires.start.input_faults)

pub returns-in-Phantom-clause-ports : goal.returns-in-Phantom-clause-ports
returns-in-Phantom-clause-ports g c = λ d r.
    let m = meaning_of c.in-Ok.command in
    let p = makes_volume c.in-Ok.command c.in-Phantom.size c.in-Phantom.seed (sym c.source.ensures ∙ c.in-Phantom.is) in
    subst (λ (x : Meaning). PortsEnd g.D.Desk.ports c.make_demo.result (files_of x) (file_name c.args.words.now x) (IsTextFor (g.D.Desk.held c.args.desk.now) c.args.words.now x) c.args.desk.now c.make_demo.new.desk) (one_command c.args.words.now m d c.in-Ok.ensures.command r)
    (demo_written g.D.Desk.ports c.make_demo.result c.args.words.now (g.D.Desk.held c.args.desk.now) c.args.desk.now c.make_demo.new.desk m c.in-Phantom.size c.in-Phantom.seed p.0 p.1 (c.make_demo.ensures.ends (λ q. [])))

pub returns-in-Phantom-clause-unread : goal.returns-in-Phantom-clause-unread
returns-in-Phantom-clause-unread g c = λ place e. absurd (subst IsAtOutput e c.make_demo.ensures.kind)

pub returns-in-Phantom-clause-tried : goal.returns-in-Phantom-clause-tried
returns-in-Phantom-clause-tried g c = λ d r.
    let p = makes_volume c.in-Ok.command c.in-Phantom.size c.in-Phantom.seed (sym c.source.ensures ∙ c.in-Phantom.is) in
    subst (λ (x : Meaning). GrowsAlong (all_names c.args.words.now x) (g.D.Desk.tried c.args.desk.now) (g.D.Desk.tried c.make_demo.new.desk)) (sym p.1 ∙ one_command c.args.words.now (meaning_of c.in-Ok.command) d c.in-Ok.ensures.command r)
    (0, c.make_demo.ensures.apart.tried ∙ same_names (g.D.Desk.tried c.args.desk.now))

pub returns-in-Phantom-clause-all_tried : goal.returns-in-Phantom-clause-all_tried
returns-in-Phantom-clause-all_tried g c = λ done d r.
    let p = makes_volume c.in-Ok.command c.in-Phantom.size c.in-Phantom.seed (sym c.source.ensures ∙ c.in-Phantom.is) in
    subst (λ (x : Meaning). g.D.Desk.tried c.make_demo.new.desk ≡ with_names (g.D.Desk.tried c.args.desk.now) (all_names c.args.words.now x)) (sym p.1 ∙ one_command c.args.words.now (meaning_of c.in-Ok.command) d c.in-Ok.ensures.command r)
    (c.make_demo.ensures.apart.tried ∙ same_names (g.D.Desk.tried c.args.desk.now))

pub returns-in-Phantom-clause-none_tried : goal.returns-in-Phantom-clause-none_tried
returns-in-Phantom-clause-none_tried g c = λ place e. absurd (subst IsAtOutput e c.make_demo.ensures.kind)

pub returns-in-Phantom-clause-demo : goal.returns-in-Phantom-clause-demo
returns-in-Phantom-clause-demo g c = λ size seed plan r. record { input_is = c.make_demo.ensures.apart.input; kind = c.make_demo.ensures.kind; no_memory = c.make_demo.ensures.no_memory }

-- ---- the plan

pub work-requires-clause-plan : goal.work-requires-clause-plan
work-requires-clause-plan g c κs within = plan_kept c.in-Ok.command c.in-Ok.ensures.plan

pub make_demo-requires-clause-plan : goal.make_demo-requires-clause-plan
make_demo-requires-clause-plan g c κs within = subst IsPlan (sym c.plan.ensures) (plan_kept c.in-Ok.command c.in-Ok.ensures.plan)

-- ---- the trace

pub returns-in-Err-clause-trace : goal.returns-in-Err-clause-trace
returns-in-Err-clause-trace g c = λ d r. absurd (c.in-Err.ensures.place.unread d r)

pub returns-in-Ok-open_input-clause-trace : goal.returns-in-Ok-open_input-clause-trace
returns-in-Ok-open_input-clause-trace g c = λ d r.
    let m = meaning_of c.in-Ok.command in
    let file = reads_file c.args.words.now c.in-Ok.command c.in-File.input c.word.result.now (sym c.source.ensures ∙ c.in-File.is) c.word.ensures in
    subst (λ (x : Meaning). TraceEnds c.work.result x (IsFieldOf (told_input (g.D.Desk.held c.args.desk.now) c.args.words.now x) x) c.work.new.trace) (one_command c.args.words.now m d c.in-Ok.ensures.command r)
    (along c.work.result m (told_input (g.D.Desk.held c.args.desk.now) c.args.words.now m) (g.D.Desk.input c.open_input.new.self).left c.work.new.trace
    (field_told_along (g.D.Desk.held c.args.desk.now) c.args.words.now c.word.result.now (g.D.Desk.input c.open_input.new.self).left m file c.in-Ok-open_input.ensures.told) c.work.ensures.trace)

pub returns-in-Ok-open_input-clause-untraced : goal.returns-in-Ok-open_input-clause-untraced
returns-in-Ok-open_input-clause-untraced g c = λ place e. absurd (c.work.ensures.words place e)

pub returns-in-Err-open_input-clause-trace : goal.returns-in-Err-open_input-clause-trace
returns-in-Err-open_input-clause-trace g c = λ d r. refused ReadFault d (told_input (g.D.Desk.held c.args.desk.now) c.args.words.now d) any_field c.args.trace.now tt c.requires.no_trace

pub returns-in-Phantom-clause-trace : goal.returns-in-Phantom-clause-trace
returns-in-Phantom-clause-trace g c = λ d r.
    let m = meaning_of c.in-Ok.command in
    let p = makes_volume c.in-Ok.command c.in-Phantom.size c.in-Phantom.seed (sym c.source.ensures ∙ c.in-Phantom.is) in
    subst (λ (x : Meaning). TraceEnds c.make_demo.result x (IsFieldOf (told_input (g.D.Desk.held c.args.desk.now) c.args.words.now x) x) c.make_demo.new.trace) (one_command c.args.words.now m d c.in-Ok.ensures.command r)
    (demo_traced c.make_demo.result m (told_input (g.D.Desk.held c.args.desk.now) c.args.words.now m) c.make_demo.new.trace c.in-Phantom.size c.in-Phantom.seed p.0 c.plan.result.slab p.1
    (ap (λ (x : Plan). x.slab) c.plan.ensures ∙ plan_of_demo c.in-Ok.command c.in-Phantom.size c.in-Phantom.seed p.0 p.1) c.make_demo.ensures.trace)

pub returns-in-Phantom-clause-untraced : goal.returns-in-Phantom-clause-untraced
returns-in-Phantom-clause-untraced g c = λ place e. absurd (subst IsAtOutput e c.make_demo.ensures.kind)

-- ---- what was read before any port was used

pub returns-in-Err-clause-accepted : goal.returns-in-Err-clause-accepted
returns-in-Err-clause-accepted g c = λ d text i. absurd (c.in-Err.ensures.place.unread d i.reads)

pub returns-in-Ok-open_input-clause-accepted : goal.returns-in-Ok-open_input-clause-accepted
returns-in-Ok-open_input-clause-accepted g c = λ d text i.
    let m = meaning_of c.in-Ok.command in
    let file = reads_file c.args.words.now c.in-Ok.command c.in-File.input c.word.result.now (sym c.source.ensures ∙ c.in-File.is) c.word.ensures in
    elim (c.work.ensures.accepted d text (opened c.args.words.now (g.D.Desk.held c.args.desk.now) m c.word.result.now (g.D.Desk.input c.open_input.new.self).left c.in-Ok.ensures.command file c.in-Ok-open_input.ensures.told d text i)) [
      | inl kept ↦ inl (λ p t. kept p t ∙ c.in-Ok-open_input.ensures.apart.ports p)
      | inr read ↦ inr read
    ]

pub returns-in-Err-open_input-clause-accepted : goal.returns-in-Err-open_input-clause-accepted
returns-in-Err-open_input-clause-accepted g c = λ d text i. inl (λ p t. c.in-Err-open_input.ensures.apart.ports p)

pub returns-in-Phantom-clause-accepted : goal.returns-in-Phantom-clause-accepted
returns-in-Phantom-clause-accepted g c = λ d text i.
    let p = makes_volume c.in-Ok.command c.in-Phantom.size c.in-Phantom.seed (sym c.source.ensures ∙ c.in-Phantom.is) in
    absurd (none_told c.args.words.now (g.D.Desk.held c.args.desk.now) (meaning_of c.in-Ok.command) d c.in-Ok.ensures.command (ap (told_input (g.D.Desk.held c.args.desk.now) c.args.words.now) p.1) text i)

-- ---- an audit of one of these

pub returns-in-Err-clause-audit : goal.returns-in-Err-clause-audit
returns-in-Err-clause-audit g c = λ input r. absurd (c.in-Err.ensures.place.unread (AuditFiles input) r)

pub returns-in-Ok-open_input-clause-audit : goal.returns-in-Ok-open_input-clause-audit
returns-in-Ok-open_input-clause-audit g c = λ input r.
    let file = reads_file c.args.words.now c.in-Ok.command c.in-File.input c.word.result.now (sym c.source.ensures ∙ c.in-File.is) c.word.ensures in
    absurd (file.no_audit input (one_command c.args.words.now (meaning_of c.in-Ok.command) (AuditFiles input) c.in-Ok.ensures.command r))

pub returns-in-Err-open_input-clause-audit : goal.returns-in-Err-open_input-clause-audit
returns-in-Err-open_input-clause-audit g c = λ input r.
    let file = reads_file c.args.words.now c.in-Ok.command c.in-File.input c.word.result.now (sym c.source.ensures ∙ c.in-File.is) c.word.ensures in
    absurd (file.no_audit input (one_command c.args.words.now (meaning_of c.in-Ok.command) (AuditFiles input) c.in-Ok.ensures.command r))

pub returns-in-Phantom-clause-audit : goal.returns-in-Phantom-clause-audit
returns-in-Phantom-clause-audit g c = λ input r.
    let p = makes_volume c.in-Ok.command c.in-Phantom.size c.in-Phantom.seed (sym c.source.ensures ∙ c.in-Phantom.is) in
    let q : MakeDemo c.in-Phantom.size c.in-Phantom.seed p.0 ≡ AuditFiles input = sym p.1 ∙ one_command c.args.words.now (meaning_of c.in-Ok.command) (AuditFiles input) c.in-Ok.ensures.command r in
    cc

-- ---- finished files

pub returns-in-Finished-clause-words : goal.returns-in-Finished-clause-words
returns-in-Finished-clause-words g c = audit_words c.audit_finished.result _ c.args.words.now (meaning_of c.in-Ok.command) c.audit_finished.ensures.status c.in-Ok.ensures.command

pub returns-in-Finished-clause-input : goal.returns-in-Finished-clause-input
returns-in-Finished-clause-input g c =
    let m = audits_files c.in-Ok.command c.in-Finished.input (sym c.source.ensures ∙ c.in-Finished.is) in
    audit_input c.audit_finished.result _ (IsInput c.args.words.now (g.D.Desk.held c.args.desk.now)) (g.D.Desk.input c.audit_finished.new.desk) c.audit_finished.ensures.status c.audit_finished.ensures.fault c.audit_finished.ensures.none
    (λ d text i. none_told c.args.words.now (g.D.Desk.held c.args.desk.now) (meaning_of c.in-Ok.command) d c.in-Ok.ensures.command (ap (told_input (g.D.Desk.held c.args.desk.now) c.args.words.now) m) text i)

pub returns-in-Finished-clause-ports : goal.returns-in-Finished-clause-ports
returns-in-Finished-clause-ports g c = λ d r.
    let m = audits_files c.in-Ok.command c.in-Finished.input (sym c.source.ensures ∙ c.in-Finished.is) in
    subst (λ (x : Meaning). PortsEnd g.D.Desk.ports c.audit_finished.result (files_of x) (file_name c.args.words.now x) (IsTextFor (g.D.Desk.held c.args.desk.now) c.args.words.now x) c.args.desk.now c.audit_finished.new.desk)
    (sym m ∙ one_command c.args.words.now (meaning_of c.in-Ok.command) d c.in-Ok.ensures.command r)
    (subst (λ (w : List ℕ). PortsEnd g.D.Desk.ports c.audit_finished.result [] (λ p. []) (IsAuditText (g.D.Desk.held c.args.desk.now (node_name w)) (g.D.Desk.held c.args.desk.now (ele_name w))) c.args.desk.now c.audit_finished.new.desk) c.word-in-Finished.ensures
    (c.audit_finished.ensures.ends (λ p. [])))

pub returns-in-Finished-clause-accepted : goal.returns-in-Finished-clause-accepted
returns-in-Finished-clause-accepted g c = λ d text i.
    let m = audits_files c.in-Ok.command c.in-Finished.input (sym c.source.ensures ∙ c.in-Finished.is) in
    absurd (none_told c.args.words.now (g.D.Desk.held c.args.desk.now) (meaning_of c.in-Ok.command) d c.in-Ok.ensures.command (ap (told_input (g.D.Desk.held c.args.desk.now) c.args.words.now) m) text i)

pub returns-in-Finished-clause-unread : goal.returns-in-Finished-clause-unread
returns-in-Finished-clause-unread g c = λ place e. absurd (subst (λ (s : Status). AuditEnds s (audit_status (g.D.Desk.held c.args.desk.now (node_name c.word-in-Finished.result.now)) (g.D.Desk.held c.args.desk.now (ele_name c.word-in-Finished.result.now)))) e c.audit_finished.ensures.status)

pub returns-in-Finished-clause-none_tried : goal.returns-in-Finished-clause-none_tried
returns-in-Finished-clause-none_tried g c = λ place e. absurd (subst (λ (s : Status). AuditEnds s (audit_status (g.D.Desk.held c.args.desk.now (node_name c.word-in-Finished.result.now)) (g.D.Desk.held c.args.desk.now (ele_name c.word-in-Finished.result.now)))) e c.audit_finished.ensures.status)

pub returns-in-Finished-clause-untraced : goal.returns-in-Finished-clause-untraced
returns-in-Finished-clause-untraced g c = λ place e. absurd (subst (λ (s : Status). AuditEnds s (audit_status (g.D.Desk.held c.args.desk.now (node_name c.word-in-Finished.result.now)) (g.D.Desk.held c.args.desk.now (ele_name c.word-in-Finished.result.now)))) e c.audit_finished.ensures.status)

pub returns-in-Finished-clause-tried : goal.returns-in-Finished-clause-tried
returns-in-Finished-clause-tried g c = λ d r.
    let m = audits_files c.in-Ok.command c.in-Finished.input (sym c.source.ensures ∙ c.in-Finished.is) in
    subst (λ (x : Meaning). GrowsAlong (all_names c.args.words.now x) (g.D.Desk.tried c.args.desk.now) (g.D.Desk.tried c.audit_finished.new.desk)) (sym m ∙ one_command c.args.words.now (meaning_of c.in-Ok.command) d c.in-Ok.ensures.command r)
    (subst (λ (w : List ℕ). GrowsAlong (node_name w ∷ ele_name w ∷ []) (g.D.Desk.tried c.args.desk.now) (g.D.Desk.tried c.audit_finished.new.desk)) c.word-in-Finished.ensures c.audit_finished.ensures.tried)

pub returns-in-Finished-clause-all_tried : goal.returns-in-Finished-clause-all_tried
returns-in-Finished-clause-all_tried g c = λ done d r.
    let m = audits_files c.in-Ok.command c.in-Finished.input (sym c.source.ensures ∙ c.in-Finished.is) in
    subst (λ (x : Meaning). g.D.Desk.tried c.audit_finished.new.desk ≡ with_names (g.D.Desk.tried c.args.desk.now) (all_names c.args.words.now x)) (sym m ∙ one_command c.args.words.now (meaning_of c.in-Ok.command) d c.in-Ok.ensures.command r)
    (subst (λ (w : List ℕ). g.D.Desk.tried c.audit_finished.new.desk ≡ with_names (g.D.Desk.tried c.args.desk.now) (node_name w ∷ ele_name w ∷ [])) c.word-in-Finished.ensures (c.audit_finished.ensures.all_tried done))

pub returns-in-Finished-clause-trace : goal.returns-in-Finished-clause-trace
returns-in-Finished-clause-trace g c = λ d r.
    let m = audits_files c.in-Ok.command c.in-Finished.input (sym c.source.ensures ∙ c.in-Finished.is) in
    audited c.audit_finished.result d (told_input (g.D.Desk.held c.args.desk.now) c.args.words.now d) any_field c.args.trace.now c.in-Finished.input
    (one_command c.args.words.now d (meaning_of c.in-Ok.command) r c.in-Ok.ensures.command ∙ m) c.requires.no_trace

pub returns-in-Finished-clause-demo : goal.returns-in-Finished-clause-demo
returns-in-Finished-clause-demo g c = λ size seed plan r.
    let m = audits_files c.in-Ok.command c.in-Finished.input (sym c.source.ensures ∙ c.in-Finished.is) in
    let q : AuditFiles c.in-Finished.input ≡ MakeDemo size seed plan = sym m ∙ one_command c.args.words.now (meaning_of c.in-Ok.command) (MakeDemo size seed plan) c.in-Ok.ensures.command r in
    cc

pub returns-in-Finished-clause-audit : goal.returns-in-Finished-clause-audit
returns-in-Finished-clause-audit g c = λ input r.
    let m = audits_files c.in-Ok.command c.in-Finished.input (sym c.source.ensures ∙ c.in-Finished.is) in
    let q : AuditFiles c.in-Finished.input ≡ AuditFiles input = sym m ∙ one_command c.args.words.now (meaning_of c.in-Ok.command) (AuditFiles input) c.in-Ok.ensures.command r in
    let same : c.in-Finished.input ≡ input = cc in
    subst (λ (w : List ℕ). AuditOf c.audit_finished.result (g.D.Desk.input c.audit_finished.new.desk) (g.D.Desk.held c.args.desk.now (node_name w)) (g.D.Desk.held c.args.desk.now (ele_name w))) (c.word-in-Finished.ensures ∙ ap (λ (k : ℕ). slice_index_or c.args.words.now k []) same)
    (record {
      ends = c.audit_finished.ensures.status;
      sound = c.audit_finished.ensures.sound;
      taken = λ e. elim (c.audit_finished.ensures.taken e) [
        | inl same ↦ inl (same.is_open ∙ c.requires.start.input_open)
        | inr part ↦ inr part
      ];
    })
