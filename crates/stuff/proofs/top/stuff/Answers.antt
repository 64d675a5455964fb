use Rattle.std.proofs.Common.{◌∙◌, ◌≡◌, ◌⊎◌, Option, false, ap, arith, sym, subst, inl, inr}
use Rattle.command_line.specs.Grammar.{AuditFiles, MakeDemo}
use Rattle.st_base.specs.Desk.{InputState, PortState}
use Rattle.file_audit.specs.Opening.{PartlyTaken}
use Rattle.formats.specs.declared.Status.{Status}
use Rattle.stuff.specs.Inputs.{outcome_for, IsInput, IsLeft}
use Rattle.stuff.specs.Outputs.{files_of, file_name, nodes_told, tets_told, IsTextFor}
use Rattle.stuff.specs.Ends.{Accepts, AuditEnds}
use Rattle.stuff.specs.Ports.{TellsFault}
use Rattle.stuff.proofs.Audits.{audit_comes}
use Rattle.stuff.proofs.SoundMeshes.{made_bounded, made_joined, made_sound}
use Rattle.stuff.proofs.InputEndings.{outcome_comes, outcome_read, read_fault_rose, words_bad, bad_words_end, bad_or_read, done_or_no_memory}
use Rattle.stuff.proofs.PortEnds.{start_none, tells_none, ends_later, has_written, no_write_fault, ports_left, not_in_trouble}
use Rattle.stuff.proofs.top.stuff.Goals as goal

pub returns-clause-bad_words : goal.returns-clause-bad_words
returns-clause-bad_words g c = λ place.
    (λ e. bad_words_end c.run-status.result c.args.words.now place c.run-status.ensures.words e, λ bad. words_bad c.run-status.result c.args.words.now place c.run-status.ensures.words bad)

pub returns-clause-write_fault : goal.returns-clause-write_fault
returns-clause-write_fault g c = λ port t.
    subst (λ (s : PortState). TellsFault c.run-status.result port s) (sym (c.tell.ensures.apart.others port t))
    (elim (bad_or_read c.run-status.result c.args.words.now c.run-status.ensures.words) [
      | inl bad ↦ subst (λ (s : PortState). TellsFault c.run-status.result port s) (sym (c.run-status.ensures.unread bad.0 bad.1 port))
          (tells_none g.D.Desk.ports c.run-status.result c.args.desk.now (λ p e. (let q = sym e ∙ bad.1 in cc)) (start_none g.D.Desk.ports (g.D.Desk.input c.args.desk.now) (g.D.Desk.tried c.args.desk.now) c.args.desk.now c.requires) port t)
      | inr read ↦ (c.run-status.ensures.ports read.0 read.1).faults port t
    ])

pub returns-clause-not_trouble : goal.returns-clause-not_trouble
returns-clause-not_trouble g c = λ e.
    elim (bad_or_read c.run-status.result c.args.words.now c.run-status.ensures.words) [
      | inl bad ↦ (let q = sym e ∙ bad.1 in cc)
      | inr read ↦ not_in_trouble g.D.Desk.ports c.run-status.result (files_of read.0) (file_name c.args.words.now read.0) (IsTextFor (g.D.Desk.held c.args.desk.now) c.args.words.now read.0) c.args.desk.now c.run-status.new.desk
          (c.run-status.ensures.ports read.0 read.1) e
    ]

pub returns-clause-ports : goal.returns-clause-ports
returns-clause-ports g c = λ d r.
    ends_later g.D.Desk.ports c.run-status.result (files_of d) (file_name c.args.words.now d) (IsTextFor (g.D.Desk.held c.args.desk.now) c.args.words.now d) c.args.desk.now c.run-status.new.desk c.tell.new.desk
    c.tell.ensures.apart.others (c.run-status.ensures.ports d r)

pub returns-clause-ports_left : goal.returns-clause-ports_left
returns-clause-ports_left g c = λ left p t.
    c.tell.ensures.apart.others p t
    ∙ elim (bad_or_read c.run-status.result c.args.words.now c.run-status.ensures.words) [
      | inl bad ↦ c.run-status.ensures.unread bad.0 bad.1 p
      | inr read ↦ ports_left g.D.Desk.ports c.run-status.result (files_of read.0) (file_name c.args.words.now read.0) (IsTextFor (g.D.Desk.held c.args.desk.now) c.args.words.now read.0) c.args.desk.now c.run-status.new.desk
          left (c.run-status.ensures.ports read.0 read.1) p t
    ]

pub returns-clause-tried : goal.returns-clause-tried
returns-clause-tried g c = λ d r.
    let grown = c.run-status.ensures.tried d r in
    (grown.0, c.tell.ensures.apart.tried ∙ grown.1)

pub returns-clause-sound : goal.returns-clause-sound
returns-clause-sound g c = λ done d r f is. made_sound c.args.words.now d r f

pub returns-clause-bounds : goal.returns-clause-bounds
returns-clause-bounds g c = λ done d r f is. made_bounded c.args.words.now d r f

pub returns-clause-completes : goal.returns-clause-completes
returns-clause-completes g c = λ d text i none ports.
    outcome_comes (IsInput c.args.words.now (g.D.Desk.held c.args.desk.now)) (g.D.Desk.input c.run-status.new.desk) d text i c.run-status.result c.run-status.ensures.input (omega (arith, ap (λ (x : InputState). x.faults) c.tell.ensures.apart.input, none))
    (no_write_fault g.D.Desk.ports c.run-status.result (files_of d) (file_name c.args.words.now d) (IsTextFor (g.D.Desk.held c.args.desk.now) c.args.words.now d) c.args.desk.now c.tell.new.desk
    (ends_later g.D.Desk.ports c.run-status.result (files_of d) (file_name c.args.words.now d) (IsTextFor (g.D.Desk.held c.args.desk.now) c.args.words.now d) c.args.desk.now c.run-status.new.desk c.tell.new.desk
    c.tell.ensures.apart.others (c.run-status.ensures.ports d i.reads)) ports)

pub returns-clause-audit : goal.returns-clause-audit
returns-clause-audit g c = λ input r. (c.run-status.ensures.audit input r).ends

pub returns-clause-audit_completes : goal.returns-clause-audit_completes
returns-clause-audit_completes g c = λ input s r told none ports.
    let d = AuditFiles input in
    audit_comes c.run-status.result s (subst (λ (w : Option Status). AuditEnds c.run-status.result w) told (c.run-status.ensures.audit input r).ends)
    (λ e. absurd (omega (arith, ap (λ (x : InputState). x.faults) c.tell.ensures.apart.input, none, read_fault_rose c.run-status.result (IsInput c.args.words.now (g.D.Desk.held c.args.desk.now)) (g.D.Desk.input c.run-status.new.desk) c.run-status.ensures.input e)))
    (no_write_fault g.D.Desk.ports c.run-status.result (files_of d) (file_name c.args.words.now d) (IsTextFor (g.D.Desk.held c.args.desk.now) c.args.words.now d) c.args.desk.now c.tell.new.desk
    (ends_later g.D.Desk.ports c.run-status.result (files_of d) (file_name c.args.words.now d) (IsTextFor (g.D.Desk.held c.args.desk.now) c.args.words.now d) c.args.desk.now c.run-status.new.desk c.tell.new.desk
    c.tell.ensures.apart.others (c.run-status.ensures.ports d r)) ports)

pub returns-clause-audit_sound : goal.returns-clause-audit_sound
returns-clause-audit_sound g c = λ input r done nodes tets are. (c.run-status.ensures.audit input r).sound done nodes tets are

pub returns-clause-audit_breaks_off : goal.returns-clause-audit_breaks_off
returns-clause-audit_breaks_off g c = λ input r e.
    subst (λ (x : InputState). (x.is_open ≡ false) ⊎ (PartlyTaken (nodes_told (g.D.Desk.held c.args.desk.now) c.args.words.now input) x.left ⊎ PartlyTaken (tets_told (g.D.Desk.held c.args.desk.now) c.args.words.now input) x.left)) (sym c.tell.ensures.apart.input)
    ((c.run-status.ensures.audit input r).taken e)

pub returns-clause-demo_completes : goal.returns-clause-demo_completes
returns-clause-demo_completes g c = λ size seed plan r none.
    let d = MakeDemo size seed plan in
    done_or_no_memory c.run-status.result (c.run-status.ensures.demo size seed plan r).kind
    (no_write_fault g.D.Desk.ports c.run-status.result (files_of d) (file_name c.args.words.now d) (IsTextFor (g.D.Desk.held c.args.desk.now) c.args.words.now d) c.args.desk.now c.tell.new.desk
    (ends_later g.D.Desk.ports c.run-status.result (files_of d) (file_name c.args.words.now d) (IsTextFor (g.D.Desk.held c.args.desk.now) c.args.words.now d) c.args.desk.now c.run-status.new.desk c.tell.new.desk
    c.tell.ensures.apart.others (c.run-status.ensures.ports d r)) none)

pub returns-clause-demo_reads_nothing : goal.returns-clause-demo_reads_nothing
returns-clause-demo_reads_nothing g c = λ size seed plan r. c.tell.ensures.apart.input ∙ (c.run-status.ensures.demo size seed plan r).input_is

pub returns-clause-demo_untouched : goal.returns-clause-demo_untouched
returns-clause-demo_untouched g c = λ size seed plan r e p t. c.tell.ensures.apart.others p t ∙ (c.run-status.ensures.demo size seed plan r).no_memory e p t

pub returns-clause-accepted : goal.returns-clause-accepted
returns-clause-accepted g c = λ d text i.
    elim (c.run-status.ensures.accepted d text i) [
      | inl kept ↦ inl (λ p t. c.tell.ensures.apart.others p t ∙ kept p t)
      | inr read ↦ inr (subst (λ (x : InputState). Accepts (outcome_for d text) text x.left) (sym c.tell.ensures.apart.input) read)
    ]

pub returns-clause-read : goal.returns-clause-read
returns-clause-read g c = λ d text i is.
    subst (λ (x : InputState). IsLeft text (outcome_for d text).taken x.left) (sym c.tell.ensures.apart.input)
    (outcome_read (IsInput c.args.words.now (g.D.Desk.held c.args.desk.now)) (g.D.Desk.input c.run-status.new.desk) d text i c.run-status.result c.run-status.ensures.input is)

pub returns-clause-written : goal.returns-clause-written
returns-clause-written g c = λ done d r.
    has_written g.D.Desk.ports c.run-status.result (files_of d) (file_name c.args.words.now d) (IsTextFor (g.D.Desk.held c.args.desk.now) c.args.words.now d) c.args.desk.now c.tell.new.desk done
    (ends_later g.D.Desk.ports c.run-status.result (files_of d) (file_name c.args.words.now d) (IsTextFor (g.D.Desk.held c.args.desk.now) c.args.words.now d) c.args.desk.now c.run-status.new.desk c.tell.new.desk
    c.tell.ensures.apart.others (c.run-status.ensures.ports d r))

pub returns-clause-all_tried : goal.returns-clause-all_tried
returns-clause-all_tried g c = λ done d r. c.tell.ensures.apart.tried ∙ c.run-status.ensures.all_tried done d r

pub returns-clause-neighbours : goal.returns-clause-neighbours
returns-clause-neighbours g c = λ done d r f is. made_joined c.args.words.now d r f
