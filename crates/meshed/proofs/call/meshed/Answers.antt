use Rattle.std.proofs.Common.{◌≡◌, ◌∙◌, inl, ap, sym, subst, ℕ, List, Option, Some}
use Rattle.formats.specs.Faults.{trouble_text}
use Rattle.formats.specs.declared.Status.{Status}
use Rattle.formats.specs.declared.Status.TheVariants.{Done}
use Rattle.command_line.specs.Grammar.{AuditFiles}
use Rattle.desk_mem.specs.Meanings.{mem_input, mem_ports, mem_held}
use Rattle.stuff.specs.Inputs.{told_input, IsInput}
use Rattle.stuff.specs.Outputs.{nodes_told, status_of_input, tets_told}
use Rattle.file_audit.specs.Status.{audit_status, AreRead}
use Rattle.stuff.specs.Traces.{IsFieldFor}
use Rattle.meshed.specs.Answers.{Comes, Makes}
use Rattle.meshed.specs.Files.{held_in}
use Rattle.meshed.specs.Taken.{IsTaken}
use Rattle.meshed.proofs.Audited.{found_sound}
use Rattle.meshed.proofs.Making.{judges, line_is, makes, told_is}
use Rattle.meshed.proofs.Statuses.{comes, status_taken}
use Rattle.meshed.proofs.call.meshed.Goals as goal

pub returns-in-Some-clause-bad_words : goal.returns-in-Some-clause-bad_words
returns-in-Some-clause-bad_words g c = λ place bad.
    inl (status_taken c.stuff-outcome.result.status c.stuff-outcome.new.desk c.in-Some.answer c.in-Some.ensures.taken ∙ (c.stuff-outcome.ensures.bad_words place).1 bad)

pub returns-in-Some-clause-told : goal.returns-in-Some-clause-told
returns-in-Some-clause-told g c = λ d text r told.
    let same : mem_held c.in-Ok.desk ≡ held_in c.args.files.now = λ i name. c.in-Ok.ensures.held name i in
    let input : IsInput c.args.words.now (mem_held c.in-Ok.desk) d text =
    record { reads = r; told = ap (λ (held : List ℕ → Option (List ℕ)). told_input held c.args.words.now d) same ∙ told } in
    subst (λ (s : Status). Comes s (status_of_input d text)) (sym (status_taken c.stuff-outcome.result.status c.stuff-outcome.new.desk c.in-Some.answer c.in-Some.ensures.taken))
    (comes c.stuff-outcome.result.status (status_of_input d text) (mem_input c.stuff-outcome.new.desk) (mem_ports c.stuff-outcome.new.desk) c.stuff-outcome.ensures.read_fault c.stuff-outcome.ensures.write_fault
    (λ none ports. c.stuff-outcome.ensures.completes d text input none ports))

pub returns-in-Some-clause-demo : goal.returns-in-Some-clause-demo
returns-in-Some-clause-demo g c = λ size seed plan r.
    subst (λ (s : Status). Comes s Done) (sym (status_taken c.stuff-outcome.result.status c.stuff-outcome.new.desk c.in-Some.answer c.in-Some.ensures.taken))
    (comes c.stuff-outcome.result.status Done (mem_input c.stuff-outcome.new.desk) (mem_ports c.stuff-outcome.new.desk) c.stuff-outcome.ensures.read_fault c.stuff-outcome.ensures.write_fault
    (λ none ports. c.stuff-outcome.ensures.demo_completes size seed plan r ports))

pub returns-in-Some-clause-audit : goal.returns-in-Some-clause-audit
returns-in-Some-clause-audit g c = λ input wanted r told.
    let same : mem_held c.in-Ok.desk ≡ held_in c.args.files.now = λ i name. c.in-Ok.ensures.held name i in
    subst (λ (s : Status). Comes s wanted) (sym (status_taken c.stuff-outcome.result.status c.stuff-outcome.new.desk c.in-Some.answer c.in-Some.ensures.taken))
    (comes c.stuff-outcome.result.status wanted (mem_input c.stuff-outcome.new.desk) (mem_ports c.stuff-outcome.new.desk) c.stuff-outcome.ensures.read_fault c.stuff-outcome.ensures.write_fault
    (λ none ports. c.stuff-outcome.ensures.audit_completes input wanted r (subst (λ (h : List ℕ → Option (List ℕ)). audit_status (nodes_told h c.args.words.now input) (tets_told h c.args.words.now input) ≡ Some wanted) (sym same) told) none ports))

pub returns-in-Some-clause-judged : goal.returns-in-Some-clause-judged
returns-in-Some-clause-judged g c = λ done input r nodes tets are.
    let same : mem_held c.in-Ok.desk ≡ held_in c.args.files.now = λ i name. c.in-Ok.ensures.held name i in
    let is : c.stuff-outcome.result.status ≡ Done = sym (status_taken c.stuff-outcome.result.status c.stuff-outcome.new.desk c.in-Some.answer c.in-Some.ensures.taken) ∙ done in
    let there = subst (λ (h : List ℕ → Option (List ℕ)). AreRead (nodes_told h c.args.words.now input) (tets_told h c.args.words.now input) nodes tets) (sym same) are in
    judges c.args.words.now (mem_held c.in-Ok.desk) input nodes tets c.in-Ok.desk c.stuff-outcome.new.desk c.in-Some.answer c.in-Ok.ensures.start (c.stuff-outcome.ensures.written is (AuditFiles input) r)
    (subst (λ (s : Status). IsTaken s c.stuff-outcome.new.desk c.in-Some.answer) is c.in-Some.ensures.taken) there (c.stuff-outcome.ensures.audit_sound input r is nodes tets there)

pub returns-in-Some-clause-made : goal.returns-in-Some-clause-made
returns-in-Some-clause-made g c = λ done d f r field.
    let same : mem_held c.in-Ok.desk ≡ held_in c.args.files.now = λ i name. c.in-Ok.ensures.held name i in
    let is : c.stuff-outcome.result.status ≡ Done = sym (status_taken c.stuff-outcome.result.status c.stuff-outcome.new.desk c.in-Some.answer c.in-Some.ensures.taken) ∙ done in
    let held : IsFieldFor (mem_held c.in-Ok.desk) c.args.words.now d f = subst (λ (h : List ℕ → Option (List ℕ)). IsFieldFor h c.args.words.now d f) (sym same) field in
    subst (λ (h : List ℕ → Option (List ℕ)). Makes h c.args.words.now d f c.in-Some.answer) same
    (makes c.args.words.now (mem_held c.in-Ok.desk) d f c.in-Ok.desk c.stuff-outcome.new.desk c.in-Some.answer c.in-Ok.ensures.start held (c.stuff-outcome.ensures.written is d r) (c.stuff-outcome.ensures.all_tried is d r)
    (subst (λ (s : Status). IsTaken s c.stuff-outcome.new.desk c.in-Some.answer) is c.in-Some.ensures.taken) (c.stuff-outcome.ensures.sound is d r f held) (c.stuff-outcome.ensures.bounds is d r f held) (c.stuff-outcome.ensures.neighbours is d r f held))

pub returns-in-Some-clause-audited : goal.returns-in-Some-clause-audited
returns-in-Some-clause-audited g c = λ done d m f r e flat field short.
    let made = returns-in-Some-clause-made g c done d f r field in
    found_sound c.args.words.now (held_in c.args.files.now) d m f c.in-Some.answer r e flat field made short

pub returns-in-Some-clause-trouble : goal.returns-in-Some-clause-trouble
returns-in-Some-clause-trouble g c =
    let status = status_taken c.stuff-outcome.result.status c.stuff-outcome.new.desk c.in-Some.answer c.in-Some.ensures.taken in
    inl (told_is c.stuff-outcome.result.status c.stuff-outcome.new.desk c.in-Some.answer c.in-Some.ensures.taken
    ∙ (line_is c.in-Ok.desk c.stuff-outcome.new.desk (trouble_text c.stuff-outcome.result.status) c.in-Ok.ensures.start (c.stuff-outcome.ensures.trouble_whole c.in-Some.ensures.fault)
    ∙ ap trouble_text (sym status)))
