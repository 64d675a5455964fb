use Rattle.std.proofs.Common.{◌≡◌, List, ℕ, ◌∙◌, subst}
use Rattle.std.specs.Io.KnownBytes.{Appends}
use Rattle.st_base.specs.Desk.{AppendsPart}
use Rattle.formats.specs.Faults.{trouble_text}
use Rattle.formats.specs.declared.Port.TheVariants.{Trouble}
use Rattle.stuff.proofs.Growing.{part_whatever, whole_without_fault, trouble_is}
use Rattle.stuff.proofs.trouble.tell.Goals as goal

pub returns-in_default : goal.returns-in_default
returns-in_default g c =
    let text : c.as_slice.result.now ≡ trouble_text c.args.status =
    c.as_slice.ensures.value ∙ c.fault_line-line.ensures ∙ trouble_is c.args.status c.in_default.not-Done in
    let old = (g.D.Desk.ports c.args.desk.now Trouble).text in
    let new = (g.D.Desk.ports c.put_all.new.desk Trouble).text in
    record {
      is_open = c.put_all.ensures.is_open;
      part = subst (λ (t : List ℕ). AppendsPart old new t) text (part_whatever c.put_all.result old new c.as_slice.result.now c.put_all.ensures.all c.put_all.ensures.part);
      whole = λ none. subst (λ (t : List ℕ). Appends old new t) text (whole_without_fault c.put_all.result _ _ old new c.as_slice.result.now c.put_all.ensures.all c.put_all.ensures.cause c.requires.no_faults none);
      apart = c.put_all.ensures.apart;
      quiet = λ d. absurd (c.in_default.not-Done d);
    }
