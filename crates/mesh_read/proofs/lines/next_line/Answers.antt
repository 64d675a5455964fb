use Rattle.std.proofs.Common.{◌≡◌, ◌+◌, ◌<◌, length, ap, ◌∙◌, sym, arith}
use Rattle.std.proofs.lemmas.List.{nil_from_length, length-drop}
use Rattle.text_words.proofs.WordParts.{zero_is, some_is}
use Rattle.mesh_files.specs.Lines.{lines_from}
use Rattle.mesh_files.proofs.LineSteps.{step_found, step_passed, no_lines}
use Rattle.mesh_read.proofs.lines.next_line.Goals as goal

pub returns-then-has_fields-clause-lines : goal.returns-then-has_fields-clause-lines
returns-then-has_fields-clause-lines c = c.loop-rest.invariant.same ∙ step_found c.loop-rest.place c.loop-rest.rest.now c.content-content.result.now c.behind-later.result.now c.place_of-end.result c.place_of-end.ensures.value c.content-content.ensures.value c.behind-later.ensures (sym c.has_fields.ensures.value ∙ c.if-has_fields.true)

pub loop-rest-preserved : goal.loop-rest-preserved
loop-rest-preserved c =
    let some : 0 < length c.loop-rest.rest.now = some_is _ (sym c.is_empty.ensures ∙ c.loop-rest-test.true) in
    let shorter = ap length c.behind-later.ensures ∙ length-drop (c.place_of-end.result + 1) c.loop-rest.rest.now in
    record {
      same = c.loop-rest.invariant.same ∙ step_passed c.loop-rest.place c.loop-rest.rest.now c.content-content.result.now c.behind-later.result.now c.place_of-end.result c.place_of-end.ensures.value c.content-content.ensures.value c.behind-later.ensures (sym c.has_fields.ensures.value ∙ c.if-has_fields.false);
      from = omega arith;
      within = omega (arith, shorter, c.loop-rest.invariant.more some);
      more = λ h. omega (arith, shorter, c.loop-rest.invariant.more some, h);
      shorter = omega (arith, shorter);
    }

pub returns-clause-lines : goal.returns-clause-lines
returns-clause-lines c =
    let none : length c.loop-rest.rest.now ≡ 0 = zero_is _ (sym c.is_empty.ensures ∙ c.loop-rest-test.false) in
    c.loop-rest.invariant.same ∙ ap (lines_from c.loop-rest.place) (nil_from_length c.loop-rest.rest.now none) ∙ no_lines c.loop-rest.place
