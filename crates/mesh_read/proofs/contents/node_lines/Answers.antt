use Rattle.std.proofs.Common.{◌≡◌, ◌+◌, ◌∷◌, ◌++◌, [], ℕ, length, ap, ◌∙◌, sym, subst, arith}
use Rattle.std.proofs.lemmas.Grind.{common_steps}
use Rattle.std.proofs.lemmas.List.{length_push}
use Rattle.std.proofs.lemmas.List.Elements.{All-push}
use Rattle.formats.specs.Heads.{words_of}
use Rattle.mesh_files.specs.Files.{IsSmallPlace}
use Rattle.mesh_files.specs.Forms.{node_line}
use Rattle.mesh_files.specs.Lines.{lines_from}
use Rattle.mesh_read.specs.TextLines.{line_of}
use Rattle.mesh_files.proofs.LinesRead.{gone_on, read_more}
use Rattle.mesh_read.proofs.contents.node_lines.Goals as goal

pub loop-line-preserved : goal.loop-line-preserved
loop-line-preserved c =
    let pushed : c.push.new.self.items ≡ c.loop-line.places.items ++ c.in-Ok.node ∷ [] = grind (arith, common_steps) in
    let len : length c.push.new.self.items ≡ length c.loop-line.places.items + 1 = ap length pushed ∙ length_push c.loop-line.places.items c.in-Ok.node in
    let count : length c.loop-line.places.items ≡ c.len-in-Some.result = sym (c.len-in-Some.ensures ∙ c.loop-line.places.ok.0) in
    record {
      same =
          c.loop-line.invariant.same
          ∙ ap (gone_on (λ i. node_line c.args.head.extra (c.args.first + i)) c.args.head.count (length c.loop-line.places.items) c.loop-line.places.items) c.in-Some.ensures.lines
          ∙ read_more (λ i. node_line c.args.head.extra (c.args.first + i)) c.args.head.count (length c.loop-line.places.items) c.loop-line.places.items (line_of c.in-Some.line) (lines_from c.in-Some.line.next c.in-Some.line.rest.now) c.in-Ok.node (omega arith) (ap (λ (n : ℕ). node_line c.args.head.extra (c.args.first + n) (words_of c.in-Some.line.content.now)) count ∙ sym c.in-Ok.ensures.value)
          ∙ (λ k. gone_on (λ i. node_line c.args.head.extra (c.args.first + i)) c.args.head.count (sym len k) (sym pushed k) (lines_from c.in-Some.line.next c.in-Some.line.rest.now));
      few = omega (arith, len, c.in-Some.ensures.ahead);
      within = omega (arith, c.in-Some.ensures.within, c.in-Some.ensures.shorter);
      more = λ h. omega (arith, c.in-Some.ensures.more h, c.in-Some.ensures.shorter);
      small = subst (λ zs. Rattle.std.specs.List.All IsSmallPlace zs) (sym pushed) (All-push IsSmallPlace c.loop-line.places.items c.in-Ok.node c.loop-line.invariant.small c.in-Ok.ensures.small);
    }
