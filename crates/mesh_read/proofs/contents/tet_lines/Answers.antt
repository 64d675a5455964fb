use Rattle.std.proofs.Common.{◌≡◌, ◌+◌, ◌∷◌, ◌++◌, [], ◌<◌, ℕ, length, ap, ◌∙◌, sym, subst, arith}
use Rattle.std.proofs.lemmas.Grind.{common_steps}
use Rattle.std.proofs.lemmas.List.{length_push}
use Rattle.std.proofs.lemmas.List.Elements.{All-push}
use Rattle.formats.specs.Heads.{words_of}
use Rattle.mesh_files.specs.Forms.{tet_line}
use Rattle.mesh_files.specs.Lines.{lines_from}
use Rattle.mesh_read.specs.TextLines.{line_of}
use Rattle.mesh_files.proofs.LinesRead.{gone_on, read_more}
use Rattle.mesh_read.proofs.contents.tet_lines.Goals as goal

pub loop-line-preserved : goal.loop-line-preserved
loop-line-preserved c =
    let pushed : c.push.new.self.items ≡ c.loop-line.tets.items ++ c.in-Ok.tet ∷ [] = grind (arith, common_steps) in
    let len : length c.push.new.self.items ≡ length c.loop-line.tets.items + 1 = ap length pushed ∙ length_push c.loop-line.tets.items c.in-Ok.tet in
    let count : length c.loop-line.tets.items ≡ c.len-in-Some.result = sym (c.len-in-Some.ensures ∙ c.loop-line.tets.ok.0) in
    record {
      same =
          c.loop-line.invariant.same
          ∙ ap (gone_on (λ i. tet_line c.args.first c.args.count c.args.head.extra (c.args.first + i)) c.args.head.count (length c.loop-line.tets.items) c.loop-line.tets.items) c.in-Some.ensures.lines
          ∙ read_more (λ i. tet_line c.args.first c.args.count c.args.head.extra (c.args.first + i)) c.args.head.count (length c.loop-line.tets.items) c.loop-line.tets.items (line_of c.in-Some.line) (lines_from c.in-Some.line.next c.in-Some.line.rest.now) c.in-Ok.tet (omega arith) (ap (λ (n : ℕ). tet_line c.args.first c.args.count c.args.head.extra (c.args.first + n) (words_of c.in-Some.line.content.now)) count ∙ sym c.in-Ok.ensures.value)
          ∙ (λ k. gone_on (λ i. tet_line c.args.first c.args.count c.args.head.extra (c.args.first + i)) c.args.head.count (sym len k) (sym pushed k) (lines_from c.in-Some.line.next c.in-Some.line.rest.now));
      few = omega (arith, len, c.in-Some.ensures.ahead);
      within = omega (arith, c.in-Some.ensures.within, c.in-Some.ensures.shorter);
      more = λ h. omega (arith, c.in-Some.ensures.more h, c.in-Some.ensures.shorter);
      four = subst (λ zs. Rattle.std.specs.List.All (λ t. length t ≡ 4) zs) (sym pushed) (All-push (λ t. length t ≡ 4) c.loop-line.tets.items c.in-Ok.tet c.loop-line.invariant.four c.in-Ok.ensures.four);
      of_nodes = subst (λ zs. Rattle.std.specs.List.All (Rattle.std.specs.List.All (λ n. n < c.args.count)) zs) (sym pushed) (All-push (Rattle.std.specs.List.All (λ n. n < c.args.count)) c.loop-line.tets.items c.in-Ok.tet c.loop-line.invariant.of_nodes c.in-Ok.ensures.within);
    }
