use Rattle.std.proofs.Common.{◌≡◌, ◌++◌, List, ℕ, OnOk, ap, subst, ◌∙◌}
use Rattle.adjacency.specs.Texts.{face_line}
use Rattle.face_neigh.proofs.Numbering.{face_line_from_zero}
use Rattle.face_neigh.proofs.texts.face_line.Goals as goal

pub returns-clause-text : goal.returns-clause-text
returns-clause-text c =
    subst (λ (t : List ℕ). OnOk c.append_to.result (c.append_to.new.out.items ≡ c.args.out.now.items ++ t))
    (c.fill_face_line.ensures ∙ face_line_from_zero c.from.result c.args.nodes ∙ ap (λ n. face_line (n, c.args.nodes)) c.from.ensures) c.append_to.ensures.ok
