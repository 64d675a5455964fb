use Rattle.std.proofs.Common.{◌++◌, sym, ap, ◌∙◌}
use Rattle.std.proofs.lemmas.List.{append-nil}
use Rattle.mesh_lists.proofs.PiecesOfKinds.{no_pieces, pieces_added}
use Rattle.mesh_lists.proofs.kinds.push_framed.Goals as goal

pub returns-then-case-eq0 : goal.returns-then-case-eq0
returns-then-case-eq0 c = λ ss n tet ids h fits p q r s.
    let a = c.args in
    let old = c.args.tets.now.items in
    sym (ap (λ ts. old ++ ts) (no_pieces ss n tet ids h a.frame.now fits a.a.now a.b.now a.c.now a.d.now p q r s c.case_of_signs-case.result.now c.case_of_signs-case.ensures c.if-case-eq0.true) ∙ append-nil old)

pub returns : goal.returns
returns c =
    let a = c.args in
    pieces_added c.push_case.result a.frame.now a.a.now a.b.now a.c.now a.d.now c.case_of_signs-case.result.now c.ten_numbers-numbers.result a.tets.now.items c.push_case.new.tets.items c.case_of_signs-case.ensures c.ten_numbers-numbers.ensures c.push_case.ensures
