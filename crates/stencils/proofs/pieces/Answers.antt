use Rattle.std.proofs.Common.{◌≡◌, length, ap, ◌∙◌, rules}
use Rattle.stencils.proofs.PiecesOfCases.{nothing_of_row, pieces_of_row, len_of_row}
use Rattle.stencils.proofs.pieces.Goals as goal

pub returns-then-row-eq0-clause-pieces : goal.returns-then-row-eq0-clause-pieces
returns-then-row-eq0-clause-pieces c =
    let t = c.args.tet.now in
    let len : length c.args.signs ≡ 4 = search rules in
    nothing_of_row t.at t.ids c.args.signs c.requires.tet len c.row_of_signs-row.result.now c.row_of_signs-row.ensures c.if-row-eq0.true

pub returns-then-row-eq0-clause-len : goal.returns-then-row-eq0-clause-len
returns-then-row-eq0-clause-len c =
    let t = c.args.tet.now in
    let len : length c.args.signs ≡ 4 = search rules in
    ap length (nothing_of_row t.at t.ids c.args.signs c.requires.tet len c.row_of_signs-row.result.now c.row_of_signs-row.ensures c.if-row-eq0.true)

pub returns-clause-pieces : goal.returns-clause-pieces
returns-clause-pieces c =
    let t = c.args.tet.now in
    let len : length c.args.signs ≡ 4 = search rules in
    c.keys_of_case.ensures.pieces
    ∙ pieces_of_row t.at t.ids c.args.signs c.requires.tet len c.row_of_signs-row.result.now c.row_of_signs-row.ensures c.frame_of-frame.result.now c.case_of.result.now c.frame_of-frame.ensures c.case_of.ensures c.keys_of-keys.result c.keys_of-keys.ensures

pub returns-clause-len : goal.returns-clause-len
returns-clause-len c =
    let t = c.args.tet.now in
    let len : length c.args.signs ≡ 4 = search rules in
    c.keys_of_case.ensures.len
    ∙ len_of_row t.at t.ids c.args.signs c.requires.tet len c.row_of_signs-row.result.now c.row_of_signs-row.ensures c.frame_of-frame.result.now c.case_of.result.now c.frame_of-frame.ensures c.case_of.ensures
