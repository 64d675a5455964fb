use Rattle.std.proofs.Common.{lit<, [], ◌∷◌, refl, sym, subst}
use Rattle.lattice_laws.specs.Kinds.{slot_0, slot_1, slot_2, slot_3}
use Rattle.moved_matrix.specs.Kinds.{as_kind}
use Rattle.moved_matrix.specs.Matrix.{AreForms}
use Rattle.moved_matrix.proofs.MatrixRows.{AreRows, forms_small, is_row, four_rows, rows_dominate, rows_small}
use Rattle.moved_matrix.proofs.Steps.{kind_of_numbered}
use Rattle.moved_matrix.proofs.matrix.moved_matrix.Goals as goal

pub row-requires-clause-forms : goal.row-requires-clause-forms
row-requires-clause-forms c = forms_small c.forms_of-forms.result (as_kind c.kind_of.result) c.forms_of-forms.ensures

pub row-requires-2-clause-forms : goal.row-requires-2-clause-forms
row-requires-2-clause-forms c = forms_small c.forms_of-forms.result (as_kind c.kind_of.result) c.forms_of-forms.ensures

pub row-requires-3-clause-forms : goal.row-requires-3-clause-forms
row-requires-3-clause-forms c = forms_small c.forms_of-forms.result (as_kind c.kind_of.result) c.forms_of-forms.ensures

pub row-requires-4-clause-forms : goal.row-requires-4-clause-forms
row-requires-4-clause-forms c = forms_small c.forms_of-forms.result (as_kind c.kind_of.result) c.forms_of-forms.ensures

-- the four rows
rows : (c : goal.After-row-4) → AreRows c.args.tet.now.at c.args.states (c.row.result ∷ c.row-2.result ∷ c.row-3.result ∷ c.row-4.result ∷ [])
rows c =
    let tet = c.args.tet.now.at in
    let k = kind_of_numbered tet c.args.tet.now.ids c.requires.tet in
    let forms = subst (AreForms c.forms_of-forms.result) (sym (c.kind_of.ensures k.kind k.stands)) c.forms_of-forms.ensures in
    four_rows tet c.args.states c.row.result c.row-2.result c.row-3.result c.row-4.result
    (is_row tet c.args.states k slot_0 c.row.result c.displacement.result (c.requires.near 0 (lit< tt)) c.displacement.ensures.value (λ j. c.row.ensures.value k.kind slot_0 forms refl j))
    (is_row tet c.args.states k slot_1 c.row-2.result c.displacement-2.result (c.requires.near 1 (lit< tt)) c.displacement-2.ensures.value (λ j. c.row-2.ensures.value k.kind slot_1 forms refl j))
    (is_row tet c.args.states k slot_2 c.row-3.result c.displacement-3.result (c.requires.near 2 (lit< tt)) c.displacement-3.ensures.value (λ j. c.row-3.ensures.value k.kind slot_2 forms refl j))
    (is_row tet c.args.states k slot_3 c.row-4.result c.displacement-4.result (c.requires.near 3 (lit< tt)) c.displacement-4.ensures.value (λ j. c.row-4.ensures.value k.kind slot_3 forms refl j))

pub returns-clause-sums : goal.returns-clause-sums
returns-clause-sums c = λ s. ((rows c).row s).sum

pub returns-clause-places : goal.returns-clause-places
returns-clause-places c = λ s. ((rows c).row s).place

pub returns-clause-dominant : goal.returns-clause-dominant
returns-clause-dominant c = rows_dominate c.args.tet.now.at c.args.states (c.row.result ∷ c.row-2.result ∷ c.row-3.result ∷ c.row-4.result ∷ []) (rows c)

pub returns-clause-small : goal.returns-clause-small
returns-clause-small c = rows_small c.row.result c.row-2.result c.row-3.result c.row-4.result c.row.ensures.small c.row-2.ensures.small c.row-3.ensures.small c.row-4.ensures.small
