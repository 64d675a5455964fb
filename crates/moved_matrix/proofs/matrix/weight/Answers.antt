use Rattle.std.proofs.Common.{◌≤◌, ◌+ℤ◌, unsigned_abs, sym, subst, ◌∙◌, w32, FitsSigned, ap}
use Rattle.determinants.proofs.Entries.{as_word, word_is}
use Rattle.definitions.specs.Vectors.{dot}
use Rattle.moved_matrix.proofs.Words.{fits_32, dot_small, weight_small, weight_back}
use Rattle.moved_matrix.proofs.matrix.weight.Goals as goal

pub overflow_cast-result : goal.overflow_cast-result
overflow_cast-result c =
    let d = dot_small c.args.form c.args.shift c.requires.form c.requires.shift in
    subst (FitsSigned w32) (sym (weight_back c.args.base c.dot.result (dot c.args.form c.args.shift) c.requires.base d c.dot.ensures.value)) (fits_32 (c.args.base +ℤ dot c.args.form c.args.shift) (weight_small c.args.base (dot c.args.form c.args.shift) c.requires.base d))

pub returns-clause-value : goal.returns-clause-value
returns-clause-value c =
    let d = dot_small c.args.form c.args.shift c.requires.form c.requires.shift in
    ap as_word (weight_back c.args.base c.dot.result (dot c.args.form c.args.shift) c.requires.base d c.dot.ensures.value)
    ∙ word_is (c.args.base +ℤ dot c.args.form c.args.shift) (weight_small c.args.base (dot c.args.form c.args.shift) c.requires.base d)

pub returns-clause-small : goal.returns-clause-small
returns-clause-small c =
    let d = dot_small c.args.form c.args.shift c.requires.form c.requires.shift in
    subst (λ z. unsigned_abs z ≤ 16384) (sym (returns-clause-value c)) (weight_small c.args.base (dot c.args.form c.args.shift) c.requires.base d)
