use Rattle.std.proofs.Common.{◌+◌, ◌-◌, sym, subst, ◌∙◌}
use Rattle.definitions.specs.Values.{Field}
use Rattle.samples.specs.SignWords.{AreWordsOf}
use Rattle.samples.proofs.Told.{padding_told, row_told}
use Rattle.samples.proofs.field.Field.signs_along.Goals as goal

pub returns-then-row : goal.returns-then-row
returns-then-row c =
    let f = c.args.self.now in
    let same = c.self.view_is in
    let words = subst (λ words. AreWordsOf f.differences words) (sym c.deref.ensures.value) (subst (λ (f : Field). AreWordsOf f.differences c.self.inside.signs.items) same c.self.invariant.1) in
    row_told f c.args.i c.args.j c.args.k (c.row-row.result.start + c.saturating_sub.result) (2 - c.min.result) (c.self.inside.dims.nx + 2 - c.args.i) c.signs_from.result c.padded.result
    (sym c.row-row.ensures.inside ∙ c.if-row.true) c.requires ((λ t. c.row-row.ensures.start t + c.saturating_sub.ensures t)) ((λ t. 2 - c.min.ensures t)) (λ t. (same t).dims.nx + 2 - c.args.i)
    (c.signs_from.ensures f.differences words) c.padded.ensures.inside c.padded.ensures.padding

pub returns-else-row : goal.returns-else-row
returns-else-row c = padding_told c.args.self.now c.args.i c.args.j c.args.k (sym c.row-row.ensures.inside ∙ c.if-row.false)
