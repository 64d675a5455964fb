use Rattle.std.proofs.Common.{◌≡◌, ◌==◌, lit<, [], ◌∷◌}
use Rattle.determinants.proofs.Entries.{as_word}
use Rattle.definitions.specs.Vectors.{place_at}
use Rattle.lattice_laws.specs.Kinds.{Kind, Slot, slot_0, slot_1, slot_2, slot_3, number_of_slot}
use Rattle.displacement_laws.specs.DisplacedRows.{displaced_row}
use Rattle.moved_matrix.specs.Matrix.{AreForms}
use Rattle.moved_matrix.specs.Moved.{by_slot}
use Rattle.moved_matrix.proofs.MatrixRows.{entry_is, four_small}
use Rattle.moved_matrix.proofs.Words.{own_word_small}
use Rattle.moved_matrix.proofs.matrix.row.Goals as goal

pub weight-requires-clause-base : goal.weight-requires-clause-base
weight-requires-clause-base c = own_word_small (c.args.slot == 0) c.own.result c.own.ensures

pub weight-requires-clause-form : goal.weight-requires-clause-form
weight-requires-clause-form c = c.requires.forms 0 (lit< tt)

pub weight-requires-2-clause-base : goal.weight-requires-2-clause-base
weight-requires-2-clause-base c = own_word_small (c.args.slot == 1) c.own-2.result c.own-2.ensures

pub weight-requires-2-clause-form : goal.weight-requires-2-clause-form
weight-requires-2-clause-form c = c.requires.forms 1 (lit< tt)

pub weight-requires-3-clause-base : goal.weight-requires-3-clause-base
weight-requires-3-clause-base c = own_word_small (c.args.slot == 2) c.own-3.result c.own-3.ensures

pub weight-requires-3-clause-form : goal.weight-requires-3-clause-form
weight-requires-3-clause-form c = c.requires.forms 2 (lit< tt)

pub weight-requires-4-clause-base : goal.weight-requires-4-clause-base
weight-requires-4-clause-base c = own_word_small (c.args.slot == 3) c.own-4.result c.own-4.ensures

pub weight-requires-4-clause-form : goal.weight-requires-4-clause-form
weight-requires-4-clause-form c = c.requires.forms 3 (lit< tt)

pub returns-clause-value : goal.returns-clause-value
returns-clause-value c = λ κ s forms at j. go κ s forms at j
  where
    go : (κ : Kind) (s : Slot) → AreForms c.args.forms κ → number_of_slot s ≡ c.args.slot → (j : Slot) → by_slot (as_word c.weight.result ∷ as_word c.weight-2.result ∷ as_word c.weight-3.result ∷ as_word c.weight-4.result ∷ []) j ≡ displaced_row κ s c.args.shift j
    go κ s forms at slot_0 = entry_is κ s slot_0 c.args.slot (place_at c.args.forms 0) c.args.shift c.own.result c.weight.result at (forms slot_0) c.own.ensures c.weight.ensures.value c.weight.ensures.small
    go κ s forms at slot_1 = entry_is κ s slot_1 c.args.slot (place_at c.args.forms 1) c.args.shift c.own-2.result c.weight-2.result at (forms slot_1) c.own-2.ensures c.weight-2.ensures.value c.weight-2.ensures.small
    go κ s forms at slot_2 = entry_is κ s slot_2 c.args.slot (place_at c.args.forms 2) c.args.shift c.own-3.result c.weight-3.result at (forms slot_2) c.own-3.ensures c.weight-3.ensures.value c.weight-3.ensures.small
    go κ s forms at slot_3 = entry_is κ s slot_3 c.args.slot (place_at c.args.forms 3) c.args.shift c.own-4.result c.weight-4.result at (forms slot_3) c.own-4.ensures c.weight-4.ensures.value c.weight-4.ensures.small

pub returns-clause-small : goal.returns-clause-small
returns-clause-small c = four_small c.weight.result c.weight-2.result c.weight-3.result c.weight-4.result c.weight.ensures.small c.weight-2.ensures.small c.weight-3.ensures.small c.weight-4.ensures.small
