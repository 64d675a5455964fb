use Rattle.std.proofs.Common.{◌∙◌, sym}
use Rattle.text_words.proofs.WordParts.{zero_is, some_is, no_word, one_word}
use Rattle.text_words.proofs.next_word.Goals as goal

pub returns-then-is_empty-clause-words : goal.returns-then-is_empty-clause-words
returns-then-is_empty-clause-words c = no_word c.args.text.now c.leading_blanks.result c.leading_blanks.ensures.value (zero_is _ (sym c.is_empty.ensures ∙ c.if-is_empty.true))

pub returns-clause-words : goal.returns-clause-words
returns-clause-words c = one_word c.args.text.now c.leading_blanks.result c.place_of_blank-at.result c.leading_blanks.ensures.value c.place_of_blank-at.ensures.value (some_is _ (sym c.is_empty.ensures ∙ c.if-is_empty.false))
