use Rattle.std.proofs.Common.{sym, codes}
use Rattle.command_words.proofs.Places.{first_is}
use Rattle.command_words.proofs.verbs.verb_of.Goals as goal

pub returns-then-is_word-clause-text : goal.returns-then-is_word-clause-text
returns-then-is_word-clause-text c = first_is c.args.words.now (codes "count") (sym c.if-is_word.ensures)

pub returns-then-is_word-2-clause-text : goal.returns-then-is_word-2-clause-text
returns-then-is_word-2-clause-text c = first_is c.args.words.now (codes "mesh") (sym c.if-is_word-2.ensures)

pub returns-then-is_word-3-clause-text : goal.returns-then-is_word-3-clause-text
returns-then-is_word-3-clause-text c = first_is c.args.words.now (codes "demo") (sym c.if-is_word-3.ensures)

pub returns-then-is_word-4-clause-text : goal.returns-then-is_word-4-clause-text
returns-then-is_word-4-clause-text c = first_is c.args.words.now (codes "audit") (sym c.if-is_word-4.ensures)

pub returns-then-is_word-5-clause-text : goal.returns-then-is_word-5-clause-text
returns-then-is_word-5-clause-text c = first_is c.args.words.now (codes "probe") (sym c.if-is_word-5.ensures)

pub returns-then-is_word-6-clause-text : goal.returns-then-is_word-6-clause-text
returns-then-is_word-6-clause-text c = first_is c.args.words.now (codes "stream") (sym c.if-is_word-6.ensures)
