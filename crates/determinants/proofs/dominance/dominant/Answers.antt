use Rattle.std.proofs.Common.{ℕ, ◌<◌, lit<}
use Rattle.exact.specs.Dominance.{entry}
use Rattle.exact.proofs.Dominance.{minors_positive}
use Rattle.determinants.proofs.Entries.{word_small, above_words, four_together}
use Rattle.determinants.proofs.dominance.dominant.Goals as goal

pub is_above-first-requires-clause-a : goal.is_above-first-requires-clause-a
is_above-first-requires-clause-a c = word_small (entry c.args.matrix 0 1) (c.requires 0 1 (lit< tt) (lit< tt))

pub is_above-first-requires-clause-b : goal.is_above-first-requires-clause-b
is_above-first-requires-clause-b c = word_small (entry c.args.matrix 0 2) (c.requires 0 2 (lit< tt) (lit< tt))

pub is_above-first-requires-clause-c : goal.is_above-first-requires-clause-c
is_above-first-requires-clause-c c = word_small (entry c.args.matrix 0 3) (c.requires 0 3 (lit< tt) (lit< tt))

pub is_above-second-requires-clause-a : goal.is_above-second-requires-clause-a
is_above-second-requires-clause-a c = word_small (entry c.args.matrix 1 0) (c.requires 1 0 (lit< tt) (lit< tt))

pub is_above-second-requires-clause-b : goal.is_above-second-requires-clause-b
is_above-second-requires-clause-b c = word_small (entry c.args.matrix 1 2) (c.requires 1 2 (lit< tt) (lit< tt))

pub is_above-second-requires-clause-c : goal.is_above-second-requires-clause-c
is_above-second-requires-clause-c c = word_small (entry c.args.matrix 1 3) (c.requires 1 3 (lit< tt) (lit< tt))

pub is_above-third-requires-clause-a : goal.is_above-third-requires-clause-a
is_above-third-requires-clause-a c = word_small (entry c.args.matrix 2 0) (c.requires 2 0 (lit< tt) (lit< tt))

pub is_above-third-requires-clause-b : goal.is_above-third-requires-clause-b
is_above-third-requires-clause-b c = word_small (entry c.args.matrix 2 1) (c.requires 2 1 (lit< tt) (lit< tt))

pub is_above-third-requires-clause-c : goal.is_above-third-requires-clause-c
is_above-third-requires-clause-c c = word_small (entry c.args.matrix 2 3) (c.requires 2 3 (lit< tt) (lit< tt))

pub is_above-fourth-requires-clause-a : goal.is_above-fourth-requires-clause-a
is_above-fourth-requires-clause-a c = word_small (entry c.args.matrix 3 0) (c.requires 3 0 (lit< tt) (lit< tt))

pub is_above-fourth-requires-clause-b : goal.is_above-fourth-requires-clause-b
is_above-fourth-requires-clause-b c = word_small (entry c.args.matrix 3 1) (c.requires 3 1 (lit< tt) (lit< tt))

pub is_above-fourth-requires-clause-c : goal.is_above-fourth-requires-clause-c
is_above-fourth-requires-clause-c c = word_small (entry c.args.matrix 3 2) (c.requires 3 2 (lit< tt) (lit< tt))

pub returns-clause-rows : goal.returns-clause-rows
returns-clause-rows c =
    let m = c.args.matrix in
    let s = λ (i j : ℕ) (hi : i < 4) (hj : j < 4). c.requires i j hi hj in
    four_together c.is_above-first.result c.is_above-second.result c.is_above-third.result c.is_above-fourth.result
    (above_words (entry m 0 0) (entry m 0 1) (entry m 0 2) (entry m 0 3) c.is_above-first.result (s 0 0 (lit< tt) (lit< tt)) (s 0 1 (lit< tt) (lit< tt)) (s 0 2 (lit< tt) (lit< tt)) (s 0 3 (lit< tt) (lit< tt)) c.is_above-first.ensures)
    (above_words (entry m 1 1) (entry m 1 0) (entry m 1 2) (entry m 1 3) c.is_above-second.result (s 1 1 (lit< tt) (lit< tt)) (s 1 0 (lit< tt) (lit< tt)) (s 1 2 (lit< tt) (lit< tt)) (s 1 3 (lit< tt) (lit< tt)) c.is_above-second.ensures)
    (above_words (entry m 2 2) (entry m 2 0) (entry m 2 1) (entry m 2 3) c.is_above-third.result (s 2 2 (lit< tt) (lit< tt)) (s 2 0 (lit< tt) (lit< tt)) (s 2 1 (lit< tt) (lit< tt)) (s 2 3 (lit< tt) (lit< tt)) c.is_above-third.ensures)
    (above_words (entry m 3 3) (entry m 3 0) (entry m 3 1) (entry m 3 2) c.is_above-fourth.result (s 3 3 (lit< tt) (lit< tt)) (s 3 0 (lit< tt) (lit< tt)) (s 3 1 (lit< tt) (lit< tt)) (s 3 2 (lit< tt) (lit< tt)) c.is_above-fourth.ensures)

pub returns-clause-minors : goal.returns-clause-minors
returns-clause-minors c = λ h. minors_positive (entry c.args.matrix) ((returns-clause-rows c).0 h)
