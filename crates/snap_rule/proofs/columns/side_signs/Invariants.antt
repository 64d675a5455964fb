use Rattle.std.proofs.Common.{◌≡◌, ℕ, ◌+◌, ◌<◌, ◌≤◌}
use Rattle.definitions.specs.declared.Sign.{Sign}
use Rattle.definitions.specs.Values.{corner_difference, sign_of}
use Rattle.samples.specs.SignWords.{IsTold}
use Rattle.snap_rule.proofs.columns.side_signs.Given as goal

abbrev pub invariant-loop-j : goal.invariant-loop-j
invariant-loop-j l = (s : Sign) (b : ℕ) → IsTold l.signs s b → (c : ℕ) → c + 1 ≡ l.i + b → (j : ℕ) → l.fn.lines.j_low ≤ j → j < l.j → sign_of (corner_difference l.field c j l.k) ≡ s
