use Rattle.std.proofs.Common.{◌≡◌, ℕ, ◌+◌, ◌<◌, ◌≤◌}
use Rattle.definitions.specs.declared.Sign.{Sign}
use Rattle.samples.specs.SignWords.{IsTold}
use Rattle.snap_rule.specs.Alike.{IsSide}
use Rattle.snap_rule.proofs.columns.column_signs.Given as goal

abbrev pub invariant-loop-k : goal.invariant-loop-k
invariant-loop-k l = (s : Sign) (b : ℕ) → IsTold l.signs s b → (c : ℕ) → c + 1 ≡ l.i + b → (k : ℕ) → l.lines.k_low ≤ k → k < l.k → IsSide l.field l.lines s c k
