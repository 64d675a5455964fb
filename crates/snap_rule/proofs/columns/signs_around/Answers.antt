use Rattle.std.proofs.Common.{ℕ, ◌+◌, ◌%◌, ◌≤◌}
use Rattle.definitions.specs.declared.Sign.{Sign}
use Rattle.definitions.specs.declared.Sign.TheVariants.{Minus, Zero, Plus}
use Rattle.samples.specs.SignWords.{IsTold}
use Rattle.snap_rule.proofs.Alike.{around_told}
use Rattle.snap_rule.proofs.columns.signs_around.Goals as goal

pub returns : goal.returns
returns c = around_told c.args.field.now c.lines_around-lines.result c.args.h c.args.j c.args.i c.column_signs-signs.result (record { plus = c.with_next.result; zero = c.with_next-2.result; minus = c.with_next-3.result }) c.lines_around-lines.ensures.around c.column_signs-signs.ensures next
  where
    next : (s : Sign) (b : ℕ) → IsTold (record { plus = c.with_next.result; zero = c.with_next-2.result; minus = c.with_next-3.result }) s b → (t : ℕ) → t ≤ 2 + c.args.h % 2 → IsTold c.column_signs-signs.result s (b + t)
    next Plus b h t le = c.with_next.ensures b h t le
    next Zero b h t le = c.with_next-2.ensures b h t le
    next Minus b h t le = c.with_next-3.ensures b h t le
