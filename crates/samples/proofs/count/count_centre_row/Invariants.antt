use Rattle.std.proofs.Common.{◌≡◌, ◌<◌, ◌^◌, unsigned_abs}
use Rattle.samples.specs.Rows.{side_sum}
use Rattle.samples.specs.SignCounts.{signs_below, one, value_in_row}
use Rattle.samples.proofs.count.count_centre_row.Given as goal

abbrev pub invariant-loop-i : goal.invariant-loop-i
invariant-loop-i l = record {
  side : l.near ≡ side_sum l.field l.i l.j l.k;
  small : unsigned_abs l.near < 2 ^ 36;
  counted : l.signs ≡ signs_below l.i (λ i. one (value_in_row l.field l.fn.h l.j i));
}
