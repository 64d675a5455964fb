use Rattle.std.proofs.Common.{◌∙◌}
use Rattle.std.proofs.Math.IntN.{pos, ◌*ℤ◌}
use Rattle.samples.specs.Stars.{sum_squares}
use Rattle.samples.proofs.Stars.{read, eightfold_kept}
use Rattle.samples.proofs.star.star_of_planes.Goals as goal

pub returns-clause-star : goal.returns-clause-star
returns-clause-star c =
    let low = c.requires.low in
    let middle = c.requires.middle in
    let high = c.requires.high in
    λ t. record {
      own = eightfold_kept c.args.middle.middle.middle middle.middle.middle t;
      x = (c.eightfold.ensures.values ∙ (λ u. record { low = pos 8 *ℤ read c.args.middle.middle.low middle.middle.low u; high = pos 8 *ℤ read c.args.middle.middle.high middle.middle.high u })) t;
      y = (c.eightfold-2.ensures.values ∙ (λ u. record { low = pos 8 *ℤ read c.args.middle.low.middle middle.low.middle u; high = pos 8 *ℤ read c.args.middle.high.middle middle.high.middle u })) t;
      z = (c.eightfold-3.ensures.values ∙ (λ u. record { low = pos 8 *ℤ read c.args.low.middle.middle low.middle.middle u; high = pos 8 *ℤ read c.args.high.middle.middle high.middle.middle u })) t;
      short = record {
        low = (c.sum_squares.ensures.sums ∙ (λ u. sum_squares (c.squares-low_squares.ensures.sums u) (c.squares-middle_squares.ensures.sums u))) t;
        high = (c.sum_squares-2.ensures.sums ∙ (λ u. sum_squares (c.squares-middle_squares.ensures.sums u) (c.squares-high_squares.ensures.sums u))) t;
      };
    }
