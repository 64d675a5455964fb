use Rattle.std.proofs.Common.{arith}
use Rattle.samples.proofs.Stars.{sum_kept}
use Rattle.samples.proofs.runs.pairs_of_run.Goals as goal

pub returns-clause-sums : goal.returns-clause-sums
returns-clause-sums c =
    let r = c.args.run in
    let low = c.requires.low in
    let second = c.requires.second in
    let third = c.requires.third in
    let high = c.requires.high in
    λ t. record {
      low = sum_kept r.low r.second (omega arith) (omega arith) t;
      middle = sum_kept r.second r.third (omega arith) (omega arith) t;
      high = sum_kept r.third r.high (omega arith) (omega arith) t;
    }
