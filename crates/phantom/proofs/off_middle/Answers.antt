use Rattle.std.proofs.Common.{◌≤◌, arith}
use Rattle.std.proofs.Math.Nat.{mul-le-mul}
use Rattle.phantom.proofs.off_middle.Goals as goal

pub returns-clause-small : goal.returns-clause-small
returns-clause-small c =
    let d : c.abs_diff-distance.result ≤ 127 = omega arith in
    omega (arith, mul-le-mul d d)
