use Rattle.std.proofs.Common.{◌≡◌, List, length, ap, sym, subst, rules, arith}
use Rattle.std.specs.Fork.{ChangesEach}
use Rattle.crews.proofs.Workers.{written}
use Rattle.crews.proofs.run_each.Goals as goal

pub returns-clause-changes : goal.returns-clause-changes
returns-clause-changes g c =
    let is = c.as_mut_slice.ensures.value in
    let same = ap length is in
    let long : length c.for_each_mut.new.s ≡ length c.as_mut_slice.result.now = c.for_each_mut.auto.s in
    let whole : c.args.workers.len ≡ length c.args.workers.items = let o = c.args.workers.ok in search rules in
    let back = written c.for_each_mut.new.s c.args.workers.items c.args.workers.len (omega arith) (omega arith) in
    subst (λ (r : List g.row.W.Denot). ChangesEach g.F.Fn c.args.job.now c.args.workers.items r) (sym back)
    (subst (λ (r : List g.row.W.Denot). ChangesEach g.F.Fn c.args.job.now r c.for_each_mut.new.s) is c.for_each_mut.ensures)
