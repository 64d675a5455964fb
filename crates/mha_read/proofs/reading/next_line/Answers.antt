use Rattle.std.proofs.Common.{◌+◌, arith, ap, length}
use Rattle.std.proofs.lemmas.List.{length-take}
use Rattle.std.proofs.Math.Nat.{min-le_left}
use Rattle.formats.specs.Counts.{head_limit}
use Rattle.std.specs.declared.result.Result.TheVariants.{Err}
use Rattle.mha_read.proofs.LinesTaken.{one_more, no_more, all_length, cut_short}
use Rattle.mha_read.proofs.reading.next_line.Goals as goal

pub returns-in-Ok-true-clause-told : goal.returns-in-Ok-true-clause-told
returns-in-Ok-true-clause-told g c = λ text done read.
    let t = rw c.in-Ok-true.field-0-test at c.in-Ok-true.ensures.line in
    one_more text c.read_line.new.line.items c.args.place (c.args.place + c.len.result + 1) _ _ done read t (omega arith)

pub returns-then-place-len-eq-LIMIT-clause-told : goal.returns-then-place-len-eq-LIMIT-clause-told
returns-then-place-len-eq-LIMIT-clause-told g c = λ text done read.
    let t = rw c.in-Ok-false.field-0-test at c.in-Ok-false.ensures.line in
    let all = all_length text c.read_line.new.line.items c.args.place _ _ done read t in
    (no_more text c.read_line.new.line.items c.args.place _ _ done read t, omega (arith, all))

pub returns-else-place-len-eq-LIMIT-clause-told : goal.returns-else-place-len-eq-LIMIT-clause-told
returns-else-place-len-eq-LIMIT-clause-told g c = λ text done read.
    let t = rw c.in-Ok-false.field-0-test at c.in-Ok-false.ensures.line in
    let all = all_length text c.read_line.new.line.items c.args.place _ _ done read t in
    (no_more text c.read_line.new.line.items c.args.place _ _ done read t, omega (arith, all, length-take head_limit text, min-le_left head_limit (length text)))

pub returns-in-Err-ReadFault-clause-told : goal.returns-in-Err-ReadFault-clause-told
returns-in-Err-ReadFault-clause-told g c = λ text done read.
    let p = c.in-Err-ReadFault.ensures.part (ap Err c.in-Err-ReadFault.field-0-is) in
    cut_short text c.read_line.new.line.items c.args.place _ _ done read p.0 p.1 p.2
