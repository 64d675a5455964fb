use Rattle.std.proofs.Common.{rules, arith}
use Rattle.st_base.proofs.Frames.{then_input}
use Rattle.mha_read.proofs.HeadSearch.{goes_on, bad_line, data_line, too_long, refused}
use Rattle.mha_read.proofs.LinesTaken.{all_lines}
use Rattle.mha_read.proofs.reading.read_pairs.Goals as goal

pub returns-in-Err-clause-told : goal.returns-in-Err-clause-told
returns-in-Err-clause-told g c = λ text e.
    let head = c.loop.invariant.read text e in
    refused text c.next_line.new.line.items c.loop.place c.loop.pairs _ _ c.in-Err.fault head (c.in-Err.ensures.told text head.done head.read)

pub returns-in-IsData-clause-told : goal.returns-in-IsData-clause-told
returns-in-IsData-clause-told g c = λ text e.
    let head = c.loop.invariant.read text e in
    let turn = rw (c.in-IsData.is, c.deref.ensures.value) at c.in-Ok-take_line.ensures in
    data_line text c.next_line.new.line.items c.loop.place c.in-Ok.next c.loop.pairs c.take_line.new.pairs _ _ head (c.in-Ok.ensures.told text head.done head.read) turn.0 turn.1 turn.2

pub returns-in-IsBad-clause-told : goal.returns-in-IsBad-clause-told
returns-in-IsBad-clause-told g c = λ text e.
    let head = c.loop.invariant.read text e in
    let turn = rw (c.in-IsBad.is, c.deref.ensures.value) at c.in-Ok-take_line.ensures in
    bad_line text c.next_line.new.line.items c.loop.place c.in-Ok.next c.loop.pairs _ _ head (c.in-Ok.ensures.told text head.done head.read) turn

pub loop-preserved : goal.loop-preserved
loop-preserved g c = record {
  is_open = search rules;
  faults = search rules;
  apart = then_input c.loop.invariant.apart c.in-Ok.ensures.apart;
  turns = search rules;
  within = search rules;
  read = λ text e.
      let head = c.loop.invariant.read text e in
      let turn = rw (c.in-GoesOn.is, c.deref.ensures.value) at c.in-Ok-take_line.ensures in
      goes_on text c.next_line.new.line.items c.loop.place c.in-Ok.next c.loop.pairs c.take_line.new.pairs _ _ head (c.in-Ok.ensures.told text head.done head.read) turn.0 turn.1 turn.2;
}

pub returns-clause-told : goal.returns-clause-told
returns-clause-told g c = λ text e.
    let head = c.loop.invariant.read text e in
    let all = all_lines text c.loop.place _ head.done head.read (omega arith) in
    too_long text c.loop.place c.loop.pairs _ _ head all.0 all.1
