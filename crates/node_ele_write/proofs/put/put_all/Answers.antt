use Rattle.std.proofs.Common.{rules}
use Rattle.node_ele_write.proofs.Growing.{appends_trans, take_more}
use Rattle.st_base.proofs.Frames.{then_port}
use Rattle.node_ele_write.proofs.put.put_all.Goals as goal

pub loop-preserved : goal.loop-preserved
loop-preserved g c = record {
  turns = search rules;
  within = search rules;
  text = appends_trans _ _ _ _ _ _ c.loop.invariant.text c.in-Ok.ensures.text (take_more c.loop.from c.in-Ok.count c.args.bytes.now);
  faults = search rules;
  is_open = search rules;
  name = search rules;
  apart = then_port c.loop.invariant.apart c.in-Ok.ensures.apart;
}
