use Rattle.std.proofs.Common.{◌∙◌, sym, ap, arith, Some}
use Rattle.mha_read.proofs.FirstPairs.{value_here, value_later}
use Rattle.mha_read.proofs.pairs.first_value.Goals as goal

pub returns-then-is_name_of : goal.returns-then-is_name_of
returns-then-is_name_of c =
    ap Some c.as_slice.ensures.value
    ∙ sym (value_here c.args.pairs.now c.args.key c.loop-pair.pair-index c.pair-item.result c.deref.result.now (omega arith) c.pair-item.is c.deref.ensures.value (sym c.is_name_of.ensures ∙ c.if-is_name_of.true))
    ∙ c.loop-pair.invariant

pub loop-pair-preserved : goal.loop-pair-preserved
loop-pair-preserved c =
    sym (value_later c.args.pairs.now c.args.key c.loop-pair.pair-index c.pair-item.result c.deref.result.now (omega arith) c.pair-item.is c.deref.ensures.value (sym c.is_name_of.ensures ∙ c.if-is_name_of.false))
    ∙ c.loop-pair.invariant
