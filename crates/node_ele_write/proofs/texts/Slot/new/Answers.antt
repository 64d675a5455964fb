use Rattle.std.proofs.Common.{◌≡◌, ◌+◌, ◌-◌, ap, arith, decimal, drop, length, rules, subst, take}
use Rattle.std.specs.Prelude.{slice_set}
use Rattle.std.proofs.lemmas.List.{length-set}
use Rattle.node_ele_write.specs.Texts.{IsText}
use Rattle.node_ele_write.proofs.Decimals.{small_length}
use Rattle.node_ele_write.proofs.TetLines.{text_made, word_is, word_is_text}
use Rattle.node_ele_write.proofs.texts.Slot.new.Goals as goal

pub write_digits-start-requires : goal.write_digits-start-requires
write_digits-start-requires c =
    let s = small_length c.args.number (omega arith) in
    let e = ap (λ n. length (decimal n)) c.from.ensures in
    (omega arith, omega arith)

pub overflow_sub-start : goal.overflow_sub-start
overflow_sub-start c =
    let s = small_length c.args.number (omega arith) in
    let e = ap (λ n. length (decimal n)) c.from.ensures in
    let w = c.write_digits-start.ensures.start in
    omega arith

pub invariant_of-result : goal.invariant_of-result
invariant_of-result c =
    let s = small_length c.args.number (omega arith) in
    let e = ap (λ n. length (decimal n)) c.from.ensures in
    let w = c.write_digits-start.ensures.start in
    let written : length c.write_digits-start.new.buf ≡ 27 = search rules in
    let sixteen : length c.copy_from_slice.new.self ≡ 16 = search rules in
    let start = c.write_digits-start.result in
    let copied : c.copy_from_slice.new.self ≡ take 16 (drop (start - 1) (slice_set c.write_digits-start.new.buf (start - 1) 32)) = (let k : start - 1 + 16 - (start - 1) ≡ 16 = omega arith in rw k at c.copy_from_slice.ensures.after) in
    let text = subst (λ n. IsText (record { bytes = slice_set c.copy_from_slice.new.self 11 (11 - (start - 1)); number = n })) c.from.ensures (text_made start _ _ _ _ w (omega arith) c.write_digits-start.ensures.written written sixteen copied) in
    word_is_text c.args.number _ c.to_le_bytes.result (rw length-set sixteen) (omega arith) c.to_le_bytes.ensures text

pub returns : goal.returns
returns c =
    let sixteen : length c.copy_from_slice.new.self ≡ 16 = search rules in
    word_is c.args.number _ c.to_le_bytes.result (rw length-set sixteen) (omega arith) c.to_le_bytes.ensures
