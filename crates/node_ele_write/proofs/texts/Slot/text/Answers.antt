use Rattle.std.proofs.Common.{◌≡◌, List, ℕ, arith, length, refl, rules, subst, sym, take, take_all}
use Rattle.std.specs.Prelude.{slice_index}
use Rattle.node_ele_write.specs.Texts.{IsRead}
use Rattle.node_ele_write.proofs.texts.Slot.text.Goals as goal

pub invariant_of-result : goal.invariant_of-result
invariant_of-result c =
    let bytes = c.self.inside.bytes in
    let wide : length bytes ≡ 16 = search rules in
    let same : take 16 bytes ≡ bytes = take_all 16 bytes (omega arith) in
    subst (λ (bs : List ℕ). IsRead bs (slice_index bytes 11)) (sym same) (record { text = c.self.invariant; length_is = refl; wide = wide })
