use Rattle.std.proofs.Common.{◌≡◌, ℕ, ◌+◌, ◌-◌, ◌<◌, suc, List, true, ◌&&◌, sym, ap, ◌∙◌, arith}
use Rattle.std.specs.List.{range_with_len}
use Rattle.list_words.specs.Words.{has, has_all}
use Rattle.slab_core.proofs.lists.has_range.Goals as goal

one_less : (a b : ℕ) (xs : List ℕ) → a < b → has a xs ≡ true → has_all (range_with_len a (b - a)) xs ≡ has_all (range_with_len (a + 1) (b - (a + 1))) xs
one_less a b xs lt e =
    let s : b - a ≡ suc (b - (a + 1)) = omega arith in
    ap (λ n. has_all (range_with_len a n) xs) s ∙ ap (λ v. v && has_all (range_with_len (a + 1) (b - (a + 1))) xs) e

pub loop-value-preserved : goal.loop-value-preserved
loop-value-preserved c =
    let t = c.loop-value-test.true in
    let h = c.if-not-has.false in
    let i = c.loop-value.invariant in
    (omega arith, sym (one_less c.loop-value.value c.args.to c.args.list.now (omega arith) (sym c.has.ensures ∙ c.if-not-has.false)) ∙ i.1)
