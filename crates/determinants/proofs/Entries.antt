-- Tests of small numbers of 32 bits: as words they are themselves.
use Rattle.std.proofs.Common.{◌≡◌, ◌<◌, ◌≤◌, ◌^◌, ◌↔◌, Bool, ◌&&◌, IsTrue, unsigned_abs, ℤ, to_z, of_z, w32, arith, sym, subst}
use Rattle.std.proofs.lemmas.Int.{to_z-of_z, fits_signed_from_abs}
use Rattle.std.proofs.lemmas.Bool.{and_parts, and_from}
use Rattle.exact.specs.Dominance.{Above4}

-- a number as 32 bits give it back
abbrev pub as_word : ℤ → ℤ
as_word a = to_z w32 (of_z w32 a)

pub word_is : (a : ℤ) → unsigned_abs a ≤ 16384 → as_word a ≡ a
word_is a h = let small : unsigned_abs a < 2 ^ 31 = omega (arith, h) in to_z-of_z w32 a (fits_signed_from_abs w32 a small)

pub word_small : (a : ℤ) → unsigned_abs a ≤ 16384 → unsigned_abs (as_word a) ≤ 16384
word_small a h = subst (λ z. unsigned_abs z ≤ 16384) (sym (word_is a h)) h

-- what the test of a row says of its numbers
pub above_words : (a b c d : ℤ) (t : Bool) → unsigned_abs a ≤ 16384 → unsigned_abs b ≤ 16384 → unsigned_abs c ≤ 16384 → unsigned_abs d ≤ 16384
    → (IsTrue t ↔ Above4 (as_word a) (as_word b) (as_word c) (as_word d)) → IsTrue t ↔ Above4 a b c d
above_words a b c d t ha hb hc hd e =
    subst (λ z. IsTrue t ↔ Above4 z b c d) (word_is a ha)
    (subst (λ z. IsTrue t ↔ Above4 (as_word a) z c d) (word_is b hb)
    (subst (λ z. IsTrue t ↔ Above4 (as_word a) (as_word b) z d) (word_is c hc) (subst (λ z. IsTrue t ↔ Above4 (as_word a) (as_word b) (as_word c) z) (word_is d hd) e)))

-- four tests together
pub four_together : {A B C D : Type 0} (p q r s : Bool) → IsTrue p ↔ A → IsTrue q ↔ B → IsTrue r ↔ C → IsTrue s ↔ D → IsTrue (((p && q) && r) && s) ↔ (A × B × C × D)
four_together p q r s a b c d = (
  λ h.
      let x = and_parts ((p && q) && r) s h in
      let y = and_parts (p && q) r x.0 in
      let z = and_parts p q y.0 in
      (a.0 z.0, b.0 z.1, c.0 y.1, d.0 x.1),
  λ h. and_from ((p && q) && r) s (and_from (p && q) r (and_from p q (a.1 h.0) (b.1 h.1)) (c.1 h.2)) (d.1 h.3),
)
