-- To be less is an order of fractions, up to ties.
use Rattle.std.proofs.Common.{◌≡◌, ℕ, ◌*◌, ◌<◌, ◌≤◌, ap, sym, ◌∙◌, arith, inl, inr, ◌⊎◌, true, false, ℤ, pos, ◌*ℤ◌, ◌<ℤ◌, ◌≤ℤ◌}
use Rattle.std.specs.Prelude.{int_lt}
use Rattle.std.proofs.Math.Nat.{mul_comm}
use Rattle.std.proofs.lemmas.Int.{ints}
use Rattle.exact.proofs.IntegerLaws.{mul_left_comm}
use Rattle.exact.proofs.IntegerOrder.{times_monotone, times_cancel, less_or_at_most}
use Rattle.definitions.specs.declared.Cosine.{Cosine}
use Rattle.definitions.specs.Angles.{is_less}
use Rattle.dihedral.proofs.Reductions.{times_strict}

abbrev value : Cosine → ℤ
value a = a.sign *ℤ pos a.num

-- a's value times the denominator of b
abbrev scaled : Cosine → Cosine → ℤ
scaled a b = pos b.den *ℤ value a

scaled-is : (a b : Cosine) → a.sign *ℤ pos (a.num * b.den) ≡ scaled a b
scaled-is a b = ap (λ t. a.sign *ℤ pos t) (mul_comm a.num b.den) ∙ mul_left_comm a.sign (pos b.den) (pos a.num)

is_less-scaled : (a b : Cosine) → is_less a b ≡ int_lt (scaled a b) (scaled b a)
is_less-scaled a b = ap (λ t. int_lt t (b.sign *ℤ pos (b.num * a.den))) (scaled-is a b) ∙ ap (λ t. int_lt (scaled a b) t) (scaled-is b a)

tested : (x y : ℤ) → int_lt x y ≡ true → x <ℤ y
tested x y e = grind (arith, ints)

refused : (x y : ℤ) → int_lt x y ≡ false → y ≤ℤ x
refused x y e = grind (arith, ints)

passes : (x y : ℤ) → x <ℤ y → int_lt x y ≡ true
passes x y h = grind (arith, ints)

fails : (x y : ℤ) → y ≤ℤ x → int_lt x y ≡ false
fails x y h = grind (arith, ints)

chain : (x y z : ℤ) (a b c : ℕ) → 0 < a → 0 < b → 0 < c → (pos b *ℤ x) <ℤ (pos a *ℤ y) → (pos c *ℤ y) <ℤ (pos b *ℤ z) → (pos c *ℤ x) <ℤ (pos a *ℤ z)
chain x y z a b c p q r h k =
    let first = times_strict c (pos b *ℤ x) (pos a *ℤ y) r h in
    let second = times_strict a (pos c *ℤ y) (pos b *ℤ z) p k in
    let middle = mul_left_comm (pos c) (pos a) y in
    let left = mul_left_comm (pos c) (pos b) x in
    let right = mul_left_comm (pos a) (pos b) z in
    let whole : (pos b *ℤ (pos c *ℤ x)) <ℤ (pos b *ℤ (pos a *ℤ z)) = omega (arith, ints) in
    times_cancel b (pos c *ℤ x) (pos a *ℤ z) whole

chain_back : (x y z : ℤ) (a b c : ℕ) → 0 < a → 0 < b → 0 < c → (pos a *ℤ y) ≤ℤ (pos b *ℤ x) → (pos b *ℤ z) ≤ℤ (pos c *ℤ y) → (pos a *ℤ z) ≤ℤ (pos c *ℤ x)
chain_back x y z a b c p q r h k = go (less_or_at_most (pos c *ℤ x) (pos a *ℤ z))
  where
    go : ((pos c *ℤ x) <ℤ (pos a *ℤ z)) ⊎ ((pos a *ℤ z) ≤ℤ (pos c *ℤ x)) → (pos a *ℤ z) ≤ℤ (pos c *ℤ x)
    go (inr l) = l
    go (inl l) =
        let first = times_monotone c (pos a *ℤ y) (pos b *ℤ x) h in
        let second = times_monotone a (pos b *ℤ z) (pos c *ℤ y) k in
        let third = times_strict b (pos c *ℤ x) (pos a *ℤ z) q l in
        let middle = mul_left_comm (pos c) (pos a) y in
        let left = mul_left_comm (pos c) (pos b) x in
        let right = mul_left_comm (pos a) (pos b) z in
        absurd (omega (arith, ints))

pub less_chain : (a b c : Cosine) → 1 ≤ a.den → 1 ≤ b.den → 1 ≤ c.den → is_less a b ≡ true → is_less b c ≡ true → is_less a c ≡ true
less_chain a b c p q r h k =
    is_less-scaled a c
    ∙ passes (scaled a c) (scaled c a) (chain (value a) (value b) (value c) a.den b.den c.den p q r (tested (scaled a b) (scaled b a) (sym (is_less-scaled a b) ∙ h)) (tested (scaled b c) (scaled c b) (sym (is_less-scaled b c) ∙ k)))

pub not_less_chain : (a b c : Cosine) → 1 ≤ a.den → 1 ≤ b.den → 1 ≤ c.den → is_less a b ≡ false → is_less b c ≡ false → is_less a c ≡ false
not_less_chain a b c p q r h k =
    is_less-scaled a c
    ∙ fails (scaled a c) (scaled c a) (chain_back (value a) (value b) (value c) a.den b.den c.den p q r (refused (scaled a b) (scaled b a) (sym (is_less-scaled a b) ∙ h)) (refused (scaled b c) (scaled c b) (sym (is_less-scaled b c) ∙ k)))
