-- Triangles with the same nodes have the same key, and only those.
use Rattle.std.proofs.Common.{◌≡◌, ◌≢◌, ℕ, ◌+◌, ◌-◌, ◌*◌, ◌^◌, ◌<◌, ◌≤◌, ◌⊎◌, inl, inr, List, [], ◌∷◌, true, false, ◌&&◌, ◌||◌, eqb, refl, sym, ◌∙◌, subst, arith, min, max}
use Rattle.std.specs.List.{list_all}
use Rattle.std.proofs.lemmas.Bool.{cases_eq, cases_lt, eqb-true, eq-eqb, or_cases, or_left, or_right, and_parts, and_from}
use Rattle.list_words.proofs.Tests.{same_tests}
use Rattle.definitions.specs.Soundness.{same_nodes, is_in}
use Rattle.mesh_audit.specs.Triangles.{key_of, AreDistinct, IsPlain}
use Rattle.mesh_files.specs.Verdicts.{same_direction}

abbrev pub Among : ℕ → ℕ → ℕ → ℕ → Type 0
Among n a b c = (n ≡ a) ⊎ ((n ≡ b) ⊎ (n ≡ c))

abbrev low : ℕ → ℕ → ℕ → ℕ
low a b c = min (min a b) c

abbrev high : ℕ → ℕ → ℕ → ℕ
high a b c = max (max a b) c

abbrev mid : ℕ → ℕ → ℕ → ℕ
mid a b c = a + b + c - (low a b c + high a b c)

low_most : (a b c n : ℕ) → Among n a b c → low a b c ≤ n
low_most a b c n (inl e) = omega arith
low_most a b c n (inr (inl e)) = omega arith
low_most a b c n (inr (inr e)) = omega arith

high_least : (a b c n : ℕ) → Among n a b c → n ≤ high a b c
high_least a b c n (inl e) = omega arith
high_least a b c n (inr (inl e)) = omega arith
high_least a b c n (inr (inr e)) = omega arith

low_among : (a b c : ℕ) → Among (low a b c) a b c
low_among a b c = go (cases_eq (low a b c) a) (cases_eq (low a b c) b)
  where
    go : (low a b c ≡ a) ⊎ (low a b c ≡ a → ⊥) → (low a b c ≡ b) ⊎ (low a b c ≡ b → ⊥) → Among (low a b c) a b c
    go (inl e) q = inl e
    go (inr n) (inl e) = inr (inl e)
    go (inr n) (inr m) = inr (inr (omega arith))

high_among : (a b c : ℕ) → Among (high a b c) a b c
high_among a b c = go (cases_eq (high a b c) a) (cases_eq (high a b c) b)
  where
    go : (high a b c ≡ a) ⊎ (high a b c ≡ a → ⊥) → (high a b c ≡ b) ⊎ (high a b c ≡ b → ⊥) → Among (high a b c) a b c
    go (inl e) q = inl e
    go (inr n) (inl e) = inr (inl e)
    go (inr n) (inr m) = inr (inr (omega arith))

mid_sum : (a b c : ℕ) → low a b c + high a b c + mid a b c ≡ a + b + c
mid_sum a b c = let h : low a b c + high a b c ≤ a + b + c = omega arith in omega arith

mid_among_of : (a b c m : ℕ) → low a b c + high a b c + m ≡ a + b + c → Among m a b c
mid_among_of a b c m e = go (cases_eq m a) (cases_eq m b)
  where
    go : (m ≡ a) ⊎ (m ≡ a → ⊥) → (m ≡ b) ⊎ (m ≡ b → ⊥) → Among m a b c
    go (inl h) q = inl h
    go (inr n) (inl h) = inr (inl h)
    go (inr n) (inr k) = inr (inr (omega arith))

mid_among : (a b c : ℕ) → Among (mid a b c) a b c
mid_among a b c = mid_among_of a b c (mid a b c) (mid_sum a b c)

-- each of three numbers is the lowest, the middle one or the highest
is_one_of : (a b c n m : ℕ) → Among n a b c → low a b c + high a b c + m ≡ a + b + c → Among n (low a b c) m (high a b c)
is_one_of a b c n m h e = go (cases_eq n (low a b c)) (cases_eq n (high a b c))
  where
    between : Among n a b c → low a b c < n → n < high a b c → n ≡ m
    between (inl f) p q = omega arith
    between (inr (inl f)) p q = omega arith
    between (inr (inr f)) p q = omega arith

    go : (n ≡ low a b c) ⊎ (n ≡ low a b c → ⊥) → (n ≡ high a b c) ⊎ (n ≡ high a b c → ⊥) → Among n (low a b c) m (high a b c)
    go (inl f) q = inl f
    go (inr f) (inl g) = inr (inr g)
    go (inr f) (inr g) =
        let p = low_most a b c n h in
        let q = high_least a b c n h in
        let below : low a b c < n = strictly (low a b c) n p (λ e. f (sym e)) in
        let above : n < high a b c = strictly n (high a b c) q g in
        inr (inl (between h below above))
      where
        strictly : (x y : ℕ) → x ≤ y → (x ≡ y → ⊥) → x < y
        strictly x y le ne = omega arith

apart : (a b : ℕ) → a ≢ b → (a < b) ⊎ (b < a)
apart a b ne = go (cases_lt a b)
  where
    go : (a < b) ⊎ (b ≤ a) → (a < b) ⊎ (b < a)
    go (inl h) = inl h
    go (inr h) = inr (omega arith)

strictly_between : (a b c m : ℕ) → AreDistinct a b c → low a b c + high a b c + m ≡ a + b + c → (low a b c < m) × (m < high a b c)
strictly_between a b c m d e = go (apart a b d.ab) (apart a c d.ac) (apart b c d.bc)
  where
    go : (a < b) ⊎ (b < a) → (a < c) ⊎ (c < a) → (b < c) ⊎ (c < b) → (low a b c < m) × (m < high a b c)
    go (inl p) (inl q) (inl r) = (omega arith, omega arith)
    go (inl p) (inl q) (inr r) = (omega arith, omega arith)
    go (inl p) (inr q) (inl r) = (omega arith, omega arith)
    go (inl p) (inr q) (inr r) = (omega arith, omega arith)
    go (inr p) (inl q) (inl r) = (omega arith, omega arith)
    go (inr p) (inl q) (inr r) = (omega arith, omega arith)
    go (inr p) (inr q) (inl r) = (omega arith, omega arith)
    go (inr p) (inr q) (inr r) = (omega arith, omega arith)

-- what is among the nodes of one triangle is among those of another
abbrev Within : ℕ → ℕ → ℕ → ℕ → ℕ → ℕ → Type 0
Within a b c x y z = (n : ℕ) → Among n a b c → Among n x y z

pub record SameNumbers (a b c x y z : ℕ) : Type 0 where
  pub low : low a b c ≡ low x y z
  pub mid : mid a b c ≡ mid x y z
  pub high : high a b c ≡ high x y z

numbers_from_within : (a b c x y z : ℕ) → AreDistinct a b c → AreDistinct x y z → Within a b c x y z → Within x y z a b c → SameNumbers a b c x y z
numbers_from_within a b c x y z d e f g =
    let p = low_most x y z (low a b c) (f (low a b c) (low_among a b c)) in
    let q = low_most a b c (low x y z) (g (low x y z) (low_among x y z)) in
    let r = high_least x y z (high a b c) (f (high a b c) (high_among a b c)) in
    let s = high_least a b c (high x y z) (g (high x y z) (high_among x y z)) in
    let l : low a b c ≡ low x y z = antisymmetric (low a b c) (low x y z) q p in
    let h : high a b c ≡ high x y z = antisymmetric (high a b c) (high x y z) r s in
    record { low = l; high = h; mid = same_mid l h (is_one_of x y z (mid a b c) (mid x y z) (f (mid a b c) (mid_among a b c)) (mid_sum x y z)) }
  where
    antisymmetric : (m n : ℕ) → m ≤ n → n ≤ m → m ≡ n
    antisymmetric m n p q = omega arith

    same_mid : low a b c ≡ low x y z → high a b c ≡ high x y z → Among (mid a b c) (low x y z) (mid x y z) (high x y z) → mid a b c ≡ mid x y z
    same_mid l h (inl k) = let s = strictly_between a b c (mid a b c) d (mid_sum a b c) in absurd (not_below (mid a b c) (low a b c) (l ∙ sym k) s.0)
      where
        not_below : (m n : ℕ) → n ≡ m → n < m → ⊥
        not_below m n p q = omega arith
    same_mid l h (inr (inl k)) = k
    same_mid l h (inr (inr k)) = let s = strictly_between a b c (mid a b c) d (mid_sum a b c) in absurd (not_below (mid a b c) (high a b c) (k ∙ sym h) s.1)
      where
        not_below : (m n : ℕ) → m ≡ n → m < n → ⊥
        not_below m n p q = omega arith

within_from_numbers : (a b c x y z : ℕ) → SameNumbers a b c x y z → Within a b c x y z
within_from_numbers a b c x y z s n h = go (is_one_of a b c n (mid a b c) h (mid_sum a b c))
  where
    go : Among n (low a b c) (mid a b c) (high a b c) → Among n x y z
    go (inl e) = subst (λ (k : ℕ). Among k x y z) (sym (e ∙ s.low)) (low_among x y z)
    go (inr (inl e)) = subst (λ (k : ℕ). Among k x y z) (sym (e ∙ s.mid)) (mid_among x y z)
    go (inr (inr e)) = subst (λ (k : ℕ). Among k x y z) (sym (e ∙ s.high)) (high_among x y z)

same_sides : (a b c x y z : ℕ) → SameNumbers a b c x y z → SameNumbers x y z a b c
same_sides a b c x y z s = record { low = sym s.low; mid = sym s.mid; high = sym s.high }

digits : (l m g l' m' g' : ℕ) → m < 2 ^ 32 → g < 2 ^ 32 → m' < 2 ^ 32 → g' < 2 ^ 32 → (l * 2 ^ 32 + m) * 2 ^ 32 + g ≡ (l' * 2 ^ 32 + m') * 2 ^ 32 + g' → (l ≡ l') × (m ≡ m') × (g ≡ g')
digits l m g l' m' g' p q r s e = (omega arith, omega arith, omega arith)

among_fits : (a b c n : ℕ) → a < 2 ^ 32 → b < 2 ^ 32 → c < 2 ^ 32 → Among n a b c → n < 2 ^ 32
among_fits a b c n p q r (inl e) = omega arith
among_fits a b c n p q r (inr (inl e)) = omega arith
among_fits a b c n p q r (inr (inr e)) = omega arith

-- tests and what they mean
among_from_is_in : (a b c n : ℕ) → is_in (a ∷ b ∷ c ∷ []) n ≡ true → Among n a b c
among_from_is_in a b c n h = first (or_cases (eqb a n) (eqb b n || (eqb c n || false)) h)
  where
    third : (eqb c n ≡ true) ⊎ (false ≡ true) → Among n a b c
    third (inl e) = inr (inr (sym (eqb-true c n e)))
    third (inr e) = cc

    second : (eqb b n ≡ true) ⊎ ((eqb c n || false) ≡ true) → Among n a b c
    second (inl e) = inr (inl (sym (eqb-true b n e)))
    second (inr e) = third (or_cases (eqb c n) false e)

    first : (eqb a n ≡ true) ⊎ ((eqb b n || (eqb c n || false)) ≡ true) → Among n a b c
    first (inl e) = inl (sym (eqb-true a n e))
    first (inr e) = second (or_cases (eqb b n) (eqb c n || false) e)

is_in_from_among : (a b c n : ℕ) → Among n a b c → is_in (a ∷ b ∷ c ∷ []) n ≡ true
is_in_from_among a b c n (inl e) = or_left (eqb a n) (eqb b n || (eqb c n || false)) (eq-eqb a n (sym e))
is_in_from_among a b c n (inr (inl e)) = or_right (eqb a n) (eqb b n || (eqb c n || false)) (or_left (eqb b n) (eqb c n || false) (eq-eqb b n (sym e)))
is_in_from_among a b c n (inr (inr e)) = or_right (eqb a n) (eqb b n || (eqb c n || false)) (or_right (eqb b n) (eqb c n || false) (or_left (eqb c n) false (eq-eqb c n (sym e))))

pub within_from_all : (a b c x y z : ℕ) → list_all (is_in (x ∷ y ∷ z ∷ [])) (a ∷ b ∷ c ∷ []) ≡ true → Within a b c x y z
within_from_all a b c x y z h n among =
    let p = and_parts (is_in (x ∷ y ∷ z ∷ []) a) (is_in (x ∷ y ∷ z ∷ []) b && (is_in (x ∷ y ∷ z ∷ []) c && true)) h in
    let q = and_parts (is_in (x ∷ y ∷ z ∷ []) b) (is_in (x ∷ y ∷ z ∷ []) c && true) p.1 in
    let r = and_parts (is_in (x ∷ y ∷ z ∷ []) c) true q.1 in
    go p.0 q.0 r.0 among
  where
    go : is_in (x ∷ y ∷ z ∷ []) a ≡ true → is_in (x ∷ y ∷ z ∷ []) b ≡ true → is_in (x ∷ y ∷ z ∷ []) c ≡ true → Among n a b c → Among n x y z
    go p q r (inl e) = subst (λ (k : ℕ). Among k x y z) (sym e) (among_from_is_in x y z a p)
    go p q r (inr (inl e)) = subst (λ (k : ℕ). Among k x y z) (sym e) (among_from_is_in x y z b q)
    go p q r (inr (inr e)) = subst (λ (k : ℕ). Among k x y z) (sym e) (among_from_is_in x y z c r)

pub all_from_within : (a b c x y z : ℕ) → Within a b c x y z → list_all (is_in (x ∷ y ∷ z ∷ [])) (a ∷ b ∷ c ∷ []) ≡ true
all_from_within a b c x y z f =
    and_from (is_in (x ∷ y ∷ z ∷ []) a) (is_in (x ∷ y ∷ z ∷ []) b && (is_in (x ∷ y ∷ z ∷ []) c && true)) (is_in_from_among x y z a (f a (inl refl)))
    (and_from (is_in (x ∷ y ∷ z ∷ []) b) (is_in (x ∷ y ∷ z ∷ []) c && true) (is_in_from_among x y z b (f b (inr (inl refl))))
    (and_from (is_in (x ∷ y ∷ z ∷ []) c) true (is_in_from_among x y z c (f c (inr (inr refl)))) refl))

key_from_numbers : (a b c x y z : ℕ) → SameNumbers a b c x y z → key_of (a ∷ b ∷ c ∷ []) ≡ key_of (x ∷ y ∷ z ∷ [])
unfolding key_of
key_from_numbers a b c x y z s = λ i. (s.low i * 2 ^ 32 + s.mid i) * 2 ^ 32 + s.high i

numbers_from_key : (a b c x y z : ℕ) → mid a b c < 2 ^ 32 → high a b c < 2 ^ 32 → mid x y z < 2 ^ 32 → high x y z < 2 ^ 32 → key_of (a ∷ b ∷ c ∷ []) ≡ key_of (x ∷ y ∷ z ∷ []) → SameNumbers a b c x y z
unfolding key_of
numbers_from_key a b c x y z p q r s e =
    let d = digits (low a b c) (mid a b c) (high a b c) (low x y z) (mid x y z) (high x y z) p q r s e in
    record { low = d.0; mid = d.1; high = d.2 }

same_key_at : (a b c x y z : ℕ) → AreDistinct a b c → AreDistinct x y z → mid a b c < 2 ^ 32 → high a b c < 2 ^ 32 → mid x y z < 2 ^ 32 → high x y z < 2 ^ 32 →
    same_nodes (a ∷ b ∷ c ∷ []) (x ∷ y ∷ z ∷ []) ≡ eqb (key_of (x ∷ y ∷ z ∷ [])) (key_of (a ∷ b ∷ c ∷ []))
same_key_at a b c x y z d e p q r s = same_tests (same_nodes (a ∷ b ∷ c ∷ []) (x ∷ y ∷ z ∷ [])) (eqb (key_of (x ∷ y ∷ z ∷ [])) (key_of (a ∷ b ∷ c ∷ []))) forth back
  where
    forth : same_nodes (a ∷ b ∷ c ∷ []) (x ∷ y ∷ z ∷ []) ≡ true → eqb (key_of (x ∷ y ∷ z ∷ [])) (key_of (a ∷ b ∷ c ∷ [])) ≡ true
    forth h =
        let parts = and_parts (list_all (is_in (x ∷ y ∷ z ∷ [])) (a ∷ b ∷ c ∷ [])) (list_all (is_in (a ∷ b ∷ c ∷ [])) (x ∷ y ∷ z ∷ [])) h in
        eq-eqb _ _ (sym (key_from_numbers a b c x y z (numbers_from_within a b c x y z d e (within_from_all a b c x y z parts.0) (within_from_all x y z a b c parts.1))))

    back : eqb (key_of (x ∷ y ∷ z ∷ [])) (key_of (a ∷ b ∷ c ∷ [])) ≡ true → same_nodes (a ∷ b ∷ c ∷ []) (x ∷ y ∷ z ∷ []) ≡ true
    back h =
        let same = numbers_from_key a b c x y z p q r s (sym (eqb-true _ _ h)) in
        and_from (list_all (is_in (x ∷ y ∷ z ∷ [])) (a ∷ b ∷ c ∷ [])) (list_all (is_in (a ∷ b ∷ c ∷ [])) (x ∷ y ∷ z ∷ []))
        (all_from_within a b c x y z (within_from_numbers a b c x y z same))
        (all_from_within x y z a b c (within_from_numbers x y z a b c (same_sides a b c x y z same)))

-- the test of the same nodes is that of the same key
pub same_key : (s t : List ℕ) → IsPlain s → IsPlain t → same_nodes s t ≡ eqb (key_of t) (key_of s)
same_key s t p q =
    (λ i. same_nodes (p.is i) (q.is i))
    ∙ same_key_at p.a p.b p.c q.a q.b q.c p.distinct q.distinct
    (among_fits p.a p.b p.c (mid p.a p.b p.c) p.a_fits p.b_fits p.c_fits (mid_among p.a p.b p.c)) (among_fits p.a p.b p.c (high p.a p.b p.c) p.a_fits p.b_fits p.c_fits (high_among p.a p.b p.c))
    (among_fits q.a q.b q.c (mid q.a q.b q.c) q.a_fits q.b_fits q.c_fits (mid_among q.a q.b q.c)) (among_fits q.a q.b q.c (high q.a q.b q.c) q.a_fits q.b_fits q.c_fits (high_among q.a q.b q.c))
    ∙ (λ i. eqb (key_of (sym q.is i)) (key_of (sym p.is i)))

-- triangles in the same direction have the same key
turned_key : (a b c : ℕ) → key_of (a ∷ b ∷ c ∷ []) ≡ key_of (b ∷ c ∷ a ∷ [])
turned_key a b c = key_from_numbers a b c b c a (record { low = l; high = h; mid = λ i. (s i) - (l i + h i) })
  where
    l : low a b c ≡ low b c a
    l = omega arith

    h : high a b c ≡ high b c a
    h = omega arith

    s : a + b + c ≡ b + c + a
    s = omega arith

pub direction_key : (s t : List ℕ) → same_direction s t ≡ true → key_of s ≡ key_of t
direction_key (a ∷ b ∷ c ∷ []) (x ∷ y ∷ z ∷ []) h = first (or_cases (eqb a x && (eqb b y && eqb c z)) ((eqb a y && (eqb b z && eqb c x)) || (eqb a z && (eqb b x && eqb c y))) h)
  where
    three : (k l m : ℕ) → (eqb a k && (eqb b l && eqb c m)) ≡ true → key_of (a ∷ b ∷ c ∷ []) ≡ key_of (k ∷ l ∷ m ∷ [])
    three k l m e =
        let p = and_parts (eqb a k) (eqb b l && eqb c m) e in
        let q = and_parts (eqb b l) (eqb c m) p.1 in
        let f = eqb-true a k p.0 in
        let g = eqb-true b l q.0 in
        let o = eqb-true c m q.1 in
        λ i. key_of (f i ∷ g i ∷ o i ∷ [])

    second : ((eqb a y && (eqb b z && eqb c x)) ≡ true) ⊎ ((eqb a z && (eqb b x && eqb c y)) ≡ true) → key_of (a ∷ b ∷ c ∷ []) ≡ key_of (x ∷ y ∷ z ∷ [])
    second (inl e) = three y z x e ∙ sym (turned_key x y z)
    second (inr e) = three z x y e ∙ turned_key z x y

    first : ((eqb a x && (eqb b y && eqb c z)) ≡ true) ⊎ (((eqb a y && (eqb b z && eqb c x)) || (eqb a z && (eqb b x && eqb c y))) ≡ true) → key_of (a ∷ b ∷ c ∷ []) ≡ key_of (x ∷ y ∷ z ∷ [])
    first (inl e) = three x y z e
    first (inr e) = second (or_cases (eqb a y && (eqb b z && eqb c x)) (eqb a z && (eqb b x && eqb c y)) e)
direction_key s t h = cc
