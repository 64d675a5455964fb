-- Three nodes ascending: they are the same nodes, and two such triples of the same nodes are equal.
use Rattle.std.proofs.Common.{◌≡◌, ◌≢◌, ◌⊎◌, inl, inr, ℕ, ◌+◌, ◌*◌, ◌^◌, ◌<◌, ◌≤◌, min, max, Bool, true, false, ◌||◌, List, [], ◌∷◌, eqb, refl, sym, ap, ◌∙◌, subst, arith}
use Rattle.std.specs.List.{list_all}
use Rattle.std.proofs.lemmas.Bool.{cases_lt, eqb-true, eq-eqb, and_parts, and_from, or_cases, or_left, or_right, false≢true}
use Rattle.list_words.proofs.Tests.{same_tests}
use Rattle.definitions.specs.Soundness.{is_in, same_nodes}
use Rattle.face_neigh.specs.declared.side.Side.{Side}
use Rattle.face_neigh.specs.Sides.{IsSmall, key_of, side_of}

min_left : (a b : ℕ) → a ≤ b → min a b ≡ a
min_left a b h = omega arith

max_right : (a b : ℕ) → a ≤ b → max a b ≡ b
max_right a b h = omega arith

min_right : (a b : ℕ) → b ≤ a → min a b ≡ b
min_right a b h = omega arith

max_left : (a b : ℕ) → b ≤ a → max a b ≡ a
max_left a b h = omega arith

or_swap : (x y z : Bool) → (x || (y || z)) ≡ (y || (x || z))
or_swap true true z = refl
or_swap true false z = refl
or_swap false y z = refl

-- the lesser and the greater of two are the two
in_order_of_two : (a b : ℕ) (xs : List ℕ) (n : ℕ) → is_in (min a b ∷ max a b ∷ xs) n ≡ is_in (a ∷ b ∷ xs) n
in_order_of_two a b xs n =
    elim (cases_lt a b) [
      | inl lt ↦ (λ i. is_in (min_left a b (omega arith) i ∷ max_right a b (omega arith) i ∷ xs) n)
      | inr le ↦ (λ i. is_in (min_right a b le i ∷ max_left a b le i ∷ xs) n) ∙ or_swap (eqb b n) (eqb a n) (is_in xs n)
    ]

-- the nodes of a side
abbrev pub nodes_of : Side → List ℕ
nodes_of s = s.low ∷ s.middle ∷ s.high ∷ []

-- they are those of the triangle
pub in_side : (place a b c n : ℕ) → is_in (nodes_of (side_of place (a ∷ b ∷ c ∷ []))) n ≡ is_in (a ∷ b ∷ c ∷ []) n
in_side place a b c n =
    in_order_of_two (min a b) (min (max a b) c) (max (max a b) c ∷ []) n
    ∙ (ap (λ t. eqb (min a b) n || t) (in_order_of_two (max a b) c [] n)
    ∙ in_order_of_two a b (c ∷ []) n)

-- the nodes ascend
pub record Ascends (s : Side) : Type 0 where
  pub lower : s.low < s.middle
  pub upper : s.middle < s.high

pub side_ascends : (place a b c : ℕ) → a ≢ b → a ≢ c → b ≢ c → Ascends (side_of place (a ∷ b ∷ c ∷ []))
side_ascends place a b c ab ac bc = record { lower = omega arith; upper = omega arith }

-- lists with the same nodes
all_have : (p : ℕ → Bool) (s : List ℕ) → list_all p s ≡ true → (n : ℕ) → is_in s n ≡ true → p n ≡ true
all_have p [] h n e = absurd (false≢true e)
all_have p (x ∷ s) h n e =
    elim (or_cases (eqb x n) (is_in s n) e) [
      | inl same ↦ subst (λ m. p m ≡ true) (eqb-true x n same) ((and_parts (p x) (list_all p s) h).0)
      | inr later ↦ all_have p s ((and_parts (p x) (list_all p s) h).1) n later
    ]

have_all : (p : ℕ → Bool) (s : List ℕ) → ((n : ℕ) → is_in s n ≡ true → p n ≡ true) → list_all p s ≡ true
have_all p [] h = refl
have_all p (x ∷ s) h =
    and_from (p x) (list_all p s) (h x (or_left (eqb x x) (is_in s x) (eq-eqb x x refl)))
    (have_all p s (λ n e. h n (or_right (eqb x n) (is_in s n) e)))

pub members_from_same : (s t : List ℕ) → same_nodes s t ≡ true → (n : ℕ) → is_in s n ≡ is_in t n
members_from_same s t h n =
    let parts = and_parts (list_all (is_in t) s) (list_all (is_in s) t) h in
    same_tests (is_in s n) (is_in t n) (all_have (is_in t) s parts.0 n) (all_have (is_in s) t parts.1 n)

pub same_from_members : (s t : List ℕ) → ((n : ℕ) → is_in s n ≡ is_in t n) → same_nodes s t ≡ true
same_from_members s t h =
    and_from (list_all (is_in t) s) (list_all (is_in s) t) (have_all (is_in t) s (λ n e. sym (h n) ∙ e)) (have_all (is_in s) t (λ n e. h n ∙ e))

one_of_three : (l m h n : ℕ) → is_in (l ∷ m ∷ h ∷ []) n ≡ true → (l ≡ n) ⊎ ((m ≡ n) ⊎ (h ≡ n))
one_of_three l m h n e =
    elim (or_cases (eqb l n) (eqb m n || (eqb h n || false)) e) [
      | inl x ↦ inl (eqb-true l n x)
      | inr r ↦ elim (or_cases (eqb m n) (eqb h n || false) r) [
        | inl y ↦ inr (inl (eqb-true m n y))
        | inr s ↦ elim (or_cases (eqb h n) false s) [ inl z ↦ inr (inr (eqb-true h n z)) | inr f ↦ absurd (false≢true f) ]
      ]
    ]

has_first : (l m h : ℕ) → is_in (l ∷ m ∷ h ∷ []) l ≡ true
has_first l m h = or_left (eqb l l) _ (eq-eqb l l refl)

has_second : (l m h : ℕ) → is_in (l ∷ m ∷ h ∷ []) m ≡ true
has_second l m h = or_right (eqb l m) _ (or_left (eqb m m) _ (eq-eqb m m refl))

has_third : (l m h : ℕ) → is_in (l ∷ m ∷ h ∷ []) h ≡ true
has_third l m h = or_right (eqb l h) _ (or_right (eqb m h) _ (or_left (eqb h h) _ (eq-eqb h h refl)))

-- two sides that ascend and have the same nodes have them in the same order
pub same_sides : (s t : Side) → Ascends s → Ascends t → ((n : ℕ) → is_in (nodes_of s) n ≡ is_in (nodes_of t) n) → nodes_of s ≡ nodes_of t
same_sides s t up up' same = λ i. low i ∷ middle i ∷ high i ∷ []
  where
    low : s.low ≡ t.low
    low =
        let a = one_of_three t.low t.middle t.high s.low (sym (same s.low) ∙ has_first s.low s.middle s.high) in
        let b = one_of_three s.low s.middle s.high t.low (same t.low ∙ has_first t.low t.middle t.high) in
        let u = up.lower in let v = up.upper in let u' = up'.lower in let v' = up'.upper in
        omega arith

    high : s.high ≡ t.high
    high =
        let a = one_of_three t.low t.middle t.high s.high (sym (same s.high) ∙ has_third s.low s.middle s.high) in
        let b = one_of_three s.low s.middle s.high t.high (same t.high ∙ has_third t.low t.middle t.high) in
        let u = up.lower in let v = up.upper in let u' = up'.lower in let v' = up'.upper in
        omega arith

    middle : s.middle ≡ t.middle
    middle =
        let a = one_of_three t.low t.middle t.high s.middle (sym (same s.middle) ∙ has_second s.low s.middle s.high) in
        let l = low in let h = high in
        let u = up.lower in let v = up.upper in
        omega arith

-- sides with the same number have the same nodes
pub nodes_from_key : (s t : Side) → IsSmall s → IsSmall t → key_of s ≡ key_of t → nodes_of s ≡ nodes_of t
nodes_from_key s t small small' e =
    let l : s.low ≡ t.low = omega (arith, small.low, small.middle, small.high, small'.low, small'.middle, small'.high) in
    let m : s.middle ≡ t.middle = omega (arith, small.low, small.middle, small.high, small'.low, small'.middle, small'.high) in
    let h : s.high ≡ t.high = omega (arith, small.low, small.middle, small.high, small'.low, small'.middle, small'.high) in
    λ i. l i ∷ m i ∷ h i ∷ []

number_of : List ℕ → ℕ
number_of (l ∷ m ∷ h ∷ []) = (l * 2 ^ 32 + m) * 2 ^ 32 + h
number_of t = 0

pub key_from_nodes : (s t : Side) → nodes_of s ≡ nodes_of t → key_of s ≡ key_of t
unfolding number_of
key_from_nodes s t e = ap number_of e
