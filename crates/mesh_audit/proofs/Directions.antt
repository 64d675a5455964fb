-- Triangles of the same nodes in the same direction.
use Rattle.std.proofs.Common.{◌≡◌, ◌⊎◌, inl, inr, ℕ, ◌+◌, List, [], ◌∷◌, length, get_or, Bool, true, false, ◌&&◌, ◌||◌, eqb, ltb, cond, refl, sym, ap, ◌∙◌, arith}
use Rattle.std.proofs.lemmas.Bool.{eqb-true, eq-eqb, or_cases, or_left, or_right, and_parts, and_from, and_left, ne_eqb}
use Rattle.std.proofs.lemmas.List.Elements.{All-head, All-tail, All-nil, All-cons}
use Rattle.std.specs.List.{count_by, All}
use Rattle.list_words.proofs.Tests.{same_tests}
use Rattle.mesh_audit.specs.declared.triangles.Triangle.{Triangle}
use Rattle.mesh_files.specs.Verdicts.{same_direction}
use Rattle.mesh_audit.specs.Triangles.{is_pair, AreTriangles}

pub record Three (t : List ℕ) : Type 0 where
  pub a : ℕ
  pub b : ℕ
  pub c : ℕ
  pub is : t ≡ a ∷ b ∷ c ∷ []

pub as_three : (t : List ℕ) → length t ≡ 3 → Three t
as_three [] h = absurd (omega arith)
as_three (a ∷ []) h = absurd (omega arith)
as_three (a ∷ b ∷ []) h = absurd (omega arith)
as_three (a ∷ b ∷ c ∷ []) h = record { a = a; b = b; c = c; is = refl }
as_three (a ∷ b ∷ c ∷ d ∷ t) h = absurd (omega arith)

all_equal : (a b c : ℕ) → (eqb a a && (eqb b b && eqb c c)) ≡ true
all_equal a b c = and_from (eqb a a) (eqb b b && eqb c c) (eq-eqb a a refl) (and_from (eqb b b) (eqb c c) (eq-eqb b b refl) (eq-eqb c c refl))

pub first_turn : (a b c : ℕ) → same_direction (a ∷ b ∷ c ∷ []) (a ∷ b ∷ c ∷ []) ≡ true
first_turn a b c = or_left (eqb a a && (eqb b b && eqb c c)) ((eqb a b && (eqb b c && eqb c a)) || (eqb a c && (eqb b a && eqb c b))) (all_equal a b c)

pub second_turn : (a b c : ℕ) → same_direction (a ∷ b ∷ c ∷ []) (c ∷ a ∷ b ∷ []) ≡ true
second_turn a b c = or_right (eqb a c && (eqb b a && eqb c b)) ((eqb a a && (eqb b b && eqb c c)) || (eqb a b && (eqb b c && eqb c a))) (or_left (eqb a a && (eqb b b && eqb c c)) (eqb a b && (eqb b c && eqb c a)) (all_equal a b c))

pub third_turn : (a b c : ℕ) → same_direction (a ∷ b ∷ c ∷ []) (b ∷ c ∷ a ∷ []) ≡ true
third_turn a b c = or_right (eqb a b && (eqb b c && eqb c a)) ((eqb a c && (eqb b a && eqb c b)) || (eqb a a && (eqb b b && eqb c c))) (or_right (eqb a c && (eqb b a && eqb c b)) (eqb a a && (eqb b b && eqb c c)) (all_equal a b c))

-- the three ways in which triangles have the same direction
pub data Turn (a b c x y z : ℕ) : Type 0 where
  none : a ≡ x → b ≡ y → c ≡ z → Turn a b c x y z
  once : a ≡ y → b ≡ z → c ≡ x → Turn a b c x y z
  twice : a ≡ z → b ≡ x → c ≡ y → Turn a b c x y z

pub turn_of : (a b c x y z : ℕ) → same_direction (a ∷ b ∷ c ∷ []) (x ∷ y ∷ z ∷ []) ≡ true → Turn a b c x y z
turn_of a b c x y z h = first (or_cases (eqb a x && (eqb b y && eqb c z)) ((eqb a y && (eqb b z && eqb c x)) || (eqb a z && (eqb b x && eqb c y))) h)
  where
    three : (k l m : ℕ) → (eqb a k && (eqb b l && eqb c m)) ≡ true → (a ≡ k) × (b ≡ l) × (c ≡ m)
    three k l m e =
        let p = and_parts (eqb a k) (eqb b l && eqb c m) e in
        let q = and_parts (eqb b l) (eqb c m) p.1 in
        (eqb-true a k p.0, eqb-true b l q.0, eqb-true c m q.1)

    second : ((eqb a y && (eqb b z && eqb c x)) ≡ true) ⊎ ((eqb a z && (eqb b x && eqb c y)) ≡ true) → Turn a b c x y z
    second (inl e) = let t = three y z x e in once t.0 t.1 t.2
    second (inr e) = let t = three z x y e in twice t.0 t.1 t.2

    first : ((eqb a x && (eqb b y && eqb c z)) ≡ true) ⊎ (((eqb a y && (eqb b z && eqb c x)) || (eqb a z && (eqb b x && eqb c y))) ≡ true) → Turn a b c x y z
    first (inl e) = let t = three x y z e in none t.0 t.1 t.2
    first (inr e) = second (or_cases (eqb a y && (eqb b z && eqb c x)) (eqb a z && (eqb b x && eqb c y)) e)

flip_at : (a b c x y z : ℕ) → same_direction (a ∷ b ∷ c ∷ []) (x ∷ y ∷ z ∷ []) ≡ true → same_direction (x ∷ y ∷ z ∷ []) (a ∷ b ∷ c ∷ []) ≡ true
flip_at a b c x y z h = go (turn_of a b c x y z h)
  where
    go : Turn a b c x y z → same_direction (x ∷ y ∷ z ∷ []) (a ∷ b ∷ c ∷ []) ≡ true
    go (none p q r) = (λ i. same_direction (x ∷ y ∷ z ∷ []) (p i ∷ q i ∷ r i ∷ [])) ∙ first_turn x y z
    go (once p q r) = (λ i. same_direction (x ∷ y ∷ z ∷ []) (p i ∷ q i ∷ r i ∷ [])) ∙ third_turn x y z
    go (twice p q r) = (λ i. same_direction (x ∷ y ∷ z ∷ []) (p i ∷ q i ∷ r i ∷ [])) ∙ second_turn x y z

pub direction_flips : (s t : List ℕ) → length s ≡ 3 → length t ≡ 3 → same_direction s t ≡ same_direction t s
direction_flips s t p q =
    let u = as_three s p in
    let v = as_three t q in
    (λ i. same_direction (u.is i) (v.is i))
    ∙ same_tests _ _ (flip_at u.a u.b u.c v.a v.b v.c) (flip_at v.a v.b v.c u.a u.b u.c)
    ∙ (λ i. same_direction (sym v.is i) (sym u.is i))

pub direction_itself : (t : List ℕ) → length t ≡ 3 → same_direction t t ≡ true
direction_itself t p = let u = as_three t p in (λ i. same_direction (u.is i) (u.is i)) ∙ first_turn u.a u.b u.c

-- how many of these triangles have the direction of one
abbrev pub directed_as : List Triangle → Triangle → ℕ
directed_as ts t = count_by (λ x. same_direction t.nodes x.nodes) ts

abbrev count_two : Bool → Bool → ℕ
count_two p q = cond p 1 0 + cond q 1 0

abbrev Tells : Triangle → Triangle → Triangle → Type 0
Tells x y t = ltb 1 (directed_as (x ∷ y ∷ []) t) ≡ same_direction x.nodes y.nodes

above : (b : Bool) → ltb 1 (count_two true b) ≡ b
above true = refl
above false = refl

above_too : (b : Bool) → ltb 1 (count_two b true) ≡ b
above_too true = refl
above_too false = refl

counted : (x y t : Triangle) → directed_as (x ∷ y ∷ []) t ≡ count_two (same_direction t.nodes x.nodes) (same_direction t.nodes y.nodes)
counted x y t = tidy (cond (same_direction t.nodes x.nodes) 1 0) (cond (same_direction t.nodes y.nodes) 1 0)
  where
    tidy : (m n : ℕ) → 0 + m + n ≡ m + n
    tidy m n = omega arith

first_tells : (x y : Triangle) → length x.nodes ≡ 3 → Tells x y x
first_tells x y p = ap (ltb 1) (counted x y x ∙ (λ i. count_two (direction_itself x.nodes p i) (same_direction x.nodes y.nodes))) ∙ above (same_direction x.nodes y.nodes)

second_tells : (x y : Triangle) → length x.nodes ≡ 3 → length y.nodes ≡ 3 → Tells x y y
second_tells x y p q = ap (ltb 1) (counted x y y ∙ (λ i. count_two (direction_flips y.nodes x.nodes q p i) (direction_itself y.nodes q i))) ∙ above_too (same_direction x.nodes y.nodes)

-- each of the triangles of a run tells whether the run is a pair that is directed the same way
pub pair_judged : (run : List Triangle) → AreTriangles run → All (λ t. (eqb (length run) 2 && ltb 1 (directed_as run t)) ≡ is_pair run) run
pair_judged [] three = λ k d lt. refl
pair_judged (x ∷ []) three = λ k d lt. refl
pair_judged (x ∷ y ∷ []) three =
    let p : length x.nodes ≡ 3 = All-head (λ t. length t.nodes ≡ 3) x (y ∷ []) three in
    let q : length y.nodes ≡ 3 = All-head (λ t. length t.nodes ≡ 3) y [] (All-tail (λ t. length t.nodes ≡ 3) x (y ∷ []) three) in
    All-cons (Tells x y) x (y ∷ []) (first_tells x y p) (All-cons (Tells x y) y [] (second_tells x y p q) (All-nil (Tells x y)))
pair_judged (x ∷ y ∷ z ∷ more) three = λ k d lt. and_left (eqb (length (x ∷ y ∷ z ∷ more)) 2) (ltb 1 (directed_as (x ∷ y ∷ z ∷ more) (get_or (x ∷ y ∷ z ∷ more) k d))) (ne_eqb (length (x ∷ y ∷ z ∷ more)) 2 (λ e. omega arith))
