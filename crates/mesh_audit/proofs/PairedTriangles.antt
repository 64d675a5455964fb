-- Triangles with the same nodes have the same direction, or one is the other turned over; so where no triangle is in more than two tetrahedra or stands twice in one direction, all are paired.
use Rattle.std.proofs.Common.{◌≡◌, ◌⊎◌, inl, inr, ℕ, ◌+◌, ◌≤◌, zero, suc, List, [], ◌∷◌, length, get_or, Bool, true, false, ◌&&◌, ◌||◌, eqb, cond, refl, sym, ap, ◌∙◌, arith}
use Rattle.std.proofs.lemmas.Bool.{eqb-true, eq-eqb, and_parts, and_from, or_cases, or_left, or_right}
use Rattle.std.proofs.lemmas.List.Sums.{get_or-le-sum_by}
use Rattle.std.specs.List.{All, count_by}
use Rattle.list_words.proofs.Sums.{sums_agree}
use Rattle.definitions.specs.Soundness.{same_nodes, all_triangles, tets_at_triangle}
use Rattle.triangle_laws.specs.Boundary.{turned, IsPaired}
use Rattle.mesh_files.specs.Verdicts.{same_direction, tets_in_direction}
use Rattle.mesh_audit.specs.Triangles.{IsPlain, AreDistinct}
use Rattle.mesh_audit.proofs.Keys.{same_key, direction_key, Among, within_from_all, all_from_within}
use Rattle.mesh_audit.proofs.Directions.{Turn, none, once, twice, turn_of, direction_itself}
use Rattle.mesh_audit.proofs.Sums.{sum_add}

-- the three ways in which a triangle is another turned over
data Over (a b c x y z : ℕ) : Type 0 where
  first : x ≡ a → y ≡ c → z ≡ b → Over a b c x y z
  second : x ≡ c → y ≡ b → z ≡ a → Over a b c x y z
  third : x ≡ b → y ≡ a → z ≡ c → Over a b c x y z

over_of : (a b c x y z : ℕ) → turned (a ∷ b ∷ c ∷ []) (x ∷ y ∷ z ∷ []) ≡ true → Over a b c x y z
over_of a b c x y z h = one (or_cases (eqb x a && (eqb y c && eqb z b)) ((eqb x c && (eqb y b && eqb z a)) || (eqb x b && (eqb y a && eqb z c))) h)
  where
    three : (k l m : ℕ) → (eqb x k && (eqb y l && eqb z m)) ≡ true → (x ≡ k) × (y ≡ l) × (z ≡ m)
    three k l m e =
        let p = and_parts (eqb x k) (eqb y l && eqb z m) e in
        let q = and_parts (eqb y l) (eqb z m) p.1 in
        (eqb-true x k p.0, eqb-true y l q.0, eqb-true z m q.1)

    two : ((eqb x c && (eqb y b && eqb z a)) ≡ true) ⊎ ((eqb x b && (eqb y a && eqb z c)) ≡ true) → Over a b c x y z
    two (inl e) = let t = three c b a e in second t.0 t.1 t.2
    two (inr e) = let t = three b a c e in third t.0 t.1 t.2

    one : ((eqb x a && (eqb y c && eqb z b)) ≡ true) ⊎ (((eqb x c && (eqb y b && eqb z a)) || (eqb x b && (eqb y a && eqb z c))) ≡ true) → Over a b c x y z
    one (inl e) = let t = three a c b e in first t.0 t.1 t.2
    one (inr e) = two (or_cases (eqb x c && (eqb y b && eqb z a)) (eqb x b && (eqb y a && eqb z c)) e)

-- what is turned over has the same nodes
nodes_of_over : (a b c x y z : ℕ) → Over a b c x y z → same_nodes (a ∷ b ∷ c ∷ []) (x ∷ y ∷ z ∷ []) ≡ true
nodes_of_over a b c x y z o =
    and_from _ _ (all_from_within a b c x y z (λ n h. forth o n h)) (all_from_within x y z a b c (λ n h. back o n h))
  where
    forth : Over a b c x y z → (n : ℕ) → Among n a b c → Among n x y z
    forth (first e f g) n (inl h) = inl (h ∙ sym e)
    forth (first e f g) n (inr (inl h)) = inr (inr (h ∙ sym g))
    forth (first e f g) n (inr (inr h)) = inr (inl (h ∙ sym f))
    forth (second e f g) n (inl h) = inr (inr (h ∙ sym g))
    forth (second e f g) n (inr (inl h)) = inr (inl (h ∙ sym f))
    forth (second e f g) n (inr (inr h)) = inl (h ∙ sym e)
    forth (third e f g) n (inl h) = inr (inl (h ∙ sym f))
    forth (third e f g) n (inr (inl h)) = inl (h ∙ sym e)
    forth (third e f g) n (inr (inr h)) = inr (inr (h ∙ sym g))

    back : Over a b c x y z → (n : ℕ) → Among n x y z → Among n a b c
    back (first e f g) n (inl h) = inl (h ∙ e)
    back (first e f g) n (inr (inl h)) = inr (inr (h ∙ f))
    back (first e f g) n (inr (inr h)) = inr (inl (h ∙ g))
    back (second e f g) n (inl h) = inr (inr (h ∙ e))
    back (second e f g) n (inr (inl h)) = inr (inl (h ∙ f))
    back (second e f g) n (inr (inr h)) = inl (h ∙ g)
    back (third e f g) n (inl h) = inr (inl (h ∙ e))
    back (third e f g) n (inr (inl h)) = inl (h ∙ f)
    back (third e f g) n (inr (inr h)) = inr (inr (h ∙ g))

-- no triangle of three different nodes is another both ways
never_both : (a b c x y z : ℕ) → AreDistinct a b c → Turn a b c x y z → Over a b c x y z → ⊥
never_both a b c x y z d (none p q r) (first e f g) = d.bc (q ∙ f)
never_both a b c x y z d (none p q r) (second e f g) = d.ac (p ∙ e)
never_both a b c x y z d (none p q r) (third e f g) = d.ab (p ∙ e)
never_both a b c x y z d (once p q r) (first e f g) = d.ac (p ∙ f)
never_both a b c x y z d (once p q r) (second e f g) = d.ab (p ∙ f)
never_both a b c x y z d (once p q r) (third e f g) = d.bc (q ∙ g)
never_both a b c x y z d (twice p q r) (first e f g) = d.ab (p ∙ g)
never_both a b c x y z d (twice p q r) (second e f g) = d.bc (sym (r ∙ f))
never_both a b c x y z d (twice p q r) (third e f g) = d.ac (p ∙ g)

-- of three different nodes among three others, in one direction or the other
direction_or_over : (a b c x y z : ℕ) → AreDistinct a b c → Among a x y z → Among b x y z → Among c x y z → Turn a b c x y z ⊎ Over a b c x y z
direction_or_over a b c x y z d (inl p) (inl q) r = absurd (d.ab (p ∙ sym q))
direction_or_over a b c x y z d (inl p) (inr (inl q)) (inl r) = absurd (d.ac (p ∙ sym r))
direction_or_over a b c x y z d (inl p) (inr (inl q)) (inr (inl r)) = absurd (d.bc (q ∙ sym r))
direction_or_over a b c x y z d (inl p) (inr (inl q)) (inr (inr r)) = inl (none p q r)
direction_or_over a b c x y z d (inl p) (inr (inr q)) (inl r) = absurd (d.ac (p ∙ sym r))
direction_or_over a b c x y z d (inl p) (inr (inr q)) (inr (inl r)) = inr (first (sym p) (sym r) (sym q))
direction_or_over a b c x y z d (inl p) (inr (inr q)) (inr (inr r)) = absurd (d.bc (q ∙ sym r))
direction_or_over a b c x y z d (inr (inl p)) (inl q) (inl r) = absurd (d.bc (q ∙ sym r))
direction_or_over a b c x y z d (inr (inl p)) (inl q) (inr (inl r)) = absurd (d.ac (p ∙ sym r))
direction_or_over a b c x y z d (inr (inl p)) (inl q) (inr (inr r)) = inr (third (sym q) (sym p) (sym r))
direction_or_over a b c x y z d (inr (inl p)) (inr (inl q)) r = absurd (d.ab (p ∙ sym q))
direction_or_over a b c x y z d (inr (inl p)) (inr (inr q)) (inl r) = inl (once p q r)
direction_or_over a b c x y z d (inr (inl p)) (inr (inr q)) (inr (inl r)) = absurd (d.ac (p ∙ sym r))
direction_or_over a b c x y z d (inr (inl p)) (inr (inr q)) (inr (inr r)) = absurd (d.bc (q ∙ sym r))
direction_or_over a b c x y z d (inr (inr p)) (inl q) (inl r) = absurd (d.bc (q ∙ sym r))
direction_or_over a b c x y z d (inr (inr p)) (inl q) (inr (inl r)) = inl (twice p q r)
direction_or_over a b c x y z d (inr (inr p)) (inl q) (inr (inr r)) = absurd (d.ac (p ∙ sym r))
direction_or_over a b c x y z d (inr (inr p)) (inr (inl q)) (inl r) = inr (second (sym r) (sym q) (sym p))
direction_or_over a b c x y z d (inr (inr p)) (inr (inl q)) (inr (inl r)) = absurd (d.bc (q ∙ sym r))
direction_or_over a b c x y z d (inr (inr p)) (inr (inl q)) (inr (inr r)) = absurd (d.ac (p ∙ sym r))
direction_or_over a b c x y z d (inr (inr p)) (inr (inr q)) r = absurd (d.ab (p ∙ sym q))

-- back to the tests
turn_is : (a b c x y z : ℕ) → Turn a b c x y z → same_direction (a ∷ b ∷ c ∷ []) (x ∷ y ∷ z ∷ []) ≡ true
turn_is a b c x y z (none p q r) = or_left _ _ (and_from _ _ (eq-eqb a x p) (and_from _ _ (eq-eqb b y q) (eq-eqb c z r)))
turn_is a b c x y z (once p q r) = or_right _ _ (or_left _ _ (and_from _ _ (eq-eqb a y p) (and_from _ _ (eq-eqb b z q) (eq-eqb c x r))))
turn_is a b c x y z (twice p q r) = or_right _ _ (or_right _ _ (and_from _ _ (eq-eqb a z p) (and_from _ _ (eq-eqb b x q) (eq-eqb c y r))))

over_is : (a b c x y z : ℕ) → Over a b c x y z → turned (a ∷ b ∷ c ∷ []) (x ∷ y ∷ z ∷ []) ≡ true
over_is a b c x y z (first p q r) = or_left _ _ (and_from _ _ (eq-eqb x a p) (and_from _ _ (eq-eqb y c q) (eq-eqb z b r)))
over_is a b c x y z (second p q r) = or_right _ _ (or_left _ _ (and_from _ _ (eq-eqb x c p) (and_from _ _ (eq-eqb y b q) (eq-eqb z a r))))
over_is a b c x y z (third p q r) = or_right _ _ (or_right _ _ (and_from _ _ (eq-eqb x b p) (and_from _ _ (eq-eqb y a q) (eq-eqb z c r))))

abbrev bit : Bool → ℕ
bit b = cond b 1 0

-- a test that holds exactly where one of two others does, which never both do
one_of : (same turn over : Bool) → (same ≡ true → (turn ≡ true) ⊎ (over ≡ true)) → (turn ≡ true → same ≡ true) → (over ≡ true → same ≡ true) → (turn ≡ true → over ≡ true → ⊥) → bit same ≡ bit turn + bit over
one_of same true true f g h never = absurd (never refl refl)
one_of true true false f g h never = refl
one_of true false true f g h never = refl
one_of true false false f g h never = neither (f refl)
  where
    neither : (false ≡ true) ⊎ (false ≡ true) → bit true ≡ bit false + bit false
    neither (inl e) = cc
    neither (inr e) = cc
one_of false true false f g h never = let e = g refl in cc
one_of false false true f g h never = let e = h refl in cc
one_of false false false f g h never = refl

-- Two triangles have the same nodes where they have the same direction, or one is the other turned over.
pub nodes_by_direction : (s t : List ℕ) → IsPlain s → IsPlain t → bit (same_nodes s t) ≡ bit (same_direction s t) + bit (turned s t)
nodes_by_direction s t p q =
    (λ i. bit (same_nodes (p.is i) (q.is i)))
    ∙ at p.a p.b p.c q.a q.b q.c p.distinct (λ h. key_same ((λ i. same_direction (p.is i) (q.is i)) ∙ h))
    ∙ (λ i. bit (same_direction (sym p.is i) (sym q.is i)) + bit (turned (sym p.is i) (sym q.is i)))
  where
    key_same : same_direction s t ≡ true → same_nodes (p.a ∷ p.b ∷ p.c ∷ []) (q.a ∷ q.b ∷ q.c ∷ []) ≡ true
    key_same h = (λ i. same_nodes (sym p.is i) (sym q.is i)) ∙ same_key s t p q ∙ eq-eqb _ _ (sym (direction_key s t h))

    at : (a b c x y z : ℕ) → AreDistinct a b c → (same_direction (a ∷ b ∷ c ∷ []) (x ∷ y ∷ z ∷ []) ≡ true → same_nodes (a ∷ b ∷ c ∷ []) (x ∷ y ∷ z ∷ []) ≡ true)
        → bit (same_nodes (a ∷ b ∷ c ∷ []) (x ∷ y ∷ z ∷ [])) ≡ bit (same_direction (a ∷ b ∷ c ∷ []) (x ∷ y ∷ z ∷ [])) + bit (turned (a ∷ b ∷ c ∷ []) (x ∷ y ∷ z ∷ []))
    at a b c x y z d same =
        one_of (same_nodes (a ∷ b ∷ c ∷ []) (x ∷ y ∷ z ∷ [])) (same_direction (a ∷ b ∷ c ∷ []) (x ∷ y ∷ z ∷ [])) (turned (a ∷ b ∷ c ∷ []) (x ∷ y ∷ z ∷ []))
        found same (λ h. nodes_of_over a b c x y z (over_of a b c x y z h)) (λ g h. never_both a b c x y z d (turn_of a b c x y z g) (over_of a b c x y z h))
      where
        tests : Turn a b c x y z ⊎ Over a b c x y z → (same_direction (a ∷ b ∷ c ∷ []) (x ∷ y ∷ z ∷ []) ≡ true) ⊎ (turned (a ∷ b ∷ c ∷ []) (x ∷ y ∷ z ∷ []) ≡ true)
        tests (inl t) = inl (turn_is a b c x y z t)
        tests (inr t) = inr (over_is a b c x y z t)

        found : same_nodes (a ∷ b ∷ c ∷ []) (x ∷ y ∷ z ∷ []) ≡ true → (same_direction (a ∷ b ∷ c ∷ []) (x ∷ y ∷ z ∷ []) ≡ true) ⊎ (turned (a ∷ b ∷ c ∷ []) (x ∷ y ∷ z ∷ []) ≡ true)
        found h =
            let w = within_from_all a b c x y z (and_parts _ _ h).0 in
            tests (direction_or_over a b c x y z d (w a (inl refl)) (w b (inr (inl refl))) (w c (inr (inr refl))))

pub turned_from_nodes : (s t : List ℕ) → IsPlain s → IsPlain t → same_nodes s t ≡ true → same_direction s t ≡ false → turned s t ≡ true
turned_from_nodes s t p q same other = go (turned s t) (nodes_by_direction s t p q)
  where
    go : (b : Bool) → bit (same_nodes s t) ≡ bit (same_direction s t) + bit b → b ≡ true
    go true e = refl
    go false e = absurd (none_left (bit (same_nodes s t)) (bit (same_direction s t)) (ap bit same) (ap bit other) e)
      where
        none_left : (m n : ℕ) → m ≡ 1 → n ≡ 0 → m ≡ n + 0 → ⊥
        none_left m n e f g = omega arith

-- in how many tetrahedra a triangle is: those that have it in its direction, and those that have it turned over
pub counted_by_direction : (ts : List (List ℕ)) → All IsPlain (all_triangles ts) → (t : List ℕ) → IsPlain t → tets_at_triangle ts t ≡ tets_in_direction ts t + count_by (turned t) (all_triangles ts)
counted_by_direction ts plain t p =
    sums_agree (λ s. bit (same_nodes t s)) (λ s. bit (same_direction t s) + bit (turned t s)) (all_triangles ts) (λ k d lt. nodes_by_direction t (get_or (all_triangles ts) k d) p (plain k d lt))
    ∙ sum_add (λ s. bit (same_direction t s)) (λ s. bit (turned t s)) (all_triangles ts)

-- what is known of the triangles of tetrahedra
pub record AreApart (ts : List (List ℕ)) : Type 0 where
  pub plain : All IsPlain (all_triangles ts)
  pub few : All (λ t. tets_at_triangle ts t ≤ 2) (all_triangles ts)
  pub single : All (λ t. tets_in_direction ts t ≤ 1) (all_triangles ts)

-- each triangle stands once in its direction
pub once_in_direction : (ts : List (List ℕ)) → AreApart ts → All (λ t. tets_in_direction ts t ≡ 1) (all_triangles ts)
once_in_direction ts h k d lt =
    let t = get_or (all_triangles ts) k d in
    let itself : bit (same_direction t t) ≡ 1 = ap bit (direction_itself t (ap length (h.plain k d lt).is)) in
    let there : bit (same_direction t t) ≤ tets_in_direction ts t = get_or-le-sum_by (λ s. bit (same_direction t s)) (all_triangles ts) k d lt in
    exactly (tets_in_direction ts t) (bit (same_direction t t)) itself there (h.single k d lt)
  where
    exactly : (n m : ℕ) → m ≡ 1 → m ≤ n → n ≤ 1 → n ≡ 1
    exactly n m e p q = omega arith

pub are_paired : (ts : List (List ℕ)) → AreApart ts → All (IsPaired ts) (all_triangles ts)
are_paired ts h k d lt =
    let t = get_or (all_triangles ts) k d in
    let sum = counted_by_direction ts h.plain t (h.plain k d lt) in
    paired (tets_at_triangle ts t) (tets_in_direction ts t) (count_by (turned t) (all_triangles ts)) sum (once_in_direction ts h k d lt) (h.few k d lt)
  where
    paired : (n m l : ℕ) → n ≡ m + l → m ≡ 1 → n ≤ 2 → l ≡ cond (eqb n 1) 0 1
    paired n m l e f g = go (or_one n m l e f g)
      where
        or_one : (n m l : ℕ) → n ≡ m + l → m ≡ 1 → n ≤ 2 → ((n ≡ 1) × (l ≡ 0)) ⊎ ((n ≡ 2) × (l ≡ 1))
        or_one n m zero e f g = inl (omega arith, refl)
        or_one n m (suc zero) e f g = inr (omega arith, refl)
        or_one n m (suc (suc l)) e f g = absurd (omega arith)

        go : ((n ≡ 1) × (l ≡ 0)) ⊎ ((n ≡ 2) × (l ≡ 1)) → l ≡ cond (eqb n 1) 0 1
        go (inl p) = p.1 ∙ (λ i. cond (eqb (sym p.0 i) 1) 0 1)
        go (inr p) = p.1 ∙ (λ i. cond (eqb (sym p.0 i) 1) 0 1)
