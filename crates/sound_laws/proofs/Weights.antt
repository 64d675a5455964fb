-- Sums over the weighted nodes of a piece, and the weights that its node numbers have.
use Rattle.std.specs.Prelude.{ℕ, zero, suc, ◌+◌, ◌*◌, ◌<◌, Bool, true, false, ◌==◌, nat_lt, List, [], ◌∷◌, length, map, sum, if◌then◌else◌, int_lt}
use Rattle.std.proofs.Common.{◌≡◌, refl, sym, ap, subst, ◌∙◌, arith, inl, inr, ◌⊎◌}
use Rattle.std.proofs.Math.IntN.{ℤ, pos, ◌+ℤ◌, ◌*ℤ◌}
use Rattle.std.proofs.lemmas.Int.{ints}
use Rattle.std.proofs.lemmas.Bool.{ltb-true, and_parts}
use Rattle.std.proofs.lemmas.List.Sums.{sum_by-cons}
use Rattle.definitions.specs.declared.Vertex.{Vertex}
use Rattle.definitions.specs.declared.Place.{Place}
use Rattle.definitions.specs.declared.Corner.{Corner}
use Rattle.definitions.specs.declared.Corner.TheVariants.{Whole, Cut}
use Rattle.definitions.specs.Places.{place}
use Rattle.definitions.specs.Stencils.{same_corner, corners}
use Rattle.definitions.specs.Pieces.{oriented, middle}
use Rattle.definitions.specs.Vectors.{det}
use Rattle.definitions.specs.Soundness.{weight_of, weighted_place}
use Rattle.exact.specs.Polynomials.{variable, constant, plus, times}
use Rattle.exact.proofs.Ring.{ring}
use Rattle.lattice_laws.specs.Ascending.{Has}
use Rattle.lattice_laws.specs.Vectors.{vector}
use Rattle.lattice_laws.specs.Kinds.{Slot, slot_0, slot_1, slot_2, slot_3}
use Rattle.lattice_laws.proofs.KeyOrder.{corner_from_same}
use Rattle.moved_lattice.specs.WeightedSums.{sum4}
use Rattle.stencil_laws.specs.Weights.{weighted_sum, weight_at}
use Rattle.piece_laws.specs.Renaming.{renamed}
use Rattle.piece_laws.proofs.PiecesMeet.{in_slots}
use Rattle.lattice_laws.proofs.Lists.{four_of}

-- ---- weighted sums
pub sum_same : (f g : Corner → ℤ) (ws : List ℕ) (p : List Corner) → ((c : Corner) → Has c p → f c ≡ g c) → weighted_sum ws p f ≡ weighted_sum ws p g
sum_same f g [] p h = refl
sum_same f g (w ∷ ws) [] h = refl
sum_same f g (w ∷ ws) (c ∷ p) h = λ i. pos w *ℤ h c (inl refl) i +ℤ sum_same f g ws p (λ d m. h d (inr m)) i

pub sum_plus : (f g : Corner → ℤ) (ws : List ℕ) (p : List Corner) → weighted_sum ws p (λ c. f c +ℤ g c) ≡ weighted_sum ws p f +ℤ weighted_sum ws p g
sum_plus f g [] p = refl
sum_plus f g (w ∷ ws) [] = refl
sum_plus f g (w ∷ ws) (c ∷ p) = (λ i. pos w *ℤ (f c +ℤ g c) +ℤ sum_plus f g ws p i) ∙ go (pos w) (f c) (g c) (weighted_sum ws p f) (weighted_sum ws p g)
  where
    go : (w x y a b : ℤ) → w *ℤ (x +ℤ y) +ℤ (a +ℤ b) ≡ (w *ℤ x +ℤ a) +ℤ (w *ℤ y +ℤ b)
    go w x y a b = ring (w ∷ x ∷ y ∷ a ∷ b ∷ []) (plus (times (variable 0) (plus (variable 1) (variable 2))) (plus (variable 3) (variable 4))) (plus (plus (times (variable 0) (variable 1)) (variable 3)) (plus (times (variable 0) (variable 2)) (variable 4))) refl

pub sum_scaled : (k : ℤ) (f : Corner → ℤ) (ws : List ℕ) (p : List Corner) → weighted_sum ws p (λ c. f c *ℤ k) ≡ weighted_sum ws p f *ℤ k
sum_scaled k f [] p = ring (k ∷ []) (constant (pos 0)) (times (constant (pos 0)) (variable 0)) refl
sum_scaled k f (w ∷ ws) [] = ring (k ∷ []) (constant (pos 0)) (times (constant (pos 0)) (variable 0)) refl
sum_scaled k f (w ∷ ws) (c ∷ p) = (λ i. pos w *ℤ (f c *ℤ k) +ℤ sum_scaled k f ws p i) ∙ go (pos w) (f c) (weighted_sum ws p f)
  where
    go : (w x a : ℤ) → w *ℤ (x *ℤ k) +ℤ a *ℤ k ≡ (w *ℤ x +ℤ a) *ℤ k
    go w x a = ring (w ∷ x ∷ a ∷ k ∷ []) (plus (times (variable 0) (times (variable 1) (variable 3))) (times (variable 2) (variable 3))) (times (plus (times (variable 0) (variable 1)) (variable 2)) (variable 3)) refl

pub sum_of_ones : (ws : List ℕ) (p : List Corner) → length ws ≡ length p → weighted_sum ws p (λ c. pos 1) ≡ pos (sum ws)
sum_of_ones [] p h = refl
sum_of_ones (w ∷ ws) [] h = absurd (omega arith)
sum_of_ones (w ∷ ws) (c ∷ p) h =
    let e = sum_of_ones ws p (omega arith) in
    let g = sum_by-cons (λ x. x) w ws in
    (λ i. pos w *ℤ pos 1 +ℤ e i) ∙ go w (sum ws) (sum (w ∷ ws)) g
  where
    go : (w s t : ℕ) → t ≡ w + s → pos w *ℤ pos 1 +ℤ pos s ≡ pos t
    go w s t e = omega (arith, ints)

-- the weighted place, coordinate by coordinate
pub weighted_place_is : (g : Corner → Place) (ws : List ℕ) (p : List Corner) → weighted_place (map g p) ws ≡ vector (weighted_sum ws p (λ c. (g c).x)) (weighted_sum ws p (λ c. (g c).y)) (weighted_sum ws p (λ c. (g c).z))
weighted_place_is g [] [] = refl
weighted_place_is g (w ∷ ws) [] = refl
weighted_place_is g [] (c ∷ p) = refl
weighted_place_is g (w ∷ ws) (c ∷ p) =
    λ i. let q = weighted_place_is g ws p i in place ((pos w *ℤ (g c).x) +ℤ q.x) ((pos w *ℤ (g c).y) +ℤ q.y) ((pos w *ℤ (g c).z) +ℤ q.z)

-- four sums together
pub sum_of_slots : (g : Slot → Corner → ℤ) (ws : List ℕ) (p : List Corner) → sum4 (λ s. weighted_sum ws p (g s)) ≡ weighted_sum ws p (λ c. sum4 (λ s. g s c))
sum_of_slots g ws p =
    sym (sum_plus (λ c. g slot_0 c +ℤ g slot_1 c +ℤ g slot_2 c) (g slot_3) ws p
    ∙ (λ i. sum_plus (λ c. g slot_0 c +ℤ g slot_1 c) (g slot_2) ws p i +ℤ weighted_sum ws p (g slot_3))
    ∙ (λ i. (sum_plus (g slot_0) (g slot_1) ws p i +ℤ weighted_sum ws p (g slot_2)) +ℤ weighted_sum ws p (g slot_3)))

pub combination_of_slots : (g : Slot → Corner → ℤ) (m : Slot → ℤ) (ws : List ℕ) (p : List Corner) → sum4 (λ s. weighted_sum ws p (g s) *ℤ m s) ≡ weighted_sum ws p (λ c. sum4 (λ s. g s c *ℤ m s))
combination_of_slots g m ws p =
    (λ i. sum4 (λ s. sym (sum_scaled (m s) (g s) ws p) i)) ∙ sum_of_slots (λ s c. g s c *ℤ m s) ws p

-- ---- the weights of node numbers
module _ (φ : Corner → ℕ) (n : ℕ) where
  abbrev gathered : (Corner → ℕ) → List Corner → ℕ
  gathered g [] = 0
  gathered g (e ∷ es) = (if φ e == n then g e else 0) + gathered g es

  if_zero : (b : Bool) → ◌≡◌ {A = ℕ} (if b then 0 else 0) 0
  if_zero true = refl
  if_zero false = refl

  gathered-zero : (es : List Corner) → gathered (λ e. 0) es ≡ 0
  gathered-zero [] = refl
  gathered-zero (e ∷ es) = let i = gathered-zero es in let z = if_zero (φ e == n) in omega arith

  if_plus : (b : Bool) (x y : ℕ) → (if b then x + y else 0) ≡ (if b then x else 0) + (if b then y else 0)
  if_plus true x y = refl
  if_plus false x y = omega arith

  gathered-plus : (g h : Corner → ℕ) (es : List Corner) → gathered (λ e. g e + h e) es ≡ gathered g es + gathered h es
  gathered-plus g h [] = omega arith
  gathered-plus g h (e ∷ es) = let i = gathered-plus g h es in let j = if_plus (φ e == n) (g e) (h e) in omega arith

-- how often a node stands in a list
abbrev count_of : Corner → List Corner → ℕ
count_of d [] = 0
count_of d (e ∷ es) = (if same_corner e d then 1 else 0) + count_of d es

count_whole : (a : ℕ) → a < 4 → count_of (Whole a) corners ≡ 1
count_whole zero h = refl
count_whole (suc zero) h = refl
count_whole (suc (suc zero)) h = refl
count_whole (suc (suc (suc zero))) h = refl
count_whole (suc (suc (suc (suc a)))) h = absurd (omega arith)

count_cut : (a b : ℕ) → a < b → b < 4 → count_of (Cut a b) corners ≡ 1
count_cut zero (suc zero) h i = refl
count_cut zero (suc (suc zero)) h i = refl
count_cut zero (suc (suc (suc zero))) h i = refl
count_cut (suc zero) (suc (suc zero)) h i = refl
count_cut (suc zero) (suc (suc (suc zero))) h i = refl
count_cut (suc (suc zero)) (suc (suc (suc zero))) h i = refl
count_cut a b h i = absurd (omega arith)

count_one : (c : Corner) → in_slots c ≡ true → count_of c corners ≡ 1
count_one (Whole a) e = count_whole a (ltb-true a 4 e)
count_one (Cut a b) e = let g = and_parts (nat_lt a b) (nat_lt b 4) e in count_cut a b (ltb-true a b g.0) (ltb-true b 4 g.1)

-- of each node with a weight a fact holds
abbrev pub WhereWeighted : (Corner → Type 0) → List ℕ → List Corner → Type 0
WhereWeighted P [] l = Unit {0}
WhereWeighted P (w ∷ ws) [] = Unit {0}
WhereWeighted P (w ∷ ws) (c ∷ l) = ((w ≡ 0) ⊎ P c) × WhereWeighted P ws l

module _ (φ : Corner → ℕ) (n : ℕ) where
  gathered-one : (d : Corner) (w : ℕ) (es : List Corner) → gathered φ n (λ e. if same_corner e d then w else 0) es ≡ (if φ d == n then w else 0) * count_of d es
  gathered-one d w [] = omega arith
  gathered-one d w (e ∷ es) = go (same_corner e d) refl (gathered-one d w es)
    where
      go : (b : Bool) → same_corner e d ≡ b → gathered φ n (λ e. if same_corner e d then w else 0) es ≡ (if φ d == n then w else 0) * count_of d es
          → (if φ e == n then (if b then w else 0) else 0) + gathered φ n (λ e. if same_corner e d then w else 0) es ≡ (if φ d == n then w else 0) * ((if b then 1 else 0) + count_of d es)
      go true q i = let f : (if φ e == n then w else 0) ≡ (if φ d == n then w else 0) = ap (λ c. if φ c == n then w else 0) (corner_from_same e d q) in omega arith
      go false q i = let z = if_zero φ n (φ e == n) in omega arith

  -- a node number's weight by the weights of the ten nodes
  gathered-all : (ws : List ℕ) (l : List Corner) → WhereWeighted (λ c. in_slots c ≡ true) ws l → gathered φ n (λ e. weight_at l ws e) corners ≡ weight_of (map φ l) ws n
  gathered-all [] [] h = gathered-zero φ n corners
  gathered-all (w ∷ ws) [] h = gathered-zero φ n corners
  gathered-all [] (c ∷ l) h = gathered-zero φ n corners
  gathered-all (w ∷ ws) (c ∷ l) h =
      let p = gathered-plus φ n (λ e. if same_corner e c then w else 0) (λ e. weight_at l ws e) corners in
      let i = gathered-all ws l h.1 in
      let j = gathered-one c w corners in
      p ∙ (λ k. (j ∙ whole h.0) k + i k)
    where
      whole : (w ≡ 0) ⊎ (in_slots c ≡ true) → (if φ c == n then w else 0) * count_of c corners ≡ (if φ c == n then w else 0)
      whole (inl z) = let f : (if φ c == n then w else 0) ≡ 0 = ap (λ x. if φ c == n then x else 0) z ∙ if_zero φ n (φ c == n) in (λ i. f i * count_of c corners) ∙ (let g : 0 * count_of c corners ≡ 0 = omega arith in g) ∙ sym f
      whole (inr e) = ap (λ m. (if φ c == n then w else 0) * m) (count_one c e) ∙ (let g : (if φ c == n then w else 0) * 1 ≡ (if φ c == n then w else 0) = omega arith in g)

  -- where all nodes have equal weights, so have their numbers
  pub same_weights : (wa wb : List ℕ) (l m : List Corner) → WhereWeighted (λ c. in_slots c ≡ true) wa l → WhereWeighted (λ c. in_slots c ≡ true) wb m → ((e : Corner) → weight_at l wa e ≡ weight_at m wb e)
      → weight_of (map φ l) wa n ≡ weight_of (map φ m) wb n
  same_weights wa wb l m hl hm e = sym (gathered-all wa l hl) ∙ (λ i. gathered φ n (λ c. e c i) corners) ∙ gathered-all wb m hm

  -- numbers of renamed nodes
  pub renumbered : (ψ : Corner → ℕ) (μ : ℕ → ℕ) (ws : List ℕ) (l : List Corner) → WhereWeighted (λ c. ψ c ≡ φ (renamed μ c)) ws l → weight_of (map ψ l) ws n ≡ weight_of (map φ (map (renamed μ) l)) ws n
  renumbered ψ μ [] [] h = refl
  renumbered ψ μ (w ∷ ws) [] h = refl
  renumbered ψ μ [] (c ∷ l) h = refl
  renumbered ψ μ (w ∷ ws) (c ∷ l) h = λ i. here h.0 i + renumbered ψ μ ws l h.1 i
    where
      here : (w ≡ 0) ⊎ (ψ c ≡ φ (renamed μ c)) → (if ψ c == n then w else 0) ≡ (if φ (renamed μ c) == n then w else 0)
      here (inl z) = ap (λ x. if ψ c == n then x else 0) z ∙ (if_zero φ n (ψ c == n) ∙ sym (if_zero φ n (φ (renamed μ c) == n))) ∙ ap (λ x. if φ (renamed μ c) == n then x else 0) (sym z)
      here (inr e) = ap (λ m. if m == n then w else 0) e

-- ---- a piece with its last two nodes swapped, and its weights likewise
pub record Reordered (tet : List Vertex) (p : List Corner) (ws : List ℕ) : Type 0 where
  pub weights : List ℕ
  pub four : length weights ≡ 4
  pub total : sum weights ≡ sum ws
  pub places : (g : Corner → Place) → weighted_place (map g (oriented tet p)) ws ≡ weighted_place (map g p) weights
  pub numbers : (φ : Corner → ℕ) (n : ℕ) → weight_of (map φ (oriented tet p)) ws n ≡ weight_of (map φ p) weights n

sum_of_four : (a b c d : ℕ) → sum (a ∷ b ∷ c ∷ d ∷ []) ≡ a + (b + (c + d))
sum_of_four a b c d =
    let e = sum_by-cons (λ x. x) a (b ∷ c ∷ d ∷ []) in
    let f = sum_by-cons (λ x. x) b (c ∷ d ∷ []) in
    let g = sum_by-cons (λ x. x) c (d ∷ []) in
    let h = sum_by-cons (λ x. x) d [] in
    omega arith

exchange : (a b x y : ℤ) → (a *ℤ x) +ℤ ((b *ℤ y) +ℤ pos 0) ≡ (b *ℤ y) +ℤ ((a *ℤ x) +ℤ pos 0)
exchange a b x y = ring (a ∷ b ∷ x ∷ y ∷ []) (plus (times (variable 0) (variable 2)) (plus (times (variable 1) (variable 3)) (constant (pos 0)))) (plus (times (variable 1) (variable 3)) (plus (times (variable 0) (variable 2)) (constant (pos 0)))) refl

-- by whether the piece is turned
record Turned (c0 c1 c2 c3 : Corner) (ws : List ℕ) (b : Bool) : Type 0 where
  weights : List ℕ
  four : length weights ≡ 4
  total : sum weights ≡ sum ws
  places : (g : Corner → Place) → weighted_place (map g (if b then c0 ∷ c1 ∷ c3 ∷ c2 ∷ [] else c0 ∷ c1 ∷ c2 ∷ c3 ∷ [])) ws ≡ weighted_place (map g (c0 ∷ c1 ∷ c2 ∷ c3 ∷ [])) weights
  numbers : (φ : Corner → ℕ) (n : ℕ) → weight_of (map φ (if b then c0 ∷ c1 ∷ c3 ∷ c2 ∷ [] else c0 ∷ c1 ∷ c2 ∷ c3 ∷ [])) ws n ≡ weight_of (map φ (c0 ∷ c1 ∷ c2 ∷ c3 ∷ [])) weights n

turned : (c0 c1 c2 c3 : Corner) (w0 w1 w2 w3 : ℕ) (b : Bool) → Turned c0 c1 c2 c3 (w0 ∷ w1 ∷ w2 ∷ w3 ∷ []) b
turned c0 c1 c2 c3 w0 w1 w2 w3 false = record { weights = w0 ∷ w1 ∷ w2 ∷ w3 ∷ []; four = refl; total = refl; places = λ g. refl; numbers = λ φ n. refl }
turned c0 c1 c2 c3 w0 w1 w2 w3 true = record {
  weights = w0 ∷ w1 ∷ w3 ∷ w2 ∷ [];
  four = refl;
  total = let e = sum_of_four w0 w1 w3 w2 in let f = sum_of_four w0 w1 w2 w3 in omega arith;
  places = λ g i.
      place ((pos w0 *ℤ (g c0).x) +ℤ ((pos w1 *ℤ (g c1).x) +ℤ exchange (pos w2) (pos w3) (g c3).x (g c2).x i))
      ((pos w0 *ℤ (g c0).y) +ℤ ((pos w1 *ℤ (g c1).y) +ℤ exchange (pos w2) (pos w3) (g c3).y (g c2).y i))
      ((pos w0 *ℤ (g c0).z) +ℤ ((pos w1 *ℤ (g c1).z) +ℤ exchange (pos w2) (pos w3) (g c3).z (g c2).z i));
  numbers = λ φ n. swap (if φ c0 == n then w0 else 0) (if φ c1 == n then w1 else 0) (if φ c3 == n then w2 else 0) (if φ c2 == n then w3 else 0);
}
  where
    swap : (a b c d : ℕ) → a + (b + (c + (d + 0))) ≡ a + (b + (d + (c + 0)))
    swap a b c d = omega arith

pub reordered : (tet : List Vertex) (p : List Corner) (ws : List ℕ) → length p ≡ 4 → length ws ≡ 4 → Reordered tet p ws
unfolding oriented
reordered tet p ws hp hw =
    let c = four_of p hp in
    let w = four_of ws hw in
    subst (λ l. Reordered tet l ws) (sym c.4) (subst (Reordered tet (c.0 ∷ c.1 ∷ c.2 ∷ c.3 ∷ [])) (sym w.4) (go c.0 c.1 c.2 c.3 w.0 w.1 w.2 w.3))
  where
    go : (c0 c1 c2 c3 : Corner) (w0 w1 w2 w3 : ℕ) → Reordered tet (c0 ∷ c1 ∷ c2 ∷ c3 ∷ []) (w0 ∷ w1 ∷ w2 ∷ w3 ∷ [])
    go c0 c1 c2 c3 w0 w1 w2 w3 =
        let t = turned c0 c1 c2 c3 w0 w1 w2 w3 (int_lt (det (middle tet c0 ∷ middle tet c1 ∷ middle tet c2 ∷ middle tet c3 ∷ [])) (pos 0)) in
        record { weights = t.weights; four = t.four; total = t.total; places = t.places; numbers = t.numbers }
