-- Weighted nodes of one lattice tetrahedron give its vertices the weights that the renamed nodes give to another's.
use Rattle.std.specs.Prelude.{◌≡◌, ⊤, ℕ, zero, suc, ◌<◌, Bool, true, false, ◌==◌, List, [], ◌∷◌, map, if◌then◌else◌}
use Rattle.std.proofs.Common.{refl, sym, ap, ◌∙◌, arith, inl, inr, ◌⊎◌}
use Rattle.std.proofs.Math.IntN.{ℤ, pos, ◌+ℤ◌, ◌*ℤ◌, neg_ℤ, *ℤ_comm}
use Rattle.std.proofs.lemmas.Bool.{eqb-true, eq-eqb}
use Rattle.definitions.specs.declared.Corner.{Corner}
use Rattle.definitions.specs.declared.Corner.TheVariants.{Whole, Cut}
use Rattle.exact.proofs.IntegerLaws.{zero_mul}
use Rattle.exact.specs.Polynomials.{Expression, variable, constant, plus, times, negate, evaluate, value_at}
use Rattle.exact.proofs.Ring.{ring}
use Rattle.lattice_laws.specs.Vectors.{Vector}
use Rattle.stencil_laws.specs.NodeRows.{cut_variable, in_column}
use Rattle.stencil_laws.specs.Weights.{weighted_sum, entry}
use Rattle.stencil_laws.proofs.Forms.{dot_of_four, dot_of_sum, dot_zero}
use Rattle.piece_laws.specs.Renaming.{renamed, cuts_of, Shared, shared_whole, shared_cut}

-- the number where the test holds, else 0
abbrev pub only_if : Bool → ℤ → ℤ
only_if true x = x
only_if false x = pos 0

in_column-value : (r : List ℤ) (e : Expression) (a j : ℕ) → evaluate r (in_column e a j) ≡ only_if (a == j) (evaluate r e)
in_column-value r e a j = go (a == j)
  where
    go : (b : Bool) → evaluate r (if b then e else constant (pos 0)) ≡ only_if b (evaluate r e)
    go true = refl
    go false = refl

-- the row of a whole vertex, and that of a cut: at its two ends
pub row_whole : (r : List ℤ) (j a : ℕ) → entry r j (Whole a) ≡ only_if (a == j) (pos 4096)
row_whole r j a = in_column-value r (constant (pos 4096)) a j

pub row_cut : (r : List ℤ) (j a b : ℕ) → entry r j (Cut a b) ≡ only_if (a == j) (pos 4096 +ℤ neg_ℤ (value_at r (cut_variable a b))) +ℤ only_if (b == j) (value_at r (cut_variable a b))
row_cut r j a b = λ i. in_column-value r (plus (constant (pos 4096)) (negate (variable (cut_variable a b)))) a j i +ℤ in_column-value r (variable (cut_variable a b)) b j i

-- of four terms one is picked
pick_of_four : (f : ℕ → ℤ) (x : ℤ) (a : ℕ) → a < 4 → dot_of_four f (λ s. only_if (a == s) x) ≡ f a *ℤ x
pick_of_four f x zero h = ring (f 0 ∷ f 1 ∷ f 2 ∷ f 3 ∷ x ∷ []) (plus (plus (plus (times (variable 0) (variable 4)) (times (variable 1) (constant (pos 0)))) (times (variable 2) (constant (pos 0)))) (times (variable 3) (constant (pos 0)))) (times (variable 0) (variable 4)) refl
pick_of_four f x (suc zero) h = ring (f 0 ∷ f 1 ∷ f 2 ∷ f 3 ∷ x ∷ []) (plus (plus (plus (times (variable 0) (constant (pos 0))) (times (variable 1) (variable 4))) (times (variable 2) (constant (pos 0)))) (times (variable 3) (constant (pos 0)))) (times (variable 1) (variable 4)) refl
pick_of_four f x (suc (suc zero)) h = ring (f 0 ∷ f 1 ∷ f 2 ∷ f 3 ∷ x ∷ []) (plus (plus (plus (times (variable 0) (constant (pos 0))) (times (variable 1) (constant (pos 0)))) (times (variable 2) (variable 4))) (times (variable 3) (constant (pos 0)))) (times (variable 2) (variable 4)) refl
pick_of_four f x (suc (suc (suc zero))) h = ring (f 0 ∷ f 1 ∷ f 2 ∷ f 3 ∷ x ∷ []) (plus (plus (plus (times (variable 0) (constant (pos 0))) (times (variable 1) (constant (pos 0)))) (times (variable 2) (constant (pos 0)))) (times (variable 3) (variable 4))) (times (variable 3) (variable 4)) refl
pick_of_four f x (suc (suc (suc (suc a)))) h = absurd (omega arith)

pick_from_four : (f : ℕ → ℤ) (a : ℕ) → a < 4 → dot_of_four (λ s. only_if (a == s) (pos 1)) f ≡ f a
pick_from_four f a h = flip (λ s. only_if (a == s) (pos 1)) f ∙ pick_of_four f (pos 1) a h ∙ one (f a)
  where
    flip : (f g : ℕ → ℤ) → dot_of_four f g ≡ dot_of_four g f
    flip f g = λ i. *ℤ_comm (f 0) (g 0) i +ℤ *ℤ_comm (f 1) (g 1) i +ℤ *ℤ_comm (f 2) (g 2) i +ℤ *ℤ_comm (f 3) (g 3) i

    one : (x : ℤ) → x *ℤ pos 1 ≡ x
    one x = ring (x ∷ []) (times (variable 0) (constant (pos 1))) (variable 0) refl

dot_plus : (f g h : ℕ → ℤ) → dot_of_four f (λ s. g s +ℤ h s) ≡ dot_of_four f g +ℤ dot_of_four f h
dot_plus f g h = ring (f 0 ∷ f 1 ∷ f 2 ∷ f 3 ∷ g 0 ∷ g 1 ∷ g 2 ∷ g 3 ∷ h 0 ∷ h 1 ∷ h 2 ∷ h 3 ∷ [])
    (plus (plus (plus (times (variable 0) (plus (variable 4) (variable 8))) (times (variable 1) (plus (variable 5) (variable 9)))) (times (variable 2) (plus (variable 6) (variable 10)))) (times (variable 3) (plus (variable 7) (variable 11))))
    (plus (plus (plus (plus (times (variable 0) (variable 4)) (times (variable 1) (variable 5))) (times (variable 2) (variable 6))) (times (variable 3) (variable 7))) (plus (plus (plus (times (variable 0) (variable 8)) (times (variable 1) (variable 9))) (times (variable 2) (variable 10))) (times (variable 3) (variable 11)))) refl

-- a cut's number in the list of a tetrahedron's cuts
pub cut_at : (cut : Vector → Vector → ℤ) (u : ℕ → Vector) (a b : ℕ) → a < b → b < 4 → value_at (cuts_of cut u) (cut_variable a b) ≡ cut (u a) (u b)
cut_at cut u zero (suc zero) h i = refl
cut_at cut u zero (suc (suc zero)) h i = refl
cut_at cut u zero (suc (suc (suc zero))) h i = refl
cut_at cut u (suc zero) (suc (suc zero)) h i = refl
cut_at cut u (suc zero) (suc (suc (suc zero))) h i = refl
cut_at cut u (suc (suc zero)) (suc (suc (suc zero))) h i = refl
cut_at cut u a b h i = absurd (omega arith)

-- the entry of the renaming: slot s of the second has a weight and is slot j of the first
abbrev link : (ℕ → ℕ) → (ℕ → Bool) → ℕ → ℕ → ℤ
link μ is_weighted j s = only_if (is_weighted s) (only_if (μ s == j) (pos 1))

link_on : (μ : ℕ → ℕ) (is_weighted : ℕ → Bool) (j s : ℕ) (x : ℤ) → is_weighted s ≡ true → link μ is_weighted j s *ℤ x ≡ only_if (μ s == j) x
link_on μ is_weighted j s x e = (λ i. only_if (e i) (only_if (μ s == j) (pos 1)) *ℤ x) ∙ go (μ s == j)
  where
    go : (b : Bool) → only_if b (pos 1) *ℤ x ≡ only_if b x
    go true = ring (x ∷ []) (times (constant (pos 1)) (variable 0)) (variable 0) refl
    go false = zero_mul x

-- each node with a weight is a shared one
abbrev pub WeightsShared : (ℕ → Bool) → List ℕ → List Corner → Type 0
WeightsShared is_weighted [] l = ⊤
WeightsShared is_weighted (w ∷ ws) [] = ⊤
WeightsShared is_weighted (w ∷ ws) (c ∷ l) = ((w ≡ 0) ⊎ Shared is_weighted c) × WeightsShared is_weighted ws l

module _ (cut : Vector → Vector → ℤ) (u u' : ℕ → Vector) (μ : ℕ → ℕ) (is_weighted : ℕ → Bool)
    (into : (s : ℕ) → s < 4 → is_weighted s ≡ true → (μ s < 4) × (u' s ≡ u (μ s)))
    (rising : (s t : ℕ) → s < t → t < 4 → is_weighted s ≡ true → is_weighted t ≡ true → μ s < μ t) where
  -- a shared node's entries, renamed
  renamed_row : (j : ℕ) (c : Corner) → Shared is_weighted c → entry (cuts_of cut u) j (renamed μ c) ≡ dot_of_four (link μ is_weighted j) (λ s. entry (cuts_of cut u') s c)
  renamed_row j c (shared_whole a h e) =
      row_whole (cuts_of cut u) j (μ a) ∙ sym (link_on μ is_weighted j a (pos 4096) e) ∙ sym (pick_of_four (link μ is_weighted j) (pos 4096) a h)
      ∙ (λ i. dot_of_four (link μ is_weighted j) (λ s. sym (row_whole (cuts_of cut u') s a) i))
  renamed_row j c (shared_cut a b lt h ea eb) =
      let na = into a (omega arith) ea in
      let nb = into b h eb in
      let same_cut : value_at (cuts_of cut u) (cut_variable (μ a) (μ b)) ≡ value_at (cuts_of cut u') (cut_variable a b) =
      cut_at cut u (μ a) (μ b) (rising a b lt h ea eb) nb.0 ∙ (λ i. cut (sym na.1 i) (sym nb.1 i)) ∙ sym (cut_at cut u' a b lt h) in
      row_cut (cuts_of cut u) j (μ a) (μ b)
      ∙ (λ i. only_if (μ a == j) (pos 4096 +ℤ neg_ℤ (same_cut i)) +ℤ only_if (μ b == j) (same_cut i))
      ∙ (λ i. sym (link_on μ is_weighted j a (pos 4096 +ℤ neg_ℤ (value_at (cuts_of cut u') (cut_variable a b))) ea) i +ℤ sym (link_on μ is_weighted j b (value_at (cuts_of cut u') (cut_variable a b)) eb) i)
      ∙ (λ i. sym (pick_of_four (link μ is_weighted j) (pos 4096 +ℤ neg_ℤ (value_at (cuts_of cut u') (cut_variable a b))) a (omega arith)) i +ℤ sym (pick_of_four (link μ is_weighted j) (value_at (cuts_of cut u') (cut_variable a b)) b h) i)
      ∙ sym (dot_plus (link μ is_weighted j) (λ s. only_if (a == s) (pos 4096 +ℤ neg_ℤ (value_at (cuts_of cut u') (cut_variable a b)))) (λ s. only_if (b == s) (value_at (cuts_of cut u') (cut_variable a b))))
      ∙ (λ i. dot_of_four (link μ is_weighted j) (λ s. sym (row_cut (cuts_of cut u') s a b) i))

  -- the weights that renamed nodes give to the first are those of the second, gathered by the renaming
  pub renamed_sum : (j : ℕ) (ws : List ℕ) (l : List Corner) → WeightsShared is_weighted ws l → weighted_sum ws (map (renamed μ) l) (entry (cuts_of cut u) j) ≡ dot_of_four (link μ is_weighted j) (λ s. weighted_sum ws l (entry (cuts_of cut u') s))
  renamed_sum j [] [] h = dot_zero (link μ is_weighted j)
  renamed_sum j [] (c ∷ l) h = dot_zero (link μ is_weighted j)
  renamed_sum j (w ∷ ws) [] h = dot_zero (link μ is_weighted j)
  renamed_sum j (w ∷ ws) (c ∷ l) h =
      (λ i. term h.0 i +ℤ renamed_sum j ws l h.1 i)
      ∙ dot_of_sum (pos w) (link μ is_weighted j) (λ s. entry (cuts_of cut u') s c) (λ s. weighted_sum ws l (entry (cuts_of cut u') s))
    where
      has_none : (x y : ℤ) → w ≡ 0 → pos w *ℤ x ≡ pos w *ℤ y
      has_none x y z = ap (λ n. pos n *ℤ x) z ∙ zero_mul x ∙ sym (ap (λ n. pos n *ℤ y) z ∙ zero_mul y)

      term : (w ≡ 0) ⊎ Shared is_weighted c → pos w *ℤ entry (cuts_of cut u) j (renamed μ c) ≡ pos w *ℤ dot_of_four (link μ is_weighted j) (λ s. entry (cuts_of cut u') s c)
      term (inl z) = has_none _ _ z
      term (inr e) = ap (λ x. pos w *ℤ x) (renamed_row j c e)

  -- the weights of the second's vertices, gathered at a slot of the first
  module _ (first_weight second_weight : ℕ → ℤ)
      (has_none : (s : ℕ) → s < 4 → is_weighted s ≡ false → second_weight s ≡ pos 0)
      (alike : (s : ℕ) → s < 4 → is_weighted s ≡ true → second_weight s ≡ first_weight (μ s))
      (from : (j : ℕ) → j < 4 → (first_weight j ≡ pos 0) ⊎ ((s : ℕ) × (s < 4) × (is_weighted s ≡ true) × (μ s ≡ j))) where
    one_link : (s t : ℕ) → s < 4 → t < 4 → is_weighted s ≡ true → is_weighted t ≡ true → μ s ≡ μ t → s ≡ t
    one_link s t hs ht es et e = grind (arith, rising)

    -- gathered at a slot of the first, the second's vertex weights are the first's
    pub gathered : (j : ℕ) → j < 4 → dot_of_four (link μ is_weighted j) second_weight ≡ first_weight j
    gathered j h = go (from j h)
      where
        zero_term : first_weight j ≡ pos 0 → (s : ℕ) → s < 4 → (b c : Bool) → is_weighted s ≡ b → (μ s == j) ≡ c → only_if b (only_if c (pos 1)) *ℤ second_weight s ≡ pos 0
        zero_term z s hs true true e f =
            let m = alike s hs e in
            let g : second_weight s ≡ pos 0 = m ∙ ap first_weight (eqb-true (μ s) j f) ∙ z in
            ap (λ x. pos 1 *ℤ x) g
        zero_term z s hs true false e f = zero_mul (second_weight s)
        zero_term z s hs false c e f = zero_mul (second_weight s)

        linked : (s t : ℕ) → s < 4 → t < 4 → is_weighted s ≡ true → μ s ≡ j → (b c d : Bool) → is_weighted t ≡ b → (μ t == j) ≡ c → (s == t) ≡ d → only_if b (only_if c (pos 1)) ≡ only_if d (pos 1)
        linked s t hs ht es ej true true true eb ec ed = refl
        linked s t hs ht es ej true true false eb ec ed =
            let f = one_link s t hs ht es eb (ej ∙ sym (eqb-true (μ t) j ec)) in
            let g = eq-eqb s t f in
            cc
        linked s t hs ht es ej true false true eb ec ed =
            let f = eqb-true s t ed in
            let g = eq-eqb (μ t) j (ap μ (sym f) ∙ ej) in
            cc
        linked s t hs ht es ej true false false eb ec ed = refl
        linked s t hs ht es ej false c true eb ec ed =
            let f = eqb-true s t ed in
            let g = ap is_weighted (sym f) ∙ es in
            cc
        linked s t hs ht es ej false c false eb ec ed = refl

        go : (first_weight j ≡ pos 0) ⊎ ((s : ℕ) × (s < 4) × (is_weighted s ≡ true) × (μ s ≡ j)) → dot_of_four (link μ is_weighted j) second_weight ≡ first_weight j
        go (inl z) =
            (λ i. zero_term z 0 (omega arith) (is_weighted 0) (μ 0 == j) refl refl i +ℤ zero_term z 1 (omega arith) (is_weighted 1) (μ 1 == j) refl refl i +ℤ zero_term z 2 (omega arith) (is_weighted 2) (μ 2 == j) refl refl i +ℤ zero_term z 3 (omega arith) (is_weighted 3) (μ 3 == j) refl refl i)
            ∙ sym z
        go (inr w) =
            (λ i. linked w.0 0 w.1 (omega arith) w.2 w.3 (is_weighted 0) (μ 0 == j) (w.0 == 0) refl refl refl i *ℤ second_weight 0 +ℤ linked w.0 1 w.1 (omega arith) w.2 w.3 (is_weighted 1) (μ 1 == j) (w.0 == 1) refl refl refl i *ℤ second_weight 1 +ℤ linked w.0 2 w.1 (omega arith) w.2 w.3 (is_weighted 2) (μ 2 == j) (w.0 == 2) refl refl refl i *ℤ second_weight 2 +ℤ linked w.0 3 w.1 (omega arith) w.2 w.3 (is_weighted 3) (μ 3 == j) (w.0 == 3) refl refl refl i *ℤ second_weight 3)
            ∙ pick_from_four second_weight w.0 w.1 ∙ alike w.0 w.1 w.2 ∙ ap first_weight w.3
