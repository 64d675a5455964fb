-- Texts that commas part, and the one point that a text is.
use Rattle.std.proofs.Common.{◌≡◌, ◌≢◌, inl, inr, ℕ, ℤ, pos, neg_ℤ, ◌+◌, ◌-◌, ◌<◌, ◌^◌, zero, suc, List, [], ◌∷◌, ◌++◌, length, take, drop, codes, decimal, true, Bool, Option, Some, None, refl, ap, sym, ◌∙◌, subst, arith, slice_index_or, add-one, append-nil, IfSome}
use Rattle.std.specs.Prelude.{◌==◌, option_map, option_and_then, nat_lt}
use Rattle.std.specs.List.{position, position_or_len}
use Rattle.std.specs.Str.Parse.{AllDigits}
use Rattle.std.proofs.Math.Seq.{get_or-append_seam, drop-cons}
use Rattle.std.proofs.lemmas.Bool.{cases_lt, eqb-false, eqb-true}
use Rattle.std.proofs.lemmas.Bool.Decides.{nat_tests}
use Rattle.std.proofs.lemmas.List.{get_or_append_left, get_or-take, take-append-drop, take_at, take_all, drop_at, length-drop, length-take-le}
use Rattle.std.proofs.lemmas.List.Quantifiers.{position-Some}
use Rattle.std.proofs.lemmas.List.Sums.{fails_before_first}
use Rattle.std.proofs.lemmas.Fmt.{decimal_is_IsNumeral, decimal_injective}
use Rattle.definitions.specs.declared.Place.{Place}
use Rattle.definitions.specs.Places.{place}
use Rattle.command_line.specs.Grammar.{IsCoordinate, IsPoint}
use Rattle.command_words.specs.Points.{HasNoComma}
use Rattle.command_words.proofs.Decimals.{no_minus}

abbrev is_comma : ℕ → Bool
is_comma byte = byte == 44

-- the first comma
pub comma_there : (text : List ℕ) (n : ℕ) → position is_comma text ≡ Some n → text ≡ take n text ++ (44 ∷ take (length text - (n + 1)) (drop (n + 1) text))
comma_there text n e =
    let p = position-Some is_comma text n 0 e in
    let c : slice_index_or text n 0 ≡ 44 = eqb-true (slice_index_or text n 0) 44 p.1 in
    let d : drop n text ≡ 44 ∷ drop (suc n) text = drop-cons text n 0 p.0 ∙ ap (λ (b : ℕ). b ∷ drop (suc n) text) c in
    let t : take (length text - (n + 1)) (drop (n + 1) text) ≡ drop (suc n) text =
    take_all (length text - (n + 1)) (drop (n + 1) text) (omega (arith, length-drop (n + 1) text)) ∙ ap (λ (m : ℕ). drop m text) (add-one n) in
    sym (take-append-drop n text) ∙ ap (λ (u : List ℕ). take n text ++ u) (d ∙ ap (λ (u : List ℕ). 44 ∷ u) (sym t))

pub none_before : (text : List ℕ) (n : ℕ) → position is_comma text ≡ Some n → HasNoComma (take n text)
none_before text n e k lt f =
    let p = position-Some is_comma text n 0 e in
    let less : k < n = omega (arith, lt, length-take-le n text (omega (arith, p.0))) in
    eqb-false (slice_index_or text k 0) 44 (p.2 k less) (sym (get_or-take n text k 0 less) ∙ f)

not_none : (text : List ℕ) → position_or_len is_comma text < length text → position is_comma text ≡ None → ⊥
not_none text lt e =
    let t : nat_lt (position_or_len is_comma text) (length text) ≡ true = grind (arith, nat_tests, lt) in
    let s : position is_comma text ≡ Some (position_or_len is_comma text) = rw t refl in
    let f : None ≡ Some (position_or_len is_comma text) = sym e ∙ s in
    cc

pub no_comma_in : (text front rest : List ℕ) → position is_comma text ≡ None → text ≡ front ++ (44 ∷ rest) → ⊥
no_comma_in text front rest e f =
    elim (cases_lt (position_or_len is_comma text) (length text)) [
      | inl lt ↦ not_none text lt e
      | inr ge ↦
          let len : length text ≡ length (front ++ (44 ∷ rest)) = ap length f in
          let at : slice_index_or text (length front) 0 ≡ 44 = ap (λ (u : List ℕ). slice_index_or u (length front) 0) f ∙ get_or-append_seam front 44 rest 0 in
          let less : length front < length (front ++ (44 ∷ rest)) = seam_within front rest in
          eqb-false (slice_index_or text (length front) 0) 44 (fails_before_first is_comma text (length front) 0 (omega (arith, ge, len, less))) at
    ]
  where
    seam_within : (front rest : List ℕ) → length front < length (front ++ (44 ∷ rest))
    seam_within [] rest = omega arith
    seam_within (x ∷ front) rest = omega (arith, seam_within front rest)

-- a text is parted at its first comma in one way
not_shorter : (a b r s : List ℕ) → HasNoComma b → a ++ (44 ∷ r) ≡ b ++ (44 ∷ s) → length a < length b → ⊥
not_shorter a b r s none e lt =
    none (length a) lt
    (sym (get_or_append_left b (44 ∷ s) 0 (length a) lt) ∙ ap (λ (u : List ℕ). slice_index_or u (length a) 0) (sym e) ∙ get_or-append_seam a 44 r 0)

same_length : (a b r s : List ℕ) → HasNoComma a → HasNoComma b → a ++ (44 ∷ r) ≡ b ++ (44 ∷ s) → length a ≡ length b
same_length a b r s p q e =
    elim (cases_lt (length a) (length b)) [
      | inl lt ↦ absurd (not_shorter a b r s q e lt)
      | inr ge ↦ elim (cases_lt (length b) (length a)) [ inl gt ↦ absurd (not_shorter b a s r p (sym e) gt) | inr le ↦ omega (arith, ge, le) ]
    ]

pub record IsSame (a b r s : List ℕ) : Type 0 where
  pub fronts : a ≡ b
  pub rests : r ≡ s

behind_comma : (r s : List ℕ) → 44 ∷ r ≡ 44 ∷ s → r ≡ s
behind_comma r s e = cc

pub parted_once : (a b r s : List ℕ) → HasNoComma a → HasNoComma b → a ++ (44 ∷ r) ≡ b ++ (44 ∷ s) → IsSame a b r s
parted_once a b r s p q e =
    let len : length a ≡ length b = same_length a b r s p q e in
    record {
      fronts = sym (take_at a (44 ∷ r) (length a) refl) ∙ ap (λ (u : List ℕ). take (length a) u) e ∙ take_at b (44 ∷ s) (length a) (sym len);
      rests = behind_comma r s (sym (drop_at a (44 ∷ r) (length a) refl) ∙ ap (λ (u : List ℕ). drop (length a) u) e ∙ drop_at b (44 ∷ s) (length a) (sym len));
    }

-- coordinates
no_comma_more : (d : ℕ) (ds : List ℕ) → d ≢ 44 → HasNoComma ds → HasNoComma (d ∷ ds)
no_comma_more d ds ne h zero lt e = ne e
no_comma_more d ds ne h (suc k) lt e = h k (omega (arith, lt)) e

comma_first : (ds : List ℕ) → AllDigits 10 (44 ∷ ds) → ⊥
comma_first ds all = absurd (omega (arith, all.0))

no_comma_digits : (ds : List ℕ) → AllDigits 10 ds → HasNoComma ds
no_comma_digits [] all = λ k lt e. absurd (omega (arith, lt))
no_comma_digits (d ∷ ds) all = no_comma_more d ds (λ e. comma_first ds (subst (λ (u : ℕ). AllDigits 10 (u ∷ ds)) e all)) (no_comma_digits ds all.1)

no_comma_decimal : (n : ℕ) → n < 2 ^ 40 → HasNoComma (decimal n)
no_comma_decimal n h = no_comma_digits (decimal n) (decimal_is_IsNumeral n (omega (arith, h))).0.1

pub no_comma_coordinate : (text : List ℕ) (value : ℤ) → IsCoordinate text value → HasNoComma text
no_comma_coordinate text value (n, h, inl (e, f)) = subst (λ (u : List ℕ). HasNoComma u) (sym e) (no_comma_decimal n h)
no_comma_coordinate text value (n, h, inr (e, f)) = subst (λ (u : List ℕ). HasNoComma u) (sym e) (no_comma_more 45 (decimal n) (λ e. absurd (omega (arith, e))) (no_comma_decimal n h))

-- a coordinate by its sign
pub coordinate_below : (text size : List ℕ) (o : Option ℕ) → text ≡ codes "-" ++ size → ((n : ℕ) → n < 2 ^ 40 → size ≡ decimal n → o ≡ Some n) → (value : ℤ) → IsCoordinate text value → option_map (λ n. neg_ℤ (pos n)) o ≡ Some value
coordinate_below text size o e found value (n, h, inl (g, f)) = absurd (no_minus n text [] size (omega (arith, h)) (g ∙ sym (append-nil (decimal n))) e)
coordinate_below text size o e found value (n, h, inr (g, f)) =
    let s : size ≡ decimal n = ap (λ (t : List ℕ). drop 1 t) (sym e ∙ g) in
    ap (option_map (λ n. neg_ℤ (pos n))) (found n h s) ∙ ap Some (sym f)

signs_apart : (text : List ℕ) (n m : ℕ) → n < 2 ^ 40 → text ≡ decimal n → text ≡ codes "-" ++ decimal m → ⊥
signs_apart text n m h e f = no_minus n text [] (decimal m) (omega (arith, h)) (e ∙ sym (append-nil (decimal n))) f

coordinate_once : (text : List ℕ) (a b : ℤ) → IsCoordinate text a → IsCoordinate text b → a ≡ b
coordinate_once text a b (n, h, inl (e, f)) (m, k, inl (g, i)) = f ∙ ap pos (decimal_injective n m (omega (arith, h)) (omega (arith, k)) (sym e ∙ g)) ∙ sym i
coordinate_once text a b (n, h, inl (e, f)) (m, k, inr (g, i)) = absurd (signs_apart text n m h e g)
coordinate_once text a b (n, h, inr (e, f)) (m, k, inl (g, i)) = absurd (signs_apart text m n k g e)
coordinate_once text a b (n, h, inr (e, f)) (m, k, inr (g, i)) =
    let s : decimal n ≡ decimal m = ap (λ (t : List ℕ). drop 1 t) (sym e ∙ g) in
    f ∙ ap (λ (z : ℕ). neg_ℤ (pos z)) (decimal_injective n m (omega (arith, h)) (omega (arith, k)) s) ∙ sym i

-- the three texts of a point
record AreTexts (x y z a b c : List ℕ) : Type 0 where
  first : x ≡ a
  second : y ≡ b
  third : z ≡ c

texts_once : (x y z a b c : List ℕ) → HasNoComma x → HasNoComma y → HasNoComma a → HasNoComma b → x ++ (44 ∷ (y ++ (44 ∷ z))) ≡ a ++ (44 ∷ (b ++ (44 ∷ c))) → AreTexts x y z a b c
texts_once x y z a b c nx ny na nb e =
    let o = parted_once x a (y ++ (44 ∷ z)) (b ++ (44 ∷ c)) nx na e in
    let i = parted_once y b z c ny nb o.rests in
    record { first = o.fronts; second = i.fronts; third = i.rests }

pub point_once : (text : List ℕ) (p q : Place) → IsPoint text p → IsPoint text q → p ≡ q
point_once text p q (x, y, z, e, px, py, pz) (a, b, c, f, qx, qy, qz) =
    let t = texts_once x y z a b c (no_comma_coordinate x p.x px) (no_comma_coordinate y p.y py) (no_comma_coordinate a q.x qx) (no_comma_coordinate b q.y qy) (sym e ∙ f) in
    let ex = coordinate_once a p.x q.x (subst (λ (u : List ℕ). IsCoordinate u p.x) t.first px) qx in
    let ey = coordinate_once b p.y q.y (subst (λ (u : List ℕ). IsCoordinate u p.y) t.second py) qy in
    let ez = coordinate_once c p.z q.z (subst (λ (u : List ℕ). IsCoordinate u p.z) t.third pz) qz in
    λ i. record { x = ex i; y = ey i; z = ez i }

-- the point by its coordinates, where all are there
abbrev pub place_by : Option ℤ → Option ℤ → Option ℤ → Option Place
place_by x y z = option_and_then (λ x. option_and_then (λ y. option_map (λ z. place x y z) z) y) x

pub point_found : (text x y z : List ℕ) (ox oy oz : Option ℤ) (p : Place) → text ≡ x ++ (44 ∷ (y ++ (44 ∷ z))) → HasNoComma x → HasNoComma y →
    ((value : ℤ) → IsCoordinate x value → ox ≡ Some value) → ((value : ℤ) → IsCoordinate y value → oy ≡ Some value) → ((value : ℤ) → IsCoordinate z value → oz ≡ Some value) →
    IsPoint text p → place_by ox oy oz ≡ Some p
point_found text x y z ox oy oz p e nx ny fx fy fz (a, b, c, f, qx, qy, qz) =
    let t = texts_once a b c x y z (no_comma_coordinate a p.x qx) (no_comma_coordinate b p.y qy) nx ny (sym f ∙ e) in
    let ex = fx p.x (subst (λ (u : List ℕ). IsCoordinate u p.x) t.first qx) in
    let ey = fy p.y (subst (λ (u : List ℕ). IsCoordinate u p.y) t.second qy) in
    let ez = fz p.z (subst (λ (u : List ℕ). IsCoordinate u p.z) t.third qz) in
    rw (ex, ey, ez) refl

pub no_point : (text : List ℕ) (p : Place) → ((front rest : List ℕ) → text ≡ front ++ (44 ∷ rest) → ⊥) → IsPoint text p → ⊥
no_point text p none (x, y, z, e, px, py, pz) = none x (y ++ (44 ∷ z)) e

pub no_second : (text x rest : List ℕ) (p : Place) → text ≡ x ++ (44 ∷ rest) → HasNoComma x → ((front back : List ℕ) → rest ≡ front ++ (44 ∷ back) → ⊥) → IsPoint text p → ⊥
no_second text x rest p e nx none (a, b, c, f, qx, qy, qz) =
    let o = parted_once x a rest (b ++ (44 ∷ c)) nx (no_comma_coordinate a p.x qx) (sym e ∙ f) in
    none b c o.rests

pub point_is : (text x y z : List ℕ) (ox oy oz : Option ℤ) → text ≡ x ++ (44 ∷ (y ++ (44 ∷ z))) →
    IfSome ox (λ value. IsCoordinate x value) → IfSome oy (λ value. IsCoordinate y value) → IfSome oz (λ value. IsCoordinate z value) → IfSome (place_by ox oy oz) (λ p. IsPoint text p)
point_is text x y z None oy oz e hx hy hz = tt
point_is text x y z (Some i) None oz e hx hy hz = tt
point_is text x y z (Some i) (Some j) None e hx hy hz = tt
point_is text x y z (Some i) (Some j) (Some k) e hx hy hz = (x, y, z, e, hx, hy, hz)
