-- The text of a point, by what is found for it.
use Rattle.std.proofs.Common.{◌≡◌, ℕ, zero, suc, ◌<◌, inl, inr, Bool, true, false, Some, None, List, [], ◌∷◌, ◌&&◌, ◌++◌, append_assoc, codes, length, map, get_or, decimal, refl, sym, ap, ◌∙◌, arith}
use Rattle.std.specs.Prelude.{ℤ, pos, int_le, ◌≤ℤ◌}
use Rattle.std.specs.Fmt.{signed_decimal}
use Rattle.std.specs.List.{position, position_or_len}
use Rattle.std.proofs.lemmas.Bool.{cases_Bool}
use Rattle.std.proofs.lemmas.Bool.Decides.{nat_tests}
use Rattle.std.proofs.lemmas.Int.{ints}
use Rattle.std.proofs.lemmas.List.Sums.{AllPass-from_list_all, position_or_len_is}
use borrow.Author.Differences.{at_most_in}
use Rattle.definitions.specs.declared.Place.{Place}
use Rattle.definitions.specs.Values.{Field}
use Rattle.definitions.specs.States.{Shares}
use Rattle.definitions.specs.Mesh.{mesh}
use Rattle.definitions.specs.Soundness.{corner_places}
use Rattle.formats.specs.Texts.{line}
use Rattle.mesh_probe.specs.declared.hold.Hold.{Hold}
use Rattle.mesh_probe.specs.Answers.{IsHold, IsOutside, number_of_hold}
use Rattle.mesh_probe.specs.Holding.{Holds, IsFirst, places_of, weight, weights}
use Rattle.mesh_probe.specs.ProbeTexts.{hold_line, holder, holder_text, holds, probe_text}

passes : (a : ℤ) → pos 0 ≤ℤ a → int_le (pos 0) a ≡ true
passes a h = grind (arith, ints)

not_below : (a : ℤ) → int_le (pos 0) a ≡ true → pos 0 ≤ℤ a
not_below a e = at_most_in _ _ (grind (arith, ints))

held : (tet : List Place) (p : Place) → Holds tet p → holds tet p ≡ true
held tet p h =
    let e0 = passes (weight tet p 0) (h 0 (omega arith)) in
    let e1 = passes (weight tet p 1) (h 1 (omega arith)) in
    let e2 = passes (weight tet p 2) (h 2 (omega arith)) in
    let e3 = passes (weight tet p 3) (h 3 (omega arith)) in
    λ i. e0 i && (e1 i && (e2 i && (e3 i && true)))

all_not_below : (tet : List Place) (p : Place) → holds tet p ≡ true → Holds tet p
all_not_below tet p e zero lt = not_below _ (AllPass-from_list_all (λ w. int_le (pos 0) w) (weights tet p) e 0 (pos 0) (omega arith))
all_not_below tet p e (suc zero) lt = not_below _ (AllPass-from_list_all (λ w. int_le (pos 0) w) (weights tet p) e 1 (pos 0) (omega arith))
all_not_below tet p e (suc (suc zero)) lt = not_below _ (AllPass-from_list_all (λ w. int_le (pos 0) w) (weights tet p) e 2 (pos 0) (omega arith))
all_not_below tet p e (suc (suc (suc zero))) lt = not_below _ (AllPass-from_list_all (λ w. int_le (pos 0) w) (weights tet p) e 3 (pos 0) (omega arith))
all_not_below tet p e (suc (suc (suc (suc i)))) lt = absurd (omega arith)

not_held : (tet : List Place) (p : Place) → (Holds tet p → ⊥) → holds tet p ≡ false
not_held tet p h = elim (cases_Bool (holds tet p)) [
  | inl e ↦ absurd (h (all_not_below tet p e))
  | inr e ↦ e
]

found_at : {X : Type 0} (q : X → Bool) (xs : List X) (n : ℕ) → position_or_len q xs ≡ n → n < length xs → position q xs ≡ Some n
found_at q xs n e lt = grind (arith, nat_tests)

found_nowhere : {X : Type 0} (q : X → Bool) (xs : List X) → position_or_len q xs ≡ length xs → position q xs ≡ None
found_nowhere q xs e = grind (arith, nat_tests)

holder_first : (f : Field) (s : Shares) (p : Place) (n : ℕ) → IsFirst f s p n → holder f s p ≡ Some n
holder_first f s p n h =
    let q : List ℕ → Bool = λ tet. holds (corner_places (mesh f s).places tet) p in
    found_at q (mesh f s).tets n
    (position_or_len_is q (mesh f s).tets n [] (let w = h.within in omega arith) (λ m lt. not_held (places_of f s m) p (h.first m lt)) (λ lt. held (places_of f s n) p h.holds)) h.within

holder_none : (f : Field) (s : Shares) (p : Place) → IsOutside f s p → holder f s p ≡ None
holder_none f s p h =
    let q : List ℕ → Bool = λ tet. holds (corner_places (mesh f s).places tet) p in
    found_nowhere q (mesh f s).tets (position_or_len_is q (mesh f s).tets (length (mesh f s).tets) [] (omega arith) (λ m lt. not_held (places_of f s m) p (h m lt)) (λ lt. absurd (omega arith)))

decimals : (ws : List ℕ) → map signed_decimal (map pos ws) ≡ map decimal ws
decimals [] = refl
decimals (w ∷ ws) = ap (λ l. decimal w ∷ l) (decimals ws)

pub text_of_hold : (f : Field) (s : Shares) (p : Place) (hold : Hold) (n : ℕ) → IsHold f s p hold → n ≡ number_of_hold f s hold → hold_line n (map decimal hold.weights) ≡ probe_text f s p
unfolding probe_text
text_of_hold f s p hold n is e =
    ap (λ m. hold_line m (map decimal hold.weights)) e
    ∙ ap (hold_line (number_of_hold f s hold)) (sym (decimals hold.weights))
    ∙ ap (λ ws. hold_line (number_of_hold f s hold) (map signed_decimal ws)) is.weights_are
    ∙ sym (ap (holder_text f s p) (holder_first f s p (number_of_hold f s hold) is.first))

pub text_outside : (f : Field) (s : Shares) (p : Place) → IsOutside f s p → holder_text f s p None ≡ probe_text f s p
unfolding probe_text
text_outside f s p h = sym (ap (holder_text f s p) (holder_none f s p h))

in_a_row : (t s n w x y z : List ℕ) → ((((([] ++ (t ++ n)) ++ (s ++ w)) ++ (32 ∷ x)) ++ (32 ∷ y)) ++ (32 ∷ z)) ++ (10 ∷ []) ≡ t ++ (n ++ (s ++ (w ++ (32 ∷ (x ++ (32 ∷ (y ++ (32 ∷ (z ++ (10 ∷ []))))))))))
in_a_row t s n w x y z = simp append_assoc

seven_fields : (a n b w x y z : List ℕ) → a ++ (32 ∷ (n ++ (32 ∷ (b ++ (32 ∷ (w ++ (32 ∷ (x ++ (32 ∷ (y ++ (32 ∷ (z ++ (10 ∷ []))))))))))))) ≡ line (a ∷ n ∷ b ∷ w ∷ x ∷ y ∷ z ∷ [])
seven_fields a n b w x y z = simp append_assoc

-- the line of a tetrahedron, number by number
pub hold_line_made : (a b c d e f g n w x y z : List ℕ) → a ≡ [] → b ≡ a ++ (codes "tetrahedron " ++ n) → c ≡ b ++ (codes " weights " ++ w) → d ≡ c ++ (codes " " ++ x) → e ≡ d ++ (codes " " ++ y) → f ≡ e ++ (codes " " ++ z) → g ≡ f ++ (10 ∷ [])
    → g ≡ line (codes "tetrahedron" ∷ n ∷ codes "weights" ∷ w ∷ x ∷ y ∷ z ∷ [])
hold_line_made a b c d e f g n w x y z h i j k l m o =
    o ∙ ap (λ t. t ++ (10 ∷ [])) (m ∙ ap (λ t. t ++ (codes " " ++ z)) (l ∙ ap (λ t. t ++ (codes " " ++ y)) (k ∙ ap (λ t. t ++ (codes " " ++ x)) (j ∙ ap (λ t. t ++ (codes " weights " ++ w)) (i ∙ ap (λ t. t ++ (codes "tetrahedron " ++ n)) h)))))
    ∙ in_a_row (codes "tetrahedron ") (codes " weights ") n w x y z ∙ seven_fields (codes "tetrahedron") n (codes "weights") w x y z

-- four decimals, one by one
pub four_decimals : (ws : List ℕ) → length ws ≡ 4 → decimal (get_or ws 0 0) ∷ decimal (get_or ws 1 0) ∷ decimal (get_or ws 2 0) ∷ decimal (get_or ws 3 0) ∷ [] ≡ map decimal ws
four_decimals (a ∷ b ∷ c ∷ d ∷ []) len = refl
four_decimals [] len = absurd (omega arith)
four_decimals (a ∷ []) len = absurd (omega arith)
four_decimals (a ∷ b ∷ []) len = absurd (omega arith)
four_decimals (a ∷ b ∷ c ∷ []) len = absurd (omega arith)
four_decimals (a ∷ b ∷ c ∷ d ∷ e ∷ ws) len = absurd (omega arith)
