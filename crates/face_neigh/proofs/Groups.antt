-- Elements in groups, in another order.
use Rattle.std.proofs.Common.{◌≡◌, ℕ, zero, suc, ◌+◌, ◌<◌, List, [], ◌∷◌, ◌++◌, length, get_or, set, take, sym, ap, ◌∙◌, subst, append_assoc, arith}
use Rattle.std.specs.Prelude.{flat_map, IsPermutation}
use Rattle.std.proofs.lemmas.List.{take_more, append-nil}
use Rattle.std.proofs.lemmas.List.Concat.{flat_map-append}
use Rattle.std.proofs.lemmas.List.Sorted.{IsPermutation-refl, IsPermutation-trans, IsPermutation-append, IsPermutation-append_left, IsPermutation-append_comm}

module _ {G X : Type 0} (items : G → List X) where
  -- one more in one group
  pub one_more : (gs : List G) (k : ℕ) (g : G) (x : X) (d : G) → k < length gs → items g ≡ items (get_or gs k d) ++ x ∷ [] → IsPermutation (flat_map items gs ++ x ∷ []) (flat_map items (set gs k g))
  one_more [] k g x d lt e = absurd (omega arith)
  one_more (a ∷ gs) zero g x d lt e =
      subst (λ l. IsPermutation l (items g ++ flat_map items gs)) (sym (append_assoc (items a) (flat_map items gs) (x ∷ [])))
      (subst (λ l. IsPermutation (items a ++ (flat_map items gs ++ x ∷ [])) l) (sym (append_assoc (items a) (x ∷ []) (flat_map items gs)) ∙ ap (λ t. t ++ flat_map items gs) (sym e))
      (IsPermutation-append (items a) (items a) (flat_map items gs ++ x ∷ []) (x ∷ [] ++ flat_map items gs) (IsPermutation-refl (items a)) (IsPermutation-append_comm (flat_map items gs) (x ∷ []))))
  one_more (a ∷ gs) (suc k) g x d lt e =
      subst (λ l. IsPermutation l (items a ++ flat_map items (set gs k g))) (sym (append_assoc (items a) (flat_map items gs) (x ∷ [])))
      (IsPermutation-append (items a) (items a) (flat_map items gs ++ x ∷ []) (flat_map items (set gs k g)) (IsPermutation-refl (items a)) (one_more gs k g x d (omega arith) e))

  -- the elements of one more group
  pub group_more : (gs : List G) (n : ℕ) (d : G) → n < length gs → flat_map items (take (n + 1) gs) ≡ flat_map items (take n gs) ++ items (get_or gs n d)
  group_more gs n d lt = ap (flat_map items) (take_more gs n d lt) ∙ (flat_map-append items (take n gs) (get_or gs n d ∷ []) ∙ ap (λ t. flat_map items (take n gs) ++ t) (append-nil (items (get_or gs n d))))

-- one more element
pub element_more : {X : Type 0} (start done now : List X) (xs : List X) (n : ℕ) (d : X) → n < length xs → IsPermutation (start ++ take n xs) done → IsPermutation (done ++ get_or xs n d ∷ []) now → IsPermutation (start ++ take (n + 1) xs) now
element_more start done now xs n d lt before step =
    subst (λ l. IsPermutation l now) (append_assoc start (take n xs) (get_or xs n d ∷ []) ∙ ap (λ t. start ++ t) (sym (take_more xs n d lt)))
    (IsPermutation-trans _ _ _ (IsPermutation-append_left (get_or xs n d ∷ []) _ _ before) step)

-- the elements of one more group, in another order
pub joined_more : {X : Type 0} (start done now old new more : List X) → new ≡ old ++ more → IsPermutation (start ++ old) done → IsPermutation (done ++ more) now → IsPermutation (start ++ new) now
joined_more start done now old new more e before step =
    subst (λ l. IsPermutation l now) (append_assoc start old more ∙ ap (λ t. start ++ t) (sym e)) (IsPermutation-trans _ _ _ (IsPermutation-append_left more _ _ before) step)
