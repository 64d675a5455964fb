-- The least of a list is one of its elements, and none is less.
use Rattle.std.proofs.Common.{◌≡◌, inl, inr, refl, sym, ◌∙◌, subst, Bool, true, false, List, [], ◌∷◌, Option, Some}
use Rattle.std.specs.Prelude.{All, fold, if◌then◌else◌}
use Rattle.std.proofs.lemmas.List.Elements.{All-cons, All-head, All-nil, All-tail}
use Rattle.definitions.specs.Lists.{least_by, lesser}
use Rattle.dihedral.proofs.WeakOrders.{IsWeakOrder}
use Rattle.lattice_laws.specs.Ascending.{Has}

-- it is an element, and none is less
pub record IsLeast {X : Type 0} (lt : X → X → Bool) (xs : List X) (x : X) : Type 0 where
  pub is_element : Has x xs
  pub none_is_less : All (λ y. lt y x ≡ false) xs

module _ {X : Type 0} (P : X → Type 0) (lt : X → X → Bool) (weak : IsWeakOrder P lt) (itself : (x : X) → lt x x ≡ false) where
  abbrev step : Option X → X → Option X
  step o x = Some (lesser lt o x)

  not_both : (x y : X) → P x → P y → lt x y ≡ true → lt y x ≡ false
  not_both x y p q h = go (lt y x) refl
    where
      go : (t : Bool) → lt y x ≡ t → lt y x ≡ false
      go true e = let f : true ≡ false = sym (weak.less x y x p q p h e) ∙ itself x in cc
      go false e = e

  -- the least of an element and of those after it
  run : (a b : X) (xs : List X) → P a → All P xs → fold step (Some a) xs ≡ Some b → P b × (lt a b ≡ false) × IsLeast lt (a ∷ xs) b
  run a b [] p all e =
      let is : a ≡ b = cc in
      (subst P is p, subst (λ z. lt a z ≡ false) is (itself a), record { is_element = inl is; none_is_less = All-cons (λ y. lt y b ≡ false) a [] (subst (λ z. lt a z ≡ false) is (itself a)) (All-nil (λ y. lt y b ≡ false)) })
  run a b (x ∷ xs) p all e = go (λ c q. run c b xs q (All-tail P x xs all)) (lt x a) refl e
    where
      q : P x
      q = All-head P x xs all

      past : Has b (a ∷ xs) → Has b (a ∷ x ∷ xs)
      past (inl i) = inl i
      past (inr i) = inr (inr i)

      go : ((c : X) → P c → fold step (Some c) xs ≡ Some b → P b × (lt c b ≡ false) × IsLeast lt (c ∷ xs) b) → (t : Bool) → lt x a ≡ t → fold step (Some (if t then x else a)) xs ≡ Some b → P b × (lt a b ≡ false) × IsLeast lt (a ∷ x ∷ xs) b
      go rest true h e =
          let r = rest x q e in
          let before : lt a b ≡ false = weak.not_less a x b p q r.0 (not_both x a q p h) r.1 in
          (r.0, before, record { is_element = inr r.2.is_element; none_is_less = All-cons (λ y. lt y b ≡ false) a (x ∷ xs) before r.2.none_is_less })
      go rest false h e =
          let r = rest a p e in
          let after : lt x b ≡ false = weak.not_less x a b q p r.0 h r.1 in
          let none : All (λ y. lt y b ≡ false) (x ∷ xs) = All-cons (λ y. lt y b ≡ false) x xs after (All-tail (λ y. lt y b ≡ false) a xs r.2.none_is_less) in
          (r.0, r.1, record { is_element = past r.2.is_element; none_is_less = All-cons (λ y. lt y b ≡ false) a (x ∷ xs) r.1 none })

  pub least_of : (xs : List X) (a : X) → All P xs → least_by lt xs ≡ Some a → IsLeast lt xs a
  unfolding least_by
  least_of [] a all e = cc
  least_of (x ∷ xs) a all e = (run x a xs (All-head P x xs all) (All-tail P x xs all) e).2
