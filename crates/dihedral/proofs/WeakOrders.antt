-- The least of a list whose front and end are known, where being less is an order up to ties.
use Rattle.std.proofs.Common.{◌≡◌, refl, ap, sym, ◌∙◌, Bool, true, false, List, [], ◌∷◌, ◌++◌, Option, Some, None}
use Rattle.std.specs.Prelude.{All, fold, option_map, if◌then◌else◌}
use Rattle.std.proofs.lemmas.List.Elements.{All-head, All-tail}
use Rattle.std.proofs.lemmas.List.Sums.{fold-append}
use Rattle.definitions.specs.Lists.{least_by, lesser}

-- Among those of which P holds, to be less is transitive, and not to be less too.
pub record IsWeakOrder {X : Type 0} (P : X → Type 0) (lt : X → X → Bool) : Type 0 where
  pub less : (x y z : X) → P x → P y → P z → lt x y ≡ true → lt y z ≡ true → lt x z ≡ true
  pub not_less : (x y z : X) → P x → P y → P z → lt x y ≡ false → lt y z ≡ false → lt x z ≡ false

module _ {X : Type 0} (P : X → Type 0) (lt : X → X → Bool) (weak : IsWeakOrder P lt) where
  abbrev pick : X → X → X
  pick a b = if lt b a then b else a

  pick-all : (a b : X) → P a → P b → P (pick a b)
  pick-all a b p q = go (lt b a)
    where
      go : (t : Bool) → P (if t then b else a)
      go true = q
      go false = p

  -- the first of three is picked in either order
  pick-assoc : (a b y : X) → P a → P b → P y → pick (pick a b) y ≡ pick a (pick b y)
  pick-assoc a b y p q r = go (lt b a) (lt y b) refl refl
    where
      go : (s t : Bool) → lt b a ≡ s → lt y b ≡ t → (if lt y (if s then b else a) then y else (if s then b else a)) ≡ (if lt (if t then y else b) a then (if t then y else b) else a)
      go true true e f = ap (λ u. if u then y else b) f ∙ sym (ap (λ u. if u then y else a) (weak.less y b a r q p f e))
      go true false e f = ap (λ u. if u then y else b) f ∙ sym (ap (λ u. if u then b else a) e)
      go false true e f = refl
      go false false e f = ap (λ u. if u then y else a) (weak.not_less y b a r q p f e) ∙ sym (ap (λ u. if u then b else a) e)

  abbrev step : Option X → X → Option X
  step o x = Some (lesser lt o x)

  run : (a b : X) (ys : List X) → P a → P b → All P ys → fold step (Some (pick a b)) ys ≡ option_map (pick a) (fold step (Some b) ys)
  run a b [] p q all = refl
  run a b (y ∷ ys) p q all =
      ap (λ t. fold step (Some t) ys) (pick-assoc a b y p q (All-head P y ys all))
      ∙ run a (pick b y) ys p (pick-all b y q (All-head P y ys all)) (All-tail P y ys all)

  from_some : (a : X) (ys : List X) → P a → All P ys → (b : X) → least_by lt ys ≡ Some b → fold step (Some a) ys ≡ Some (pick a b)
  unfolding least_by
  from_some a [] p all b e = cc
  from_some a (y ∷ ys) p all b e = run a y ys p (All-head P y ys all) (All-tail P y ys all) ∙ ap (option_map (pick a)) e

  -- the lesser of the least of both lists, of which the first stands before the second
  pub least_by-append : (xs ys : List X) (a b : X) → P a → All P ys → least_by lt xs ≡ Some a → least_by lt ys ≡ Some b → least_by lt (xs ++ ys) ≡ Some (lesser lt (Some a) b)
  unfolding least_by
  least_by-append xs ys a b p all e f = fold-append step None xs ys ∙ ap (λ o. fold step o ys) e ∙ from_some a ys p all b f
