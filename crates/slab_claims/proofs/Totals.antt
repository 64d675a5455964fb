-- Sums over the views of all seats, and how often a number stands in their lists.
use Rattle.std.proofs.Common.{◌≡◌, ℕ, zero, suc, ◌+◌, ◌<◌, ◌≤◌, ◌==◌, List, [], ◌∷◌, ◌++◌, length, set, get_or, All, sum_by, flat_map, if◌then◌else◌, refl, sym, ap, subst, arith}
use Rattle.std.proofs.lemmas.List.Sums.{sum_by-set, sum_by_push, get_or-le-sum_by}
use mathlib.Core.Option.{some, some-ne-none, some-injective}
use lib.ListN.{get_elem?}
use Rattle.list_words.specs.Words.{times}
use Rattle.list_words.proofs.Lists.{times_append}
use Rattle.list_words.proofs.Sums.{times-flat_map}

pub times-push : (x : ℕ) (xs : List ℕ) (y : ℕ) → times x (xs ++ y ∷ []) ≡ times x xs + (if y == x then 1 else 0)
times-push x xs y = sum_by_push (λ z. if z == x then 1 else 0) xs y

module _ {A : Type 0} where
  -- an element that is looked up stands in the list
  within : (xs : List A) (i : ℕ) (v : A) → get_elem? xs i ≡ some v → i < length xs
  within [] i v e = absurd (some-ne-none v (sym e))
  within (x ∷ xs) zero v e = omega arith
  within (x ∷ xs) (suc i) v e = let h = within xs i v e in omega arith

  get_or_at : (xs : List A) (i : ℕ) (v : A) → get_elem? xs i ≡ some v → get_or xs i v ≡ v
  get_or_at [] i v e = absurd (some-ne-none v (sym e))
  get_or_at (x ∷ xs) zero v e = some-injective x v e
  get_or_at (x ∷ xs) (suc i) v e = get_or_at xs i v e

  pub All-at : (P : A → Type 0) (xs : List A) (i : ℕ) (v : A) → get_elem? xs i ≡ some v → All P xs → P v
  All-at P xs i v e all = subst P (get_or_at xs i v e) (all i v (within xs i v e))

  pub sum_by-set_at : (f : A → ℕ) (xs : List A) (i : ℕ) (v w : A) → get_elem? xs i ≡ some v → sum_by f (set xs i w) + f v ≡ sum_by f xs + f w
  sum_by-set_at f xs i v w e =
      let s = sum_by-set f xs i w v (within xs i v e) in
      let is : f (get_or xs i v) ≡ f v = ap f (get_or_at xs i v e) in
      omega arith

  -- what all lists have together
  pub times-flat_map-set : (f : A → List ℕ) (x : ℕ) (vs : List A) (i : ℕ) (v w : A) → get_elem? vs i ≡ some v → times x (flat_map f (set vs i w)) + times x (f v) ≡ times x (flat_map f vs) + times x (f w)
  times-flat_map-set f x vs i v w e =
      let before = times-flat_map f x vs in
      let after = times-flat_map f x (set vs i w) in
      let s = sum_by-set_at (λ u. times x (f u)) vs i v w e in
      omega arith

  pub times-flat_map_push : (f : A → List ℕ) (x : ℕ) (vs : List A) (v : A) → times x (flat_map f (vs ++ v ∷ [])) ≡ times x (flat_map f vs) + times x (f v)
  times-flat_map_push f x vs v =
      let before = times-flat_map f x vs in
      let after = times-flat_map f x (vs ++ v ∷ []) in
      let p = sum_by_push (λ u. times x (f u)) vs v in
      omega arith

  pub times-le-flat_map : (f : A → List ℕ) (x : ℕ) (vs : List A) (i : ℕ) (v : A) → get_elem? vs i ≡ some v → times x (f v) ≤ times x (flat_map f vs)
  times-le-flat_map f x vs i v e =
      let all = times-flat_map f x vs in
      let part = get_or-le-sum_by (λ u. times x (f u)) vs i v (within vs i v e) in
      let is : times x (f (get_or vs i v)) ≡ times x (f v) = ap (λ (u : A). times x (f u)) (get_or_at vs i v e) in
      omega arith

  -- where each list is empty
  pub times-flat_map_none : (f : A → List ℕ) (x : ℕ) (vs : List A) → All (λ v. f v ≡ []) vs → times x (flat_map f vs) ≡ 0
  times-flat_map_none f x [] none = refl
  times-flat_map_none f x (v ∷ vs) none =
      let a = times_append x (f v) (flat_map f vs) in
      let here : times x (f v) ≡ 0 = ap (times x) (none 0 v (omega arith)) in
      let h = times-flat_map_none f x vs (λ k d lt. none (suc k) d (omega arith)) in
      omega arith
