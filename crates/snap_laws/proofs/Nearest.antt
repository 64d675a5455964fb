-- What holds of each near cut at a vertex holds of the nearest.
use Rattle.std.proofs.Common.{◌≡◌, ℕ, zero, suc, ◌+◌, ◌<◌, ◌≤◌, arith, refl, true, false, List, [], ◌∷◌, Option, Some, None}
use Rattle.std.specs.Prelude.{if◌then◌else◌, fold, filter_map, option_and_then}
use Rattle.std.specs.List.{range_with_len, cons_option, AllByRecursion}
use Rattle.definitions.specs.declared.Near.{Near}
use Rattle.definitions.specs.Lists.{least_by, lesser}
use Rattle.definitions.specs.States.{is_nearer}

-- what a chain of two answers says where there is one at its end
pub both_some : {X Y : Type 0} (g : X → Option Y) (o : Option X) (y : Y) → option_and_then g o ≡ Some y → (x : X) × (o ≡ Some x) × (g x ≡ Some y)
both_some g None y e = cc
both_some g (Some x) y e = (x, refl, e)

module _ (P : Near → Type 0) where
  abbrev pub IfNear : Option Near → Type 0
  IfNear o = AllByRecursion P (cons_option o [])

  lesser_has : (a : Option Near) (x : Near) → IfNear a → P x → P (lesser is_nearer a x)
  lesser_has None x h k = k
  lesser_has (Some y) x h k = elim (is_nearer x y) as (λ b. P (if b then x else y)) [ true ↦ k | false ↦ h.0 ]

  least_has : (xs : List Near) (a : Option Near) → AllByRecursion P xs → IfNear a → IfNear (fold (λ a x. Some (lesser is_nearer a x)) a xs)
  least_has [] a h k = k
  least_has (x ∷ xs) a h k = least_has xs (Some (lesser is_nearer a x)) h.1 (lesser_has a x k h.0, tt)

  module _ (cut : ℕ → Option Near) where
    all_have : (a n : ℕ) → ((edge : ℕ) (m : Near) → a ≤ edge → edge < a + n → cut edge ≡ Some m → P m) → AllByRecursion P (filter_map cut (range_with_len a n))
    all_have a zero h = tt
    all_have a (suc n) h = go (cut a) refl (all_have (a + 1) n (λ edge m low high e. h edge m (omega arith) (omega arith) e))
      where
        go : (o : Option Near) → cut a ≡ o → AllByRecursion P (filter_map cut (range_with_len (a + 1) n)) → AllByRecursion P (cons_option o (filter_map cut (range_with_len (a + 1) n)))
        go None e rest = rest
        go (Some m) e rest = (h a m (omega arith) (omega arith) e, rest)

    -- of the cuts on the edges 1 to 14
    pub nearest_has : ((edge : ℕ) (m : Near) → 1 ≤ edge → edge ≤ 14 → cut edge ≡ Some m → P m) → IfNear (least_by is_nearer (filter_map cut (range_with_len 1 14)))
    unfolding least_by
    nearest_has h = least_has (filter_map cut (range_with_len 1 14)) None (all_have 1 14 (λ edge m low high e. h edge m low (omega arith) e)) tt
