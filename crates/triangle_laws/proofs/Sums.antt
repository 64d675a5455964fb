-- Sums over lists, and how often a test holds: somewhere, everywhere, or at most once.
use Rattle.std.proofs.Common.{◌≡◌, ℕ, ◌+◌, ◌<◌, ◌≤◌, Bool, true, false, cond, List, [], ◌∷◌, ◌++◌, map, refl, sym, ap, ◌∙◌, inl, inr, arith}
use Rattle.std.specs.Prelude.{filter, flat_map}
use Rattle.std.specs.List.{sum_by, list_any, list_all, AllByRecursion}
use Rattle.std.proofs.lemmas.List.Sums.{sum_by-cons}
use Rattle.std.proofs.lemmas.Bool.{or_left, or_right, and_from}
use Rattle.lattice_laws.specs.Ascending.{Ascends, Has}

-- a sum by recursion
abbrev pub total : {X : Type 0} → (X → ℕ) → List X → ℕ
total f [] = 0
total f (x ∷ xs) = f x + total f xs

pub total-is : {X : Type 0} (f : X → ℕ) (xs : List X) → sum_by f xs ≡ total f xs
total-is f [] = refl
total-is f (x ∷ xs) = let e = sum_by-cons f x xs in let h = total-is f xs in omega arith

pub total-same : {X : Type 0} (f g : X → ℕ) → ((x : X) → f x ≡ g x) → (xs : List X) → total f xs ≡ total g xs
total-same f g h [] = refl
total-same f g h (x ∷ xs) = let e = h x in let i = total-same f g h xs in omega arith

pub total-plus : {X : Type 0} (f g : X → ℕ) (xs : List X) → total (λ x. f x + g x) xs ≡ total f xs + total g xs
total-plus f g [] = refl
total-plus f g (x ∷ xs) = let i = total-plus f g xs in omega arith

total-zero : {X : Type 0} (xs : List X) → total (λ (x : X). 0) xs ≡ 0
total-zero [] = refl
total-zero (x ∷ xs) = let i = total-zero xs in omega arith

-- the order of two sums
pub total-swap : {X Y : Type 0} (f : X → Y → ℕ) (xs : List X) (ys : List Y) → total (λ x. total (f x) ys) xs ≡ total (λ y. total (λ x. f x y) xs) ys
total-swap f [] ys = sym (total-zero ys)
total-swap f (x ∷ xs) ys = let i = total-swap f xs ys in let j = total-plus (f x) (λ y. total (λ x. f x y) xs) ys in omega arith

pub total-append : {X : Type 0} (f : X → ℕ) (xs ys : List X) → total f (xs ++ ys) ≡ total f xs + total f ys
total-append f [] ys = omega arith
total-append f (x ∷ xs) ys = let i = total-append f xs ys in omega arith

pub total-flat_map : {X Y : Type 0} (f : Y → ℕ) (g : X → List Y) (xs : List X) → total f (flat_map g xs) ≡ total (λ x. total f (g x)) xs
total-flat_map f g [] = refl
total-flat_map f g (x ∷ xs) = let i = total-append f (g x) (flat_map g xs) in let j = total-flat_map f g xs in omega arith

pub total-filter : {X : Type 0} (f : X → ℕ) (p : X → Bool) (xs : List X) → total f (filter p xs) ≡ total (λ x. cond (p x) (f x) 0) xs
total-filter f p [] = refl
total-filter f p (x ∷ xs) = go (p x) (total-filter f p xs)
  where
    go : (b : Bool) → total f (filter p xs) ≡ total (λ x. cond (p x) (f x) 0) xs → total f (cond b (x ∷ filter p xs) (filter p xs)) ≡ cond b (f x) 0 + total (λ x. cond (p x) (f x) 0) xs
    go true h = omega arith
    go false h = omega arith

pub total-every : {X : Type 0} (f g : X → ℕ) (xs : List X) → AllByRecursion (λ x. f x ≡ g x) xs → total f xs ≡ total g xs
total-every f g [] h = refl
total-every f g (x ∷ xs) h = let i = total-every f g xs h.1 in let j = h.0 in omega arith

module _ {X : Type 0} (f : X → ℕ) where
  -- a sum is at least its value at a member, and at two different ones
  pub total_at : (x : X) (xs : List X) → Has x xs → f x ≤ total f xs
  total_at x [] h = absurd h
  total_at x (y ∷ ys) (inl e) = let g = ap f e in omega arith
  total_at x (y ∷ ys) (inr h) = let g = total_at x ys h in omega arith

  pub total_at_two : (x y : X) (xs : List X) → Has x xs → Has y xs → (y ≡ x → ⊥) → f x + f y ≤ total f xs
  total_at_two x y [] h k ne = absurd h
  total_at_two x y (z ∷ zs) (inl e) (inl g) ne = absurd (ne (sym g ∙ e))
  total_at_two x y (z ∷ zs) (inl e) (inr k) ne = let a = ap f e in let b = total_at y zs k in omega arith
  total_at_two x y (z ∷ zs) (inr h) (inl g) ne = let a = ap f g in let b = total_at x zs h in omega arith
  total_at_two x y (z ∷ zs) (inr h) (inr k) ne = let b = total_at_two x y zs h k ne in omega arith

pub total_monotone : {X : Type 0} (f g : X → ℕ) → ((x : X) → f x ≤ g x) → (xs : List X) → total f xs ≤ total g xs
total_monotone f g h [] = omega arith
total_monotone f g h (x ∷ xs) = let a = h x in let b = total_monotone f g h xs in omega arith

pub total-map : {X Y : Type 0} (f : Y → ℕ) (g : X → Y) (xs : List X) → total f (map g xs) ≡ total (λ x. f (g x)) xs
total-map f g [] = refl
total-map f g (x ∷ xs) = ap (λ n. f (g x) + n) (total-map f g xs)

-- 1 where a test holds, and 1 where it does not
abbrev pub bit : Bool → ℕ
bit b = cond b 1 0

abbrev pub miss : Bool → ℕ
miss b = cond b 0 1

module _ {X : Type 0} (p : X → Bool) where
  -- how often the test holds
  abbrev pub hits : List X → ℕ
  hits xs = total (λ x. cond (p x) 1 0) xs

  pub any_from_hits : (xs : List X) → 0 < hits xs → list_any p xs ≡ true
  any_from_hits [] h = absurd (omega arith)
  any_from_hits (x ∷ xs) h = go (p x) refl h (any_from_hits xs)
    where
      go : (b : Bool) → p x ≡ b → 0 < cond b 1 0 + hits xs → (0 < hits xs → list_any p xs ≡ true) → list_any p (x ∷ xs) ≡ true
      go true e k f = or_left (p x) _ e
      go false e k f = or_right (p x) _ (f (omega arith))

  pub hits_of_member : (x : X) (xs : List X) → Has x xs → p x ≡ true → 0 < hits xs
  hits_of_member x [] h e = absurd h
  hits_of_member x (y ∷ ys) (inl f) e = go (p y) (ap p f ∙ e)
    where
      go : (b : Bool) → b ≡ true → 0 < cond b 1 0 + hits ys
      go true g = omega arith
      go false g = cc
  hits_of_member x (y ∷ ys) (inr h) e = let k = hits_of_member x ys h e in omega arith

  -- no miss
  pub all_from_misses : (xs : List X) → total (λ x. cond (p x) 0 1) xs ≡ 0 → list_all p xs ≡ true
  all_from_misses [] h = refl
  all_from_misses (x ∷ xs) h = go (p x) refl h (all_from_misses xs)
    where
      go : (b : Bool) → p x ≡ b → cond b 0 1 + total (λ x. cond (p x) 0 1) xs ≡ 0 → (total (λ x. cond (p x) 0 1) xs ≡ 0 → list_all p xs ≡ true) → list_all p (x ∷ xs) ≡ true
      go true e k f = and_from (p x) _ e (f (omega arith))
      go false e k f = absurd (omega arith)

module _ {X : Type 0} (f : X → ℕ) where
  nothing_else : (x : X) (xs : List X) → 0 < f x → AllByRecursion (λ y. 0 < f x → 0 < f y → ⊥) xs → total f xs ≡ 0
  nothing_else x [] lt h = refl
  nothing_else x (y ∷ ys) lt h = let r = nothing_else x ys lt h.1 in let e = zero_or (f y) (h.0 lt) in omega arith
    where
      zero_or : (n : ℕ) → (0 < n → ⊥) → n ≡ 0
      zero_or n k = grind (arith, k)

  -- numbers of at most 1, no two of them above 0, add up to at most 1
  pub at_most_once : (xs : List X) → AllByRecursion (λ x. f x ≤ 1) xs → Ascends (λ x y. 0 < f x → 0 < f y → ⊥) xs → total f xs ≤ 1
  at_most_once [] h k = omega arith
  at_most_once (x ∷ xs) h k = go (f x) h.0 (at_most_once xs h.1 k.1) (λ lt. nothing_else x xs lt k.0)
    where
      go : (n : ℕ) → n ≤ 1 → total f xs ≤ 1 → (0 < n → total f xs ≡ 0) → n + total f xs ≤ 1
      go n a b c = grind (arith, c)

-- at most one of four tests
not_one : (b : Bool) → (b ≡ true → ⊥) → bit b ≡ 0
not_one true h = absurd (h refl)
not_one false h = refl

pub one_of_four : (p q r s : Bool) → (p ≡ true → q ≡ true → ⊥) → (p ≡ true → r ≡ true → ⊥) → (p ≡ true → s ≡ true → ⊥) → (q ≡ true → r ≡ true → ⊥) → (q ≡ true → s ≡ true → ⊥) → (r ≡ true → s ≡ true → ⊥)
    → cond p 1 0 + (cond q 1 0 + (cond r 1 0 + (cond s 1 0 + 0))) ≤ 1
one_of_four true q r s pq pr ps qr qs rs = let a = not_one q (pq refl) in let b = not_one r (pr refl) in let c = not_one s (ps refl) in omega arith
one_of_four false true r s pq pr ps qr qs rs = let b = not_one r (qr refl) in let c = not_one s (qs refl) in omega arith
one_of_four false false true s pq pr ps qr qs rs = let c = not_one s (rs refl) in omega arith
one_of_four false false false true pq pr ps qr qs rs = omega arith
one_of_four false false false false pq pr ps qr qs rs = omega arith
