-- The first piece that holds a point, of some pieces and of more.
use Rattle.std.specs.Prelude.{ℕ, zero, suc, ◌+◌, ◌<◌, ◌≤◌, List, [], ◌∷◌, ◌++◌, length, flat_map}
use Rattle.std.proofs.Common.{◌≡◌, refl, sym, ap, subst, ◌∙◌, arith, inl, inr, get_or, take, append_assoc}
use Rattle.std.proofs.lemmas.List.{length-append}
use Rattle.definitions.specs.declared.Place.{Place}
use Rattle.definitions.specs.Values.{Field}
use Rattle.definitions.specs.States.{Shares}
use Rattle.lattice_laws.proofs.Members.{from_append}
use Rattle.mesh_probe.specs.Found.{IsFirstOf, NoneHolds}

-- what stands before a place, at it and behind it
pub split : {X Y : Type 0} (P : X → List Y) (xs : List X) (n : ℕ) (e : X) → n < length xs → (rest : List Y) × (flat_map P xs ≡ flat_map P (take n xs) ++ (P (get_or xs n e) ++ rest))
split P [] n e lt = absurd (omega arith)
split P (x ∷ xs) zero e lt = (flat_map P xs, refl)
split P (x ∷ xs) (suc n) e lt = let r = split P xs n e (omega arith) in (r.0, ap (λ l. P x ++ l) r.1 ∙ sym (append_assoc (P x) (flat_map P (take n xs)) (P (get_or xs n e) ++ r.0)))

-- the same with one more
pub next_part : {X Y : Type 0} (P : X → List Y) (xs : List X) (n : ℕ) (e : X) → n < length xs → flat_map P (take (n + 1) xs) ≡ flat_map P (take n xs) ++ P (get_or xs n e)
next_part P xs n e lt = go xs n lt
  where
    nil : {Y : Type 0} (l : List Y) → l ++ [] ≡ l
    nil [] = refl
    nil (y ∷ ys) = ap (λ l. y ∷ l) (nil ys)

    step : (xs : List _) (n : ℕ) → n < length xs → flat_map P (take (suc n) xs) ≡ flat_map P (take n xs) ++ P (get_or xs n e)
    step [] n lt = absurd (omega arith)
    step (x ∷ xs) zero lt = nil (P x)
    step (x ∷ xs) (suc n) lt = ap (λ l. P x ++ l) (step xs n (omega arith)) ∙ sym (append_assoc (P x) (flat_map P (take n xs)) (P (get_or xs n e)))

    go : (xs : List _) (n : ℕ) → n < length xs → flat_map P (take (n + 1) xs) ≡ flat_map P (take n xs) ++ P (get_or xs n e)
    go xs n lt = let q : n + 1 ≡ suc n = omega arith in ap (λ m. flat_map P (take m xs)) q ∙ step xs n lt

get_behind : {X : Type 0} (ps l : List X) (r : ℕ) (e : X) → get_or (ps ++ l) (length ps + r) e ≡ get_or l r e
get_behind [] l r e = ap (λ m. get_or l m e) (none r)
  where
    none : (r : ℕ) → 0 + r ≡ r
    none r = omega arith
get_behind (x ∷ ps) l r e = ap (λ m. get_or (x ∷ (ps ++ l)) m e) (one (length ps) r) ∙ get_behind ps l r e
  where
    one : (n r : ℕ) → suc n + r ≡ suc (n + r)
    one n r = omega arith

take_behind : {X : Type 0} (ps l : List X) (r : ℕ) → take (length ps + r) (ps ++ l) ≡ ps ++ take r l
take_behind [] l r = ap (λ m. take m l) (none r)
  where
    none : (r : ℕ) → 0 + r ≡ r
    none r = omega arith
take_behind (x ∷ ps) l r = ap (λ m. take m (x ∷ (ps ++ l))) (one (length ps) r) ∙ ap (λ k. x ∷ k) (take_behind ps l r)
  where
    one : (n r : ℕ) → suc n + r ≡ suc (n + r)
    one n r = omega arith

get_front : {X : Type 0} (qs l : List X) (r : ℕ) (e : X) → r < length qs → get_or (qs ++ l) r e ≡ get_or qs r e
get_front [] l r e lt = absurd (omega arith)
get_front (x ∷ qs) l zero e lt = refl
get_front (x ∷ qs) l (suc r) e lt = get_front qs l r e (omega arith)

pub take_front : {X : Type 0} (qs l : List X) (r : ℕ) → r ≤ length qs → take r (qs ++ l) ≡ take r qs
take_front qs l zero h = refl
take_front [] l (suc r) h = absurd (omega arith)
take_front (x ∷ qs) l (suc r) h = ap (λ k. x ∷ k) (take_front qs l r (omega arith))

module _ (f : Field) (s : Shares) (p : Place) where
  pub none_in_both : (ps qs : List (List ℕ)) → NoneHolds f s p ps → NoneHolds f s p qs → NoneHolds f s p (ps ++ qs)
  none_in_both ps qs h g keys m = elim (from_append keys ps qs m) [ inl k ↦ h keys k | inr k ↦ g keys k ]

  -- the first of some pieces is the first of all, where none before them holds the point
  pub first_behind : (ps qs rest all : List (List ℕ)) (r : ℕ) (nodes ws : List ℕ) → all ≡ ps ++ (qs ++ rest) → NoneHolds f s p ps → IsFirstOf f s p qs r nodes ws → IsFirstOf f s p all (length ps + r) nodes ws
  first_behind ps qs rest all r nodes ws e none h = subst (λ l. IsFirstOf f s p l (length ps + r) nodes ws) (sym e) (record {
    within = let k = h.within in let a = length-append ps (qs ++ rest) in let b = length-append qs rest in omega arith;
    nodes_are = h.nodes_are ∙ sym (get_behind ps (qs ++ rest) r [] ∙ get_front qs rest r [] h.within);
    weights_are = h.weights_are;
    first = subst (NoneHolds f s p) (sym (take_behind ps (qs ++ rest) r ∙ ap (λ l. ps ++ l) (take_front qs rest r (at_most r (length qs) h.within)))) (none_in_both ps (take r qs) none h.first);
  })
    where
      at_most : (m n : ℕ) → m < n → m ≤ n
      at_most m n h = omega arith
