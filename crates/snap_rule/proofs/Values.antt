-- Values in 64 bits, and what follows where none has the other sign.
use Rattle.std.proofs.Common.{◌≡◌, ℕ, ◌≤◌, ◌^◌, ◌-◌, suc, zero, arith, refl, sym, ◌∙◌, ap, Bool, true, false, List, [], ◌∷◌, get_or, Option, Some, None, ℤ, pos, negsuc, w64, to_z, of_z}
use Rattle.std.specs.Prelude.{unsigned_abs, filter_map, fold, option_and_then, if◌then◌else◌}
use Rattle.std.specs.List.{list_any, range_with_len, cons_option}
use Rattle.std.proofs.lemmas.Int.{to_z-of_z, fits_signed_from_abs}
use Rattle.std.proofs.lemmas.Bool.{or_parts}
use Rattle.definitions.specs.declared.Near.{Near}
use Rattle.definitions.specs.declared.Sign.{Sign}
use Rattle.definitions.specs.declared.Sign.TheVariants.{Minus, Zero, Plus}
use Rattle.definitions.specs.Cuts.{are_opposite, cut_number, cut_between}
use Rattle.definitions.specs.Lists.{least_by, lesser}
use Rattle.definitions.specs.States.{Shares, is_nearer, is_up, near_at, snapped}
use Rattle.definitions.specs.Values.{sign_of}
use Rattle.snap_laws.specs.Around.{near_here, nears_here, state_here, value_on, rank, distance_of_cut}

pub read : (a : ℤ) → unsigned_abs a ≤ 2 ^ 40 → to_z w64 (of_z w64 a) ≡ a
read a p = to_z-of_z w64 a (fits_signed_from_abs w64 a (omega arith))

-- ---- none of the values has the other sign

pub opposite_back : (a b : Sign) → are_opposite a b ≡ are_opposite b a
opposite_back Minus Minus = refl
opposite_back Minus Zero = refl
opposite_back Minus Plus = refl
opposite_back Zero Minus = refl
opposite_back Zero Zero = refl
opposite_back Zero Plus = refl
opposite_back Plus Minus = refl
opposite_back Plus Zero = refl
opposite_back Plus Plus = refl

none_here : (s : Shares) (own other : ℤ) (edge : ℕ) → are_opposite (sign_of own) (sign_of other) ≡ false → near_here s own other edge ≡ None
unfolding near_here cut_number
none_here s own other edge e = ap (option_and_then (λ k. near_at s edge k (distance_of_cut edge k) (rank edge))) (none (is_up edge))
  where
    none : (b : Bool) → (if b then cut_number own other else cut_number other own) ≡ None
    none true = ap (λ b. if b then Some (cut_between (unsigned_abs own) (unsigned_abs other)) else None) e
    none false = ap (λ b. if b then Some (cut_between (unsigned_abs other) (unsigned_abs own)) else None) (opposite_back (sign_of other) (sign_of own) ∙ e)

none_at : (p : ℤ → Bool) (xs : List ℤ) (n : ℕ) → p (pos 0) ≡ false → list_any p xs ≡ false → p (get_or xs n (pos 0)) ≡ false
none_at p [] n z h = z
none_at p (x ∷ xs) zero z h = (or_parts (p x) (list_any p xs) h).0
none_at p (x ∷ xs) (suc n) z h = none_at p xs n z (or_parts (p x) (list_any p xs) h).1

zero_is_no_opposite : (own : ℤ) → are_opposite (sign_of own) Zero ≡ false
zero_is_no_opposite (pos zero) = refl
zero_is_no_opposite (pos (suc n)) = refl
zero_is_no_opposite (negsuc n) = refl

none_of_all : (g : ℕ → Option Near) (xs : List ℕ) → ((x : ℕ) → g x ≡ None) → filter_map g xs ≡ []
none_of_all g [] h = refl
none_of_all g (x ∷ xs) h = ap (λ o. cons_option o (filter_map g xs)) (h x) ∙ none_of_all g xs h

-- a vertex with no other sign around keeps its own
pub state_alike : (s : Shares) (own : ℤ) (values : List ℤ) → list_any (λ z. are_opposite (sign_of own) (sign_of z)) values ≡ false → snapped (sign_of own) None ≡ state_here s own values
unfolding state_here nears_here least_by
state_alike s own values h =
    sym (ap (λ ns. snapped (sign_of own) (fold (λ a x. Some (lesser is_nearer a x)) None ns))
    (none_of_all (λ edge. near_here s own (value_on values edge) edge) (range_with_len 1 14)
    (λ edge. none_here s own (value_on values edge) edge (none_at (λ z. are_opposite (sign_of own) (sign_of z)) values (edge - 1) (zero_is_no_opposite own) h))))

pub state_nearest : (s : Shares) (own : ℤ) (values : List ℤ) (o : Option Near) → o ≡ least_by is_nearer (nears_here s own values) → snapped (sign_of own) o ≡ state_here s own values
unfolding state_here
state_nearest s own values o e = ap (snapped (sign_of own)) e

pub state_zero : (s : Shares) (own : ℤ) (values : List ℤ) (o : Option Near) → own ≡ pos 0 → snapped (sign_of own) o ≡ state_here s own values
unfolding state_here
state_zero s own values o e = ap (λ z. snapped (sign_of z) o) e ∙ sym (ap (λ z. snapped (sign_of z) (least_by is_nearer (nears_here s own values))) e)
