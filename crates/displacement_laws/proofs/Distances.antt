-- A snapped vertex is moved within the share of its edge's kind, so its state is within the limits.
use Rattle.std.proofs.Common.{◌≡◌, inl, inr, ℕ, ◌≤◌, arith, refl, sym, subst, Bool, true, false, nat_le, List, map, Option, Some, None}
use Rattle.std.specs.Prelude.{if◌then◌else◌}
use Rattle.std.specs.List.{range_with_len}
use Rattle.std.proofs.Math.IntN.{ℤ}
use Rattle.std.proofs.lemmas.Bool.{leb-true}
use Rattle.definitions.specs.declared.Near.{Near}
use Rattle.definitions.specs.declared.Sign.{Sign}
use Rattle.definitions.specs.declared.Sign.TheVariants.{Minus, Zero, Plus}
use Rattle.definitions.specs.Lists.{least_by}
use Rattle.definitions.specs.Lattice.{is_long}
use Rattle.definitions.specs.Values.{value, sign_of}
use Rattle.definitions.specs.Cuts.{cut_number}
use Rattle.definitions.specs.States.{Shares, IsShares, is_up, direction_of, near_at, is_nearer, snapped, share, square_of}
use Rattle.snap_laws.specs.Around.{around, rank, number_of_cut, distance_of_cut, near_here, nears_here, state_here, value_on}
use Rattle.snap_laws.proofs.ByValues.{states_by_values}
use Rattle.snap_laws.proofs.Nearest.{IfNear, both_some, nearest_has}
use Rattle.snap_laws.proofs.StatesAre.{number_small}
use Rattle.displacement_laws.specs.Displacements.{IsNear}
use Rattle.displacement_laws.specs.Laws.{StatesAreNear}

-- ---- the nearest cut is within the limit

-- a cut on an edge 1 to 14 whose distance is within the limit
abbrev IsClose : Near → Type 0
IsClose n = (1 ≤ n.edge) × (n.edge ≤ 14) × (n.k ≤ 4096) × (distance_of_cut n.edge n.k ≤ (if is_long (direction_of n.edge) then 1023 else 2047))

share_fits : (s : Shares) → IsShares s → (dir t : ℕ) → t ≤ share s dir → t ≤ (if is_long dir then 1023 else 2047)
share_fits s ok dir t = go (is_long dir)
  where
    go : (b : Bool) → t ≤ (if b then s.long else s.short) → t ≤ (if b then 1023 else 2047)
    go true h = let l = ok.long in omega arith
    go false h = let l = ok.short in omega arith

close_from_given : (s : Shares) (ok : IsShares s) (edge k c : ℕ) (n : Near) → 1 ≤ edge → edge ≤ 14 → k ≤ 4096 → near_at s edge k (distance_of_cut edge k) c ≡ Some n → IsClose n
close_from_given s ok edge k c n low high within = go (nat_le (distance_of_cut edge k) (share s (direction_of edge))) refl
  where
    go : (b : Bool) → nat_le (distance_of_cut edge k) (share s (direction_of edge)) ≡ b
        → (if b then Some (record { edge = edge; k = k; square = square_of (is_long (direction_of edge)) (distance_of_cut edge k); key = c }) else None) ≡ Some n → IsClose n
    go true t e =
        let q : record { edge = edge; k = k; square = square_of (is_long (direction_of edge)) (distance_of_cut edge k); key = c } ≡ n = cc in
        subst IsClose q (low, high, within, share_fits s ok (direction_of edge) (distance_of_cut edge k) (leb-true (distance_of_cut edge k) (share s (direction_of edge)) t))
    go false t e = cc

near_is_close : (s : Shares) (ok : IsShares s) (own other : ℤ) (edge : ℕ) (n : Near) → 1 ≤ edge → edge ≤ 14 → near_here s own other edge ≡ Some n → IsClose n
unfolding near_here
near_is_close s ok own other edge n low high e =
    let r = both_some (λ k. near_at s edge k (distance_of_cut edge k) (rank edge)) (number_of_cut own other edge) n e in
    close_from_given s ok edge r.0 (rank edge) n low high (small (is_up edge) r.0 r.1) r.2
  where
    small : (b : Bool) (k : ℕ) → (if b then cut_number own other else cut_number other own) ≡ Some k → k ≤ 4096
    small true k q = number_small own other k q
    small false k q = number_small other own k q

-- ---- the states of a field

snapped_near : (g : Sign) (o : Option Near) → IfNear IsClose o → IsNear (snapped g o)
snapped_near Zero o h = inl (refl, refl)
snapped_near Minus None h = tt
snapped_near Plus None h = tt
snapped_near Minus (Some n) h = inr h.0
snapped_near Plus (Some n) h = inr h.0

here_near : (s : Shares) (ok : IsShares s) (own : ℤ) (values : List ℤ) → IsNear (state_here s own values)
unfolding state_here nears_here
here_near s ok own values =
    snapped_near (sign_of own) (least_by is_nearer (nears_here s own values)) (nearest_has IsClose (λ edge. near_here s own (value_on values edge) edge) (λ edge m low high e. near_is_close s ok own (value_on values edge) edge m low high e))

pub states_are_near : StatesAreNear
states_are_near f s ok v inside = subst IsNear (sym (states_by_values f s v inside)) (here_near s ok (value f v) (map (around f v) (range_with_len 1 14)))
