-- What the rule says of a vertex is a state: the nearest cut is on an edge 1 to 14 and has a number up to the scale.
use Rattle.std.proofs.Common.{◌≡◌, ℕ, ◌+◌, ◌*◌, ◌/◌, ◌<◌, ◌≤◌, ◌⊎◌, inl, inr, arith, refl, sym, ◌∙◌, ap, subst, Bool, true, false, nat_le, List, map, Option, Some, None, ℤ}
use Rattle.std.specs.Prelude.{if◌then◌else◌, unsigned_abs}
use Rattle.std.specs.List.{range_with_len}
use Rattle.std.proofs.Math.Nat.{div-lt_iff_lt-mul}
use Rattle.definitions.specs.declared.Near.{Near}
use Rattle.definitions.specs.declared.Sign.{Sign}
use Rattle.definitions.specs.declared.Sign.TheVariants.{Minus, Zero, Plus}
use Rattle.definitions.specs.Lists.{least_by}
use Rattle.definitions.specs.Lattice.{is_long}
use Rattle.definitions.specs.Values.{sign_of, value}
use Rattle.definitions.specs.Cuts.{scale, cut_number, cut_between, are_opposite}
use Rattle.definitions.specs.States.{IsState, Shares, is_up, direction_of, near_at, is_nearer, snapped, share, square_of}
use Rattle.snap_laws.specs.Around.{around, rank, number_of_cut, distance_of_cut, near_here, nears_here, state_here, value_on, IsNearCut}
use Rattle.snap_laws.specs.Laws.{StatesAreStates}
use Rattle.snap_laws.proofs.ByValues.{states_by_values}
use Rattle.snap_laws.proofs.Nearest.{IfNear, both_some, nearest_has}

-- a cut's number is at most the scale
pub at_most_scale : (a b : ℕ) → cut_between a b ≤ 4096
unfolding cut_between
at_most_scale a b = go (positive (a + b))
  where
    positive : (n : ℕ) → (n ≡ 0) ⊎ (0 < 2 * n)
    positive n = grind arith

    over_zero : (n : ℕ) → n / 0 ≡ 0
    over_zero n = omega arith

    fits : (a b : ℕ) → 0 < 2 * (a + b) → 2 * 4096 * a + a + b < 4097 * (2 * (a + b))
    fits a b h = omega arith

    go : (a + b ≡ 0) ⊎ (0 < 2 * (a + b)) → (2 * scale * a + a + b) / (2 * (a + b)) ≤ 4096
    go (inl e) = let z : (2 * scale * a + a + b) / (2 * (a + b)) ≡ 0 = (λ i. (2 * scale * a + a + b) / (2 * e i)) ∙ over_zero (2 * scale * a + a + b) in omega arith
    go (inr h) = let q : (2 * scale * a + a + b) / (2 * (a + b)) < 4097 = (div-lt_iff_lt-mul h).1 (fits a b h) in omega arith

pub number_small : (a b : ℤ) (k : ℕ) → cut_number a b ≡ Some k → k ≤ 4096
unfolding cut_number
number_small a b k = go (are_opposite (sign_of a) (sign_of b))
  where
    go : (t : Bool) → (if t then Some (cut_between (unsigned_abs a) (unsigned_abs b)) else None) ≡ Some k → k ≤ 4096
    go true e = let q : cut_between (unsigned_abs a) (unsigned_abs b) ≡ k = cc in subst (λ n. n ≤ 4096) q (at_most_scale (unsigned_abs a) (unsigned_abs b))
    go false e = cc

pub as_given : (s : Shares) (edge k t c : ℕ) (n : Near) → near_at s edge k t c ≡ Some n → (n.edge ≡ edge) × (n.k ≡ k)
as_given s edge k t c n = go (nat_le t (share s (direction_of edge)))
  where
    go : (b : Bool) → (if b then Some (record { edge = edge; k = k; square = square_of (is_long (direction_of edge)) t; key = c }) else None) ≡ Some n → (n.edge ≡ edge) × (n.k ≡ k)
    go true e = let q : record { edge = edge; k = k; square = square_of (is_long (direction_of edge)) t; key = c } ≡ n = cc in (ap (λ m. m.edge) (sym q), ap (λ m. m.k) (sym q))
    go false e = cc

near_is_cut : (s : Shares) (own other : ℤ) (edge : ℕ) (n : Near) → 1 ≤ edge → edge ≤ 14 → near_here s own other edge ≡ Some n → IsNearCut n
unfolding near_here
near_is_cut s own other edge n low high e =
    let r = both_some (λ k. near_at s edge k (distance_of_cut edge k) (rank edge)) (number_of_cut own other edge) n e in
    let g = as_given s edge r.0 (distance_of_cut edge r.0) (rank edge) n r.2 in
    record {
      low = subst (λ m. 1 ≤ m) (sym g.0) low;
      high = subst (λ m. m ≤ 14) (sym g.0) high;
      within = subst (λ m. m ≤ 4096) (sym g.1) (small (is_up edge) r.0 r.1);
    }
  where
    small : (b : Bool) (k : ℕ) → (if b then cut_number own other else cut_number other own) ≡ Some k → k ≤ 4096
    small true k q = number_small own other k q
    small false k q = number_small other own k q

snapped_state : (g : Sign) (o : Option Near) → IfNear IsNearCut o → IsState (snapped g o)
snapped_state Zero o h = inl (refl, refl)
snapped_state Minus None h = tt
snapped_state Plus None h = tt
snapped_state Minus (Some n) h = let c = h.0 in inr (c.low, c.high, c.within)
snapped_state Plus (Some n) h = let c = h.0 in inr (c.low, c.high, c.within)

pub here_is_state : (s : Shares) (own : ℤ) (values : List ℤ) → IsState (state_here s own values)
unfolding state_here nears_here
here_is_state s own values =
    snapped_state (sign_of own) (least_by is_nearer (nears_here s own values)) (nearest_has IsNearCut (λ edge. near_here s own (value_on values edge) edge) (λ edge m low high e. near_is_cut s own (value_on values edge) edge m low high e))

pub states_are_states : StatesAreStates
states_are_states f s v inside = subst IsState (sym (states_by_values f s v inside)) (here_is_state s (value f v) (map (around f v) (range_with_len 1 14)))
