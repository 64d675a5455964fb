-- The near cuts that there are, and the values that they are worked out from.
use Rattle.std.specs.Prelude.{◌≡◌, ◌≤◌, ◌^◌, ℕ, ◌+◌, ◌-◌, ◌*◌, Bool, ◌&&◌, nat_le, not, if◌then◌else◌, List, [], ◌∷◌, ℤ, pos, negsuc, ◌*ℤ◌, int_lt, unsigned_abs}
use Rattle.definitions.specs.declared.Near.{Near}
use Rattle.definitions.specs.Cuts.{are_opposite, cut_between}
use Rattle.definitions.specs.Lattice.{is_long}
use Rattle.definitions.specs.States.{Shares, direction_of, is_up, share, square_of}
use Rattle.definitions.specs.Values.{sign_of}
use Rattle.samples.specs.declared.star.Star.{Star}
use Rattle.snap_laws.specs.Around.{distance_of_cut, rank}
use Rattle.snap_rule.specs.declared.near.Threshold.{Threshold}
use Rattle.snap_rule.specs.declared.near.Thresholds.{Thresholds}

-- on an edge 1 to 14, with a number up to the scale
pub record IsNearCut (n : Near) : Type 0 where
  pub low : 1 ≤ n.edge
  pub high : n.edge ≤ 14
  pub within : n.k ≤ 4096

-- small enough for the arithmetic of cuts
abbrev pub IsSmallValue : ℤ → Type 0
IsSmallValue z = unsigned_abs z ≤ 2 ^ 40

-- the values at the other ends of edges 1 to 14
abbrev pub in_order : Star → List ℤ
in_order s =
    s.x.high ∷ s.y.high ∷ s.short.high.low.low ∷ s.short.high.low.high ∷ s.short.high.high.low ∷ s.short.high.high.high ∷ s.z.high
    ∷ s.x.low ∷ s.y.low ∷ s.short.low.high.high ∷ s.short.low.high.low ∷ s.short.low.low.high ∷ s.short.low.low.low ∷ s.z.low ∷ []

-- the cut on an edge between values of unlike signs at the vertex and at the other end
abbrev pub number_here : ℤ → ℤ → ℕ → ℕ
number_here own other edge = if is_up edge then cut_between (unsigned_abs own) (unsigned_abs other) else cut_between (unsigned_abs other) (unsigned_abs own)

abbrev pub cut_here : ℤ → ℤ → ℕ → Near
cut_here own other edge =
    record { edge = edge; k = number_here own other edge; square = square_of (is_long (direction_of edge)) (distance_of_cut edge (number_here own other edge)); key = rank edge }

-- the edge has a cut, and that is within a share
abbrev pub is_near : ℕ → ℤ → ℤ → ℕ → Bool
is_near share own other edge = are_opposite (sign_of own) (sign_of other) && nat_le (distance_of_cut edge (number_here own other edge)) share

-- An edge is cut within s 4096ths from a vertex where the line between the values at its ends has lost the vertex's sign
-- 2 s + 1 of 8192 parts away: there it is (8191 - 2 s) times the one and 2 s + 1 times the other.
abbrev pub factor_of : ℤ → ℕ → ℤ
factor_of (pos n) share = negsuc (2 * share)
factor_of (negsuc n) share = pos (2 * share + 1)

pub record IsThreshold (own : ℤ) (share : ℕ) (t : Threshold) : Type 0 where
  pub factor : t.factor ≡ factor_of own share
  pub least : t.least ≡ pos (unsigned_abs own * (8191 - 2 * share))
  pub small : share ≤ 2047

pub record AreThresholds (own : ℤ) (s : Shares) (t : Thresholds) : Type 0 where
  pub long : IsThreshold own s.long t.long
  pub short : IsThreshold own s.short t.short

pub record AreSmall (t : Thresholds) : Type 0 where
  pub long : unsigned_abs t.long.factor ≤ 2 ^ 12
  pub short : unsigned_abs t.short.factor ≤ 2 ^ 12

-- the value at the other end is beyond the threshold, or on an edge downwards at it
abbrev pub is_reached : Threshold → ℤ → ℕ → Bool
is_reached t other edge = if is_up edge then int_lt t.least (t.factor *ℤ other) else not (int_lt (t.factor *ℤ other) t.least)

-- the value at the other end of edge 1 to 14 makes a near cut
abbrev pub is_near_by : Thresholds → ℤ → ℕ → Bool
is_near_by t other edge = is_reached (if is_long (direction_of edge) then t.long else t.short) other edge
