-- Which cuts are near, by a product and a comparison.
use Rattle.std.proofs.Common.{◌≡◌, ℕ, zero, suc, ◌+◌, ◌-◌, ◌*◌, ◌<◌, ◌≤◌, arith, refl, sym, ◌∙◌, ap, Bool, true, false, not, ◌&&◌, nat_lt, nat_le, ℤ, pos, negsuc, neg_ℤ, ◌*ℤ◌, ◌<ℤ◌, ◌≤ℤ◌, Some, None}
use Rattle.std.specs.Prelude.{Option, is_some, unsigned_abs, int_lt, if◌then◌else◌, option_and_then}
use Rattle.std.proofs.lemmas.Bool.{true≢false, le-leb, leb-true, lt-ltb, ltb-true}
use Rattle.std.proofs.lemmas.Bool.Decides.{nat_tests}
use Rattle.std.proofs.lemmas.Int.{ints}
use Rattle.list_words.proofs.Tests.{same_tests}
use Rattle.definitions.specs.declared.Near.{Near}
use Rattle.definitions.specs.Cuts.{are_opposite, cut_between, cut_number}
use Rattle.definitions.specs.Lattice.{is_long}
use Rattle.definitions.specs.States.{Shares, direction_of, is_up, near_at, share, square_of}
use Rattle.definitions.specs.Values.{sign_of}
use Rattle.snap_laws.specs.Around.{distance_of_cut, near_here, rank}
use Rattle.snap_rule.specs.declared.near.Threshold.{Threshold}
use Rattle.snap_rule.specs.declared.near.Thresholds.{Thresholds}
use Rattle.snap_rule.specs.Near.{AreThresholds, IsThreshold, cut_here, factor_of, is_near, is_near_by, is_reached, number_here}
use Rattle.snap_rule.proofs.Divisions.{near_from_below, near_from_above}
use Rattle.snap_rule.proofs.Values.{opposite_back}

-- ---- sizes

module _ (a b share : ℕ) (some : 0 < a) (small : share ≤ 2047) where
  within : a * (8191 - 2 * share) + 2 * (a * share) ≡ 8191 * a
  within = go (8191 - 2 * share) (omega arith)
    where
      go : (c : ℕ) → c + 2 * share ≡ 8191 → a * c + 2 * (a * share) ≡ 8191 * a
      go c e = let f : a * (c + 2 * share) ≡ a * 8191 = ap (λ t. a * t) e in omega arith

  -- the cut between a below and b above is within the share from below
  from_below : nat_lt (a * (8191 - 2 * share)) (b * (2 * share + 1)) ≡ nat_le (cut_between a b) share
  unfolding cut_between
  from_below = same_tests (nat_lt (a * (8191 - 2 * share)) (b * (2 * share + 1))) (nat_lt (8192 * a + a + b) (2 * (a + b) * (share + 1)))
      (λ h. lt-ltb (8192 * a + a + b) (2 * (a + b) * (share + 1)) (forth (a * (8191 - 2 * share)) (ltb-true (a * (8191 - 2 * share)) (b * (2 * share + 1)) h) within))
      (λ h. lt-ltb (a * (8191 - 2 * share)) (b * (2 * share + 1)) (back (a * (8191 - 2 * share)) (ltb-true (8192 * a + a + b) (2 * (a + b) * (share + 1)) h) within))
      ∙ near_from_below (8192 * a + a + b) (2 * (a + b)) share (omega arith)
    where
      forth : (p : ℕ) → p < b * (2 * share + 1) → p + 2 * (a * share) ≡ 8191 * a → 8192 * a + a + b < 2 * (a + b) * (share + 1)
      forth p h e = omega arith

      back : (p : ℕ) → 8192 * a + a + b < 2 * (a + b) * (share + 1) → p + 2 * (a * share) ≡ 8191 * a → p < b * (2 * share + 1)
      back p h e = omega arith

  -- the cut between b below and a above is within the share from above
  from_above : nat_le (a * (8191 - 2 * share)) (b * (2 * share + 1)) ≡ nat_le (4096 - cut_between b a) share
  unfolding cut_between
  from_above = same_tests (nat_le (a * (8191 - 2 * share)) (b * (2 * share + 1))) (nat_le (2 * (b + a) * (4096 - share)) (8192 * b + b + a))
      (λ h. le-leb (2 * (b + a) * (4096 - share)) (8192 * b + b + a) (forth (a * (8191 - 2 * share)) (4096 - share) (omega arith) (leb-true (a * (8191 - 2 * share)) (b * (2 * share + 1)) h) within))
      (λ h. le-leb (a * (8191 - 2 * share)) (b * (2 * share + 1)) (back (a * (8191 - 2 * share)) (4096 - share) (omega arith) (leb-true (2 * (b + a) * (4096 - share)) (8192 * b + b + a) h) within))
      ∙ near_from_above (8192 * b + b + a) (2 * (b + a)) share (omega arith) (omega arith)
    where
      forth : (p r : ℕ) → r + share ≡ 4096 → p ≤ b * (2 * share + 1) → p + 2 * (a * share) ≡ 8191 * a → 2 * (b + a) * r ≤ 8192 * b + b + a
      forth p r k h e =
          let f : a * (r + share) ≡ a * 4096 = ap (λ t. a * t) k in
          let g : b * (r + share) ≡ b * 4096 = ap (λ t. b * t) k in
          omega arith

      back : (p r : ℕ) → r + share ≡ 4096 → 2 * (b + a) * r ≤ 8192 * b + b + a → p + 2 * (a * share) ≡ 8191 * a → p ≤ b * (2 * share + 1)
      back p r k h e =
          let f : a * (r + share) ≡ a * 4096 = ap (λ t. a * t) k in
          let g : b * (r + share) ≡ b * 4096 = ap (λ t. b * t) k in
          omega arith

-- ---- signs

pub factor_below : (own : ℤ) (share : ℕ) → own <ℤ pos 0 → factor_of own share ≡ pos (2 * share + 1)
factor_below (pos n) share h = absurd (omega (arith, ints))
factor_below (negsuc n) share h = refl

pub factor_above : (own : ℤ) (share : ℕ) → pos 0 ≤ℤ own → factor_of own share ≡ neg_ℤ (pos (2 * share + 1))
factor_above (pos n) share h = omega (arith, ints)
factor_above (negsuc n) share h = absurd (omega (arith, ints))

-- ---- tests

not_below : (p q : ℕ) → q ≤ p → nat_lt p q ≡ false
not_below p q h = grind (arith, nat_tests)

none_above : (p n : ℕ) → int_lt (pos p) (neg_ℤ (pos n)) ≡ false
none_above p zero = not_below p 0 (omega arith)
none_above p (suc n) = refl

none_from : (p n : ℕ) → 0 < p → not (int_lt (neg_ℤ (pos n)) (pos p)) ≡ false
none_from p zero h = ap not (lt-ltb 0 p h)
none_from p (suc n) h = refl

turned : (p q : ℕ) → not (nat_lt q p) ≡ nat_le p q
turned p q = grind (arith, nat_tests)

-- the test of a threshold on an edge upwards, or downwards
abbrev test : Bool → ℤ → ℕ → ℤ → Bool
test up own share other =
    if up then int_lt (pos (unsigned_abs own * (8191 - 2 * share))) (factor_of own share *ℤ other) else not (int_lt (factor_of own share *ℤ other) (pos (unsigned_abs own * (8191 - 2 * share))))

-- what it tells
abbrev told : Bool → ℤ → ℕ → ℤ → Bool
told up own share other =
    are_opposite (sign_of own) (sign_of other) && nat_le (if up then cut_between (unsigned_abs own) (unsigned_abs other) else 4096 - cut_between (unsigned_abs other) (unsigned_abs own)) share

module _ (share : ℕ) (small : share ≤ 2047) where
  positive : (n : ℕ) → 0 < suc n * (8191 - 2 * share)
  positive n = go (8191 - 2 * share) (omega arith)
    where
      go : (c : ℕ) → 0 < c → 0 < suc n * c
      go c h = omega arith

  far : (up : Bool) (p n : ℕ) → 0 < p → (if up then int_lt (pos p) (neg_ℤ (pos n)) else not (int_lt (neg_ℤ (pos n)) (pos p))) ≡ false
  far true p n h = none_above p n
  far false p n h = none_from p n h

  nothing : (up : Bool) (p q : ℕ) → 0 < p → q ≡ 0 → (if up then int_lt (pos p) (pos q) else not (int_lt (pos q) (pos p))) ≡ false
  nothing true p q h e = not_below p q (omega arith)
  nothing false p q h e = ap not (lt-ltb q p (omega arith))

  close : (up : Bool) (n m q : ℕ) → q ≡ suc m * (2 * share + 1) →
      (if up then int_lt (pos (suc n * (8191 - 2 * share))) (pos q) else not (int_lt (pos q) (pos (suc n * (8191 - 2 * share)))))
      ≡ nat_le (if up then cut_between (suc n) (suc m) else 4096 - cut_between (suc m) (suc n)) share
  close true n m q e = ap (nat_lt (suc n * (8191 - 2 * share))) e ∙ from_below (suc n) (suc m) share (omega arith) small
  close false n m q e = turned (suc n * (8191 - 2 * share)) q ∙ ap (nat_le (suc n * (8191 - 2 * share))) e ∙ from_above (suc n) (suc m) share (omega arith) small

  by_signs : (up : Bool) (own other : ℤ) → 0 < unsigned_abs own → test up own share other ≡ told up own share other
  by_signs up (pos zero) other h = absurd (omega arith)
  by_signs up (pos (suc n)) (pos zero) h = far up (suc n * (8191 - 2 * share)) (suc (2 * share) * 0) (positive n)
  by_signs up (pos (suc n)) (pos (suc m)) h = far up (suc n * (8191 - 2 * share)) (suc (2 * share) * suc m) (positive n)
  by_signs up (pos (suc n)) (negsuc m) h = close up n m (suc (2 * share) * suc m) (omega arith)
  by_signs up (negsuc n) (pos zero) h = nothing up (suc n * (8191 - 2 * share)) ((2 * share + 1) * 0) (positive n) (omega arith)
  by_signs up (negsuc n) (pos (suc m)) h = close up n m ((2 * share + 1) * suc m) (omega arith)
  by_signs up (negsuc n) (negsuc m) h = far up (suc n * (8191 - 2 * share)) ((2 * share + 1) * suc m) (positive n)

-- ---- cuts

picked : (own : ℤ) (s : Shares) (t : Thresholds) → AreThresholds own s t → (b : Bool) → IsThreshold own (if b then s.long else s.short) (if b then t.long else t.short)
picked own s t are true = are.long
picked own s t are false = are.short

reached : (own other : ℤ) (edge share : ℕ) (t : Threshold) → 0 < unsigned_abs own → IsThreshold own share t → is_reached t other edge ≡ is_near share own other edge
reached own other edge share t some is =
    (λ i. if is_up edge then int_lt (is.least i) (is.factor i *ℤ other) else not (int_lt (is.factor i *ℤ other) (is.least i)))
    ∙ by_signs share is.small (is_up edge) own other some
    ∙ go (is_up edge)
  where
    go : (up : Bool) → told up own share other ≡ (are_opposite (sign_of own) (sign_of other) && nat_le (if up then (if up then cut_between (unsigned_abs own) (unsigned_abs other) else cut_between (unsigned_abs other) (unsigned_abs own)) else 4096 - (if up then cut_between (unsigned_abs own) (unsigned_abs other) else cut_between (unsigned_abs other) (unsigned_abs own))) share)
    go true = refl
    go false = refl

near_if : (s : Shares) (own other : ℤ) (edge : ℕ) → near_here s own other edge ≡ (if is_near (share s (direction_of edge)) own other edge then Some (cut_here own other edge) else None)
unfolding near_here cut_number
near_if s own other edge =
    ap (option_and_then (λ k. near_at s edge k (distance_of_cut edge k) (rank edge))) (number (is_up edge))
    ∙ chosen (are_opposite (sign_of own) (sign_of other)) (number_here own other edge)
  where
    number : (up : Bool) → (if up then cut_number own other else cut_number other own) ≡ (if are_opposite (sign_of own) (sign_of other) then Some (if up then cut_between (unsigned_abs own) (unsigned_abs other) else cut_between (unsigned_abs other) (unsigned_abs own)) else None)
    number true = refl
    number false = ap (λ b. if b then Some (cut_between (unsigned_abs other) (unsigned_abs own)) else None) (opposite_back (sign_of other) (sign_of own))

    chosen : (b : Bool) (k : ℕ) → option_and_then (λ k. near_at s edge k (distance_of_cut edge k) (rank edge)) (if b then Some k else None)
        ≡ (if (b && nat_le (distance_of_cut edge k) (share s (direction_of edge))) then Some (record { edge = edge; k = k; square = square_of (is_long (direction_of edge)) (distance_of_cut edge k); key = rank edge }) else None)
    chosen true k = refl
    chosen false k = refl

-- the near cut on an edge that has one
pub cut_if_near : (s : Shares) (own other : ℤ) (edge : ℕ) → is_some (near_here s own other edge) ≡ true → near_here s own other edge ≡ Some (cut_here own other edge)
cut_if_near s own other edge = go (near_here s own other edge) (is_near (share s (direction_of edge)) own other edge) (near_if s own other edge)
  where
    go : (o : Option Near) (b : Bool) → o ≡ (if b then Some (cut_here own other edge) else None) → is_some o ≡ true → o ≡ Some (cut_here own other edge)
    go o true e h = e
    go o false e h = absurd (true≢false (sym h ∙ ap is_some e))

-- whether an edge has one, by its threshold
pub near_by_threshold : (s : Shares) (own other : ℤ) (edge : ℕ) (t : Thresholds) → 0 < unsigned_abs own → AreThresholds own s t → is_near_by t other edge ≡ is_some (near_here s own other edge)
near_by_threshold s own other edge t some are =
    reached own other edge (share s (direction_of edge)) (if is_long (direction_of edge) then t.long else t.short) some (picked own s t are (is_long (direction_of edge)))
    ∙ go (is_near (share s (direction_of edge)) own other edge)
    ∙ sym (ap is_some (near_if s own other edge))
  where
    go : (b : Bool) → b ≡ is_some (if b then Some (cut_here own other edge) else None)
    go true = refl
    go false = refl
