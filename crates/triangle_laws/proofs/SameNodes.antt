-- A triangle has the same nodes as another where it is that one turned, or that one in its own direction.
use Rattle.std.proofs.Common.{◌≡◌, ◌≢◌, ℕ, ◌+◌, Bool, true, false, not, ◌&&◌, ◌||◌, ◌==◌, [], ◌∷◌, refl, sym, ap, ◌∙◌}
use Rattle.std.proofs.lemmas.Bool.{eqb-true, and_from, and_parts}
use Rattle.definitions.specs.Soundness.{same_nodes}
use Rattle.lattice_laws.proofs.Booleans.{implied}
use Rattle.triangle_laws.specs.Boundary.{turned}
use Rattle.triangle_laws.proofs.Closing.{eqb-flip}
use Rattle.triangle_laws.proofs.Sums.{bit}

-- ---- tests of nine Booleans

abbrev either_way : (Bool → Bool) → Bool
either_way p = p true && p false

at_either : (p : Bool → Bool) → either_way p ≡ true → (b : Bool) → p b ≡ true
at_either p h true = (and_parts (p true) (p false) h).0
at_either p h false = (and_parts (p true) (p false) h).1

-- three Booleans, of which at most one is true
abbrev at_most_one : Bool → Bool → Bool → Bool
at_most_one p q r = not (p && q) && (not (p && r) && not (q && r))

-- which of three numbers are which of three others, row by row: each is at most one of the others
abbrev is_matching : Bool → Bool → Bool → Bool → Bool → Bool → Bool → Bool → Bool → Bool
is_matching xa xb xc ya yb yc za zb zc =
    at_most_one xa xb xc && (at_most_one ya yb yc && (at_most_one za zb zc && (at_most_one xa ya za && (at_most_one xb yb zb && at_most_one xc yc zc))))

-- the words by these
abbrev same_bits : Bool → Bool → Bool → Bool → Bool → Bool → Bool → Bool → Bool → Bool
same_bits xa xb xc ya yb yc za zb zc =
    ((xa || (ya || (za || false))) && ((xb || (yb || (zb || false))) && ((xc || (yc || (zc || false))) && true)))
    && ((xa || (xb || (xc || false))) && ((ya || (yb || (yc || false))) && ((za || (zb || (zc || false))) && true)))

abbrev turned_bits : Bool → Bool → Bool → Bool → Bool → Bool → Bool → Bool → Bool → Bool
turned_bits xa xb xc ya yb yc za zb zc = (xa && (yc && zb)) || ((xc && (yb && za)) || (xb && (ya && zc)))

abbrev kept_bits : Bool → Bool → Bool → Bool → Bool → Bool → Bool → Bool → Bool → Bool
kept_bits xa xb xc ya yb yc za zb zc = (xa && (yb && zc)) || ((xb && (yc && za)) || (xc && (ya && zb)))

abbrev splits : Bool → Bool → Bool → Bool → Bool → Bool → Bool → Bool → Bool → Bool
splits xa xb xc ya yb yc za zb zc =
    not (is_matching xa xb xc ya yb yc za zb zc)
    || (bit (same_bits xa xb xc ya yb yc za zb zc) == bit (kept_bits xa xb xc ya yb yc za zb zc) + bit (turned_bits xa xb xc ya yb yc za zb zc))

abbrev splits_from_4 : Bool → Bool → Bool → Bool
splits_from_4 xa xb xc = either_way (λ ya. either_way (λ yb. either_way (λ yc. either_way (λ za. either_way (λ zb. either_way (λ zc. splits xa xb xc ya yb yc za zb zc))))))

all_split : either_way (λ xa. either_way (λ xb. either_way (λ xc. splits_from_4 xa xb xc))) ≡ true
all_split = refl

each_splits : (xa xb xc ya yb yc za zb zc : Bool) → splits xa xb xc ya yb yc za zb zc ≡ true
each_splits xa xb xc ya yb yc za zb zc =
    at_either (λ zc. splits xa xb xc ya yb yc za zb zc)
    (at_either (λ zb. either_way (λ zc. splits xa xb xc ya yb yc za zb zc))
    (at_either (λ za. either_way (λ zb. either_way (λ zc. splits xa xb xc ya yb yc za zb zc)))
    (at_either (λ yc. either_way (λ za. either_way (λ zb. either_way (λ zc. splits xa xb xc ya yb yc za zb zc))))
    (at_either (λ yb. either_way (λ yc. either_way (λ za. either_way (λ zb. either_way (λ zc. splits xa xb xc ya yb yc za zb zc)))))
    (at_either (λ ya. either_way (λ yb. either_way (λ yc. either_way (λ za. either_way (λ zb. either_way (λ zc. splits xa xb xc ya yb yc za zb zc))))))
    (at_either (λ xc. splits_from_4 xa xb xc) (at_either (λ xb. either_way (λ xc. splits_from_4 xa xb xc)) (at_either (λ xa. either_way (λ xb. either_way (λ xc. splits_from_4 xa xb xc))) all_split xa) xb) xc) ya) yb) yc) za) zb) zc

-- ---- numbers

apart : (x a b : ℕ) → a ≢ b → not ((x == a) && (x == b)) ≡ true
apart x a b h = go (x == a) (x == b) (eqb-true x a) (eqb-true x b)
  where
    go : (p q : Bool) → (p ≡ true → x ≡ a) → (q ≡ true → x ≡ b) → not (p && q) ≡ true
    go true true f g = absurd (h (sym (f refl) ∙ g refl))
    go true false f g = refl
    go false q f g = refl

apart_from : (x y a : ℕ) → x ≢ y → not ((x == a) && (y == a)) ≡ true
apart_from x y a h = go (x == a) (y == a) (eqb-true x a) (eqb-true y a)
  where
    go : (p q : Bool) → (p ≡ true → x ≡ a) → (q ≡ true → y ≡ a) → not (p && q) ≡ true
    go true true f g = absurd (h (f refl ∙ sym (g refl)))
    go true false f g = refl
    go false q f g = refl

one_of : (x a b c : ℕ) → a ≢ b → a ≢ c → b ≢ c → at_most_one (x == a) (x == b) (x == c) ≡ true
one_of x a b c ab ac bc = and_from _ _ (apart x a b ab) (and_from _ _ (apart x a c ac) (apart x b c bc))

one_is : (x y z a : ℕ) → x ≢ y → x ≢ z → y ≢ z → at_most_one (x == a) (y == a) (z == a) ≡ true
one_is x y z a xy xz yz = and_from _ _ (apart_from x y a xy) (and_from _ _ (apart_from x z a xz) (apart_from y z a yz))

module _ (a b c x y z : ℕ) (ab : a ≢ b) (ac : a ≢ c) (bc : b ≢ c) (xy : x ≢ y) (xz : x ≢ z) (yz : y ≢ z) where
  is_matched : is_matching (x == a) (x == b) (x == c) (y == a) (y == b) (y == c) (z == a) (z == b) (z == c) ≡ true
  is_matched =
      and_from _ _ (one_of x a b c ab ac bc)
      (and_from _ _ (one_of y a b c ab ac bc)
      (and_from _ _ (one_of z a b c ab ac bc) (and_from _ _ (one_is x y z a xy xz yz) (and_from _ _ (one_is x y z b xy xz yz) (one_is x y z c xy xz yz)))))

  as_bits : same_nodes (a ∷ b ∷ c ∷ []) (x ∷ y ∷ z ∷ []) ≡ same_bits (x == a) (x == b) (x == c) (y == a) (y == b) (y == c) (z == a) (z == b) (z == c)
  as_bits = λ i.
      (((x == a) || ((y == a) || ((z == a) || false))) && (((x == b) || ((y == b) || ((z == b) || false))) && (((x == c) || ((y == c) || ((z == c) || false))) && true)))
      && ((eqb-flip a x i || (eqb-flip b x i || (eqb-flip c x i || false))) && ((eqb-flip a y i || (eqb-flip b y i || (eqb-flip c y i || false))) && ((eqb-flip a z i || (eqb-flip b z i || (eqb-flip c z i || false))) && true)))

  -- the same nodes in the same direction, or turned
  pub same_or_turned : bit (same_nodes (a ∷ b ∷ c ∷ []) (x ∷ y ∷ z ∷ [])) ≡ bit (turned (a ∷ c ∷ b ∷ []) (x ∷ y ∷ z ∷ [])) + bit (turned (a ∷ b ∷ c ∷ []) (x ∷ y ∷ z ∷ []))
  same_or_turned =
      ap bit as_bits
      ∙ eqb-true _ _
      (implied (is_matching (x == a) (x == b) (x == c) (y == a) (y == b) (y == c) (z == a) (z == b) (z == c)) _
      (each_splits (x == a) (x == b) (x == c) (y == a) (y == b) (y == c) (z == a) (z == b) (z == c)) is_matched)
