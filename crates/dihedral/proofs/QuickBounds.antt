-- Angles that are within bounds are within the extremes.
use Rattle.std.proofs.Common.{◌≡◌, ℕ, zero, suc, ◌+◌, ◌*◌, ◌/◌, ◌^◌, ◌<◌, ◌≤◌, ap, sym, ◌∙◌, subst, arith, Bool, false, Option, Some, ℤ, pos, negsuc}
use Rattle.std.specs.Prelude.{if◌then◌else◌, int_lt, unsigned_abs, ◌*ℤ◌, ◌<ℤ◌, List}
use Rattle.std.proofs.Math.Nat.{mul-le-mul_left, mul_comm, mul_assoc, div-mul-le_self}
use Rattle.std.proofs.lemmas.Int.{ints}
use Rattle.definitions.specs.declared.Extremes.{Extremes}
use Rattle.definitions.specs.declared.Place.{Place}
use Rattle.definitions.specs.Vectors.{det}
use Rattle.dihedral.specs.declared.bounds.Bounds.{Bounds}
use Rattle.dihedral.specs.Fractions.{AreFractions, extremes_in_lowest_terms, square_at}
use Rattle.dihedral.specs.Quick.{Bound, IsWithinBounds}
use Rattle.dihedral.specs.Shapes.{Between, Covers, IsBetween}
use Rattle.dihedral.specs.TetAngles.{edge_at}
use Rattle.dihedral.proofs.AnglesAreFractions.{square_fraction}
use Rattle.dihedral.proofs.SixAngles.{edge_cosine-is}
use Rattle.dihedral.proofs.Reductions.{is_less-lowest}

-- by the higher halves
pub bound_below : (num den a b bound : ℕ) → a ≡ num / 2 ^ 64 → b ≡ den / 2 ^ 64 → bound ≡ a * 4096 / (b + 1) → bound * den ≤ num * 4096
bound_below num den a b bound p q r =
    let up : den ≤ (b + 1) * 2 ^ 64 = omega arith in
    let whole : bound * (b + 1) ≤ a * 4096 = subst (λ t. t * (b + 1) ≤ a * 4096) (sym r) (div-mul-le_self (a * 4096) (b + 1)) in
    let more : bound * den ≤ bound * ((b + 1) * 2 ^ 64) = mul-le-mul_left bound up in
    let same : bound * ((b + 1) * 2 ^ 64) ≡ bound * (b + 1) * 2 ^ 64 = sym (mul_assoc bound (b + 1) (2 ^ 64)) in
    sums (bound * den) (bound * ((b + 1) * 2 ^ 64)) (bound * (b + 1)) a num more same whole p
  where
    sums : (l m w a num : ℕ) → l ≤ m → m ≡ w * 2 ^ 64 → w ≤ a * 4096 → a ≡ num / 2 ^ 64 → l ≤ num * 4096
    sums l m w a num h e k p = omega arith

-- by the leading bits of a size and of two squares
pub below_bound : (size one other bound up o t : ℕ) → up ≡ size / 2 ^ 28 + 1 → o ≡ one / 2 ^ 34 → t ≡ other / 2 ^ 34 → up * up ≤ bound * (o * t) → size * size * 4096 ≤ bound * (one * other)
below_bound size one other bound up o t p q r h =
    let above : size ≤ up * 2 ^ 28 = omega arith in
    let below : o * 2 ^ 34 ≤ one = omega arith in
    let below_too : t * 2 ^ 34 ≤ other = omega arith in
    let squared : size * size ≤ (up * 2 ^ 28) * (up * 2 ^ 28) = both above above in
    let product : (o * 2 ^ 34) * (t * 2 ^ 34) ≤ one * other = both below below_too in
    let more : bound * ((o * 2 ^ 34) * (t * 2 ^ 34)) ≤ bound * (one * other) = mul-le-mul_left bound product in
    sums (size * size) (up * up) (bound * (o * t)) (bound * (one * other)) (omega arith) h (omega arith)
  where
    both : {a b c d : ℕ} → a ≤ b → c ≤ d → a * c ≤ b * d
    both {a} {b} {c} {d} h k =
        let first : a * c ≤ a * d = mul-le-mul_left a k in
        let second : d * a ≤ d * b = mul-le-mul_left d h in
        let same : a * d ≡ d * a = mul_comm a d in
        let turned : d * b ≡ b * d = mul_comm d b in
        omega arith

    sums : (s u w r : ℕ) → s ≤ u * 2 ^ 56 → u ≤ w → w * 2 ^ 68 ≤ r → s * 4096 ≤ r
    sums s u w r h k l = omega arith

-- two fractions on either side of a bound
crossed : (n d num den bound : ℕ) → num * 4096 ≤ bound * den → bound * d ≤ n * 4096 → num * d ≤ n * den
crossed n d num den bound h k =
    let first : d * (num * 4096) ≤ d * (bound * den) = mul-le-mul_left d h in
    let second : den * (bound * d) ≤ den * (n * 4096) = mul-le-mul_left den k in
    let middle : d * (bound * den) ≡ den * (bound * d) = turned d bound den in
    let left : d * (num * 4096) ≡ num * d * 4096 = sym (mul_assoc d num 4096) ∙ ap (λ t. t * 4096) (mul_comm d num) in
    let right : den * (n * 4096) ≡ n * den * 4096 = sym (mul_assoc den n 4096) ∙ ap (λ t. t * 4096) (mul_comm den n) in
    least (num * d) (n * den) (d * (num * 4096)) (d * (bound * den)) (den * (bound * d)) (den * (n * 4096)) left first middle second right
  where
    turned : (a b c : ℕ) → a * (b * c) ≡ c * (b * a)
    turned a b c = mul_comm a (b * c) ∙ ap (λ t. t * a) (mul_comm b c) ∙ mul_assoc c b a

    least : (u v p q r s : ℕ) → p ≡ u * 4096 → p ≤ q → q ≡ r → r ≤ s → s ≡ v * 4096 → u ≤ v
    least u v p q r s a h b k c = omega arith

plus_minus : (m n : ℕ) → int_lt (pos 1 *ℤ pos m) (negsuc 0 *ℤ pos n) ≡ false
plus_minus m n = grind (arith, ints)

plus_plus : (m n : ℕ) → n ≤ m → int_lt (pos 1 *ℤ pos m) (pos 1 *ℤ pos n) ≡ false
plus_plus m n h = grind (arith, ints)

minus_minus : (m n : ℕ) → m ≤ n → int_lt (negsuc 0 *ℤ pos m) (negsuc 0 *ℤ pos n) ≡ false
minus_minus m n h = grind (arith, ints)

plus_none : (m n : ℕ) → int_lt (pos 1 *ℤ pos m) (pos 0 *ℤ pos n) ≡ false
plus_none m n = grind (arith, ints)

none_minus : (m n : ℕ) → int_lt (pos 0 *ℤ pos m) (negsuc 0 *ℤ pos n) ≡ false
none_minus m n = grind (arith, ints)

-- by the sign of the angle
module _ (e : Extremes) (b : Bounds) (p : e.least.cosine.sign ≡ pos 1) (q : e.greatest.cosine.sign ≡ negsuc 0) (l : b.least * e.least.cosine.den ≤ e.least.cosine.num * 4096) (g : b.greatest * e.greatest.cosine.den ≤ e.greatest.cosine.num * 4096) where
  from_least : (z : ℤ) (num den : ℕ) (t : Bool) → int_lt (pos 1 *ℤ pos (e.least.cosine.num * den)) (z *ℤ pos (num * e.least.cosine.den)) ≡ t → int_lt (e.least.cosine.sign *ℤ pos (e.least.cosine.num * den)) (z *ℤ pos (num * e.least.cosine.den)) ≡ t
  from_least z num den t h = ap (λ s. int_lt (s *ℤ pos (e.least.cosine.num * den)) (z *ℤ pos (num * e.least.cosine.den))) p ∙ h

  to_greatest : (z : ℤ) (num den : ℕ) (t : Bool) → int_lt (z *ℤ pos (num * e.greatest.cosine.den)) (negsuc 0 *ℤ pos (e.greatest.cosine.num * den)) ≡ t → int_lt (z *ℤ pos (num * e.greatest.cosine.den)) (e.greatest.cosine.sign *ℤ pos (e.greatest.cosine.num * den)) ≡ t
  to_greatest z num den t h = ap (λ s. int_lt (z *ℤ pos (num * e.greatest.cosine.den)) (s *ℤ pos (e.greatest.cosine.num * den))) q ∙ h

  raw : (sign : ℤ) (num den : ℕ) → unsigned_abs sign ≤ 1 → num * 4096 ≤ (if int_lt (pos 0) sign then b.least else b.greatest) * den → IsBetween e (record { sign = sign; num = num; den = den })
  raw (pos zero) num den s h = record {
    below = from_least (pos 0) num den false (plus_none (e.least.cosine.num * den) (num * e.least.cosine.den));
    above = to_greatest (pos 0) num den false (none_minus (num * e.greatest.cosine.den) (e.greatest.cosine.num * den));
  }
  raw (pos (suc zero)) num den s h = record {
    below = from_least (pos 1) num den false (plus_plus (e.least.cosine.num * den) (num * e.least.cosine.den) (crossed e.least.cosine.num e.least.cosine.den num den b.least h l));
    above = to_greatest (pos 1) num den false (plus_minus (num * e.greatest.cosine.den) (e.greatest.cosine.num * den));
  }
  raw (pos (suc (suc n))) num den s h = absurd (omega arith)
  raw (negsuc zero) num den s h = record {
    below = from_least (negsuc 0) num den false (plus_minus (e.least.cosine.num * den) (num * e.least.cosine.den));
    above = to_greatest (negsuc 0) num den false (minus_minus (num * e.greatest.cosine.den) (e.greatest.cosine.num * den) (crossed e.greatest.cosine.num e.greatest.cosine.den num den b.greatest h g));
  }
  raw (negsuc (suc n)) num den s h = absurd (omega arith)

pub bound_some : (e : Extremes) (b : Bounds) → AreFractions e → (0 < b.least → e.least.cosine.sign ≡ pos 1) → b.least * e.least.cosine.den ≤ e.least.cosine.num * 4096 → (0 < b.greatest → e.greatest.cosine.sign ≡ negsuc 0) → b.greatest * e.greatest.cosine.den ≤ e.greatest.cosine.num * 4096
    → Bound b (Some (extremes_in_lowest_terms e))
bound_some e b f p l q g x fx w =
    let r = raw e b (p w.some_least) (q w.some_greatest) l g x.sign x.num x.den fx.sign w.within in
    record {
      below = is_less-lowest e.least.cosine x f.least.den fx.den ∙ r.below;
      above = is_less-lowest x e.greatest.cosine fx.den f.greatest.den ∙ r.above;
    }

-- six facts, by number
pub by_number : (P : ℕ → Type 0) → P 0 → P 1 → P 2 → P 3 → P 4 → P 5 → (k : ℕ) → k < 6 → P k
by_number P a b c d e f zero h = a
by_number P a b c d e f (suc zero) h = b
by_number P a b c d e f (suc (suc zero)) h = c
by_number P a b c d e f (suc (suc (suc zero))) h = d
by_number P a b c d e f (suc (suc (suc (suc zero)))) h = e
by_number P a b c d e f (suc (suc (suc (suc (suc zero))))) h = f
by_number P a b c d e f (suc (suc (suc (suc (suc (suc k)))))) h = absurd (omega arith)

-- a tetrahedron whose angles are within the bounds
pub covered_by : (b : Bounds) (o : Option Extremes) (tet : List Place) → pos 0 <ℤ det tet → Bound b o → ((k : ℕ) → k < 6 → IsWithinBounds b (square_at tet (edge_at k))) → Covers o tet
covered_by b o tet p bound within k lt =
    subst (Between o) (edge_cosine-is tet (edge_at k)) (bound (square_at tet (edge_at k)) (square_fraction tet p k lt) (within k lt))
