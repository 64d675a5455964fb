-- The bytes of a sample are its number again.
use Rattle.std.proofs.Common.{◌≡◌, ℕ, ℤ, pos, negsuc, ◌+◌, ◌-◌, ◌*◌, ◌%◌, ◌^◌, ◌<◌, ◌≤◌, suc, List, ◌++◌, true, false, nat_lt, refl, ap, ◌∙◌, arith, w64, of_z}
use Rattle.std.specs.Prelude.{◌≤ℤ◌}
use Rattle.std.proofs.lemmas.Grind.{common_steps}
use Rattle.std.proofs.lemmas.Int.{ints}
use Rattle.std.proofs.Math.Nat.{div-one, mod-eq_of_lt, add-mul-mod_self_right}
use Rattle.byteorder.specs.Endian.{little_number, little_bytes, twos_complement}
use Rattle.byteorder.specs.Numbers.{little_from-bytes}
use Rattle.formats.specs.declared.Kind.{Kind}
use Rattle.formats.specs.declared.Kind.TheVariants.{Uchar, Char, Ushort, Short, Uint, Int}
use Rattle.formats.specs.Samples.{sample_number}
use Rattle.formats.specs.Volumes.{least_of, greatest_of}
use Rattle.mha_write.specs.Text.{sample_bytes}

-- the number in the first bytes of a number
low_number : (n x : ℕ) (rest : List ℕ) → little_number n (little_bytes n x ++ rest) ≡ x % 256 ^ n
low_number n x rest = little_from-bytes n 0 x rest ∙ ap (λ (y : ℕ). y % 256 ^ n) (div-one x)

-- a number of n bytes that is not below zero
unsigned_back : (n : ℕ) (z : ℤ) (rest : List ℕ) (m : ℕ) → m ≡ 256 ^ n → pos 0 ≤ℤ z → z ≤ℤ pos (m - 1) → 0 < m → pos (little_number n (little_bytes n (of_z w64 z) ++ rest)) ≡ z
unsigned_back n (pos x) rest m is low high some =
    let lt : x < m = omega (arith, ints) in
    let within : x < 256 ^ n = omega arith in
    ap pos (low_number n x rest ∙ mod-eq_of_lt within)
unsigned_back n (negsuc x) rest m is low high some = absurd (omega (arith, ints))

-- half of the numbers of n bytes, and how often those of n bytes are in those of eight
signed_back : (n : ℕ) (z : ℤ) (rest : List ℕ) (h q : ℕ) → 2 ^ (8 * n - 1) ≡ h → 2 ^ (8 * n) ≡ 2 * h → 256 ^ n ≡ 2 * h → 2 ^ 64 ≡ 2 * h + q * (2 * h) → negsuc (h - 1) ≤ℤ z → z ≤ℤ pos (h - 1) → 0 < h → twos_complement n (little_number n (little_bytes n (of_z w64 z) ++ rest)) ≡ z
signed_back n (pos x) rest h q half whole all wide low high some =
    let lt : x < h = omega (arith, ints) in
    let within : x < 256 ^ n = omega arith in
    let number : little_number n (little_bytes n x ++ rest) ≡ x = low_number n x rest ∙ mod-eq_of_lt within in
    let below : nat_lt x (2 ^ (8 * n - 1)) ≡ true = rw half (grind (arith, common_steps)) in
    ap (twos_complement n) number ∙ rw below refl
signed_back n (negsuc x) rest h q half whole all wide low high some =
    let le : x + 1 ≤ h = omega (arith, ints) in
    let split : 2 ^ 64 - suc x ≡ (2 * h - suc x) + q * (2 * h) = omega arith in
    let lt : 2 * h - suc x < 2 * h = omega arith in
    let number : little_number n (little_bytes n (2 ^ 64 - suc x) ++ rest) ≡ 2 * h - suc x =
    low_number n (2 ^ 64 - suc x) rest ∙ ap (λ (m : ℕ). (2 ^ 64 - suc x) % m) all ∙ ap (λ (y : ℕ). y % (2 * h)) split ∙ add-mul-mod_self_right (2 * h - suc x) q (2 * h) ∙ mod-eq_of_lt lt in
    let above : nat_lt (2 * h - suc x) (2 ^ (8 * n - 1)) ≡ false = rw half (grind (arith, common_steps)) in
    ap (twos_complement n) number ∙ rw above (omega (arith, ints))

pub number_back : (kind : Kind) (z : ℤ) (rest : List ℕ) → least_of kind ≤ℤ z → z ≤ℤ greatest_of kind → sample_number kind false (sample_bytes kind z ++ rest) ≡ z
unfolding sample_number
number_back Uchar z rest low high = unsigned_back 1 z rest 256 refl low high (omega arith)
number_back Char z rest low high = signed_back 1 z rest 128 72057594037927935 refl refl refl refl low high (omega arith)
number_back Ushort z rest low high = unsigned_back 2 z rest 65536 refl low high (omega arith)
number_back Short z rest low high = signed_back 2 z rest 32768 281474976710655 refl refl refl refl low high (omega arith)
number_back Uint z rest low high = unsigned_back 4 z rest 4294967296 refl low high (omega arith)
number_back Int z rest low high = signed_back 4 z rest 2147483648 4294967295 refl refl refl refl low high (omega arith)
