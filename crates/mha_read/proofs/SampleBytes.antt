-- The numbers in bytes that stand before or behind others.
use Rattle.std.proofs.Common.{◌≡◌, ℕ, ◌+◌, ◌*◌, ◌≤◌, List, ◌++◌, length, drop, pos, Bool, true, false, ap, ◌∙◌, arith, length-drop}
use Rattle.std.proofs.lemmas.List.{drop-append-le}
use Rattle.std.proofs.Math.Seq.{drop-append-add}
use Rattle.byteorder.specs.Endian.{twos_complement}
use Rattle.byteorder.specs.Numbers.{big_from-append, little_from-append}
use Rattle.formats.specs.declared.Kind.{Kind}
use Rattle.formats.specs.declared.Kind.TheVariants.{Uchar, Char, Ushort, Short, Uint, Int}
use Rattle.formats.specs.Samples.{bytes_per_sample, unsigned_number, sample_number, sample_of_bytes}

first_bytes : (big : Bool) (size : ℕ) (xs ys : List ℕ) → size ≤ length xs → unsigned_number big size (xs ++ ys) ≡ unsigned_number big size xs
first_bytes true size xs ys le = big_from-append size xs ys le
first_bytes false size xs ys le = little_from-append size xs ys le

first_sample : (kind : Kind) (big : Bool) (xs ys : List ℕ) → bytes_per_sample kind ≤ length xs → sample_number kind big (xs ++ ys) ≡ sample_number kind big xs
unfolding sample_number
first_sample Uchar big xs ys le = ap pos (first_bytes big 1 xs ys le)
first_sample Char big xs ys le = ap (twos_complement 1) (first_bytes big 1 xs ys le)
first_sample Ushort big xs ys le = ap pos (first_bytes big 2 xs ys le)
first_sample Short big xs ys le = ap (twos_complement 2) (first_bytes big 2 xs ys le)
first_sample Uint big xs ys le = ap pos (first_bytes big 4 xs ys le)
first_sample Int big xs ys le = ap (twos_complement 4) (first_bytes big 4 xs ys le)

-- a sample that stands in the first bytes
pub sample_before : (kind : Kind) (big : Bool) (xs ys : List ℕ) (n : ℕ) → bytes_per_sample kind * n + bytes_per_sample kind ≤ length xs → sample_of_bytes kind big (xs ++ ys) n ≡ sample_of_bytes kind big xs n
sample_before kind big xs ys n le =
    let d : drop (bytes_per_sample kind * n) (xs ++ ys) ≡ drop (bytes_per_sample kind * n) xs ++ ys = drop-append-le (bytes_per_sample kind * n) xs ys (omega arith) in
    ap (sample_number kind big) d ∙ first_sample kind big (drop (bytes_per_sample kind * n) xs) ys (omega (arith, length-drop (bytes_per_sample kind * n) xs))

-- a sample that stands behind m others
pub sample_behind : (kind : Kind) (big : Bool) (xs ys : List ℕ) (m n : ℕ) → length xs ≡ bytes_per_sample kind * m → sample_of_bytes kind big (xs ++ ys) (m + n) ≡ sample_of_bytes kind big ys n
sample_behind kind big xs ys m n len =
    let e : bytes_per_sample kind * (m + n) ≡ length xs + bytes_per_sample kind * n = omega arith in
    ap (λ (k : ℕ). sample_number kind big (drop k (xs ++ ys))) e ∙ ap (sample_number kind big) (drop-append-add xs ys (bytes_per_sample kind * n))
