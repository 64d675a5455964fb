-- The samples in the bytes of a list of them.
use Rattle.std.proofs.Common.{◌≡◌, ℕ, ℤ, pos, ◌+◌, ◌*◌, ◌/◌, ◌%◌, ◌<◌, ◌==◌, zero, suc, List, [], ◌∷◌, ◌++◌, length, drop, map, flat_map, get_or, false, if◌then◌else◌, refl, ap, sym, ◌∙◌, arith, drop-cons, length-append}
use Rattle.std.specs.Prelude.{◌≤ℤ◌, All}
use Rattle.std.proofs.Math.Nat.{div-one, mod-one, zero-mul, mul-suc, mul-zero, suc-mul}
use Rattle.std.proofs.Math.Seq.{drop-append-add}
use Rattle.std.proofs.lemmas.List.Concat.{flat_map_single}
use Rattle.std.proofs.lemmas.List.FromFn.{fill_by_all}
use Rattle.std.specs.List.{range_with_len}
use Rattle.byteorder.specs.Numbers.{length-bytes_low_first}
use Rattle.std.specs.Int.{cast_unsigned, w64}
use Rattle.formats.specs.declared.Kind.{Kind}
use Rattle.formats.specs.Samples.{bytes_per_sample, sample_number, sample_of_bytes}
use Rattle.formats.specs.Volumes.{kept_size, least_of, greatest_of}
use Rattle.mha_read.specs.RawRows.{kept_of_row, kept_at_row, kept_of_rows}
use Rattle.mha_read.proofs.Ranges.{flat_map_same, map_same, in_blocks}
use Rattle.mha_read.proofs.RowLists.{kept_in_volume, all_rows}
use Rattle.mha_write.specs.Text.{sample_bytes}
use Rattle.mha_write.proofs.SampleNumbers.{number_back}

-- past k parts of one length
drop_parts : (f : ℤ → List ℕ) (size : ℕ) → ((z : ℤ) → length (f z) ≡ size) → (k : ℕ) (zs : List ℤ) → drop (size * k) (flat_map f zs) ≡ flat_map f (drop k zs)
drop_parts f size same zero zs = ap (λ (n : ℕ). drop n (flat_map f zs)) (mul-zero size)
drop_parts f size same (suc k) [] = drop_nothing (size * suc k)
  where
    drop_nothing : (n : ℕ) → drop {A = ℕ} n [] ≡ []
    drop_nothing zero = refl
    drop_nothing (suc n) = refl
drop_parts f size same (suc k) (z ∷ zs) =
    let len : size * suc k ≡ length (f z) + size * k = omega (arith, mul-suc size k, same z) in
    ap (λ (n : ℕ). drop n (f z ++ flat_map f zs)) len ∙ drop-append-add (f z) (flat_map f zs) (size * k) ∙ drop_parts f size same k zs

bytes_of_sample : (kind : Kind) (z : ℤ) → length (sample_bytes kind z) ≡ bytes_per_sample kind
bytes_of_sample kind z = length-bytes_low_first 0 (bytes_per_sample kind) (cast_unsigned w64 z)

-- how many bytes there are
pub length_bytes : (kind : Kind) (zs : List ℤ) → length (flat_map (sample_bytes kind) zs) ≡ length zs * bytes_per_sample kind
length_bytes kind [] = sym (zero-mul (bytes_per_sample kind))
length_bytes kind (z ∷ zs) =
    length-append (sample_bytes kind z) (flat_map (sample_bytes kind) zs) ∙ omega (arith, bytes_of_sample kind z, length_bytes kind zs, suc-mul (length zs) (bytes_per_sample kind))

-- each sample is the number at its place
sample_back : (kind : Kind) (zs : List ℤ) (k : ℕ) (d : ℤ) → All (λ z. least_of kind ≤ℤ z) zs → All (λ z. z ≤ℤ greatest_of kind) zs → k < length zs → sample_of_bytes kind false (flat_map (sample_bytes kind) zs) k ≡ get_or zs k d
sample_back kind zs k d low high lt =
    ap (sample_number kind false) (drop_parts (sample_bytes kind) (bytes_per_sample kind) (bytes_of_sample kind) k zs ∙ ap (flat_map (sample_bytes kind)) (drop-cons zs k d lt))
    ∙ number_back kind (get_or zs k d) (flat_map (sample_bytes kind) (drop (suc k) zs)) (low k d lt) (high k d lt)

pub samples_back : (kind : Kind) (zs : List ℤ) (n : ℕ) → length zs ≡ n → All (λ z. least_of kind ≤ℤ z) zs → All (λ z. z ≤ℤ greatest_of kind) zs → map (sample_of_bytes kind false (flat_map (sample_bytes kind) zs)) (range_with_len 0 n) ≡ zs
samples_back kind zs n len low high =
    sym (fill_by_all (sample_of_bytes kind false (flat_map (sample_bytes kind) zs)) zs n (pos 0) len (λ k lt. sym (sample_back kind zs k (pos 0) low high (omega arith))))

-- with step 1 all are kept
pub kept_all : (n : ℕ) → kept_size 1 n ≡ n
kept_all n = let e : n % 1 ≡ 0 = mod-one n in let f : n / 1 ≡ n = div-one n in omega arith

row_kept : (s : ℕ → ℤ) (rx ry q : ℕ) → kept_at_row s rx ry 1 (q * rx) (0 + q) ≡ flat_map (λ x. s (q * rx + x) ∷ []) (range_with_len 0 rx)
row_kept s rx ry q =
    (λ i. if mod-one ((0 + q) / ry) i == 0 then (if mod-one ((0 + q) % ry) i == 0 then kept_of_row s rx 1 (q * rx) else []) else [])
    ∙ ap (λ (n : ℕ). map (λ x. s (q * rx + x * 1)) (range_with_len 0 n)) (kept_all rx)
    ∙ map_same (λ x. s (q * rx + x * 1)) (λ x. s (q * rx + x)) 0 rx (λ x low high. let e : q * rx + x * 1 ≡ q * rx + x = omega arith in ap s e)
    ∙ sym (flat_map_single (λ x. s (q * rx + x)) (range_with_len 0 rx))

pub all_kept : (s : ℕ → ℤ) (rx ry rz : ℕ) → kept_in_volume s rx ry rz 1 ≡ map s (range_with_len 0 (rx * (ry * rz)))
unfolding kept_of_rows
all_kept s rx ry rz =
    sym (all_rows s rx ry rz 1 (omega arith))
    ∙ flat_map_same (λ q. kept_at_row s rx ry 1 (q * rx) (0 + q)) (λ q. flat_map (λ x. s (q * rx + x) ∷ []) (range_with_len 0 rx)) 0 (ry * rz) (λ q low high. row_kept s rx ry q)
    ∙ sym (in_blocks (λ n. s n ∷ []) rx (ry * rz))
    ∙ flat_map_single s (range_with_len 0 (rx * (ry * rz)))
