-- Samples at the end of others.
use Rattle.std.proofs.Common.{◌≡◌, ℕ, ℤ, ◌+◌, ◌-◌, ◌*◌, ◌/◌, ◌%◌, ◌<◌, ◌≤◌, ◌==◌, ◌&&◌, List, [], ◌∷◌, ◌++◌, map, flat_map, length, take, drop, Bool, true, false, if◌then◌else◌, refl, ap, sym, ◌∙◌, arith, append_assoc, append-nil, subst, length-drop, w64, to_z, of_z, FitsSigned}
use Rattle.std.proofs.lemmas.Grind.{flat_map-append}
use Rattle.std.proofs.lemmas.List.{take_all}
use Rattle.std.proofs.lemmas.List.FromFn.{map-range_with_len_more}
use Rattle.std.proofs.Math.Nat.{mul-le-mul_right}
use Rattle.std.proofs.lemmas.Int.{ints, to_z-of_z}
use Rattle.std.specs.Prelude.{◌≤ℤ◌}
use Rattle.std.proofs.lemmas.List.Elements.{All-push}
use Rattle.std.specs.List.{range_with_len, All}
use Rattle.list_words.proofs.Ranges.{range_add}
use Rattle.formats.specs.declared.Kind.{Kind}
use Rattle.formats.specs.declared.Kind.TheVariants.{Uchar, Char, Ushort, Short, Uint, Int}
use Rattle.formats.specs.Samples.{bytes_per_sample, sample_number, sample_of_bytes}
use Rattle.formats.specs.Volumes.{kept_size, least_of, greatest_of}
use Rattle.mha_read.specs.RawRows.{kept_of_row, kept_at_row, kept_of_rows}
use Rattle.mha_read.proofs.Ranges.{kept_below}

pub number_at : (kind : Kind) (big : Bool) (bytes : List ℕ) (n at : ℕ) → at ≡ n * bytes_per_sample kind → sample_number kind big (take (length bytes - at) (drop at bytes)) ≡ sample_of_bytes kind big bytes n
number_at kind big bytes n at e =
    let f : at ≡ bytes_per_sample kind * n = omega arith in
    ap (sample_number kind big) (take_all (length bytes - at) (drop at bytes) (omega (arith, length-drop at bytes)) ∙ ap (λ (k : ℕ). drop k bytes) f)

pub within_row : (first step width i size len : ℕ) → 0 < step → i < kept_size step width → (first + width) * size ≤ len → (first + i * step + 1) * size ≤ len
within_row first step width i size len positive lt within =
    let below : i * step < width = kept_below step width i positive lt in
    let le : first + i * step + 1 ≤ first + width = omega arith in
    let times : (first + i * step + 1) * size ≤ (first + width) * size = mul-le-mul_right size le in
    omega arith

pub more_numbers : (f : ℕ → ℤ) (i : ℕ) (initial before after : List ℤ) (x : ℤ) → before ≡ initial ++ map f (range_with_len 0 i) → after ≡ before ++ x ∷ [] → x ≡ f i → after ≡ initial ++ map f (range_with_len 0 (i + 1))
more_numbers f i initial before after x old new is =
    let z : 0 + i ≡ i = omega arith in
    new ∙ (λ j. old j ++ is j ∷ []) ∙ append_assoc initial (map f (range_with_len 0 i)) (f i ∷ []) ∙ ap (λ (ks : List ℤ). initial ++ ks) (sym (map-range_with_len_more f 0 i i z))

pub rows_start : (sample : ℕ → ℤ) (rx ry step q : ℕ) (initial : List ℤ) → initial ≡ initial ++ kept_of_rows sample rx ry step q 0
unfolding kept_of_rows
rows_start sample rx ry step q initial = sym (append-nil initial)

-- one more row
pub rows_next : (sample : ℕ → ℤ) (rx ry step q i : ℕ) → kept_of_rows sample rx ry step q (i + 1) ≡ kept_of_rows sample rx ry step q i ++ kept_at_row sample rx ry step (i * rx) (q + i)
unfolding kept_of_rows
rows_next sample rx ry step q i =
    let z : 0 + i ≡ i = omega arith in
    ap (λ (ks : List ℕ). flat_map (λ j. kept_at_row sample rx ry step (j * rx) (q + j)) ks) (range_add 0 i 1)
    ∙ flat_map-append (λ j. kept_at_row sample rx ry step (j * rx) (q + j)) (range_with_len 0 i) (range_with_len (0 + i) 1)
    ∙ ap (λ (ks : List ℤ). flat_map (λ j. kept_at_row sample rx ry step (j * rx) (q + j)) (range_with_len 0 i) ++ ks)
    (append-nil (kept_at_row sample rx ry step ((0 + i) * rx) (q + (0 + i))) ∙ ap (λ (n : ℕ). kept_at_row sample rx ry step (n * rx) (q + n)) z)

kept_here : (p q : Bool) (xs : List ℤ) → (p && q) ≡ true → (if p then (if q then xs else []) else []) ≡ xs
kept_here true true xs e = refl
kept_here true false xs e = cc
kept_here false q xs e = cc

passed_over : (p q : Bool) (xs : List ℤ) → (p && q) ≡ false → (if p then (if q then xs else []) else []) ≡ []
passed_over true true xs e = cc
passed_over true false xs e = refl
passed_over false q xs e = refl

pub row_kept : (sample : ℕ → ℤ) (rx ry step q i : ℕ) (initial before after : List ℤ) → ((q + i) / ry % step == 0 && (q + i) % ry % step == 0) ≡ true → before ≡ initial ++ kept_of_rows sample rx ry step q i → after ≡ before ++ kept_of_row sample rx step (i * rx) → after ≡ initial ++ kept_of_rows sample rx ry step q (i + 1)
row_kept sample rx ry step q i initial before after t old new =
    new
    ∙ (λ j. old j ++ sym (kept_here ((q + i) / ry % step == 0) ((q + i) % ry % step == 0) (kept_of_row sample rx step (i * rx)) t) j)
    ∙ append_assoc initial (kept_of_rows sample rx ry step q i) (kept_at_row sample rx ry step (i * rx) (q + i))
    ∙ ap (λ (ks : List ℤ). initial ++ ks) (sym (rows_next sample rx ry step q i))

pub row_left_out : (sample : ℕ → ℤ) (rx ry step q i : ℕ) (initial before : List ℤ) → ((q + i) / ry % step == 0 && (q + i) % ry % step == 0) ≡ false → before ≡ initial ++ kept_of_rows sample rx ry step q i → before ≡ initial ++ kept_of_rows sample rx ry step q (i + 1)
row_left_out sample rx ry step q i initial before t old =
    let none : kept_at_row sample rx ry step (i * rx) (q + i) ≡ [] = passed_over ((q + i) / ry % step == 0) ((q + i) % ry % step == 0) (kept_of_row sample rx step (i * rx)) t in
    old ∙ ap (λ (ks : List ℤ). initial ++ ks) (sym (rows_next sample rx ry step q i ∙ ap (λ (ks : List ℤ). kept_of_rows sample rx ry step q i ++ ks) none ∙ append-nil (kept_of_rows sample rx ry step q i)))

pub all_pushed : (P : ℤ → Type 0) (before after : List ℤ) (x : ℤ) → after ≡ before ++ x ∷ [] → All P before → P x → All P after
all_pushed P before after x new all one = subst (λ (xs : List ℤ). All P xs) (sym new) (All-push P before x all one)

-- a pushed number, written and read back
pub pushed : (before after : List ℤ) (x : ℤ) → FitsSigned w64 x → after ≡ before ++ to_z w64 (of_z w64 x) ∷ [] → after ≡ before ++ x ∷ []
pushed before after x fits new = new ∙ ap (λ (z : ℤ). before ++ z ∷ []) (to_z-of_z w64 x fits)

-- a number of a type fits 64 bits
pub kind_fits : (kind : Kind) (x : ℤ) → least_of kind ≤ℤ x → x ≤ℤ greatest_of kind → FitsSigned w64 x
kind_fits Uchar x low high = omega (arith, ints)
kind_fits Char x low high = omega (arith, ints)
kind_fits Ushort x low high = omega (arith, ints)
kind_fits Short x low high = omega (arith, ints)
kind_fits Uint x low high = omega (arith, ints)
kind_fits Int x low high = omega (arith, ints)

pub row_within : (i rows width size len : ℕ) → i < rows → len ≡ rows * (width * size) → (i * width + width) * size ≤ len
row_within i rows width size len lt whole =
    let le : i + 1 ≤ rows = omega arith in
    let times : (i + 1) * (width * size) ≤ rows * (width * size) = mul-le-mul_right (width * size) le in
    omega arith
