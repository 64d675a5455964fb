-- What the bytes behind a head come to.
use Rattle.std.proofs.Common.{◌≡◌, ◌⊎◌, inl, inr, ℕ, ℤ, ◌*◌, ◌<◌, ◌≤◌, min, List, [], ◌++◌, length, drop, Option, Some, Bool, true, false, nat_lt, if◌then◌else◌, refl, ap, sym, ◌∙◌, subst, arith, length-append}
use Rattle.std.specs.Prelude.{◌≤ℤ◌, slice_index}
use Rattle.std.specs.List.{All}
use Rattle.std.specs.Io.KnownBytes.{IsAtEnd}
use Rattle.std.specs.declared.result.Result.TheVariants.{Ok, Err}
use Rattle.std.proofs.lemmas.Bool.{lt-ltb, le-ltb}
use Rattle.std.proofs.Math.Nat.{eq-or-lt_of_le}
use Rattle.definitions.specs.declared.Dims.{Dims}
use Rattle.definitions.specs.Lattice.{IsDims, padded_product}
use Rattle.formats.specs.declared.Head.{Head}
use Rattle.formats.specs.declared.Limits.{Limits}
use Rattle.formats.specs.Heads.{HeadAt}
use Rattle.formats.specs.Samples.{sample_of_bytes}
use Rattle.formats.specs.Volumes.{IsVolume, VolumeAnswer, EndsEarly, Whole, is_too_large, kept_size, kept_dims, kept_samples, wanted_bytes, volume_answer, least_of, greatest_of}
use Rattle.mha_read.specs.LinesRead.{Leaves}
use Rattle.mha_read.specs.RawSizes.{AreRawSizes}
use Rattle.mha_read.specs.Samples.{IsGrid, row_bytes, kept_rows, TakesRows, TakesFewer, TakesLast}
use Rattle.mha_read.specs.VolumeTold.{VolumeTold, grid_in}
use Rattle.mha_read.specs.declared.volumes.VolFault.TheVariants.{Truncated, ReadFault}
use Rattle.mha_read.proofs.RowLists.{all_rows, kept_count}
use Rattle.mha_read.proofs.RowParts.{rows_before}
use Rattle.mha_read.proofs.LinesTaken.{Rest, rest_of, leaves_first}

allowed : (b : Bool) (x y : Dims) (n : ℕ) → Ok x ≡ (if b then Err n else Ok y) → (b ≡ false) × (x ≡ y)
allowed true x y n e = cc
allowed false x y n e = (refl, cc)

-- a volume within the limits
pub allowed_sizes : (limits : Limits) (head : Head) (step : ℕ) (sizes : Dims) → Ok sizes ≡ (if is_too_large limits head step then Err (padded_product (kept_dims head step)) else Ok (kept_dims head step)) → (is_too_large limits head step ≡ false) × (sizes ≡ kept_dims head step)
allowed_sizes limits head step sizes e = allowed (is_too_large limits head step) sizes (kept_dims head step) (padded_product (kept_dims head step)) e

-- the rows of a head
pub grid_is : (head : Head) (step : ℕ) → AreRawSizes head.raw → slice_index head.raw 0 ≤ 8192 → slice_index head.raw 1 ≤ 8192 → 1 ≤ step → step ≤ 64 → IsGrid (grid_in head step)
grid_is head step sizes x y low high = record {
  width_positive = sizes.x_positive;
  height_positive = sizes.y_positive;
  step_positive = low;
  width_bound = x;
  height_bound = y;
  step_bound = high;
}

abbrev rows_in : Head → ℕ
rows_in head = slice_index head.raw 1 * slice_index head.raw 2

pub rows_wanted : (head : Head) (step : ℕ) → rows_in head * row_bytes (grid_in head step) ≡ wanted_bytes head
rows_wanted head step = omega arith

-- what is kept of all rows
all_kept : (head : Head) (step : ℕ) (bytes : List ℕ) → 0 < step → kept_rows (grid_in head step) bytes 0 (rows_in head) ≡ kept_samples head step bytes
unfolding kept_samples
all_kept head step bytes positive = all_rows (sample_of_bytes head.kind head.big bytes) (slice_index head.raw 0) (slice_index head.raw 1) (slice_index head.raw 2) step positive

kept_len : (head : Head) (step : ℕ) (bytes : List ℕ) → length (kept_samples head step bytes) ≡ kept_size step (slice_index head.raw 0) * kept_size step (slice_index head.raw 1) * kept_size step (slice_index head.raw 2)
unfolding kept_samples
kept_len head step bytes = kept_count (sample_of_bytes head.kind head.big bytes) (slice_index head.raw 0) (slice_index head.raw 1) (slice_index head.raw 2) step

-- the kept samples make a volume
pub rows_make : (head : Head) (step rows : ℕ) (sizes : Dims) (old new : Option (List ℕ)) (samples : List ℤ) → IsDims sizes → sizes ≡ kept_dims head step → 1 ≤ step → step ≤ 64 → rows ≡ rows_in head → TakesRows (grid_in head step) old new rows samples → All (λ z. least_of head.kind ≤ℤ z) samples → All (λ z. z ≤ℤ greatest_of head.kind) samples → IsVolume (record { dims = sizes; step = step; kind = head.kind; samples = samples })
rows_make head step rows sizes old new samples is sizes_are low high rows_are takes least most = record {
  sizes = is;
  step_positive = low;
  step_bound = high;
  whole = ap length (takes.numbers ∙ ap (λ (n : ℕ). kept_rows (grid_in head step) takes.bytes 0 n) rows_are ∙ all_kept head step takes.bytes low) ∙ kept_len head step takes.bytes ∙ ap (λ (d : Dims). d.nx * d.ny * d.nz) (sym sizes_are);
  low = least;
  high = most;
}

pick_third : {A : Type 0} (p q : Bool) (a b c : A) → p ≡ false → q ≡ false → (if p then a else if q then b else c) ≡ c
pick_third true q a b c p_is q_is = cc
pick_third false true a b c p_is q_is = cc
pick_third false false a b c p_is q_is = refl

abbrev head_at : Head → ℕ → HeadAt
head_at head len = record { head = head; len = len }

pub told_whole : (limits : Limits) (head : Head) (text : List ℕ) (len step rows : ℕ) (sizes : Dims) (samples : List ℤ) (old new : Option (List ℕ)) → IsGrid (grid_in head step) → is_too_large limits head step ≡ false → sizes ≡ kept_dims head step → rows ≡ rows_in head → TakesRows (grid_in head step) old new rows samples → old ≡ Some (drop len text) → VolumeTold (volume_answer limits text (head_at head len) step) (wanted_bytes head) (Ok (record { dims = sizes; step = step; kind = head.kind; samples = samples })) (drop len text) new
told_whole limits head text len step rows sizes samples old new is within sizes_are rows_are takes left =
    let rest : Rest (drop len text) takes.bytes new = rest_of old new (drop len text) takes.bytes left takes.taken in
    let bytes_are : length takes.bytes ≡ wanted_bytes head = takes.len ∙ ap (λ (n : ℕ). n * row_bytes (grid_in head step)) rows_are ∙ rows_wanted head step in
    let enough : wanted_bytes head ≤ length (drop len text) = omega (arith, bytes_are, ap length rest.parts, length-append takes.bytes rest.behind) in
    let numbers : kept_samples head step (drop len text) ≡ samples =
    ap (λ (zs : List ℕ). kept_samples head step zs) rest.parts
    ∙ sym (all_kept head step (takes.bytes ++ rest.behind) is.step_positive)
    ∙ ap (λ (n : ℕ). kept_rows (grid_in head step) (takes.bytes ++ rest.behind) 0 n) (sym rows_are)
    ∙ rows_before (grid_in head step) takes.bytes rest.behind rows is takes.len
    ∙ sym takes.numbers in
    let taken : Leaves (drop len text) (wanted_bytes head) new = subst (λ (n : ℕ). Leaves (drop len text) n new) bytes_are (leaves_first (drop len text) takes.bytes new rest) in (
      pick_third (is_too_large limits head step) (nat_lt (length (drop len text)) (wanted_bytes head)) _ _ _ within (le-ltb _ _ enough)
          ∙ (λ i. Whole (record { dims = sym sizes_are i; step = step; kind = head.kind; samples = numbers i })),
      taken,
    )

pick_second : {A : Type 0} (p q : Bool) (a b c : A) → p ≡ false → q ≡ true → (if p then a else if q then b else c) ≡ b
pick_second true q a b c p_is q_is = cc
pick_second false true a b c p_is q_is = refl
pick_second false false a b c p_is q_is = cc

pub told_truncated : (limits : Limits) (head : Head) (text : List ℕ) (len step count got wanted : ℕ) (old new : Option (List ℕ)) → is_too_large limits head step ≡ false → wanted ≡ wanted_bytes head → count ≡ wanted_bytes head → TakesLast old new got count → old ≡ Some (drop len text) → VolumeTold (volume_answer limits text (head_at head len) step) (wanted_bytes head) (Err (Truncated got wanted)) (drop len text) new
told_truncated limits head text len step count got wanted old new within wanted_is count_is takes left =
    let rest : Rest (drop len text) takes.bytes new = rest_of old new (drop len text) takes.bytes left takes.taken in
    let none : rest.behind ≡ [] = let P : Option (List ℕ) → Type 0 = λ o. IsAtEnd o in subst P rest.new_is takes.last in
    let all : length (drop len text) ≡ got = omega (arith, ap length rest.parts, length-append takes.bytes rest.behind, ap length none, takes.len) in
    let short : nat_lt (length (drop len text)) (wanted_bytes head) ≡ true = lt-ltb _ _ (omega (arith, all, takes.fewer)) in (
      pick_second (is_too_large limits head step) (nat_lt (length (drop len text)) (wanted_bytes head)) _ _ _ within short ∙ (λ i. EndsEarly (all i) (sym wanted_is i)),
      rest.new_is ∙ ap Some none,
    )

pub fewer_wanted : (old new : Option (List ℕ)) (count wanted : ℕ) → count ≡ wanted → TakesFewer old new count → TakesFewer old new wanted
fewer_wanted old new count wanted e takes = subst (λ (n : ℕ). TakesFewer old new n) e takes

pub told_fault : (answer : VolumeAnswer) (rest : List ℕ) (wanted : ℕ) (old new : Option (List ℕ)) → TakesFewer old new wanted → old ≡ Some rest → VolumeTold answer wanted (Err ReadFault) rest new
told_fault answer rest wanted old new takes left =
    (length takes.bytes, leaves, by_end (eq-or-lt_of_le leaves.within))
  where
    leaves : Leaves rest (length takes.bytes) new
    leaves = leaves_first rest takes.bytes new (rest_of old new rest takes.bytes left takes.taken)

    by_end : (length takes.bytes ≡ length rest) ⊎ (length takes.bytes < length rest) → (length takes.bytes < min wanted (length rest)) ⊎ ((length takes.bytes ≡ length rest) × (length takes.bytes < wanted))
    by_end (inl e) = inr (e, takes.fewer)
    by_end (inr more) = inl (omega (arith, takes.fewer))
