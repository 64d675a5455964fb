-- Rows that are read in parts.
use Rattle.std.proofs.Common.{◌≡◌, ◌≢◌, ℕ, ℤ, ◌+◌, ◌*◌, ◌^◌, ◌≤◌, List, [], ◌++◌, length, Option, ap, sym, ◌∙◌, arith, length-append}
use Rattle.std.proofs.KnownBytes.{Consumes-nil, Consumes-trans}
use Rattle.std.proofs.Math.Nat.{mul-le-mul, mul-le-mul_right, zero-mul}
use Rattle.std.specs.List.{All}
use Rattle.std.specs.declared.result.Result.{Result}
use Rattle.std.specs.declared.result.Result.TheVariants.{Err}
use Rattle.formats.specs.declared.Kind.{Kind}
use Rattle.formats.specs.declared.Kind.TheVariants.{Uchar, Char, Ushort, Short, Uint, Int}
use Rattle.formats.specs.Samples.{bytes_per_sample, sample_of_bytes}
use Rattle.mha_read.specs.Samples.{IsGrid, row_bytes, kept_rows, TakesRows, TakesMore, ReadsRows, ReadsSamples, fault_behind, FitsBehind}
use Rattle.mha_read.specs.declared.samples.Grid.{Grid}
use Rattle.mha_read.specs.declared.samples.SampleFault.{SampleFault}
use Rattle.mha_read.specs.declared.samples.SampleFault.TheVariants.{Truncated, ReadFault, NoMemory}
use Rattle.mha_read.proofs.PushedRows.{rows_start}
use Rattle.mha_read.proofs.RowLists.{rows_behind, same_rows}
use Rattle.mha_read.proofs.SampleBytes.{sample_before, sample_behind}

pub no_rows : (grid : Grid) (left : Option (List ℕ)) (samples : List ℤ) → samples ≡ [] → TakesRows grid left left 0 samples
no_rows grid left samples none = record {
  bytes = [];
  taken = Consumes-nil left;
  len = sym (zero-mul (row_bytes grid));
  numbers = none ∙ rows_start (sample_of_bytes grid.kind grid.big []) grid.width grid.height grid.step 0 [];
}

-- rows of bytes that go on
pub rows_before : (grid : Grid) (bytes more : List ℕ) (rows : ℕ) → IsGrid grid → length bytes ≡ rows * row_bytes grid → kept_rows grid (bytes ++ more) 0 rows ≡ kept_rows grid bytes 0 rows
rows_before grid bytes more rows is len =
    same_rows (sample_of_bytes grid.kind grid.big (bytes ++ more)) (sample_of_bytes grid.kind grid.big bytes) grid.width grid.height grid.step rows is.step_positive (λ n lt.
    let le : n + 1 ≤ rows * grid.width = omega arith in
    let times : (n + 1) * bytes_per_sample grid.kind ≤ rows * grid.width * bytes_per_sample grid.kind = mul-le-mul_right (bytes_per_sample grid.kind) le in
    sample_before grid.kind grid.big bytes more n (omega (arith, times, len)))

pub more_rows : (grid : Grid) (a b c : Option (List ℕ)) (row rows : ℕ) (before after : List ℤ) → IsGrid grid → TakesRows grid a b row before → TakesMore grid b c row rows before after → TakesRows grid a c (row + rows) after
more_rows grid a b c row rows before after is t p = record {
  bytes = t.bytes ++ p.bytes;
  taken = Consumes-trans a b c t.bytes p.bytes t.taken p.taken;
  len = length-append t.bytes p.bytes ∙ omega (arith, t.len, p.len);
  numbers = p.numbers ∙ ap (λ (ks : List ℤ). ks ++ kept_rows grid p.bytes row rows) (t.numbers ∙ sym (rows_before grid t.bytes p.bytes row is t.len)) ∙ sym whole;
}
  where
    whole : kept_rows grid (t.bytes ++ p.bytes) 0 (row + rows) ≡ kept_rows grid (t.bytes ++ p.bytes) 0 row ++ kept_rows grid p.bytes row rows
    whole = rows_behind (sample_of_bytes grid.kind grid.big (t.bytes ++ p.bytes)) (sample_of_bytes grid.kind grid.big p.bytes) grid.width grid.height grid.step row rows is.step_positive (λ n lt. sample_behind grid.kind grid.big t.bytes p.bytes (row * grid.width) n (omega (arith, t.len)))

pub refused : (grid : Grid) (a b c : Option (List ℕ)) (row part rows : ℕ) (before after : List ℤ) (fault : SampleFault) → TakesRows grid a b row before → ReadsRows grid b c row part before after (Err fault) → row + part ≤ rows → ReadsSamples grid a c rows (Err (fault_behind fault (row * row_bytes grid)))
refused grid a b c row part rows before after ReadFault t p fits =
    let times : (row + part) * row_bytes grid ≤ rows * row_bytes grid = mul-le-mul_right (row_bytes grid) fits in
    record {
      bytes = t.bytes ++ p.bytes;
      taken = Consumes-trans a b c t.bytes p.bytes t.taken p.taken;
      fewer = omega (arith, length-append t.bytes p.bytes, t.len, p.fewer, times);
    }
refused grid a b c row part rows before after (Truncated got) t p fits =
    let times : (row + part) * row_bytes grid ≤ rows * row_bytes grid = mul-le-mul_right (row_bytes grid) fits in
    record {
      bytes = t.bytes ++ p.bytes;
      taken = Consumes-trans a b c t.bytes p.bytes t.taken p.taken;
      len = length-append t.bytes p.bytes ∙ omega (arith, t.len, p.len);
      fewer = omega (arith, p.fewer, times);
      last = p.last;
    }
refused grid a b c row part rows before after NoMemory t p fits = tt

at_most_four : (kind : Kind) → bytes_per_sample kind ≤ 4
at_most_four Uchar = omega arith
at_most_four Char = omega arith
at_most_four Ushort = omega arith
at_most_four Short = omega arith
at_most_four Uint = omega arith
at_most_four Int = omega arith

few_bytes : (grid : Grid) → IsGrid grid → row_bytes grid ≤ 32768
few_bytes grid is =
    let four : bytes_per_sample grid.kind ≤ 4 = at_most_four grid.kind in
    let times : grid.width * bytes_per_sample grid.kind ≤ 8192 * 4 = mul-le-mul is.width_bound four in omega arith

pub fits_behind : (grid : Grid) (b c : Option (List ℕ)) (row part rows : ℕ) (before after : List ℤ) (fault : SampleFault) → IsGrid grid → ReadsRows grid b c row part before after (Err fault) → row + part ≤ rows → rows ≤ 2 ^ 26 → FitsBehind fault (row * row_bytes grid)
fits_behind grid b c row part rows before after ReadFault is p fits bound = tt
fits_behind grid b c row part rows before after (Truncated got) is p fits bound =
    let sum : row + part ≤ 2 ^ 26 = omega arith in
    let times : (row + part) * row_bytes grid ≤ 2 ^ 26 * 32768 = mul-le-mul sum (few_bytes grid is) in
    omega (arith, p.fewer, times)
fits_behind grid b c row part rows before after NoMemory is p fits bound = tt

pub other_fault : (T : Type 0) (fault r : SampleFault) (before : ℕ) → r ≡ fault_behind fault before → ◌≢◌ {A = Result T SampleFault} (Err r) (Err ReadFault) → ◌≢◌ {A = Result (Unit {0}) SampleFault} (Err fault) (Err ReadFault)
other_fault T ReadFault r before is other = absurd (other (ap Err is))
other_fault T (Truncated got) r before is other = λ e. cc
other_fault T NoMemory r before is other = λ e. cc

pub none_hold : (P : ℤ → Type 0) (xs : List ℤ) → xs ≡ [] → All P xs
none_hold P xs none = λ k d lt. absurd (omega (arith, ap length none))
