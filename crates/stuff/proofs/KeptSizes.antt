-- The kept sizes of an image within the limits, with their step.
use Rattle.std.proofs.Common.{refl, zero, suc, ◌≡◌, ℕ, ◌+◌, ◌*◌, ◌/◌, ◌%◌, ◌<◌, ◌≤◌, min, Bool, true, false, ◌||◌, nat_lt, List, [], ◌∷◌, length, ap, subst, sym, arith}
use Rattle.std.specs.Prelude.{slice_index}
use Rattle.std.specs.List.{list_any}
use Rattle.std.proofs.Math.Nat.{div-add-mod}
use Rattle.std.proofs.lemmas.Bool.Decides.{nat_tests}
use Rattle.definitions.specs.declared.Dims.{Dims}
use Rattle.formats.specs.declared.Head.{Head}
use Rattle.formats.specs.declared.Limits.{Limits}
use Rattle.formats.specs.Volumes.{is_too_large, kept_size, kept_dims, second_limits}
use Rattle.mha_read.specs.RawSizes.{AreRawSizes}
use Rattle.slab_work.specs.Surveyed.{AreKept}

either_false : (a b : Bool) → (a || b) ≡ false → a ≡ false
either_false true b e = cc
either_false false b e = refl

or_right : (a b : Bool) → (a || b) ≡ false → b ≡ false
or_right true b e = cc
or_right false b e = e

not_above : (m n : ℕ) → nat_lt m n ≡ false → n ≤ m
not_above m n e = grind (arith, nat_tests)

none_above : (limit : ℕ) (raw : List ℕ) → list_any (λ n. nat_lt limit n) raw ≡ false → (i : ℕ) → i < length raw → slice_index raw i ≤ limit
none_above limit [] e i lt = absurd (omega (arith, lt))
none_above limit (n ∷ more) e zero lt = not_above limit n (either_false _ _ e)
none_above limit (n ∷ more) e (suc i) lt = none_above limit more (or_right _ _ e) i (omega (arith, lt))

times_one : (step m : ℕ) → m ≡ 1 → step * m ≡ step
times_one step m e = rw e (omega arith)

with_rest : (step q r n : ℕ) → step ≤ 64 → step * q + r ≡ n → n ≤ 8192 → step * q + step * min 1 r ≤ 8255
with_rest step q zero n high e le = omega (arith, e, le)
with_rest step q (suc r) n high e le = omega (arith, e, le, times_one step (min 1 (suc r)) (omega arith))

distributes : (a b c : ℕ) → a * (b + c) ≡ a * b + a * c
distributes a b c = omega arith

kept_axis : (step n : ℕ) → step ≤ 64 → n ≤ 8192 → step * kept_size step n ≤ 8255
kept_axis step n high le = rw (distributes step (n / step) (min 1 (n % step))) (with_rest step (n / step) (n % step) n high (div-add-mod n step) le)

pub kept_within : (step : ℕ) (limits : Limits) (head : Head) (d : Dims) → step ≤ 64 → limits ≡ second_limits → AreRawSizes head.raw → is_too_large limits head step ≡ false → d ≡ kept_dims head step → AreKept step d
kept_within step limits head d high l raw small e =
    let none = none_above limits.dimension head.raw (either_false _ _ small) in
    let limit : limits.dimension ≡ 8192 = ap (λ (x : Limits). x.dimension) l in
    let three = raw.three in
    subst (λ (x : Dims). AreKept step x) (sym e)
    (record {
      nx = kept_axis step (slice_index head.raw 0) high (omega (arith, none 0 (omega (arith, three)), limit));
      ny = kept_axis step (slice_index head.raw 1) high (omega (arith, none 1 (omega (arith, three)), limit));
      nz = kept_axis step (slice_index head.raw 2) high (omega (arith, none 2 (omega (arith, three)), limit));
    })
