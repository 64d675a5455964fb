-- The differences of a volume's samples to a level are a field.
use Rattle.std.proofs.Common.{◌≡◌, ℕ, ◌+◌, ◌*◌, ◌<◌, ◌≤◌, ◌^◌, ◌∙◌, sym, subst, List, length, get_or, unsigned_abs, arith, Bool, true, false}
use Rattle.std.specs.Prelude.{◌≤ℤ◌}
use Rattle.std.proofs.Math.IntN.{ℤ, pos}
use Rattle.std.proofs.Math.Nat.{mul-le-mul}
use Rattle.std.proofs.lemmas.Int.{ints}
use Rattle.std.proofs.lemmas.List.{length-map}
use Rattle.std.proofs.lemmas.List.Elements.{All-map, All-get_or, All-from_get_or}
use Rattle.definitions.specs.declared.Dims.{Dims}
use Rattle.definitions.specs.Values.{Field, IsField, difference, field_of}
use Rattle.formats.specs.declared.Kind.{Kind}
use Rattle.formats.specs.declared.Kind.TheVariants.{Uchar, Char, Ushort, Short, Uint, Int}
use Rattle.formats.specs.Volumes.{Volume, IsVolume, least_of, greatest_of}

in_range : (k : Kind) (z : ℤ) → least_of k ≤ℤ z → z ≤ℤ greatest_of k → unsigned_abs z ≤ 2 ^ 32
in_range Uchar z low high = omega (arith, ints)
in_range Char z low high = omega (arith, ints)
in_range Ushort z low high = omega (arith, ints)
in_range Short z low high = omega (arith, ints)
in_range Uint z low high = omega (arith, ints)
in_range Int z low high = omega (arith, ints)

small : (twice : ℤ) (below : Bool) (z : ℤ) → unsigned_abs twice < 2 ^ 33 → unsigned_abs z ≤ 2 ^ 32 → unsigned_abs (difference twice below z) < 2 ^ 34
small twice true z t s = omega (arith, ints)
small twice false z t s = omega (arith, ints)

is_field : (v : Volume) (twice : ℤ) (below : Bool) → IsVolume v → unsigned_abs twice < 2 ^ 33 → IsField (field_of v.dims v.samples twice below)
is_field v twice below h t = record {
  sizes = h.sizes;
  whole = length-map v.samples (difference twice below) ∙ h.whole;
  small = All-map (λ z. unsigned_abs z < 2 ^ 34) (difference twice below) v.samples (All-from_get_or (λ z. unsigned_abs (difference twice below z) < 2 ^ 34) v.samples (pos 0) at);
}
  where
    at : (i : ℕ) → i < length v.samples → unsigned_abs (difference twice below (get_or v.samples i (pos 0))) < 2 ^ 34
    at i n = small twice below (get_or v.samples i (pos 0)) t (in_range v.kind (get_or v.samples i (pos 0)) (All-get_or (λ z. least_of v.kind ≤ℤ z) v.samples i (pos 0) n h.low) (All-get_or (λ z. z ≤ℤ greatest_of v.kind) v.samples i (pos 0) n h.high))

-- the same of parts that are the volume's
pub field_of_parts : (v : Volume) (d : Dims) (samples : List ℤ) (twice : ℤ) (below : Bool) → d ≡ v.dims → samples ≡ v.samples → IsVolume v → unsigned_abs twice < 2 ^ 33 → IsField (field_of d samples twice below)
field_of_parts v d samples twice below e es h t = subst (λ (f : Field). IsField f) (λ i. field_of (sym e i) (sym es i) twice below) (is_field v twice below h t)

-- there are few of them
few : (a b c n : ℕ) → n ≡ a * b * c → (a + 2) * (b + 2) * (c + 2) ≤ 2 ^ 26 → n ≤ 2 ^ 26
few a b c n e h =
    let two : a * b ≤ (a + 2) * (b + 2) = (let p : a ≤ a + 2 = omega arith in let q : b ≤ b + 2 = omega arith in mul-le-mul p q) in
    let three : a * b * c ≤ (a + 2) * (b + 2) * (c + 2) = (let r : c ≤ c + 2 = omega arith in mul-le-mul two r) in
    omega arith

pub few_differences : (f : Field) → IsField f → length f.differences ≤ 2 ^ 26
few_differences f is = few f.dims.nx f.dims.ny f.dims.nz (length f.differences) is.whole is.sizes.within

pub few_samples : (v : Volume) → IsVolume v → length v.samples ≤ 2 ^ 26
few_samples v is = few v.dims.nx v.dims.ny v.dims.nz (length v.samples) is.whole is.sizes.within
