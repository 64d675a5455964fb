-- Heads whose coordinates are in the volume's own units, and the same in index units: the answers are those of an independent program.
use Rattle.std.specs.Prelude.{◌≡◌, ℕ, ℤ, pos, neg_ℤ, ◌*◌, ◌^◌, true, false, List, [], ◌∷◌, ◌++◌, codes, refl, Result, Ok, Err}
use Rattle.formats.specs.declared.Axis.{Axis}
use Rattle.formats.specs.declared.Kind.TheVariants.{Uchar}
use Rattle.formats.specs.declared.Key.TheVariants.{DataFile, Spacing, Offset}
use Rattle.formats.specs.declared.HeadFault.{HeadFault}
use Rattle.formats.specs.declared.HeadFault.TheVariants.{BadValue, Unsupported}
use Rattle.formats.specs.Decimals.{is_decimal, is_plain_decimal, decimal_units, is_spacing, is_offset}
use Rattle.formats.specs.HeadLines.{pairs_of}
use Rattle.formats.specs.Frames.{unit_axes}
use Rattle.formats.specs.Heads.{HeadAt, head_of, head_of_pairs, form_fault, refusal}

-- the head of one sample, with lines of its own in front of the data line
abbrev text : List ℕ → List ℕ
text own = codes "NDims = 3\nDimSize = 1 1 1\nElementType = MET_UCHAR\n" ++ (own ++ codes "ElementDataFile = LOCAL\n")

abbrev good : List Axis → ℕ → Result HeadAt HeadFault
good axes len = Ok (record { head = record { raw = 1 ∷ 1 ∷ 1 ∷ []; kind = Uchar; big = false; axes = axes }; len = len })

abbrev axis : ℤ → ℤ → Axis
axis spacing offset = record { spacing = spacing; offset = offset }

-- two spacings and offsets on either side of the origin
pub read_in_units : head_of true (text (codes "ElementSpacing = 0.5 0.5 2\nOffset = 10 -20 0.25\n")) ≡ good (axis (pos (5 * 10 ^ 17)) (pos (10 * 10 ^ 18)) ∷ axis (pos (5 * 10 ^ 17)) (neg_ℤ (pos (20 * 10 ^ 18))) ∷ axis (pos (2 * 10 ^ 18)) (pos (25 * 10 ^ 16)) ∷ []) 122
unfolding head_of pairs_of head_of_pairs form_fault refusal
read_in_units = refl

pub passed_over : head_of false (text (codes "ElementSpacing = 0.5 0.5 2\nOffset = 10 -20 0.25\n")) ≡ good unit_axes 122
unfolding head_of pairs_of head_of_pairs form_fault refusal
passed_over = refl

pub absent_in_units : head_of true (text []) ≡ good unit_axes 74
unfolding head_of pairs_of head_of_pairs form_fault refusal
absent_in_units = refl

pub no_spacing : head_of true (text (codes "ElementSpacing = 0 1 1\n")) ≡ Err (Unsupported Spacing)
unfolding head_of pairs_of head_of_pairs form_fault refusal
no_spacing = refl

pub no_spacing_in_index_units : head_of false (text (codes "ElementSpacing = 0 1 1\n")) ≡ good unit_axes 97
unfolding head_of pairs_of head_of_pairs form_fault refusal
no_spacing_in_index_units = refl

pub two_spacings : head_of true (text (codes "ElementSpacing = 1 1\n")) ≡ Err (BadValue Spacing)
unfolding head_of pairs_of head_of_pairs form_fault refusal
two_spacings = refl

pub exponent : head_of true (text (codes "Offset = 1e-3 0 0\n")) ≡ Err (Unsupported Offset)
unfolding head_of pairs_of head_of_pairs form_fault refusal
exponent = refl

pub exponent_in_index_units : head_of false (text (codes "Offset = 1e-3 0 0\n")) ≡ good unit_axes 92
unfolding head_of pairs_of head_of_pairs form_fault refusal
exponent_in_index_units = refl

-- a malformed spacing comes before a value that is not supported, and the first line of a key rules
pub form_first : head_of true (codes "NDims = 3\nDimSize = 1 1 1\nElementType = MET_FLOAT\nElementSpacing = 1 . 1\nElementSpacing = 1 1 1\nElementDataFile = LOCAL\n") ≡ Err (BadValue Spacing)
unfolding head_of pairs_of head_of_pairs form_fault refusal
form_first = refl

-- the spacing before the offset, and both behind the data line's own value
pub data_file_first : head_of true (codes "NDims = 3\nDimSize = 1 1 1\nOffset = 1e6 0 0\nElementSpacing = -1 1 1\nElementType = MET_UCHAR\nElementDataFile = a.raw\n") ≡ Err (Unsupported DataFile)
unfolding head_of pairs_of head_of_pairs form_fault refusal
data_file_first = refl

pub spacing_first : head_of true (text (codes "Offset = 1e6 0 0\nElementSpacing = -1 1 1\n")) ≡ Err (Unsupported Spacing)
unfolding head_of pairs_of head_of_pairs form_fault refusal
spacing_first = refl

-- lines behind the data line are no part of the head
pub behind_the_data_line : head_of true (text [] ++ codes "ElementSpacing = 1 1\nOffset = x\n") ≡ good unit_axes 74
unfolding head_of pairs_of head_of_pairs form_fault refusal
behind_the_data_line = refl

-- decimals, and what are none

pub are_decimals : (is_decimal (codes "+1") ≡ true) × (is_decimal (codes "5.") ≡ true) × (is_decimal (codes ".5") ≡ true) × (is_decimal (codes "-0") ≡ true) × (is_decimal (codes "-1.5E+07") ≡ true) × (is_decimal (codes "9.9999999999999995e-08") ≡ true)
are_decimals = (refl, refl, refl, refl, refl, refl)

pub are_none : (is_decimal (codes ".") ≡ false) × (is_decimal (codes "-") ≡ false) × (is_decimal (codes "1..") ≡ false) × (is_decimal (codes "1.2.3") ≡ false) × (is_decimal (codes "+-1") ≡ false) × (is_decimal (codes "1e") ≡ false) × (is_decimal (codes "e1") ≡ false) × (is_decimal (codes "1e1.5") ≡ false) × (is_decimal (codes "1e2e3") ≡ false) × (is_decimal (codes "0x1") ≡ false) × (is_decimal (codes "1-") ≡ false) × (is_decimal [] ≡ false)
are_none = (refl, refl, refl, refl, refl, refl, refl, refl, refl, refl, refl, refl)

pub are_plain : (is_plain_decimal (codes "0.123456789012345678") ≡ true) × (is_plain_decimal (codes "0.1234567890123456789") ≡ false) × (is_plain_decimal (codes "1e0") ≡ false) × (is_plain_decimal (codes "-.5") ≡ true)
are_plain = (refl, refl, refl, refl)

pub are_units : (decimal_units (codes "0.000000000000000001") ≡ pos 1) × (decimal_units (codes "-0") ≡ pos 0) × (decimal_units (codes "-.5") ≡ neg_ℤ (pos (5 * 10 ^ 17))) × (decimal_units (codes "+007.") ≡ pos (7 * 10 ^ 18))
are_units = (refl, refl, refl, refl)

-- the limits

pub spacings : (is_spacing (codes "999.999999999999999999") ≡ true) × (is_spacing (codes "1000") ≡ false) × (is_spacing (codes "0.000000000000000001") ≡ true) × (is_spacing (codes "-0") ≡ false) × (is_spacing (codes "-1") ≡ false)
spacings = (refl, refl, refl, refl, refl)

pub offsets : (is_offset (codes "-999999.999999999999999999") ≡ true) × (is_offset (codes "1000000") ≡ false) × (is_offset (codes "-1000000") ≡ false) × (is_offset (codes "-0") ≡ true) × (is_offset (codes "000000999999") ≡ true)
offsets = (refl, refl, refl, refl, refl)
