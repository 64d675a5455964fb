-- The head of a .mha file: its keys, how their values are formed, and which of them are supported.
use Rattle.std.specs.Prelude.{ℕ, ◌+◌, Bool, true, false, not, ◌&&◌, ◌||◌, ◌==◌, nat_lt, List, [], ◌∷◌, ◌++◌, map, filter, filter_map, find, length, take, codes, Option, Some, None, option_map, option_and_then, unwrap_or, is_some, Result, Ok, Err, if◌then◌else◌, ◌^◌, ℤ, pos}
use Rattle.std.specs.Option.{option_map_or}
use Rattle.std.specs.List.{slice_split, list_all, list_any}
use Rattle.std.specs.Str.Parse.{digits_value}
use Rattle.std.specs.Str.{bytes_eq}
use Rattle.formats.specs.declared.Kind.{Kind}
use Rattle.formats.specs.declared.Kind.TheVariants.{Uchar, Char, Ushort, Short, Uint, Int}
use Rattle.formats.specs.declared.Key.{Key}
use Rattle.formats.specs.declared.Key.TheVariants.{ObjectType, NDims, BinaryData, ByteOrder, CompressedData, Channels, DimSize, ElementType, DataFile, Spacing, Offset}
use Rattle.formats.specs.declared.Axis.{Axis}
use Rattle.formats.specs.declared.Head.{Head}
use Rattle.formats.specs.declared.HeadFault.{HeadFault}
use Rattle.formats.specs.declared.HeadFault.TheVariants.{Missing, BadValue, Unsupported}
use Rattle.formats.specs.Counts.{head_limit, is_blank, is_count, is_positive_count}
use Rattle.formats.specs.Decimals.{is_decimal, decimal_units, is_spacing, is_offset}
use Rattle.formats.specs.Frames.{unit_axes}
use Rattle.formats.specs.HeadLines.{lines, ends_search, Pairs, pairs_of}

-- the names of a key in a head, its name in a message the first
abbrev pub names_of : Key → List (List ℕ)
names_of ObjectType = codes "ObjectType" ∷ []
names_of NDims = codes "NDims" ∷ []
names_of BinaryData = codes "BinaryData" ∷ []
names_of ByteOrder = codes "BinaryDataByteOrderMSB" ∷ codes "ElementByteOrderMSB" ∷ []
names_of CompressedData = codes "CompressedData" ∷ []
names_of Channels = codes "ElementNumberOfChannels" ∷ []
names_of DimSize = codes "DimSize" ∷ []
names_of ElementType = codes "ElementType" ∷ []
names_of DataFile = codes "ElementDataFile" ∷ []
names_of Spacing = codes "ElementSpacing" ∷ []
names_of Offset = codes "Offset" ∷ []

-- the value of the first line with a name of the key
abbrev pub value_of : List (List ℕ × List ℕ) → Key → Option (List ℕ)
value_of pairs key = option_map (λ (p : List ℕ × List ℕ). p.1) (find (λ p. list_any (bytes_eq p.0) (names_of key)) pairs)

-- the words of a value, parted by blanks
abbrev pub words_of : List ℕ → List (List ℕ)
words_of v = filter (λ w. nat_lt 0 (length w)) (slice_split is_blank v)

-- a truth value is true where its first byte is T, t or 1
abbrev pub is_true_value : List ℕ → Bool
is_true_value [] = false
is_true_value (b ∷ bs) = b == 84 || (b == 116 || b == 49)

-- the names of the types of samples
abbrev pub kind_names : List (List ℕ × Kind)
kind_names = (codes "MET_UCHAR", Uchar) ∷ (codes "MET_CHAR", Char) ∷ (codes "MET_USHORT", Ushort) ∷ (codes "MET_SHORT", Short) ∷ (codes "MET_UINT", Uint) ∷ (codes "MET_INT", Int) ∷ []

abbrev pub kind_of : List ℕ → Option Kind
kind_of v = option_map (λ (p : List ℕ × Kind). p.1) (find (λ p. bytes_eq v p.0) kind_names)

-- the number of dimensions, where it is well formed
abbrev pub dimensions : List (List ℕ × List ℕ) → ℕ
dimensions pairs = digits_value 10 (unwrap_or (value_of pairs NDims) [])

-- as many decimals as there are dimensions
abbrev pub are_decimals : List (List ℕ × List ℕ) → List ℕ → Bool
are_decimals pairs v = length (words_of v) == dimensions pairs && list_all is_decimal (words_of v)

-- the value is well formed
abbrev pub is_well_formed : List (List ℕ × List ℕ) → Key → List ℕ → Bool
is_well_formed pairs ObjectType v = nat_lt 0 (length v)
is_well_formed pairs NDims v = is_positive_count v
is_well_formed pairs BinaryData v = true
is_well_formed pairs ByteOrder v = true
is_well_formed pairs CompressedData v = true
is_well_formed pairs Channels v = is_count v
is_well_formed pairs DimSize v = length (words_of v) == dimensions pairs && list_all is_positive_count (words_of v)
is_well_formed pairs ElementType v = nat_lt 0 (length v)
is_well_formed pairs DataFile v = nat_lt 0 (length v)
is_well_formed pairs Spacing v = are_decimals pairs v
is_well_formed pairs Offset v = are_decimals pairs v

-- the key must be there
abbrev pub is_required : Key → Bool
is_required NDims = true
is_required DimSize = true
is_required ElementType = true
is_required k = false

-- the value is supported
abbrev pub is_supported : Key → List ℕ → Bool
is_supported ObjectType v = bytes_eq v (codes "Image")
is_supported NDims v = digits_value 10 v == 3
is_supported BinaryData v = is_true_value v
is_supported ByteOrder v = true
is_supported CompressedData v = not (is_true_value v)
is_supported Channels v = digits_value 10 v == 1
is_supported DimSize v = true
is_supported ElementType v = is_some (kind_of v)
is_supported DataFile v = bytes_eq v (codes "LOCAL") || (bytes_eq v (codes "Local") || bytes_eq v (codes "local"))
is_supported Spacing v = list_all is_spacing (words_of v)
is_supported Offset v = list_all is_offset (words_of v)

-- the keys in the order in which they are looked at: two more where the volume's own units are asked for
abbrev pub keys : Bool → List Key
keys world = ObjectType ∷ NDims ∷ BinaryData ∷ ByteOrder ∷ CompressedData ∷ Channels ∷ DimSize ∷ ElementType ∷ DataFile ∷ (if world then Spacing ∷ Offset ∷ [] else [])

-- the fault of form of a key, if it has one
unfoldable pub form_fault : List (List ℕ × List ℕ) → Key → Option HeadFault
form_fault pairs key =
    option_map_or
    (λ v. if is_well_formed pairs key v then None else Some (BadValue key))
    (value_of pairs key)
    (if is_required key then Some (Missing key) else None)

-- the refusal of a key whose value is well formed, if it has one
unfoldable pub refusal : List (List ℕ × List ℕ) → Key → Option HeadFault
refusal pairs key = option_map_or (λ v. if is_supported key v then None else Some (Unsupported key)) (value_of pairs key) None

-- the faults of form in the order of keys, and then the refusals
abbrev pub faults : Bool → List (List ℕ × List ℕ) → List HeadFault
faults world pairs = filter_map (form_fault pairs) (keys world) ++ filter_map (refusal pairs) (keys world)

-- the numbers of a key's words, or three times the number that stands where the key is absent
abbrev pub numbers_of : List (List ℕ × List ℕ) → Key → ℤ → List ℤ
numbers_of pairs key absent = option_map_or (λ v. map decimal_units (words_of v)) (value_of pairs key) (absent ∷ absent ∷ absent ∷ [])

abbrev pub axes_with : List ℤ → List ℤ → List Axis
axes_with (spacing ∷ more) (offset ∷ others) = record { spacing = spacing; offset = offset } ∷ axes_with more others
axes_with spacings offsets = []

-- the axes of a head, in the volume's own units or in index units
abbrev pub axes_of : Bool → List (List ℕ × List ℕ) → List Axis
axes_of world pairs =
    if world
    then axes_with (numbers_of pairs Spacing (pos (10 ^ 18))) (numbers_of pairs Offset (pos 0))
    else unit_axes

-- the head that the pairs say, where they have no fault
unfoldable pub head_of_pairs : Bool → List (List ℕ × List ℕ) → Head
head_of_pairs world pairs =
    record {
      raw = map (digits_value 10) (words_of (unwrap_or (value_of pairs DimSize) []));
      kind = unwrap_or (option_and_then kind_of (value_of pairs ElementType)) Uchar;
      big = is_true_value (unwrap_or (value_of pairs ByteOrder) []);
      axes = axes_of world pairs;
    }

-- a head and its length in bytes
pub record HeadAt : Type 0 where
  pub head : Head
  pub len : ℕ

abbrev pub first_fault_or : HeadAt → List HeadFault → Result HeadAt HeadFault
first_fault_or h [] = Ok h
first_fault_or h (fault ∷ more) = Err fault

abbrev pub head_of_found : Bool → Result Pairs HeadFault → Result HeadAt HeadFault
head_of_found world (Err fault) = Err fault
head_of_found world (Ok p) = first_fault_or (record { head = head_of_pairs world p.pairs; len = p.len }) (faults world p.pairs)

-- the head that begins an input, or why none does, where coordinates are in the volume's own units or in index units
unfoldable pub head_of : Bool → List ℕ → Result HeadAt HeadFault
head_of world input = head_of_found world (pairs_of input)

-- How many bytes of an input are read for its head: those up to the newline of the data line or of a bad one, or else all in which a head must stand.
unfoldable pub head_taken : List ℕ → ℕ
head_taken input =
    let start = take head_limit input in option_map_or (λ l. l.place + length l.text + 1) (find ends_search (lines start)) (length start)

-- The input ends in its head: no line ends the search, and more bytes would still be read.
unfoldable pub ends_in_head : List ℕ → Bool
ends_in_head input = not (is_some (find ends_search (lines (take head_limit input)))) && nat_lt (length input) head_limit
