-- Numbers as texts behind a space.
use Rattle.std.specs.Prelude.{◌≡◌, ℕ, ◌+◌, ◌*◌, ◌^◌, ◌<◌, ◌≤◌, List, [], ◌∷◌, ◌++◌, decimal, length, slice_index, take, ℤ}
use Rattle.std.specs.Int.{w32, from_le_bytes}
use Rattle.definitions.specs.declared.Place.{Place}
use Rattle.formats.specs.declared.Frame.{Frame}
use Rattle.mesh_texts.specs.Frames.{frame_text, world_text}
use Rattle.mesh_texts.specs.Coordinates.{padded_decimal}

-- a space and the digits
abbrev pub spaced : ℕ → List ℕ
spaced n = 32 ∷ decimal n

-- the number in the last four of sixteen bytes
abbrev pub last_word : List ℕ → ℕ
last_word bytes = from_le_bytes w32 (slice_index bytes 12 ∷ slice_index bytes 13 ∷ slice_index bytes 14 ∷ slice_index bytes 15 ∷ [])

-- a number with sixteen bytes: its text, in the twelfth how long this is, and in the last four the number
pub record NumberText : Type 0 where
  pub bytes : List ℕ
  pub number : ℕ

pub record IsText (t : NumberText) : Type 0 where
  pub text : take (length (spaced t.number)) t.bytes ≡ spaced t.number
  pub count : slice_index t.bytes 11 ≡ length (spaced t.number)
  pub few : length (spaced t.number) ≤ 11

-- such bytes, read to be put into a buffer
pub record IsRead (bytes : List ℕ) (len : ℕ) : Type 0 where
  pub text : IsText (record { bytes = bytes; number = last_word bytes })
  pub length_is : len ≡ slice_index bytes 11
  pub wide : length bytes ≡ 16

-- a number with bytes, of which the first `len` are the digits of it before the last of a number of 64 bits
pub record FrontText : Type 0 where
  pub bytes : List ℕ
  pub len : ℕ
  pub tens : ℕ

pub record IsFront (f : FrontText) : Type 0 where
  pub text : (digit : ℕ) → digit < 10 → 10 * f.tens + digit < 2 ^ 64 → decimal (10 * f.tens + digit) ≡ take f.len f.bytes ++ (48 + digit) ∷ []
  pub few : f.len ≤ 19
  pub wide : length f.bytes ≡ 32

-- the bytes of a row, and where they end in its buffer
pub record RowText : Type 0 where
  pub text : List ℕ
  pub end : ℕ

-- bytes, and the number of parts of 8192 that they are the text of
pub record FractionText : Type 0 where
  pub bytes : List ℕ
  pub parts : ℕ

pub record IsFraction (f : FractionText) : Type 0 where
  pub text : take 14 f.bytes ≡ 46 ∷ padded_decimal 13 (f.parts * 5 ^ 13)
  pub part : f.parts < 8192

-- the coordinates of a place, each behind a space, in front of a text
abbrev pub place_before : Frame → Place → List ℕ → List ℕ
place_before frame place rest =
    32 ∷ (frame_text frame 0 place.x ++ (32 ∷ (frame_text frame 1 place.y ++ (32 ∷ (frame_text frame 2 place.z ++ rest)))))

-- a coordinate in units of 10^-31 with bytes, of which the first `len` are its text behind a space
pub record CoordinateText : Type 0 where
  pub bytes : List ℕ
  pub len : ℕ
  pub value : ℤ

pub record IsCoordinate (t : CoordinateText) : Type 0 where
  pub text : take t.len t.bytes ≡ 32 ∷ world_text t.value
  pub few : t.len ≤ 44
