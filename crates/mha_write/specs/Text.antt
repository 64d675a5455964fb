-- The text of a .mha file: a plain head, and the samples behind it.
use Rattle.std.specs.Prelude.{ℕ, List, [], ◌∷◌, ◌++◌, flat_map, codes, decimal, ℤ}
use Rattle.std.specs.List.{join_with_byte}
use Rattle.std.specs.Int.{cast_unsigned, w64}
use Rattle.byteorder.specs.Endian.{little_bytes}
use Rattle.definitions.specs.declared.Dims.{Dims}
use Rattle.formats.specs.declared.Kind.{Kind}
use Rattle.formats.specs.declared.Kind.TheVariants.{Uchar, Char, Ushort, Short, Uint, Int}
use Rattle.formats.specs.Samples.{bytes_per_sample}
use Rattle.formats.specs.Volumes.{Volume}

-- the name of a type in a head
abbrev pub type_name : Kind → List ℕ
type_name Uchar = codes "MET_UCHAR"
type_name Char = codes "MET_CHAR"
type_name Ushort = codes "MET_USHORT"
type_name Short = codes "MET_SHORT"
type_name Uint = codes "MET_UINT"
type_name Int = codes "MET_INT"

abbrev pub sizes_text : Dims → List ℕ
sizes_text d = join_with_byte 32 (decimal d.nx ∷ decimal d.ny ∷ decimal d.nz ∷ [])

-- the lines of a plain head
abbrev pub plain_lines : Dims → Kind → List (List ℕ)
plain_lines d kind =
    codes "ObjectType = Image"
    ∷ codes "NDims = 3"
    ∷ codes "BinaryData = True"
    ∷ codes "BinaryDataByteOrderMSB = False"
    ∷ codes "CompressedData = False"
    ∷ codes "TransformMatrix = 1 0 0 0 1 0 0 0 1"
    ∷ codes "Offset = 0 0 0"
    ∷ codes "CenterOfRotation = 0 0 0"
    ∷ codes "AnatomicalOrientation = RAI"
    ∷ codes "ElementSpacing = 1 1 1"
    ∷ (codes "DimSize = " ++ sizes_text d)
    ∷ (codes "ElementType = " ++ type_name kind)
    ∷ codes "ElementDataFile = LOCAL"
    ∷ []

-- each line with its newline
unfoldable pub plain_head : Dims → Kind → List ℕ
plain_head d kind = flat_map (λ line. line ++ 10 ∷ []) (plain_lines d kind)

-- the bytes of a sample, the least significant first; a number below zero is in two's complement
abbrev pub sample_bytes : Kind → ℤ → List ℕ
sample_bytes kind z = little_bytes (bytes_per_sample kind) (cast_unsigned w64 z)

abbrev pub mha_file : Volume → List ℕ
mha_file v = plain_head v.dims v.kind ++ flat_map (sample_bytes v.kind) v.samples
