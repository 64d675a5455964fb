-- The number that the bytes of one sample are.
use Rattle.std.specs.Prelude.{ℕ, ◌*◌, Bool, List, drop, if◌then◌else◌, ℤ, pos}
use Rattle.byteorder.specs.Endian.{big_number, little_number, twos_complement}
use Rattle.formats.specs.declared.Kind.{Kind}
use Rattle.formats.specs.declared.Kind.TheVariants.{Uchar, Char, Ushort, Short, Uint, Int}

abbrev pub bytes_per_sample : Kind → ℕ
bytes_per_sample Uchar = 1
bytes_per_sample Char = 1
bytes_per_sample Ushort = 2
bytes_per_sample Short = 2
bytes_per_sample Uint = 4
bytes_per_sample Int = 4

-- the number in the first bytes, the most or the least significant byte first
abbrev pub unsigned_number : Bool → ℕ → List ℕ → ℕ
unsigned_number big size bytes = if big then big_number size bytes else little_number size bytes

-- signed numbers are two's complement
unfoldable pub sample_number : Kind → Bool → List ℕ → ℤ
sample_number Uchar big bytes = pos (unsigned_number big 1 bytes)
sample_number Char big bytes = twos_complement 1 (unsigned_number big 1 bytes)
sample_number Ushort big bytes = pos (unsigned_number big 2 bytes)
sample_number Short big bytes = twos_complement 2 (unsigned_number big 2 bytes)
sample_number Uint big bytes = pos (unsigned_number big 4 bytes)
sample_number Int big bytes = twos_complement 4 (unsigned_number big 4 bytes)

-- sample n, from 0, of the bytes of samples
abbrev pub sample_of_bytes : Kind → Bool → List ℕ → ℕ → ℤ
sample_of_bytes kind big bytes n = sample_number kind big (drop (bytes_per_sample kind * n) bytes)
