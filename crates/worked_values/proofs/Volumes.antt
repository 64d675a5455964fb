-- Volumes behind a head: which samples are kept, which number the bytes of each are, when the bytes end early, and when a volume is too large.
-- The values were computed outside the repository, by programs written from the rules alone.
use Rattle.std.specs.Prelude.{◌≡◌, ℕ, Bool, true, false, List, [], ◌∷◌, refl, pos, negsuc, take}
use Rattle.definitions.specs.Lattice.{dims}
use Rattle.formats.specs.declared.Kind.{Kind}
use Rattle.formats.specs.declared.Kind.TheVariants.{Uchar, Char, Ushort, Short, Uint, Int}
use Rattle.formats.specs.Frames.{unit_axes}
use Rattle.formats.specs.Heads.{HeadAt}
use Rattle.formats.specs.Samples.{sample_number}
use Rattle.formats.specs.Volumes.{Large, EndsEarly, Whole, volume_answer, first_limits, second_limits, kept_samples}

-- a head of three bytes
abbrev sizes : ℕ → ℕ → ℕ → Kind → Bool → HeadAt
sizes nx ny nz kind big = record { head = record { raw = nx ∷ ny ∷ nz ∷ []; kind = kind; big = big; axes = unit_axes }; len = 3 }

-- 3 x 2 x 4 unsigned numbers of 16 bits, the most significant byte first: the head, a row on each line, and what follows
abbrev ushorts_high_first : List ℕ
ushorts_high_first =
    188 ∷ 151 ∷ 18
    ∷ 130 ∷ 183 ∷ 128 ∷ 127 ∷ 1 ∷ 127
    ∷ 1 ∷ 255 ∷ 255 ∷ 0 ∷ 128 ∷ 1
    ∷ 1 ∷ 1 ∷ 1 ∷ 0 ∷ 1 ∷ 1
    ∷ 127 ∷ 1 ∷ 1 ∷ 128 ∷ 0 ∷ 128
    ∷ 1 ∷ 0 ∷ 127 ∷ 255 ∷ 0 ∷ 127
    ∷ 128 ∷ 1 ∷ 128 ∷ 0 ∷ 0 ∷ 128
    ∷ 255 ∷ 127 ∷ 255 ∷ 128 ∷ 23 ∷ 255
    ∷ 0 ∷ 128 ∷ 255 ∷ 255 ∷ 128 ∷ 255
    ∷ 221 ∷ 46
    ∷ []

pub every_second_of_ushorts_high_first :
    volume_answer first_limits ushorts_high_first (sizes 3 2 4 Ushort true) 2
    ≡ Whole (record {
      dims = dims 2 1 2;
      step = 2;
      kind = Ushort;
      samples =
          pos 33463 ∷ pos 383
          ∷ pos 256 ∷ pos 127
          ∷ [];
    })
unfolding kept_samples sample_number
every_second_of_ushorts_high_first = refl

pub ushorts_high_first_end_early : volume_answer first_limits (take 50 ushorts_high_first) (sizes 3 2 4 Ushort true) 2 ≡ EndsEarly 47 48
unfolding kept_samples sample_number
ushorts_high_first_end_early = refl

-- 2 x 3 x 2 signed numbers of 32 bits, the least significant byte first: the head, a row on each line, and what follows
abbrev ints_low_first : List ℕ
ints_low_first =
    147 ∷ 182 ∷ 178
    ∷ 127 ∷ 1 ∷ 127 ∷ 127 ∷ 127 ∷ 0 ∷ 76 ∷ 128
    ∷ 82 ∷ 0 ∷ 0 ∷ 121 ∷ 127 ∷ 233 ∷ 1 ∷ 28
    ∷ 128 ∷ 1 ∷ 66 ∷ 67 ∷ 0 ∷ 128 ∷ 1 ∷ 128
    ∷ 1 ∷ 255 ∷ 255 ∷ 128 ∷ 128 ∷ 127 ∷ 128 ∷ 0
    ∷ 255 ∷ 91 ∷ 127 ∷ 0 ∷ 127 ∷ 0 ∷ 182 ∷ 127
    ∷ 255 ∷ 128 ∷ 135 ∷ 127 ∷ 255 ∷ 128 ∷ 127 ∷ 128
    ∷ 140 ∷ 176
    ∷ []

pub each_of_ints_low_first :
    volume_answer first_limits ints_low_first (sizes 2 3 2 Int false) 1
    ≡ Whole (record {
      dims = dims 2 3 2;
      step = 1;
      kind = Int;
      samples =
          pos 2139029887 ∷ negsuc 2142502784
          ∷ pos 2030043218 ∷ pos 469887359
          ∷ pos 1128399232 ∷ negsuc 2147385343
          ∷ negsuc 2130706686 ∷ pos 8421248
          ∷ pos 8346623 ∷ pos 2142634111
          ∷ pos 2139586815 ∷ negsuc 2139127552
          ∷ [];
    })
unfolding kept_samples sample_number
each_of_ints_low_first = refl

pub ints_low_first_end_early : volume_answer first_limits (take 50 ints_low_first) (sizes 2 3 2 Int false) 1 ≡ EndsEarly 47 48
unfolding kept_samples sample_number
ints_low_first_end_early = refl

-- 4 x 3 x 5 unsigned numbers of 32 bits, the most significant byte first: the head, a row on each line, and what follows
abbrev uints_high_first : List ℕ
uints_high_first =
    67 ∷ 66 ∷ 41
    ∷ 127 ∷ 88 ∷ 127 ∷ 255 ∷ 255 ∷ 1 ∷ 128 ∷ 144 ∷ 40 ∷ 1 ∷ 127 ∷ 138 ∷ 1 ∷ 255 ∷ 255 ∷ 1
    ∷ 92 ∷ 128 ∷ 1 ∷ 1 ∷ 127 ∷ 128 ∷ 255 ∷ 128 ∷ 127 ∷ 194 ∷ 255 ∷ 1 ∷ 0 ∷ 128 ∷ 128 ∷ 58
    ∷ 0 ∷ 0 ∷ 255 ∷ 255 ∷ 127 ∷ 128 ∷ 255 ∷ 128 ∷ 1 ∷ 255 ∷ 1 ∷ 255 ∷ 127 ∷ 128 ∷ 127 ∷ 127
    ∷ 128 ∷ 1 ∷ 127 ∷ 245 ∷ 128 ∷ 255 ∷ 133 ∷ 128 ∷ 128 ∷ 127 ∷ 128 ∷ 1 ∷ 0 ∷ 62 ∷ 1 ∷ 0
    ∷ 128 ∷ 128 ∷ 1 ∷ 0 ∷ 128 ∷ 1 ∷ 127 ∷ 255 ∷ 255 ∷ 0 ∷ 127 ∷ 255 ∷ 255 ∷ 151 ∷ 128 ∷ 127
    ∷ 0 ∷ 127 ∷ 233 ∷ 55 ∷ 0 ∷ 128 ∷ 128 ∷ 128 ∷ 127 ∷ 0 ∷ 0 ∷ 255 ∷ 146 ∷ 127 ∷ 1 ∷ 244
    ∷ 127 ∷ 128 ∷ 0 ∷ 127 ∷ 0 ∷ 127 ∷ 0 ∷ 207 ∷ 0 ∷ 0 ∷ 255 ∷ 56 ∷ 127 ∷ 1 ∷ 255 ∷ 128
    ∷ 0 ∷ 0 ∷ 55 ∷ 194 ∷ 127 ∷ 255 ∷ 60 ∷ 255 ∷ 0 ∷ 0 ∷ 161 ∷ 128 ∷ 180 ∷ 0 ∷ 70 ∷ 1
    ∷ 255 ∷ 127 ∷ 255 ∷ 127 ∷ 255 ∷ 1 ∷ 128 ∷ 1 ∷ 67 ∷ 9 ∷ 0 ∷ 0 ∷ 255 ∷ 1 ∷ 128 ∷ 127
    ∷ 255 ∷ 255 ∷ 0 ∷ 128 ∷ 114 ∷ 0 ∷ 1 ∷ 71 ∷ 127 ∷ 127 ∷ 255 ∷ 128 ∷ 1 ∷ 183 ∷ 151 ∷ 127
    ∷ 255 ∷ 110 ∷ 128 ∷ 0 ∷ 0 ∷ 1 ∷ 0 ∷ 128 ∷ 0 ∷ 128 ∷ 255 ∷ 127 ∷ 128 ∷ 1 ∷ 79 ∷ 0
    ∷ 128 ∷ 1 ∷ 0 ∷ 1 ∷ 146 ∷ 0 ∷ 0 ∷ 127 ∷ 0 ∷ 11 ∷ 128 ∷ 0 ∷ 127 ∷ 232 ∷ 122 ∷ 0
    ∷ 102 ∷ 255 ∷ 118 ∷ 255 ∷ 205 ∷ 186 ∷ 1 ∷ 127 ∷ 0 ∷ 1 ∷ 1 ∷ 0 ∷ 220 ∷ 0 ∷ 0 ∷ 231
    ∷ 1 ∷ 0 ∷ 0 ∷ 1 ∷ 0 ∷ 0 ∷ 124 ∷ 128 ∷ 0 ∷ 127 ∷ 128 ∷ 156 ∷ 0 ∷ 1 ∷ 1 ∷ 0
    ∷ 0 ∷ 255 ∷ 255 ∷ 38 ∷ 255 ∷ 128 ∷ 128 ∷ 255 ∷ 255 ∷ 67 ∷ 127 ∷ 1 ∷ 1 ∷ 128 ∷ 127 ∷ 127
    ∷ 241 ∷ 125
    ∷ []

pub every_third_of_uints_high_first :
    volume_answer first_limits uints_high_first (sizes 4 3 5 Uint true) 3
    ≡ Whole (record {
      dims = dims 2 1 2;
      step = 3;
      kind = Uint;
      samples =
          pos 2136506367 ∷ pos 33554177
          ∷ pos 4294901888 ∷ pos 28809087
          ∷ [];
    })
unfolding kept_samples sample_number
every_third_of_uints_high_first = refl

pub uints_high_first_end_early : volume_answer first_limits (take 242 uints_high_first) (sizes 4 3 5 Uint true) 3 ≡ EndsEarly 239 240
unfolding kept_samples sample_number
uints_high_first_end_early = refl

-- 3 x 4 x 2 signed bytes: the head, a row on each line, and what follows
abbrev signed_bytes : List ℕ
signed_bytes =
    66 ∷ 182 ∷ 223
    ∷ 128 ∷ 127 ∷ 128
    ∷ 0 ∷ 127 ∷ 0
    ∷ 128 ∷ 128 ∷ 127
    ∷ 255 ∷ 128 ∷ 73
    ∷ 9 ∷ 24 ∷ 127
    ∷ 128 ∷ 127 ∷ 127
    ∷ 1 ∷ 128 ∷ 127
    ∷ 0 ∷ 0 ∷ 0
    ∷ 132 ∷ 8
    ∷ []

pub every_second_of_signed_bytes :
    volume_answer first_limits signed_bytes (sizes 3 4 2 Char false) 2
    ≡ Whole (record {
      dims = dims 2 2 1;
      step = 2;
      kind = Char;
      samples =
          negsuc 127 ∷ negsuc 127
          ∷ negsuc 127 ∷ pos 127
          ∷ [];
    })
unfolding kept_samples sample_number
every_second_of_signed_bytes = refl

pub signed_bytes_end_early : volume_answer first_limits (take 26 signed_bytes) (sizes 3 4 2 Char false) 2 ≡ EndsEarly 23 24
unfolding kept_samples sample_number
signed_bytes_end_early = refl

-- 2 x 2 x 3 signed numbers of 16 bits, the least significant byte first: the head, a row on each line, and what follows
abbrev shorts_low_first : List ℕ
shorts_low_first =
    103 ∷ 141 ∷ 102
    ∷ 255 ∷ 1 ∷ 1 ∷ 127
    ∷ 1 ∷ 83 ∷ 127 ∷ 87
    ∷ 128 ∷ 128 ∷ 127 ∷ 128
    ∷ 128 ∷ 1 ∷ 0 ∷ 255
    ∷ 128 ∷ 0 ∷ 128 ∷ 1
    ∷ 0 ∷ 128 ∷ 128 ∷ 1
    ∷ 155 ∷ 182
    ∷ []

pub each_of_shorts_low_first :
    volume_answer first_limits shorts_low_first (sizes 2 2 3 Short false) 1
    ≡ Whole (record {
      dims = dims 2 2 3;
      step = 1;
      kind = Short;
      samples =
          pos 511 ∷ pos 32513
          ∷ pos 21249 ∷ pos 22399
          ∷ negsuc 32639 ∷ negsuc 32640
          ∷ pos 384 ∷ negsuc 255
          ∷ pos 128 ∷ pos 384
          ∷ negsuc 32767 ∷ pos 384
          ∷ [];
    })
unfolding kept_samples sample_number
each_of_shorts_low_first = refl

pub shorts_low_first_end_early : volume_answer first_limits (take 26 shorts_low_first) (sizes 2 2 3 Short false) 1 ≡ EndsEarly 23 24
unfolding kept_samples sample_number
shorts_low_first_end_early = refl

-- 2 x 3 x 1 signed numbers of 32 bits, the most significant byte first: the head, a row on each line, and what follows
abbrev ints_high_first : List ℕ
ints_high_first =
    75 ∷ 213 ∷ 185
    ∷ 127 ∷ 1 ∷ 255 ∷ 128 ∷ 1 ∷ 1 ∷ 128 ∷ 0
    ∷ 128 ∷ 50 ∷ 1 ∷ 128 ∷ 255 ∷ 1 ∷ 192 ∷ 0
    ∷ 128 ∷ 127 ∷ 255 ∷ 255 ∷ 255 ∷ 255 ∷ 128 ∷ 255
    ∷ 10 ∷ 105
    ∷ []

pub each_of_ints_high_first :
    volume_answer first_limits ints_high_first (sizes 2 3 1 Int true) 1
    ≡ Whole (record {
      dims = dims 2 3 1;
      step = 1;
      kind = Int;
      samples =
          pos 2130837376 ∷ pos 16875520
          ∷ negsuc 2144206463 ∷ negsuc 16662527
          ∷ negsuc 2139095040 ∷ negsuc 32512
          ∷ [];
    })
unfolding kept_samples sample_number
each_of_ints_high_first = refl

pub ints_high_first_end_early : volume_answer first_limits (take 26 ints_high_first) (sizes 2 3 1 Int true) 1 ≡ EndsEarly 23 24
unfolding kept_samples sample_number
ints_high_first_end_early = refl

-- 1 x 3 x 2 unsigned numbers of 32 bits, the least significant byte first: the head, a row on each line, and what follows
abbrev uints_low_first : List ℕ
uints_low_first =
    211 ∷ 94 ∷ 115
    ∷ 127 ∷ 0 ∷ 127 ∷ 127
    ∷ 127 ∷ 0 ∷ 0 ∷ 127
    ∷ 128 ∷ 0 ∷ 127 ∷ 128
    ∷ 1 ∷ 128 ∷ 91 ∷ 106
    ∷ 128 ∷ 0 ∷ 1 ∷ 1
    ∷ 127 ∷ 255 ∷ 1 ∷ 39
    ∷ 32 ∷ 208
    ∷ []

pub every_second_of_uints_low_first :
    volume_answer first_limits uints_low_first (sizes 1 3 2 Uint false) 2
    ≡ Whole (record {
      dims = dims 1 2 1;
      step = 2;
      kind = Uint;
      samples =
          pos 2139029631
          ∷ pos 2155806848
          ∷ [];
    })
unfolding kept_samples sample_number
every_second_of_uints_low_first = refl

pub uints_low_first_end_early : volume_answer first_limits (take 26 uints_low_first) (sizes 1 3 2 Uint false) 2 ≡ EndsEarly 23 24
unfolding kept_samples sample_number
uints_low_first_end_early = refl

-- 2 x 1 x 3 unsigned numbers of 16 bits, the least significant byte first: the head, a row on each line, and what follows
abbrev ushorts_low_first : List ℕ
ushorts_low_first =
    169 ∷ 39 ∷ 31
    ∷ 1 ∷ 128 ∷ 127 ∷ 127
    ∷ 255 ∷ 1 ∷ 0 ∷ 0
    ∷ 255 ∷ 128 ∷ 127 ∷ 52
    ∷ 248 ∷ 70
    ∷ []

pub each_of_ushorts_low_first :
    volume_answer first_limits ushorts_low_first (sizes 2 1 3 Ushort false) 1
    ≡ Whole (record {
      dims = dims 2 1 3;
      step = 1;
      kind = Ushort;
      samples =
          pos 32769 ∷ pos 32639
          ∷ pos 511 ∷ pos 0
          ∷ pos 33023 ∷ pos 13439
          ∷ [];
    })
unfolding kept_samples sample_number
each_of_ushorts_low_first = refl

pub ushorts_low_first_end_early : volume_answer first_limits (take 14 ushorts_low_first) (sizes 2 1 3 Ushort false) 1 ≡ EndsEarly 11 12
unfolding kept_samples sample_number
ushorts_low_first_end_early = refl

-- 5 x 3 x 3 unsigned bytes: the head, a row on each line, and what follows
abbrev bytes : List ℕ
bytes =
    72 ∷ 184 ∷ 8
    ∷ 127 ∷ 128 ∷ 1 ∷ 0 ∷ 1
    ∷ 0 ∷ 127 ∷ 127 ∷ 255 ∷ 225
    ∷ 1 ∷ 127 ∷ 0 ∷ 1 ∷ 127
    ∷ 128 ∷ 1 ∷ 255 ∷ 128 ∷ 0
    ∷ 1 ∷ 128 ∷ 127 ∷ 128 ∷ 0
    ∷ 128 ∷ 181 ∷ 127 ∷ 1 ∷ 128
    ∷ 255 ∷ 127 ∷ 127 ∷ 255 ∷ 0
    ∷ 128 ∷ 127 ∷ 1 ∷ 0 ∷ 128
    ∷ 255 ∷ 1 ∷ 128 ∷ 1 ∷ 0
    ∷ 10 ∷ 128
    ∷ []

pub every_second_of_bytes :
    volume_answer first_limits bytes (sizes 5 3 3 Uchar false) 2
    ≡ Whole (record {
      dims = dims 3 2 2;
      step = 2;
      kind = Uchar;
      samples =
          pos 127 ∷ pos 1 ∷ pos 1
          ∷ pos 1 ∷ pos 0 ∷ pos 127
          ∷ pos 255 ∷ pos 127 ∷ pos 0
          ∷ pos 255 ∷ pos 128 ∷ pos 0
          ∷ [];
    })
unfolding kept_samples sample_number
every_second_of_bytes = refl

pub bytes_end_early : volume_answer first_limits (take 47 bytes) (sizes 5 3 3 Uchar false) 2 ≡ EndsEarly 44 45
unfolding kept_samples sample_number
bytes_end_early = refl

-- what is answered where nothing follows a head of sizes and a step
abbrev empty : ℕ → ℕ → ℕ → Kind → HeadAt
empty nx ny nz kind = record { head = record { raw = nx ∷ ny ∷ nz ∷ []; kind = kind; big = false; axes = unit_axes }; len = 0 }

pub width_above_the_limit : volume_answer first_limits [] (empty 8193 1 1 Int) 64 ≡ Large 1179
width_above_the_limit = refl

pub width_at_the_limit : volume_answer first_limits [] (empty 8192 1 1 Int) 1 ≡ EndsEarly 0 32768
width_at_the_limit = refl

pub product_above_the_limit : volume_answer first_limits [] (empty 126 126 255 Uchar) 1 ≡ Large 4210688
product_above_the_limit = refl

pub product_at_the_limit : volume_answer first_limits [] (empty 126 126 254 Uchar) 1 ≡ EndsEarly 0 4032504
product_at_the_limit = refl

pub all_sizes_at_the_limit_every_64th : volume_answer first_limits [] (empty 8192 8192 8192 Uchar) 64 ≡ EndsEarly 0 549755813888
all_sizes_at_the_limit_every_64th = refl

pub all_sizes_at_the_limit_every_50th : volume_answer first_limits [] (empty 8192 8192 8192 Uchar) 50 ≡ Large 4574296
all_sizes_at_the_limit_every_50th = refl

pub depth_above_the_limit_every_second : volume_answer first_limits [] (empty 1 8193 1 Char) 2 ≡ Large 36891
depth_above_the_limit_every_second = refl

pub height_above_the_limit_every_second : volume_answer first_limits [] (empty 1 1 8193 Char) 2 ≡ Large 36891
height_above_the_limit_every_second = refl

pub product_above_the_limit_every_second : volume_answer first_limits [] (empty 252 252 510 Uchar) 2 ≡ Large 4210688
product_above_the_limit_every_second = refl

pub product_further_above_the_limit_every_second : volume_answer first_limits [] (empty 253 252 510 Uchar) 2 ≡ Large 4243584
product_further_above_the_limit_every_second = refl

-- the same with the higher limit

pub product_within_the_second_limit : volume_answer second_limits [] (empty 126 126 255 Uchar) 1 ≡ EndsEarly 0 4048380
product_within_the_second_limit = refl

pub product_at_the_second_limit : volume_answer second_limits [] (empty 254 510 510 Uchar) 1 ≡ EndsEarly 0 66065400
product_at_the_second_limit = refl

pub product_above_the_second_limit : volume_answer second_limits [] (empty 254 510 511 Uchar) 1 ≡ Large 67239936
product_above_the_second_limit = refl
