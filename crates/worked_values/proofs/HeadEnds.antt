-- How many bytes are read for a head, and whether the input ends in it.
-- The values were computed outside the repository, by programs written from the rules alone.
use Rattle.std.specs.Prelude.{◌≡◌, ℕ, Bool, true, false, List, codes, refl}
use Rattle.formats.specs.Heads.{head_taken, ends_in_head}

abbrev taken : List ℕ → ℕ × Bool
taken input = (head_taken input, ends_in_head input)

pub nothing : taken (codes "") ≡ (0, true)
unfolding head_taken ends_in_head
nothing = refl

pub no_newline : taken (codes "a") ≡ (1, true)
unfolding head_taken ends_in_head
no_newline = refl

pub bad_line_at_once : taken (codes "a\n") ≡ (2, false)
unfolding head_taken ends_in_head
bad_line_at_once = refl

pub bad_second_line : taken (codes "x=1\nhello\nNDims = 3\n") ≡ (10, false)
unfolding head_taken ends_in_head
bad_second_line = refl

pub data_line : taken (codes "k=v\nElementDataFile=LOCAL\nxyz") ≡ (26, false)
unfolding head_taken ends_in_head
data_line = refl

pub data_line_alone : taken (codes "ElementDataFile = x\r\n") ≡ (21, false)
unfolding head_taken ends_in_head
data_line_alone = refl

pub blank_lines : taken (codes "\n\n  \t\n") ≡ (6, true)
unfolding head_taken ends_in_head
blank_lines = refl

pub no_key : taken (codes "=\nElementDataFile=LOCAL\n") ≡ (2, false)
unfolding head_taken ends_in_head
no_key = refl

pub data_line_without_newline : taken (codes "a=b\nElementDataFile=LOCAL") ≡ (25, true)
unfolding head_taken ends_in_head
data_line_without_newline = refl
