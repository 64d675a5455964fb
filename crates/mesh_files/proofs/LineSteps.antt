-- A text's first line, and the lines behind it.
use Rattle.std.proofs.Common.{◌≡◌, ℕ, ◌+◌, ◌<◌, ◌≤◌, List, [], ◌∷◌, ◌++◌, length, take, drop, filter, Bool, true, false, eqb, ltb, cond, refl, sym, ap, ◌∙◌, arith}
use Rattle.std.proofs.lemmas.Bool.{ltb-true, ltb-false}
use Rattle.std.proofs.lemmas.List.{take_all, drop_all, length-take}
use Rattle.std.proofs.lemmas.List.Splits.{slice_split_first, slice_split_none, slice_split_at}
use Rattle.std.proofs.lemmas.List.Sums.{fails_before_first}
use Rattle.std.specs.List.{All, slice_split, scan, position_or_len}
use Rattle.formats.specs.Heads.{words_of}
use Rattle.mesh_files.specs.Lines.{Line, content_of, fields_of, lines_from}

abbrev newline : ℕ → Bool
newline b = eqb b 10

abbrev line_at : ℕ → List ℕ → Line
line_at before line = record { place = before; fields = fields_of line }

-- the first line where it has fields, and then the lines behind it
abbrev pub with_line : Line → List Line → List Line
with_line l ls = cond (ltb 0 (length l.fields)) (l ∷ ls) ls

pub no_lines : (before : ℕ) → lines_from before [] ≡ []
unfolding lines_from
no_lines before = refl

-- the lines with fields among parts of a text
abbrev lines_in : ℕ → List (List ℕ) → List Line
lines_in before parts = filter (λ l. ltb 0 (length l.fields)) (scan (λ at line. at + length line + 1) (λ at line. record { place = at; fields = fields_of line }) before parts)

as_parts : (before : ℕ) (text : List ℕ) → lines_from before text ≡ lines_in before (slice_split newline text)
unfolding lines_from
as_parts before text = refl

pub line_step : (before : ℕ) (text : List ℕ) (end : ℕ) → end ≡ position_or_len newline text → lines_from before text ≡ with_line (line_at before (take end text)) (lines_from (before + end + 1) (drop (end + 1) text))
line_step before text end e = by_end (ltb (position_or_len newline text) (length text)) refl
  where
    by_end : (b : Bool) → ltb (position_or_len newline text) (length text) ≡ b → lines_from before text ≡ with_line (line_at before (take end text)) (lines_from (before + end + 1) (drop (end + 1) text))
    by_end true t =
        let lt : position_or_len newline text < length text = ltb-true _ _ t in
        let n : before + length (take (position_or_len newline text) text) + 1 ≡ before + end + 1 = omega (arith, length-take (position_or_len newline text) text) in
        as_parts before text ∙ ap (lines_in before) (slice_split_first newline text 0 lt)
        ∙ ap (with_line (line_at before (take (position_or_len newline text) text))) (sym (as_parts (before + length (take (position_or_len newline text) text) + 1) (drop (position_or_len newline text + 1) text)))
        ∙ (λ i. with_line (line_at before (take (sym e i) text)) (lines_from (n i) (drop (sym e i + 1) text)))
    by_end false t =
        let le : length text ≤ position_or_len newline text = ltb-false _ _ t in
        let none : slice_split newline text ≡ text ∷ [] = slice_split_none newline text (λ k d lt. fails_before_first newline text k d (omega arith)) in
        let all : take end text ≡ text = take_all end text (omega arith) in
        let rest : drop (end + 1) text ≡ [] = drop_all (end + 1) text (omega arith) in
        as_parts before text ∙ ap (lines_in before) none
        ∙ ap (with_line (line_at before text)) (sym (no_lines (before + end + 1)))
        ∙ (λ i. with_line (line_at before (sym all i)) (lines_from (before + end + 1) (sym rest i)))

-- a line that a newline ends
pub line_then : (before : ℕ) (line rest : List ℕ) → All (λ b. newline b ≡ false) line → lines_from before (line ++ 10 ∷ rest) ≡ with_line (line_at before line) (lines_from (before + length line + 1) rest)
line_then before line rest none =
    as_parts before (line ++ 10 ∷ rest) ∙ ap (lines_in before) (slice_split_at newline line 10 rest none refl)
    ∙ ap (with_line (line_at before line)) (sym (as_parts (before + length line + 1) rest))

-- a line that has fields, and one that has none
pub line_found : (l : Line) (ls : List Line) → ltb 0 (length l.fields) ≡ true → with_line l ls ≡ l ∷ ls
line_found l ls h = ap (λ (b : Bool). cond b (l ∷ ls) ls) h

pub line_passed : (l : Line) (ls : List Line) → ltb 0 (length l.fields) ≡ false → with_line l ls ≡ ls
line_passed l ls h = ap (λ (b : Bool). cond b (l ∷ ls) ls) h

abbrev with_content : ℕ → List ℕ → Line
with_content before content = record { place = before; fields = words_of content }

pub step_found : (before : ℕ) (text content rest : List ℕ) (end : ℕ) → end ≡ position_or_len newline text → content ≡ content_of (take end text) → rest ≡ drop (end + 1) text → ltb 0 (length (words_of content)) ≡ true → lines_from before text ≡ with_content before content ∷ lines_from (before + end + 1) rest
step_found before text content rest end e f g h =
    line_step before text end e
    ∙ (λ i. with_line (with_content before (sym f i)) (lines_from (before + end + 1) (sym g i)))
    ∙ line_found (with_content before content) (lines_from (before + end + 1) rest) h

pub step_passed : (before : ℕ) (text content rest : List ℕ) (end : ℕ) → end ≡ position_or_len newline text → content ≡ content_of (take end text) → rest ≡ drop (end + 1) text → ltb 0 (length (words_of content)) ≡ false → lines_from before text ≡ lines_from (before + end + 1) rest
step_passed before text content rest end e f g h =
    line_step before text end e
    ∙ (λ i. with_line (with_content before (sym f i)) (lines_from (before + end + 1) (sym g i)))
    ∙ line_passed (with_content before content) (lines_from (before + end + 1) rest) h
