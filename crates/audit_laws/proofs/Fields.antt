-- A line of fields is read as these fields.
use Rattle.std.proofs.Common.{◌≡◌, ℕ, ◌+◌, ◌-◌, ◌<◌, ◌≤◌, ◌==◌, List, [], ◌∷◌, ◌++◌, length, filter, get_or, true, false, nat_lt, cond, refl, ap, ◌∙◌, arith}
use Rattle.std.proofs.lemmas.Grind.{common_steps}
use Rattle.std.proofs.lemmas.Bool.{lt-ltb}
use Rattle.std.proofs.lemmas.List.{take_all, append_assoc, length-append}
use Rattle.std.proofs.lemmas.List.Elements.{All-from_recursion}
use Rattle.std.proofs.lemmas.List.Splits.{slice_split_none, slice_split_at}
use Rattle.std.proofs.lemmas.List.Sums.{position_or_len_is}
use Rattle.std.specs.List.{All, AllByRecursion, slice_split, join_with_byte, before_first, position_or_len}
use Rattle.std.specs.Str.Lines.{strip_carriage_return}
use Rattle.formats.specs.Counts.{is_blank}
use Rattle.formats.specs.Heads.{words_of}
use Rattle.formats.specs.Texts.{line}
use Rattle.mesh_files.specs.Lines.{Line, content_of, fields_of, lines_from}
use Rattle.mesh_files.proofs.LineSteps.{line_then, line_found}

-- a byte of a number or of a coordinate
abbrev pub IsPlain : ℕ → Type 0
IsPlain b = (43 ≤ b) × (b ≤ 57)

pub record IsField (f : List ℕ) : Type 0 where
  pub some : 0 < length f
  pub plain : AllByRecursion IsPlain f

-- a byte that ends no line and begins no comment
record IsContent (b : ℕ) : Type 0 where
  hash : (b == 35) ≡ false
  return : (b == 13) ≡ false
  newline : (b == 10) ≡ false

plain_content : (b : ℕ) → IsPlain b → IsContent b
plain_content b h =
    let low : 43 ≤ b = h.0 in
    record { hash = grind (arith, common_steps); return = grind (arith, common_steps); newline = grind (arith, common_steps) }

not_blank : (b : ℕ) → IsPlain b → is_blank b ≡ false
not_blank b h =
    let low : 43 ≤ b = h.0 in
    let space : (b == 32) ≡ false = grind (arith, common_steps) in
    let tab : (b == 9) ≡ false = grind (arith, common_steps) in
    rw (space, tab) refl

each : (P Q : ℕ → Type 0) → ((b : ℕ) → P b → Q b) → (bs : List ℕ) → AllByRecursion P bs → AllByRecursion Q bs
each P Q f [] h = tt
each P Q f (b ∷ bs) h = (f b h.0, each P Q f bs h.1)

pub both : (P : ℕ → Type 0) (xs ys : List ℕ) → AllByRecursion P xs → AllByRecursion P ys → AllByRecursion P (xs ++ ys)
both P [] ys h k = k
both P (x ∷ xs) ys h k = (h.0, both P xs ys h.1 k)

no_blanks : (f : List ℕ) → AllByRecursion IsPlain f → All (λ b. is_blank b ≡ false) f
no_blanks f h = All-from_recursion (λ b. is_blank b ≡ false) f (each IsPlain (λ b. is_blank b ≡ false) not_blank f h)

split_fields : (f : List ℕ) (fs : List (List ℕ)) → IsField f → AllByRecursion IsField fs → slice_split is_blank (join_with_byte 32 (f ∷ fs)) ≡ f ∷ fs
split_fields f [] h hs = slice_split_none is_blank f (no_blanks f h.plain)
split_fields f (g ∷ gs) h hs = slice_split_at is_blank f 32 (join_with_byte 32 (g ∷ gs)) (no_blanks f h.plain) refl ∙ ap (λ ps. f ∷ ps) (split_fields g gs hs.0 hs.1)

keep_fields : (fs : List (List ℕ)) → AllByRecursion IsField fs → filter (λ w. nat_lt 0 (length w)) fs ≡ fs
keep_fields [] h = refl
keep_fields (f ∷ fs) h = let t : nat_lt 0 (length f) ≡ true = lt-ltb 0 (length f) h.0.some in let r : filter (λ w. nat_lt 0 (length w)) fs ≡ fs = keep_fields fs h.1 in rw (t, r) refl

words_back : (f : List ℕ) (fs : List (List ℕ)) → IsField f → AllByRecursion IsField fs → words_of (join_with_byte 32 (f ∷ fs)) ≡ f ∷ fs
words_back f fs h hs = ap (filter (λ w. nat_lt 0 (length w))) (split_fields f fs h hs) ∙ keep_fields (f ∷ fs) (h, hs)

field_content : (f : List ℕ) → IsField f → AllByRecursion IsContent f
field_content f h = each IsPlain IsContent plain_content f h.plain

joined_content : (f : List ℕ) (fs : List (List ℕ)) → IsField f → AllByRecursion IsField fs → AllByRecursion IsContent (join_with_byte 32 (f ∷ fs))
joined_content f [] h hs = field_content f h
joined_content f (g ∷ gs) h hs = both IsContent f (32 ∷ join_with_byte 32 (g ∷ gs)) (field_content f h) (record { hash = refl; return = refl; newline = refl }, joined_content g gs hs.0 hs.1)

joined_some : (f : List ℕ) (fs : List (List ℕ)) → IsField f → 0 < length (join_with_byte 32 (f ∷ fs))
joined_some f [] h = h.some
joined_some f (g ∷ gs) h = omega (arith, h.some, length-append f (32 ∷ join_with_byte 32 (g ∷ gs)))

not_stripped : (bs : List ℕ) → 0 < length bs → AllByRecursion IsContent bs → strip_carriage_return bs ≡ bs
not_stripped bs some h =
    let last : IsContent (get_or bs (length bs - 1) 0) = All-from_recursion IsContent bs h (length bs - 1) 0 (omega arith) in
    rw last.return refl

not_cut : (bs : List ℕ) → AllByRecursion IsContent bs → before_first (λ b. b == 35) bs ≡ bs
not_cut bs h =
    let at : position_or_len (λ b. b == 35) bs ≡ length bs = position_or_len_is (λ b. b == 35) bs (length bs) 0 (omega arith) (λ k lt. (All-from_recursion IsContent bs h k 0 lt).hash) (λ lt. absurd (omega arith)) in
    take_all (position_or_len (λ b. b == 35) bs) bs (omega arith)

content_back : (bs : List ℕ) → 0 < length bs → AllByRecursion IsContent bs → content_of bs ≡ bs
content_back bs some h = ap (before_first (λ b. b == 35)) (not_stripped bs some h) ∙ not_cut bs h

fields_back : (f : List ℕ) (fs : List (List ℕ)) → IsField f → AllByRecursion IsField fs → fields_of (join_with_byte 32 (f ∷ fs)) ≡ f ∷ fs
fields_back f fs h hs = ap words_of (content_back (join_with_byte 32 (f ∷ fs)) (joined_some f fs h) (joined_content f fs h hs)) ∙ words_back f fs h hs

-- a line of fields, and what stands behind it
pub line_back : (before : ℕ) (f : List ℕ) (fs : List (List ℕ)) (rest : List ℕ) → IsField f → AllByRecursion IsField fs
    → lines_from before (line (f ∷ fs) ++ rest) ≡ record { place = before; fields = f ∷ fs } ∷ lines_from (before + length (join_with_byte 32 (f ∷ fs)) + 1) rest
line_back before f fs rest h hs =
    let bs = join_with_byte 32 (f ∷ fs) in
    let behind = lines_from (before + length bs + 1) rest in
    let content = joined_content f fs h hs in
    let found : Line = record { place = before; fields = f ∷ fs } in
    ap (lines_from before) (append_assoc bs (10 ∷ []) rest)
    ∙ line_then before bs rest (λ k d lt. (All-from_recursion IsContent bs content k d lt).newline)
    ∙ ap (λ (ws : List (List ℕ)). cond (nat_lt 0 (length ws)) (record { place = before; fields = ws } ∷ behind) behind) (fields_back f fs h hs)
    ∙ line_found found behind (lt-ltb 0 (length (f ∷ fs)) (omega arith))
