-- The lines of a text, taken off at the front.
use Rattle.std.proofs.Common.{◌≡◌, ◌≢◌, ◌⊎◌, inl, inr, ℕ, ◌+◌, ◌-◌, ◌<◌, ◌≤◌, ◌==◌, suc, List, [], ◌∷◌, ◌++◌, length, take, Bool, false, refl, ap, sym, ◌∙◌, subst, arith, append-nil}
use Rattle.std.proofs.lemmas.Grind.{common_steps}
use Rattle.std.proofs.lemmas.List.{take_all}
use Rattle.std.proofs.lemmas.List.Elements.{recursion_from_All}
use Rattle.std.proofs.lemmas.List.Splits.{slice_split_none, slice_split_at, slice_split-cons_no, length-slice_split}
use Rattle.std.proofs.Math.Seq.{take-append-add}
use Rattle.std.specs.List.{slice_split, AllByRecursion, All, onto_first}
use Rattle.formats.specs.Counts.{line_texts}
use Rattle.mha_read.specs.Lines.{HasNoNewline}
use Rattle.mha_read.specs.LinesRead.{HasLine}

abbrev is_newline : ℕ → Bool
is_newline b = b == 10

not_newline : (b : ℕ) → b ≢ 10 → is_newline b ≡ false
not_newline b h = grind (arith, common_steps)

none_is_newline : (line : List ℕ) → HasNoNewline line → All (λ b. is_newline b ≡ false) line
none_is_newline line plain = λ k d lt. not_newline _ (plain k d lt)

all_but_last : {X : Type 0} (x : X) (xs : List X) → 0 < length xs → take (length (x ∷ xs) - 1) (x ∷ xs) ≡ x ∷ take (length xs - 1) xs
all_but_last x [] h = absurd (omega arith)
all_but_last x (y ∷ ys) h =
    let e : suc (suc (length ys)) - 1 ≡ suc (length ys) = omega arith in
    let f : suc (length ys) - 1 ≡ length ys = omega arith in
    rw (e, f) refl

abbrev all_but_last_of : List (List ℕ) → List (List ℕ)
all_but_last_of parts = take (length parts - 1) parts

-- a line with its newline at the front of a text
pub line_first : (line rest : List ℕ) → HasNoNewline line → line_texts (line ++ 10 ∷ rest) ≡ line ∷ line_texts rest
line_first line rest plain =
    let s : slice_split is_newline (line ++ 10 ∷ rest) ≡ line ∷ slice_split is_newline rest = slice_split_at is_newline line 10 rest (none_is_newline line plain) refl in
    ap all_but_last_of s ∙ all_but_last line (slice_split is_newline rest) (omega (arith, length-slice_split is_newline rest))

-- no newline at all
pub line_none : (line : List ℕ) → HasNoNewline line → line_texts line ≡ []
line_none line plain = ap all_but_last_of (slice_split_none is_newline line (none_is_newline line plain))

-- the parts of a text that begins with a line which goes on
longer_part : (line zs : List ℕ) → AllByRecursion (λ b. b ≢ 10) line → HasLine (slice_split is_newline (line ++ zs)) (length line)
longer_part [] zs plain = some_part (slice_split is_newline zs) (omega (arith, length-slice_split is_newline zs))
  where
    some_part : (parts : List (List ℕ)) → 0 < length parts → HasLine parts 0
    some_part [] h = absurd (omega arith)
    some_part (part ∷ parts) h = record { line = part; more = parts; is = refl; longer = omega arith }
longer_part (b ∷ line) zs plain =
    let h : HasLine (slice_split is_newline (line ++ zs)) (length line) = longer_part line zs plain.1 in
    record {
      line = b ∷ h.line;
      more = h.more;
      is = slice_split-cons_no is_newline b (line ++ zs) (not_newline b plain.0) ∙ ap (λ (parts : List (List ℕ)). onto_first b parts) h.is;
      longer = omega (arith, h.longer);
    }

line_of_part : (parts : List (List ℕ)) (n : ℕ) → HasLine parts n → (all_but_last_of parts ≡ []) ⊎ HasLine (all_but_last_of parts) n
line_of_part parts n h = by_more h.more (ap all_but_last_of h.is)
  where
    by_more : (more : List (List ℕ)) → all_but_last_of parts ≡ all_but_last_of (h.line ∷ more) → (all_but_last_of parts ≡ []) ⊎ HasLine (all_but_last_of parts) n
    by_more [] e = inl e
    by_more (m ∷ ms) e = inr (record { line = h.line; more = all_but_last_of (m ∷ ms); is = e ∙ all_but_last h.line (m ∷ ms) (omega arith); longer = h.longer })

-- a line that goes on is no shorter than what has come of it
pub line_goes_on : (line zs : List ℕ) → HasNoNewline line → (line_texts (line ++ zs) ≡ []) ⊎ HasLine (line_texts (line ++ zs)) (length line)
line_goes_on line zs plain = line_of_part _ _ (longer_part line zs (recursion_from_All _ line plain))

-- the same within a budget

pub front_line : (line ys : List ℕ) (budget : ℕ) → HasNoNewline line → length line < budget → line_texts (take budget (line ++ 10 ∷ ys)) ≡ line ∷ line_texts (take (budget - (length line + 1)) ys)
front_line line ys budget plain lt =
    let m : ℕ = budget - (length line + 1) in
    let b : length line + suc m ≡ budget = omega arith in
    let tk : take (length line + suc m) (line ++ 10 ∷ ys) ≡ line ++ 10 ∷ take m ys = take-append-add line (10 ∷ ys) (suc m) in
    let tb : take budget (line ++ 10 ∷ ys) ≡ line ++ 10 ∷ take m ys = subst (λ (n : ℕ). take n (line ++ 10 ∷ ys) ≡ line ++ 10 ∷ take m ys) b tk in
    ap line_texts tb ∙ line_first line (take m ys) plain

pub front_none : (line ys : List ℕ) (budget : ℕ) → HasNoNewline line → (length line ≡ budget) ⊎ ((length line < budget) × (ys ≡ [])) → take budget (line ++ ys) ≡ line
front_none line ys budget plain (inl len) =
    let tk : take (length line + 0) (line ++ ys) ≡ line ++ take 0 ys = take-append-add line ys 0 in
    let b : length line + 0 ≡ budget = omega arith in
    subst (λ (n : ℕ). take n (line ++ ys) ≡ line) b (tk ∙ append-nil line)
front_none line ys budget plain (inr short) =
    let w : line ++ ys ≡ line = ap (λ (zs : List ℕ). line ++ zs) short.1 ∙ append-nil line in
    let k : length (line ++ ys) ≤ budget = omega (arith, ap length w, short.0) in
    take_all budget (line ++ ys) k ∙ w

pub front_goes_on : (line ys : List ℕ) (budget : ℕ) → HasNoNewline line → length line ≤ budget → (line_texts (take budget (line ++ ys)) ≡ []) ⊎ HasLine (line_texts (take budget (line ++ ys))) (length line)
front_goes_on line ys budget plain le =
    let m : ℕ = budget - length line in
    let b : length line + m ≡ budget = omega arith in
    let tb : take budget (line ++ ys) ≡ line ++ take m ys = subst (λ (n : ℕ). take n (line ++ ys) ≡ line ++ take m ys) b (take-append-add line ys m) in
    subst (λ (zs : List ℕ). (line_texts zs ≡ []) ⊎ HasLine (line_texts zs) (length line)) (sym tb) (line_goes_on line (take m ys) plain)
