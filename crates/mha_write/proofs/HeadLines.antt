-- Lines at the front of a text, the last of them the data line.
use Rattle.std.proofs.Common.{◌≡◌, ℕ, ◌+◌, ◌-◌, ◌≤◌, ◌||◌, List, [], ◌∷◌, ◌++◌, length, take, drop, flat_map, Some, true, false, refl, ap, sym, ◌∙◌, arith, append_assoc, length-append}
use Rattle.std.proofs.lemmas.Grind.{flat_map-append}
use Rattle.std.proofs.lemmas.List.{length-drop}
use Rattle.std.proofs.lemmas.List.Elements.{filter_map-append}
use Rattle.std.proofs.Math.Seq.{drop-append_seam}
use Rattle.std.specs.List.{AllByRecursion}
use Rattle.std.specs.declared.result.Result.TheVariants.{Ok}
use Rattle.formats.specs.Counts.{head_limit, line_texts}
use Rattle.formats.specs.HeadLines.{meaning_of, is_bad, is_data_line, pair_of, pairs_of}
use Rattle.mha_read.specs.Lines.{HasNoNewline}
use Rattle.mha_read.specs.LinesRead.{Leaves, LinesRead, bytes_of}
use Rattle.mha_read.specs.Told.{pairs_in}
use Rattle.mha_read.proofs.HeadSearch.{HeadRead, data_line}
use Rattle.mha_read.proofs.LinesTaken.{bytes_of-append, some_same}
use Rattle.mha_read.proofs.LineTexts.{front_line}

-- lines with their newlines
abbrev pub with_newlines : List (List ℕ) → List ℕ
with_newlines ls = flat_map (λ line. line ++ 10 ∷ []) ls

pub length_lines : (ls : List (List ℕ)) → length (with_newlines ls) ≡ bytes_of ls
length_lines [] = refl
length_lines (l ∷ ls) = length-append (l ++ 10 ∷ []) (with_newlines ls) ∙ omega (arith, length-append l (10 ∷ []), length_lines ls, bytes_of-append (l ∷ []) ls)

lines_in_front : (ls : List (List ℕ)) (rest : List ℕ) (budget : ℕ) → AllByRecursion HasNoNewline ls → bytes_of ls ≤ budget → line_texts (take budget (with_newlines ls ++ rest)) ≡ ls ++ line_texts (take (budget - bytes_of ls) rest)
lines_in_front [] rest budget plain within = let e : budget ≡ budget - 0 = omega arith in ap (λ (n : ℕ). line_texts (take n rest)) e
lines_in_front (l ∷ ls) rest budget plain within =
    let sum : bytes_of (l ∷ ls) ≡ length l + 1 + bytes_of ls = bytes_of-append (l ∷ []) ls ∙ omega arith in
    let less : budget - (length l + 1) - bytes_of ls ≡ budget - bytes_of (l ∷ ls) = omega arith in
    let moved : with_newlines (l ∷ ls) ++ rest ≡ l ++ 10 ∷ (with_newlines ls ++ rest) = simp append_assoc in
    ap (λ (zs : List ℕ). line_texts (take budget zs)) moved
    ∙ front_line l (with_newlines ls ++ rest) budget plain.0 (omega arith)
    ∙ ap (λ (ts : List (List ℕ)). l ∷ ts) (lines_in_front ls rest (budget - (length l + 1)) plain.1 (omega arith) ∙ ap (λ (n : ℕ). ls ++ line_texts (take n rest)) less)

-- the lines were read
lines_read : (text : List ℕ) (ls : List (List ℕ)) (rest : List ℕ) → text ≡ with_newlines ls ++ rest → AllByRecursion HasNoNewline ls → bytes_of ls ≤ head_limit → LinesRead text (bytes_of ls) (Some rest) ls
lines_read text ls rest is plain within =
    let len : length (with_newlines ls) ≡ bytes_of ls = length_lines ls in
    let behind : drop (bytes_of ls) text ≡ rest = ap (λ (zs : List ℕ). drop (bytes_of ls) zs) is ∙ ap (λ (n : ℕ). drop n (with_newlines ls ++ rest)) (sym len) ∙ drop-append_seam (with_newlines ls) rest in
    record {
      leaves = record { left_is = ap Some (sym behind); within = omega (arith, ap length is, length-append (with_newlines ls) rest) };
      within = within;
      place_is = refl;
      lines = ap (λ (zs : List ℕ). line_texts (take head_limit zs)) is ∙ lines_in_front ls rest head_limit plain within ∙ ap (λ (zs : List ℕ). ls ++ line_texts (take (head_limit - bytes_of ls) zs)) (sym behind);
    }

front_plain : (done : List (List ℕ)) (line : List ℕ) → AllByRecursion HasNoNewline (done ++ line ∷ []) → AllByRecursion HasNoNewline done
front_plain [] line plain = tt
front_plain (l ∷ ls) line plain = (plain.0, front_plain ls line plain.1)

-- the pairs are those of the lines
pub pairs_found_in : (done : List (List ℕ)) (line rest : List ℕ) → AllByRecursion HasNoNewline (done ++ line ∷ []) → bytes_of (done ++ line ∷ []) ≤ head_limit → AllByRecursion (λ t. (is_bad (meaning_of t) || is_data_line (meaning_of t)) ≡ false) done → is_bad (meaning_of line) ≡ false → is_data_line (meaning_of line) ≡ true → pairs_of (with_newlines (done ++ line ∷ []) ++ rest) ≡ Ok (record { pairs = pairs_in (done ++ line ∷ []); len = bytes_of (done ++ line ∷ []) })
pairs_found_in done line rest plain within pass good is_data =
    let text : List ℕ = with_newlines (done ++ line ∷ []) ++ rest in
    let split : text ≡ with_newlines done ++ (with_newlines (line ∷ []) ++ rest) = ap (λ (zs : List ℕ). zs ++ rest) (flat_map-append (λ l. l ++ 10 ∷ []) done (line ∷ [])) ∙ append_assoc (with_newlines done) (with_newlines (line ∷ [])) rest in
    let few : bytes_of done ≤ head_limit = omega (arith, bytes_of-append done (line ∷ [])) in
    let before : LinesRead text (bytes_of done) (Some (with_newlines (line ∷ []) ++ rest)) done = lines_read text done (with_newlines (line ∷ []) ++ rest) split (front_plain done line plain) few in
    let whole : LinesRead text (bytes_of (done ++ line ∷ [])) (Some rest) (done ++ line ∷ []) = lines_read text (done ++ line ∷ []) rest refl plain within in
    let head : HeadRead text (bytes_of done) (pairs_in done) (Some (with_newlines (line ∷ []) ++ rest)) = record { done = done; read = before; pass = pass; pairs_are = refl } in
    let new : pairs_in (done ++ line ∷ []) ≡ pairs_in done ++ pairs_in (line ∷ []) = filter_map-append (λ t. pair_of (meaning_of t)) done (line ∷ []) in
    let read = data_line text line (bytes_of done) (bytes_of (done ++ line ∷ [])) (pairs_in done) (pairs_in (done ++ line ∷ [])) (Some (with_newlines (line ∷ []) ++ rest)) (Some rest) head whole good is_data new in
    let left : Leaves text read.0 (Some rest) = read.3 in
    let behind : rest ≡ drop read.0 text = some_same rest (drop read.0 text) left.left_is in
    let len : read.0 ≡ bytes_of (done ++ line ∷ []) = omega (arith, left.within, ap length behind, length-drop read.0 text, length-append (with_newlines (done ++ line ∷ [])) rest, length_lines (done ++ line ∷ [])) in
    read.1 ∙ ap (λ (n : ℕ). Ok (record { pairs = pairs_in (done ++ line ∷ []); len = n })) len
