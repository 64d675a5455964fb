-- Reading a told text line by line.
use Rattle.std.proofs.Common.{◌≡◌, ◌⊎◌, inl, inr, ℕ, ◌+◌, ◌-◌, ◌<◌, ◌≤◌, List, [], ◌∷◌, ◌++◌, length, take, drop, sum, map, Option, Some, None, true, false, refl, ap, sym, ◌∙◌, subst, arith, length-append, length-drop, append_assoc, append-nil}
use Rattle.std.proofs.lemmas.List.{drop-drop, map-append, length-take}
use Rattle.std.proofs.lemmas.List.Sums.{sum_by-append}
use Rattle.std.proofs.Math.Seq.{drop-append-add}
use Rattle.std.specs.Io.KnownBytes.{Consumes, IsAtEnd}
use Rattle.formats.specs.Counts.{head_limit, line_texts}
use Rattle.mha_read.specs.Lines.{HasNoNewline, TakesLine}
use Rattle.mha_read.specs.LinesRead.{Leaves, LinesRead, NoLine, HasLine, CutShort, bytes_of}
use Rattle.mha_read.proofs.LineTexts.{line_none, front_line, front_none, front_goes_on}

sum-append : (xs ys : List ℕ) → sum (xs ++ ys) ≡ sum xs + sum ys
sum-append xs ys = sum_by-append (λ x. x) xs ys

pub bytes_of-append : (xs ys : List (List ℕ)) → bytes_of (xs ++ ys) ≡ bytes_of xs + bytes_of ys
bytes_of-append xs ys = ap sum (map-append (λ (line : List ℕ). length line + 1) xs ys) ∙ sum-append (map (λ (line : List ℕ). length line + 1) xs) (map (λ (line : List ℕ). length line + 1) ys)

-- what a told input has left
pub record Rest (rest bytes : List ℕ) (new : Option (List ℕ)) : Type 0 where
  pub behind : List ℕ
  pub new_is : new ≡ Some behind
  pub parts : rest ≡ bytes ++ behind

pub some_same : (xs ys : List ℕ) → Some xs ≡ Some ys → xs ≡ ys
some_same xs ys e = cc

pub rest_of : (old new : Option (List ℕ)) (rest bytes : List ℕ) → old ≡ Some rest → Consumes old new bytes → Rest rest bytes new
rest_of None new rest bytes e took = cc
rest_of (Some xs) None rest bytes e took = absurd took
rest_of (Some xs) (Some ys) rest bytes e took = record { behind = ys; new_is = refl; parts = sym (some_same xs rest e) ∙ took }

-- the bytes behind a place, and the ones behind them
pub leaves_more : (text bytes : List ℕ) (place : ℕ) (new : Option (List ℕ)) → place ≤ length text → Rest (drop place text) bytes new → Leaves text (place + length bytes) new
leaves_more text bytes place new le rest =
    let d : drop (length bytes + 0) (drop place text) ≡ rest.behind = ap (λ (zs : List ℕ). drop (length bytes + 0) zs) rest.parts ∙ drop-append-add bytes rest.behind 0 in
    let n : length bytes + 0 ≡ length bytes = omega arith in
    let e : drop (length bytes) (drop place text) ≡ rest.behind = subst (λ (k : ℕ). drop k (drop place text) ≡ rest.behind) n d in
    record {
      left_is = rest.new_is ∙ ap Some (sym e ∙ drop-drop (length bytes) place text);
      within = omega (arith, length-drop place text, ap length rest.parts, length-append bytes rest.behind);
    }

-- the same at the front of a text
pub leaves_first : (text bytes : List ℕ) (new : Option (List ℕ)) → Rest text bytes new → Leaves text (length bytes) new
leaves_first text bytes new rest =
    let n : 0 + length bytes ≡ length bytes = omega arith in
    subst (λ (k : ℕ). Leaves text k new) n (leaves_more text bytes 0 new (omega arith) rest)

pub no_lines : (text : List ℕ) (left : Option (List ℕ)) → left ≡ Some text → LinesRead text 0 left []
no_lines text left e = record {
  leaves = record { left_is = e; within = omega arith };
  within = omega arith;
  place_is = refl;
  lines = refl;
}

-- one more line with its newline
pub one_more : (text line : List ℕ) (place next : ℕ) (mid left : Option (List ℕ)) (done : List (List ℕ)) → LinesRead text place mid done → TakesLine mid left line (head_limit - place) true → next ≡ place + length line + 1 → LinesRead text next left (done ++ line ∷ [])
one_more text line place next mid left done read took next_is =
    let rest : Rest (drop place text) (line ++ 10 ∷ []) left = rest_of mid left (drop place text) (line ++ 10 ∷ []) read.leaves.left_is took.0 in
    let n : place + length (line ++ 10 ∷ []) ≡ next = omega (arith, length-append line (10 ∷ [])) in
    let leaves : Leaves text next left = subst (λ (k : ℕ). Leaves text k left) n (leaves_more text (line ++ 10 ∷ []) place left read.leaves.within rest) in
    let behind : rest.behind ≡ drop next text = some_same _ _ (sym rest.new_is ∙ leaves.left_is) in
    let budget : head_limit - place - (length line + 1) ≡ head_limit - next = omega arith in
    let parts : drop place text ≡ line ++ 10 ∷ rest.behind = rest.parts ∙ append_assoc line (10 ∷ []) rest.behind in
    let lines : line_texts (take (head_limit - place) (drop place text)) ≡ line ∷ line_texts (take (head_limit - next) (drop next text)) =
    ap (λ (zs : List ℕ). line_texts (take (head_limit - place) zs)) parts
    ∙ front_line line rest.behind (head_limit - place) took.1 took.2
    ∙ (λ i. line ∷ line_texts (take (budget i) (behind i))) in
    record {
      leaves = leaves;
      within = omega (arith, took.2, read.within);
      place_is = bytes_of-append done (line ∷ []) ∙ omega (arith, read.place_is);
      lines = read.lines ∙ ap (λ (zs : List (List ℕ)). done ++ zs) lines ∙ sym (append_assoc done (line ∷ []) _);
    }

-- so many bytes, or all that were left
ends_of : (n budget : ℕ) (left : Option (List ℕ)) (behind : List ℕ) → left ≡ Some behind → (n ≡ budget) ⊎ ((n < budget) × IsAtEnd left) → (n ≡ budget) ⊎ ((n < budget) × (behind ≡ []))
ends_of n budget left behind e (inl h) = inl h
ends_of n budget left behind e (inr h) = inr (h.0, let P : Option (List ℕ) → Type 0 = λ o. IsAtEnd o in subst P e h.1)

all_taken : (text line behind : List ℕ) (place : ℕ) → place ≤ head_limit → place ≤ length text → drop place text ≡ line ++ behind → (length line ≡ head_limit - place) ⊎ ((length line < head_limit - place) × (behind ≡ [])) → place + length line ≡ length (take head_limit text)
all_taken text line behind place le within parts (inl h) = omega (arith, length-take head_limit text, length-drop place text, ap length parts, length-append line behind)
all_taken text line behind place le within parts (inr h) =
    omega (arith, length-take head_limit text, length-drop place text, ap length parts, length-append line behind, ap length h.1)

-- no more line
pub no_more : (text line : List ℕ) (place : ℕ) (mid left : Option (List ℕ)) (done : List (List ℕ)) → LinesRead text place mid done → TakesLine mid left line (head_limit - place) false → NoLine text done left
no_more text line place mid left done read took =
    let rest : Rest (drop place text) line left = rest_of mid left (drop place text) line read.leaves.left_is took.0 in
    let ends = ends_of (length line) (head_limit - place) left rest.behind rest.new_is took.2 in
    let front : take (head_limit - place) (drop place text) ≡ line =
    ap (λ (zs : List ℕ). take (head_limit - place) zs) rest.parts ∙ front_none line rest.behind (head_limit - place) took.1 ends in
    record {
      lines = read.lines ∙ ap (λ (zs : List (List ℕ)). done ++ zs) (ap line_texts front ∙ line_none line took.1) ∙ append-nil done;
      leaves = subst (λ (k : ℕ). Leaves text k left) (all_taken text line rest.behind place read.within read.leaves.within rest.parts ends) (leaves_more text line place left read.leaves.within rest);
    }

next_line : (text line behind : List ℕ) (place : ℕ) → HasNoNewline line → length line < head_limit - place → drop place text ≡ line ++ behind → (line_texts (take (head_limit - place) (drop place text)) ≡ []) ⊎ ((place + length line < length text) × HasLine (line_texts (take (head_limit - place) (drop place text))) (length line))
next_line text line [] place plain lt parts =
    inl (ap (λ (zs : List ℕ). line_texts (take (head_limit - place) zs)) parts ∙ ap line_texts (front_none line [] (head_limit - place) plain (inr (lt, refl))) ∙ line_none line plain)
next_line text line (y ∷ ys) place plain lt parts =
    let front : (line_texts (take (head_limit - place) (drop place text)) ≡ []) ⊎ HasLine (line_texts (take (head_limit - place) (drop place text))) (length line) =
    subst (λ (zs : List ℕ). (line_texts (take (head_limit - place) zs) ≡ []) ⊎ HasLine (line_texts (take (head_limit - place) zs)) (length line)) (sym parts) (front_goes_on line (y ∷ ys) (head_limit - place) plain (omega arith)) in
    with_bound front
  where
    with_bound : (line_texts (take (head_limit - place) (drop place text)) ≡ []) ⊎ HasLine (line_texts (take (head_limit - place) (drop place text))) (length line) → (line_texts (take (head_limit - place) (drop place text)) ≡ []) ⊎ ((place + length line < length text) × HasLine (line_texts (take (head_limit - place) (drop place text))) (length line))
    with_bound (inl h) = inl h
    with_bound (inr h) = inr (omega (arith, length-drop place text, ap length parts, length-append line (y ∷ ys)), h)

-- a part of a line
pub cut_short : (text line : List ℕ) (place : ℕ) (mid left : Option (List ℕ)) (done : List (List ℕ)) → LinesRead text place mid done → Consumes mid left line → HasNoNewline line → length line < head_limit - place → CutShort text place done left
cut_short text line place mid left done read took plain lt =
    let rest : Rest (drop place text) line left = rest_of mid left (drop place text) line read.leaves.left_is took in
    record {
      part = length line;
      leaves = leaves_more text line place left read.leaves.within rest;
      below = omega arith;
      rest = line_texts (take (head_limit - place) (drop place text));
      lines = read.lines;
      next = next_line text line rest.behind place plain lt rest.parts;
    }

pub all_length : (text line : List ℕ) (place : ℕ) (mid left : Option (List ℕ)) (done : List (List ℕ)) → LinesRead text place mid done → TakesLine mid left line (head_limit - place) false → place + length line ≡ length (take head_limit text)
all_length text line place mid left done read took =
    let rest : Rest (drop place text) line left = rest_of mid left (drop place text) line read.leaves.left_is took.0 in
    all_taken text line rest.behind place read.within read.leaves.within rest.parts (ends_of (length line) (head_limit - place) left rest.behind rest.new_is took.2)

-- all bytes were taken in whole lines
pub all_lines : (text : List ℕ) (place : ℕ) (left : Option (List ℕ)) (done : List (List ℕ)) → LinesRead text place left done → place ≡ head_limit → NoLine text done left × (length (take head_limit text) ≡ head_limit)
all_lines text place left done read full =
    let len : length (take head_limit text) ≡ head_limit = omega (arith, length-take head_limit text, read.leaves.within) in
    let none : take (head_limit - place) (drop place text) ≡ [] = ap (λ (n : ℕ). take (head_limit - n) (drop place text)) full in (
      record {
        lines = read.lines ∙ ap (λ (zs : List ℕ). done ++ line_texts zs) none ∙ append-nil done;
        leaves = subst (λ (k : ℕ). Leaves text k left) (full ∙ sym len) read.leaves;
      },
      len,
    )
