-- The search of a told text for its data line.
use Rattle.std.proofs.Common.{◌≡◌, ◌⊎◌, inl, inr, ℕ, ◌+◌, ◌-◌, ◌<◌, ◌≤◌, ◌==◌, ◌||◌, List, [], ◌∷◌, ◌++◌, length, take, drop, find, filter, filter_map, Option, Some, None, Bool, true, false, not, ◌&&◌, is_some, nat_lt, nat_le, if◌then◌else◌, refl, ap, sym, ◌∙◌, subst, arith, append_assoc, append-nil}
use Rattle.std.proofs.lemmas.Grind.{common_steps}
use Rattle.std.proofs.lemmas.List.{length-take}
use Rattle.std.proofs.lemmas.List.Elements.{filter_map-append}
use Rattle.std.specs.Option.{option_map_or}
use Rattle.std.specs.List.{scan, AllByRecursion, cons_option}
use Rattle.std.specs.declared.result.Result.{Result}
use Rattle.std.specs.declared.result.Result.TheVariants.{Ok, Err}
use Rattle.std.proofs.lemmas.Bool.{le-leb, lt-leb, lt-ltb, or_from, or_left, or_right}
use Rattle.std.proofs.Math.Nat.{eq-or-lt_of_le}
use Rattle.formats.specs.declared.HeadFault.{HeadFault}
use Rattle.formats.specs.declared.HeadFault.TheVariants.{BadLine, Missing, BadValue, Unsupported, HeaderTooLong, HeadEnds, ReadFault, NoMemory}
use Rattle.formats.specs.Counts.{head_limit, line_texts}
use Rattle.formats.specs.HeadLines.{Line, Pairs, meaning_of, is_bad, is_data_line, pair_of, lines, pairs_at, pairs_found, pairs_of}
use Rattle.formats.specs.Heads.{head_taken, ends_in_head}
use Rattle.mha_read.specs.LinesRead.{Leaves, LinesRead, NoLine, HasLine, CutShort, bytes_of, lines_of}
use Rattle.mha_read.specs.NextLine.{NextLine}
use Rattle.mha_read.specs.Told.{pairs_in, IsEarly, PairsRead}
use Rattle.mha_read.proofs.LinesTaken.{no_lines, bytes_of-append}

-- a line at a place
abbrev at_place : ℕ → List ℕ → Line
at_place place text = record { place = place; text = text }

-- lines from a place on
abbrev lines_from : ℕ → List (List ℕ) → List Line
lines_from place texts = scan (λ at text. at + length text + 1) (λ at text. at_place at text) place texts

bytes_of-cons : (text : List ℕ) (texts : List (List ℕ)) → bytes_of (text ∷ texts) ≡ length text + 1 + bytes_of texts
bytes_of-cons text texts = bytes_of-append (text ∷ []) texts ∙ omega arith

behind_line : (at : ℕ) (text : List ℕ) (texts : List (List ℕ)) → at + length text + 1 + bytes_of texts ≡ at + bytes_of (text ∷ texts)
behind_line at text texts = omega (arith, bytes_of-cons text texts)

-- lines that don't end the search are passed over
find_behind : (ends : List ℕ → Bool) (done rest : List (List ℕ)) (at : ℕ) → AllByRecursion (λ t. ends t ≡ false) done → find (λ l. ends l.text) (lines_from at (done ++ rest)) ≡ find (λ l. ends l.text) (lines_from (at + bytes_of done) rest)
find_behind ends [] rest at pass = let e : at ≡ at + 0 = omega arith in ap (λ (n : ℕ). find (λ l. ends l.text) (lines_from n rest)) e
find_behind ends (t ∷ done) rest at pass =
    let h : ends t ≡ false = pass.0 in
    rw h (find_behind ends done rest (at + length t + 1) pass.1 ∙ ap (λ (n : ℕ). find (λ l. ends l.text) (lines_from n rest)) (behind_line at t done))

find_here : (ends : List ℕ → Bool) (text : List ℕ) (rest : List (List ℕ)) (at : ℕ) → ends text ≡ true → find (λ l. ends l.text) (lines_from at (text ∷ rest)) ≡ Some (at_place at text)
find_here ends text rest at t = rw t refl

-- the lines up to a place
filter_later : (texts : List (List ℕ)) (at place : ℕ) → place < at → filter (λ m. nat_le m.place place) (lines_from at texts) ≡ []
filter_later [] at place h = refl
filter_later (t ∷ texts) at place h =
    let n : nat_le at place ≡ false = lt-leb at place h in
    rw n (filter_later texts (at + length t + 1) place (omega arith))

filter_upto : (done : List (List ℕ)) (line : List ℕ) (more : List (List ℕ)) (at place : ℕ) → place ≡ at + bytes_of done → filter (λ m. nat_le m.place place) (lines_from at (done ++ line ∷ more)) ≡ lines_from at (done ++ line ∷ [])
filter_upto [] line more at place e =
    let n : nat_le at place ≡ true = le-leb at place (omega arith) in
    rw n (ap (λ (ls : List Line). at_place at line ∷ ls) (filter_later more (at + length line + 1) place (omega arith)))
filter_upto (t ∷ done) line more at place e =
    let n : nat_le at place ≡ true = le-leb at place (omega arith) in
    rw n (ap (λ (ls : List Line). at_place at t ∷ ls) (filter_upto done line more (at + length t + 1) place (e ∙ sym (behind_line at t done))))

map_texts : {X : Type 0} (f : List ℕ → Option X) (texts : List (List ℕ)) (at : ℕ) → filter_map (λ m. f m.text) (lines_from at texts) ≡ filter_map f texts
map_texts f [] at = refl
map_texts f (t ∷ texts) at = ap (λ ms. cons_option (f t) ms) (map_texts f texts (at + length t + 1))

-- where the search ends, at the earliest
taken_later : (ends : List ℕ → Bool) (texts : List (List ℕ)) (at n all : ℕ) → n < at → n < all → n < option_map_or (λ l. l.place + length l.text + 1) (find (λ l. ends l.text) (lines_from at texts)) all
taken_later ends [] at n all before within = within
taken_later ends (t ∷ texts) at n all before within = by_test (ends t) (omega arith) (taken_later ends texts (at + length t + 1) n all (omega arith) within)
  where
    by_test : (b : Bool) → n < at + length t + 1 → n < option_map_or (λ l. l.place + length l.text + 1) (find (λ l. ends l.text) (lines_from (at + length t + 1) texts)) all → n < option_map_or (λ l. l.place + length l.text + 1) (if b then Some (at_place at t) else find (λ l. ends l.text) (lines_from (at + length t + 1) texts)) all
    by_test true here more = here
    by_test false here more = more

taken_first : (ends : List ℕ → Bool) (t : List ℕ) (texts : List (List ℕ)) (at n all : ℕ) → n < at + length t + 1 → n < all → n < option_map_or (λ l. l.place + length l.text + 1) (find (λ l. ends l.text) (lines_from at (t ∷ texts))) all
taken_first ends t texts at n all before within = by_test (ends t) before (taken_later ends texts (at + length t + 1) n all before within)
  where
    by_test : (b : Bool) → n < at + length t + 1 → n < option_map_or (λ l. l.place + length l.text + 1) (find (λ l. ends l.text) (lines_from (at + length t + 1) texts)) all → n < option_map_or (λ l. l.place + length l.text + 1) (if b then Some (at_place at t) else find (λ l. ends l.text) (lines_from (at + length t + 1) texts)) all
    by_test true here more = here
    by_test false here more = more

-- the definitions by what the search finds

abbrev ends : List ℕ → Bool
ends text = is_bad (meaning_of text) || is_data_line (meaning_of text)

abbrev found_in : List (List ℕ) → Option Line
found_in texts = find (λ l. ends l.text) (lines_from 0 texts)

pairs_are : (text : List ℕ) → pairs_of text ≡ pairs_found (lines_from 0 (lines_of text)) (length (take head_limit text) == head_limit) (found_in (lines_of text))
unfolding pairs_of
pairs_are text = refl

taken_is : (text : List ℕ) → head_taken text ≡ option_map_or (λ l. l.place + length l.text + 1) (found_in (lines_of text)) (length (take head_limit text))
unfolding head_taken
taken_is text = refl

ends_is : (text : List ℕ) → ends_in_head text ≡ (not (is_some (found_in (lines_of text))) && nat_lt (length text) head_limit)
unfolding ends_in_head
ends_is text = refl

-- Lines were read, none of them ends the search, and these are their pairs.
pub record HeadRead (text : List ℕ) (place : ℕ) (pairs : List (List ℕ × List ℕ)) (left : Option (List ℕ)) : Type 0 where
  pub done : List (List ℕ)
  pub read : LinesRead text place left done
  pub pass : AllByRecursion (λ t. ends t ≡ false) done
  pub pairs_are : pairs ≡ pairs_in done

pub begins : (text : List ℕ) (left : Option (List ℕ)) → left ≡ Some text → HeadRead text 0 [] left
begins text left e = record { done = []; read = no_lines text left e; pass = tt; pairs_are = refl }

pass_more : (done : List (List ℕ)) (line : List ℕ) → AllByRecursion (λ t. ends t ≡ false) done → ends line ≡ false → AllByRecursion (λ t. ends t ≡ false) (done ++ line ∷ [])
pass_more [] line pass h = (h, tt)
pass_more (t ∷ done) line pass h = (pass.0, pass_more done line pass.1 h)

-- one more line that doesn't end the search
pub goes_on : (text line : List ℕ) (place next : ℕ) (pairs new : List (List ℕ × List ℕ)) (mid left : Option (List ℕ)) (head : HeadRead text place pairs mid) → LinesRead text next left (head.done ++ line ∷ []) → is_bad (meaning_of line) ≡ false → is_data_line (meaning_of line) ≡ false → new ≡ pairs ++ pairs_in (line ∷ []) → HeadRead text next new left
goes_on text line place next pairs new mid left head read good other new_is = record {
  done = head.done ++ line ∷ [];
  read = read;
  pass = pass_more head.done line head.pass (or_from (is_bad (meaning_of line)) (is_data_line (meaning_of line)) good other);
  pairs_are = new_is ∙ ap (λ (ps : List (List ℕ × List ℕ)). ps ++ pairs_in (line ∷ [])) head.pairs_are ∙ sym (filter_map-append (λ t. pair_of (meaning_of t)) head.done (line ∷ []));
}

-- the lines of a text of which one more was read
lines_split : (text line : List ℕ) (next : ℕ) (left : Option (List ℕ)) (done : List (List ℕ)) → LinesRead text next left (done ++ line ∷ []) → lines_of text ≡ done ++ line ∷ line_texts (take (head_limit - next) (drop next text))
lines_split text line next left done read = read.lines ∙ append_assoc done (line ∷ []) _

next_is : (text line : List ℕ) (place next : ℕ) (mid left : Option (List ℕ)) (done : List (List ℕ)) → LinesRead text place mid done → LinesRead text next left (done ++ line ∷ []) → place + length line + 1 ≡ next
next_is text line place next mid left done before read = omega (arith, before.place_is, read.place_is, bytes_of-append done (line ∷ []))

found_line : (text line : List ℕ) (place : ℕ) (pairs : List (List ℕ × List ℕ)) (mid : Option (List ℕ)) (head : HeadRead text place pairs mid) (more : List (List ℕ)) → lines_of text ≡ head.done ++ line ∷ more → ends line ≡ true → found_in (lines_of text) ≡ Some (at_place place line)
found_line text line place pairs mid head more lines t =
    let at : 0 + bytes_of head.done ≡ place = omega (arith, head.read.place_is) in
    ap (λ (ts : List (List ℕ)). found_in ts) lines
    ∙ find_behind ends head.done (line ∷ more) 0 head.pass
    ∙ find_here ends line more (0 + bytes_of head.done) t
    ∙ ap (λ (n : ℕ). Some (at_place n line)) at

taken_line : (text line : List ℕ) (place : ℕ) → found_in (lines_of text) ≡ Some (at_place place line) → head_taken text ≡ place + length line + 1
taken_line text line place found = taken_is text ∙ ap (λ (o : Option Line). option_map_or (λ l. l.place + length l.text + 1) o (length (take head_limit text))) found

at_bad : (ls : List Line) (l : Line) → is_bad (meaning_of l.text) ≡ true → pairs_at ls l ≡ Err (BadLine l.place)
at_bad ls l t = pick_first (is_bad (meaning_of l.text)) _ _ t
  where
    pick_first : (b : Bool) (x y : Result Pairs HeadFault) → b ≡ true → (if b then x else y) ≡ x
    pick_first true x y h = refl
    pick_first false x y h = cc

at_data : (ls : List Line) (l : Line) → is_bad (meaning_of l.text) ≡ false → pairs_at ls l ≡ Ok (record { pairs = filter_map (λ m. pair_of (meaning_of m.text)) (filter (λ m. nat_le m.place l.place) ls); len = l.place + length l.text + 1 })
at_data ls l t = pick_second (is_bad (meaning_of l.text)) _ _ t
  where
    pick_second : (b : Bool) (x y : Result Pairs HeadFault) → b ≡ false → (if b then x else y) ≡ y
    pick_second true x y h = cc
    pick_second false x y h = refl

pub bad_line : (text line : List ℕ) (place next : ℕ) (pairs : List (List ℕ × List ℕ)) (mid left : Option (List ℕ)) (head : HeadRead text place pairs mid) → LinesRead text next left (head.done ++ line ∷ []) → is_bad (meaning_of line) ≡ true → PairsRead (Err (BadLine place)) text left
bad_line text line place next pairs mid left head read bad =
    let found : found_in (lines_of text) ≡ Some (at_place place line) = found_line text line place pairs mid head _ (lines_split text line next left head.done read) (or_left (is_bad (meaning_of line)) (is_data_line (meaning_of line)) bad) in
    let full : Bool = length (take head_limit text) == head_limit in (
      pairs_are text
          ∙ ap (λ (o : Option Line). pairs_found (lines_from 0 (lines_of text)) full o) found
          ∙ at_bad (lines_from 0 (lines_of text)) (at_place place line) bad,
      subst (λ (n : ℕ). Leaves text n left) (sym (next_is text line place next mid left head.done head.read read) ∙ sym (taken_line text line place found)) read.leaves,
    )

pub data_line : (text line : List ℕ) (place next : ℕ) (pairs new : List (List ℕ × List ℕ)) (mid left : Option (List ℕ)) (head : HeadRead text place pairs mid) → LinesRead text next left (head.done ++ line ∷ []) → is_bad (meaning_of line) ≡ false → is_data_line (meaning_of line) ≡ true → new ≡ pairs ++ pairs_in (line ∷ []) → PairsRead (Ok new) text left
data_line text line place next pairs new mid left head read good is_data new_is =
    let more : List (List ℕ) = line_texts (take (head_limit - next) (drop next text)) in
    let split : lines_of text ≡ head.done ++ line ∷ more = lines_split text line next left head.done read in
    let found : found_in (lines_of text) ≡ Some (at_place place line) = found_line text line place pairs mid head more split (or_right (is_bad (meaning_of line)) (is_data_line (meaning_of line)) is_data) in
    let at : place ≡ 0 + bytes_of head.done = omega (arith, head.read.place_is) in
    let kept : filter (λ m. nat_le m.place place) (lines_from 0 (lines_of text)) ≡ lines_from 0 (head.done ++ line ∷ []) =
    ap (λ (ts : List (List ℕ)). filter (λ m. nat_le m.place place) (lines_from 0 ts)) split ∙ filter_upto head.done line more 0 place at in
    let all : filter_map (λ m. pair_of (meaning_of m.text)) (filter (λ m. nat_le m.place place) (lines_from 0 (lines_of text))) ≡ new =
    ap (λ (ls : List Line). filter_map (λ m. pair_of (meaning_of m.text)) ls) kept
    ∙ map_texts (λ t. pair_of (meaning_of t)) (head.done ++ line ∷ []) 0
    ∙ sym (new_is ∙ ap (λ (ps : List (List ℕ × List ℕ)). ps ++ pairs_in (line ∷ [])) head.pairs_are ∙ sym (filter_map-append (λ t. pair_of (meaning_of t)) head.done (line ∷ []))) in
    let behind : place + length line + 1 ≡ next = next_is text line place next mid left head.done head.read read in
    let full : Bool = length (take head_limit text) == head_limit in (
      next,
      pairs_are text
          ∙ ap (λ (o : Option Line). pairs_found (lines_from 0 (lines_of text)) full o) found
          ∙ at_data (lines_from 0 (lines_of text)) (at_place place line) good
          ∙ (λ i. Ok (record { pairs = all i; len = behind i })),
      sym behind ∙ sym (taken_line text line place found),
      read.leaves,
    )

none_found : (text : List ℕ) (place : ℕ) (pairs : List (List ℕ × List ℕ)) (mid : Option (List ℕ)) (head : HeadRead text place pairs mid) → lines_of text ≡ head.done → found_in (lines_of text) ≡ None
none_found text place pairs mid head lines =
    ap (λ (ts : List (List ℕ)). found_in ts) (lines ∙ sym (append-nil head.done)) ∙ find_behind ends head.done [] 0 head.pass

taken_all : (text : List ℕ) → found_in (lines_of text) ≡ None → head_taken text ≡ length (take head_limit text)
taken_all text none = taken_is text ∙ ap (λ (o : Option Line). option_map_or (λ l. l.place + length l.text + 1) o (length (take head_limit text))) none

no_data_line : (text : List ℕ) (place : ℕ) (pairs : List (List ℕ × List ℕ)) (mid left : Option (List ℕ)) (fault : HeadFault) (head : HeadRead text place pairs mid) → NoLine text head.done left → (if length (take head_limit text) == head_limit then HeaderTooLong else HeadEnds) ≡ fault → (pairs_of text ≡ Err fault) × Leaves text (head_taken text) left
no_data_line text place pairs mid left fault head none fault_is =
    let nothing : found_in (lines_of text) ≡ None = none_found text place pairs mid head none.lines in
    let full : Bool = length (take head_limit text) == head_limit in (
      pairs_are text ∙ ap (λ (o : Option Line). pairs_found (lines_from 0 (lines_of text)) full o) nothing ∙ ap Err fault_is,
      subst (λ (n : ℕ). Leaves text n left) (sym (taken_all text nothing)) none.leaves,
    )

pub too_long : (text : List ℕ) (place : ℕ) (pairs : List (List ℕ × List ℕ)) (mid left : Option (List ℕ)) (head : HeadRead text place pairs mid) → NoLine text head.done left → length (take head_limit text) ≡ head_limit → PairsRead (Err HeaderTooLong) text left
too_long text place pairs mid left head none full = no_data_line text place pairs mid left HeaderTooLong head none (rw full refl)

not_equal : (a b : ℕ) → a < b → (a == b) ≡ false
not_equal a b h = grind (arith, common_steps)

head_ends : (text : List ℕ) (place : ℕ) (pairs : List (List ℕ × List ℕ)) (mid left : Option (List ℕ)) (head : HeadRead text place pairs mid) → NoLine text head.done left → length (take head_limit text) < head_limit → PairsRead (Err HeadEnds) text left
head_ends text place pairs mid left head none short =
    no_data_line text place pairs mid left HeadEnds head none (ap (λ (b : Bool). if b then HeaderTooLong else HeadEnds) (not_equal (length (take head_limit text)) head_limit short))

in_last_line : (text : List ℕ) (place n : ℕ) (pairs : List (List ℕ × List ℕ)) (mid : Option (List ℕ)) (head : HeadRead text place pairs mid) → lines_of text ≡ head.done → n ≤ length text → n < head_limit → IsEarly text n
in_last_line text place n pairs mid head lines within below = by_end (eq-or-lt_of_le within)
  where
    nothing : found_in (lines_of text) ≡ None
    nothing = none_found text place pairs mid head lines

    ends_here : length text < head_limit → (not (is_some (found_in (lines_of text))) && nat_lt (length text) head_limit) ≡ true
    ends_here short = ap (λ (o : Option Line). not (is_some o) && nat_lt (length text) head_limit) nothing ∙ lt-ltb (length text) head_limit short

    by_end : (n ≡ length text) ⊎ (n < length text) → IsEarly text n
    by_end (inr more) = inl (omega (arith, taken_all text nothing, length-take head_limit text))
    by_end (inl end) = inr (end, ends_is text ∙ ends_here (omega arith))

in_some_line : (text : List ℕ) (place part : ℕ) (pairs : List (List ℕ × List ℕ)) (mid : Option (List ℕ)) (head : HeadRead text place pairs mid) (line : List ℕ) (more : List (List ℕ)) → lines_of text ≡ head.done ++ line ∷ more → part ≤ length line → place + part < length text → place + part < head_limit → IsEarly text (place + part)
in_some_line text place part pairs mid head line more lines longer within below =
    let at : 0 + bytes_of head.done ≡ place = omega (arith, head.read.place_is) in
    let found : found_in (lines_of text) ≡ find (λ l. ends l.text) (lines_from place (line ∷ more)) =
    ap (λ (ts : List (List ℕ)). found_in ts) lines ∙ find_behind ends head.done (line ∷ more) 0 head.pass ∙ ap (λ (n : ℕ). find (λ l. ends l.text) (lines_from n (line ∷ more))) at in
    let taken : head_taken text ≡ option_map_or (λ l. l.place + length l.text + 1) (find (λ l. ends l.text) (lines_from place (line ∷ more))) (length (take head_limit text)) =
    taken_is text ∙ ap (λ (o : Option Line). option_map_or (λ l. l.place + length l.text + 1) o (length (take head_limit text))) found in
    let early : place + part < option_map_or (λ l. l.place + length l.text + 1) (find (λ l. ends l.text) (lines_from place (line ∷ more))) (length (take head_limit text)) =
    taken_first ends line more place (place + part) (length (take head_limit text)) (omega arith) (omega (arith, length-take head_limit text)) in
    inl (subst (λ (n : ℕ). place + part < n) (sym taken) early)

cut_line : (text : List ℕ) (place : ℕ) (pairs : List (List ℕ × List ℕ)) (mid left : Option (List ℕ)) (head : HeadRead text place pairs mid) → CutShort text place head.done left → PairsRead (Err ReadFault) text left
cut_line text place pairs mid left head cut = (place + cut.part, cut.leaves, by_next cut.next)
  where
    by_next : (cut.rest ≡ []) ⊎ ((place + cut.part < length text) × HasLine cut.rest cut.part) → IsEarly text (place + cut.part)
    by_next (inl none) =
        in_last_line text place (place + cut.part) pairs mid head (cut.lines ∙ ap (λ (zs : List (List ℕ)). head.done ++ zs) none ∙ append-nil head.done) cut.leaves.within cut.below
    by_next (inr some) =
        in_some_line text place cut.part pairs mid head some.1.line some.1.more (cut.lines ∙ ap (λ (zs : List (List ℕ)). head.done ++ zs) some.1.is) some.1.longer some.0 cut.below

pub refused : (text line : List ℕ) (place : ℕ) (pairs : List (List ℕ × List ℕ)) (mid left : Option (List ℕ)) (fault : HeadFault) (head : HeadRead text place pairs mid) → NextLine place (Err fault) text head.done line left → PairsRead (Err fault) text left
refused text line place pairs mid left (BadLine at) head step = absurd step
refused text line place pairs mid left (Missing key) head step = absurd step
refused text line place pairs mid left (BadValue key) head step = absurd step
refused text line place pairs mid left (Unsupported key) head step = absurd step
refused text line place pairs mid left HeaderTooLong head step = too_long text place pairs mid left head step.0 step.1
refused text line place pairs mid left HeadEnds head step = head_ends text place pairs mid left head step.0 step.1
refused text line place pairs mid left ReadFault head step = cut_line text place pairs mid left head step
refused text line place pairs mid left NoMemory head step = tt
