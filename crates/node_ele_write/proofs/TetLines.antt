-- Numbers and lines of tetrahedra in a buffer.
use Rattle.std.proofs.Common.{◌≡◌, ℕ, suc, ◌+◌, ◌-◌, ◌*◌, ◌/◌, ◌%◌, ◌^◌, ◌<◌, ◌≤◌, List, [], ◌∷◌, ◌++◌, length, take, drop, map, get_or, decimal, arith, refl, ap, subst, sym, ◌∙◌, append_assoc, append-nil}
use Rattle.std.specs.Int.{w32, from_le_bytes, to_le_bytes}
use Rattle.std.specs.Prelude.{slice_index, slice_set}
use Rattle.std.proofs.lemmas.Nat.{from_le_bytes-to_le_bytes_4}
use Rattle.std.proofs.Math.Seq.{drop-cons, take-append_seam}
use Rattle.std.proofs.lemmas.Fmt.{decimal_digit, decimal_step, length-decimal-le}
use Rattle.std.proofs.lemmas.List.{drop-set, get_or-map, length-drop, length-take-le, take-set-le, take-take, get_or-set_other, get_or-set_same, length-set}
use Rattle.mesh_texts.specs.Lines.{ele_line, ele_lines, renumbered}
use Rattle.node_ele_write.specs.Stars.{star_tets}
use Rattle.node_ele_write.specs.Texts.{IsFront, IsText, NumberText, last_word, spaced}

-- the digits with a space in front and their number at the end
pub text_made : (start n : ℕ) (written rest new : List ℕ) → start + length (decimal n) ≡ 11 → length (decimal n) ≤ 10 → drop start written ≡ decimal n ++ rest → length written ≡ 27 →
    length new ≡ 16 → new ≡ take 16 (drop (start - 1) (slice_set written (start - 1) 32)) → IsText (record { bytes = slice_set new 11 (11 - (start - 1)); number = n })
text_made start n written rest new e few w l sixteen copied =
    let p = start - 1 in
    let next : p + 1 ≡ start = omega arith in
    let front : drop p (slice_set written p 32) ≡ spaced n ++ rest = drop-set written p 32 (omega arith) ∙ ap (λ m. 32 ∷ drop m written) next ∙ ap (λ ds. 32 ∷ ds) w in
    let k : length (spaced n) ≤ 11 = omega arith in
    record {
      text =
          take-set-le (length (spaced n)) new 11 (11 - p) k
          ∙ ap (take (length (spaced n))) copied
          ∙ take-take (length (spaced n)) 16 (drop p (slice_set written p 32)) (omega arith)
          ∙ ap (take (length (spaced n))) front
          ∙ take-append_seam (spaced n) rest;
      count = get_or-set_same new 11 (11 - p) 0 (omega arith) ∙ (let s : 11 - p ≡ length (spaced n) = omega arith in s);
      few = k;
    }

-- bytes with those of a number in the last four
abbrev pub with_word : List ℕ → List ℕ → List ℕ
with_word bytes word = slice_set (slice_set (slice_set (slice_set bytes 12 (get_or word 0 0)) 13 (get_or word 1 0)) 14 (get_or word 2 0)) 15 (get_or word 3 0)

kept : (xs : List ℕ) (i j x : ℕ) → j < i → get_or (slice_set xs i x) j 0 ≡ get_or xs j 0
kept xs i j x before = get_or-set_other xs i j x 0 (λ e. omega arith)

-- the number there
pub word_is : (n : ℕ) (bytes word : List ℕ) → length bytes ≡ 16 → n < 2 ^ 32 → word ≡ to_le_bytes w32 n → last_word (with_word bytes word) ≡ n
word_is n bytes word sixteen small is =
    let a = get_or word 0 0 in
    let b = get_or word 1 0 in
    let c = get_or word 2 0 in
    let d = get_or word 3 0 in
    let one = slice_set bytes 12 a in
    let two = slice_set one 13 b in
    let three = slice_set two 14 c in
    let first : get_or (slice_set three 15 d) 12 0 ≡ a = kept three 15 12 d (omega arith) ∙ kept two 14 12 c (omega arith) ∙ kept one 13 12 b (omega arith) ∙ get_or-set_same bytes 12 a 0 (omega arith) in
    let second : get_or (slice_set three 15 d) 13 0 ≡ b = kept three 15 13 d (omega arith) ∙ kept two 14 13 c (omega arith) ∙ get_or-set_same one 13 b 0 (omega (arith, length-set bytes 12 a)) in
    let third : get_or (slice_set three 15 d) 14 0 ≡ c = kept three 15 14 d (omega arith) ∙ get_or-set_same two 14 c 0 (omega (arith, length-set bytes 12 a, length-set one 13 b)) in
    let fourth : get_or (slice_set three 15 d) 15 0 ≡ d = get_or-set_same three 15 d 0 (omega (arith, length-set bytes 12 a, length-set one 13 b, length-set two 14 c)) in
    let read : from_le_bytes w32 word ≡ n = ap (from_le_bytes w32) is ∙ from_le_bytes-to_le_bytes_4 n small in
    (λ i. from_le_bytes w32 (first i ∷ second i ∷ third i ∷ fourth i ∷ [])) ∙ read

-- the text in front of it
pub word_is_text : (n : ℕ) (bytes word : List ℕ) → length bytes ≡ 16 → n < 2 ^ 32 → word ≡ to_le_bytes w32 n → IsText (record { bytes = bytes; number = n }) →
    IsText (record { bytes = with_word bytes word; number = last_word (with_word bytes word) })
word_is_text n bytes word sixteen small is text = subst (λ m. IsText (record { bytes = with_word bytes word; number = m })) (sym (word_is n bytes word sixteen small is)) behind
  where
    behind : IsText (record { bytes = with_word bytes word; number = n })
    behind =
        let a = get_or word 0 0 in
        let b = get_or word 1 0 in
        let c = get_or word 2 0 in
        let d = get_or word 3 0 in
        let one = slice_set bytes 12 a in
        let two = slice_set one 13 b in
        let three = slice_set two 14 c in
        let k = length (spaced n) in
        let few : k ≤ 11 = text.few in
        record {
          text = take-set-le k three 15 d (omega arith) ∙ take-set-le k two 14 c (omega arith) ∙ take-set-le k one 13 b (omega arith) ∙ take-set-le k bytes 12 a (omega arith) ∙ text.text;
          count = kept three 15 11 d (omega arith) ∙ kept two 14 11 c (omega arith) ∙ kept one 13 11 b (omega arith) ∙ kept bytes 12 11 a (omega arith) ∙ text.count;
          few = few;
        }

-- no digits before the last one
pub front_of_none : (bytes : List ℕ) → length bytes ≡ 32 → IsFront (record { bytes = bytes; len = 0; tens = 0 })
front_of_none bytes wide = record { text = λ digit within small. one digit within; few = omega arith; wide = wide }
  where
    one : (digit : ℕ) → digit < 10 → decimal (10 * 0 + digit) ≡ (48 + digit) ∷ []
    one digit within = let e : 10 * 0 + digit ≡ digit = omega arith in rw e (decimal_digit digit within)

-- some digits before it
pub front_made : (start tens : ℕ) (written rest new : List ℕ) → 0 < tens → 10 * tens < 2 ^ 64 → start + length (decimal tens) ≡ 20 → length written ≡ 52 → drop start written ≡ decimal tens ++ rest → new ≡ take 32 (drop start written) →
    IsFront (record { bytes = new; len = 20 - start; tens = tens })
front_made start tens written rest new some small e long w copied =
    let few : length (decimal tens) ≤ 19 = length-decimal-le 19 tens (omega arith) (omega arith) (omega arith) in
    let len : 20 - start ≡ length (decimal tens) = omega arith in
    let front : take (20 - start) new ≡ decimal tens =
    ap (take (20 - start)) copied ∙ take-take (20 - start) 32 (drop start written) (omega arith) ∙ ap (take (20 - start)) w ∙ ap (λ m. take m (decimal tens ++ rest)) len ∙ take-append_seam (decimal tens) rest
    in
    record {
      text = λ digit within fits. step digit within fits ∙ ap (λ ds. ds ++ (48 + digit) ∷ []) (sym front);
      few = omega arith;
      wide = ap length copied ∙ length-take-le 32 (drop start written) (omega (arith, length-drop start written));
    }
  where
    step : (digit : ℕ) → digit < 10 → 10 * tens + digit < 2 ^ 64 → decimal (10 * tens + digit) ≡ decimal tens ++ (48 + digit) ∷ []
    step digit within fits =
        let front : (10 * tens + digit) / 10 ≡ tens = omega arith in
        let last : (10 * tens + digit) % 10 ≡ digit = omega arith in
        decimal_step (10 * tens + digit) (omega arith) fits ∙ (λ i. decimal (front i) ++ (48 + last i) ∷ [])

-- the number of a text among others
number_at : (xs : List NumberText) (i : ℕ) (t : NumberText) → i < length xs → (get_or xs i t).number ≡ slice_index (map (λ t. t.number) xs) i
number_at xs i t within = sym (get_or-map (λ t. t.number) xs i t 0 within)

-- one line more of several
one_more : (n m : ℕ) (t : List ℕ) (ts : List (List ℕ)) (here there whole : List ℕ) → m ≡ n + 1 → there ≡ here ++ ele_line (n, t) → here ++ ele_lines n (t ∷ ts) ≡ whole → there ++ ele_lines m ts ≡ whole
one_more n m t ts here there whole next put left = (λ i. put i ++ ele_lines (next i) ts) ∙ append_assoc here (ele_line (n, t)) (ele_lines (n + 1) ts) ∙ left

-- six lines one after another
six_lines : (m a b c d e f : ℕ) (s t u v w x p q r k l o : List ℕ) → a ≡ m → b ≡ a + 1 → c ≡ b + 1 → d ≡ c + 1 → e ≡ d + 1 → f ≡ e + 1 → p ≡ ele_line (a, s) → q ≡ p ++ ele_line (b, t) → r ≡ q ++ ele_line (c, u) →
    k ≡ r ++ ele_line (d, v) → l ≡ k ++ ele_line (e, w) → o ≡ l ++ ele_line (f, x) → o ≡ ele_lines m (s ∷ t ∷ u ∷ v ∷ w ∷ x ∷ [])
six_lines m a b c d e f s t u v w x p q r k l o first eb ec ed ee ef ep eq er ek el eo =
    let whole = ele_lines a (s ∷ t ∷ u ∷ v ∷ w ∷ x ∷ []) in
    let one : p ++ ele_lines b (t ∷ u ∷ v ∷ w ∷ x ∷ []) ≡ whole = one_more a b s (t ∷ u ∷ v ∷ w ∷ x ∷ []) [] p whole eb ep refl in
    let two : q ++ ele_lines c (u ∷ v ∷ w ∷ x ∷ []) ≡ whole = one_more b c t (u ∷ v ∷ w ∷ x ∷ []) p q whole ec eq one in
    let three : r ++ ele_lines d (v ∷ w ∷ x ∷ []) ≡ whole = one_more c d u (v ∷ w ∷ x ∷ []) q r whole ed er two in
    let four : k ++ ele_lines e (w ∷ x ∷ []) ≡ whole = one_more d e v (w ∷ x ∷ []) r k whole ee ek three in
    let five : l ++ ele_lines f (x ∷ []) ≡ whole = one_more e f w (x ∷ []) k l whole ef el four in
    let six : o ++ ele_lines (f + 1) [] ≡ whole = one_more f (f + 1) x [] l o whole refl eo five in
    sym (append-nil o) ∙ six ∙ ap (λ (n : ℕ). ele_lines n (s ∷ t ∷ u ∷ v ∷ w ∷ x ∷ [])) first

-- the lines of six tetrahedra round a vertex
pub star_made : (number n0 n1 n2 n3 n4 n5 own : ℕ) (others : List NumberText) (x0 x1 x2 x3 x4 x5 x6 : NumberText) (l0 l1 l2 l3 l4 l5 : List ℕ) → length others ≡ 7 → n0 ≡ number → n1 ≡ n0 + 1 → n2 ≡ n1 + 1 → n3 ≡ n2 + 1 → n4 ≡ n3 + 1 → n5 ≡ n4 + 1 →
    l0 ≡ ele_line (n0, own ∷ (get_or others 0 x0).number ∷ (get_or others 5 x5).number ∷ (get_or others 3 x3).number ∷ []) →
    l1 ≡ l0 ++ ele_line (n1, own ∷ (get_or others 1 x1).number ∷ (get_or others 4 x4).number ∷ (get_or others 5 x5).number ∷ []) →
    l2 ≡ l1 ++ ele_line (n2, own ∷ (get_or others 2 x2).number ∷ (get_or others 3 x3).number ∷ (get_or others 6 x6).number ∷ []) →
    l3 ≡ l2 ++ ele_line (n3, own ∷ (get_or others 2 x2).number ∷ (get_or others 6 x6).number ∷ (get_or others 4 x4).number ∷ []) →
    l4 ≡ l3 ++ ele_line (n4, own ∷ (get_or others 3 x3).number ∷ (get_or others 5 x5).number ∷ (get_or others 6 x6).number ∷ []) →
    l5 ≡ l4 ++ ele_line (n5, own ∷ (get_or others 4 x4).number ∷ (get_or others 6 x6).number ∷ (get_or others 5 x5).number ∷ []) →
    l5 ≡ ele_lines number (star_tets own (map (λ t. t.number) others))
star_made number n0 n1 n2 n3 n4 n5 own others x0 x1 x2 x3 x4 x5 x6 l0 l1 l2 l3 l4 l5 seven m0 m1 m2 m3 m4 m5 p0 p1 p2 p3 p4 p5 =
    let e0 : (get_or others 0 x0).number ≡ slice_index (map (λ t. t.number) others) 0 = number_at others 0 x0 (omega arith) in
    let e1 : (get_or others 1 x1).number ≡ slice_index (map (λ t. t.number) others) 1 = number_at others 1 x1 (omega arith) in
    let e2 : (get_or others 2 x2).number ≡ slice_index (map (λ t. t.number) others) 2 = number_at others 2 x2 (omega arith) in
    let e3 : (get_or others 3 x3).number ≡ slice_index (map (λ t. t.number) others) 3 = number_at others 3 x3 (omega arith) in
    let e4 : (get_or others 4 x4).number ≡ slice_index (map (λ t. t.number) others) 4 = number_at others 4 x4 (omega arith) in
    let e5 : (get_or others 5 x5).number ≡ slice_index (map (λ t. t.number) others) 5 = number_at others 5 x5 (omega arith) in
    let e6 : (get_or others 6 x6).number ≡ slice_index (map (λ t. t.number) others) 6 = number_at others 6 x6 (omega arith) in
    six_lines number n0 n1 n2 n3 n4 n5 (own ∷ (get_or others 0 x0).number ∷ (get_or others 5 x5).number ∷ (get_or others 3 x3).number ∷ []) (own ∷ (get_or others 1 x1).number ∷ (get_or others 4 x4).number ∷ (get_or others 5 x5).number ∷ []) (own ∷ (get_or others 2 x2).number ∷ (get_or others 3 x3).number ∷ (get_or others 6 x6).number ∷ []) (own ∷ (get_or others 2 x2).number ∷ (get_or others 6 x6).number ∷ (get_or others 4 x4).number ∷ []) (own ∷ (get_or others 3 x3).number ∷ (get_or others 5 x5).number ∷ (get_or others 6 x6).number ∷ []) (own ∷ (get_or others 4 x4).number ∷ (get_or others 6 x6).number ∷ (get_or others 5 x5).number ∷ []) l0 l1 l2 l3 l4 l5 m0 m1 m2 m3 m4 m5 p0 p1 p2 p3 p4 p5
    ∙ (λ i. ele_lines number (star_tets own (e0 i ∷ e1 i ∷ e2 i ∷ e3 i ∷ e4 i ∷ e5 i ∷ e6 i ∷ [])))

-- what stands in a text and in the buffer, and the lines that are still to come
pub lines_left : (number first n : ℕ) (tets : List (List ℕ)) (out whole here there : List ℕ) → n < length tets → there ≡ here ++ ele_line (number + n, renumbered first (get_or tets n [])) →
    (out ++ here) ++ ele_lines (number + n) (map (renumbered first) (drop n tets)) ≡ whole → (out ++ there) ++ ele_lines (number + (n + 1)) (map (renumbered first) (drop (n + 1) tets)) ≡ whole
lines_left number first n tets out whole here there within put left =
    let one = ele_line (number + n, renumbered first (get_or tets n [])) in
    let others = ele_lines (number + n + 1) (map (renumbered first) (drop (n + 1) tets)) in
    let further : number + (n + 1) ≡ number + n + 1 = omega arith in
    let next : suc n ≡ n + 1 = omega arith in
    let rest : ele_lines (number + n) (map (renumbered first) (drop n tets)) ≡ one ++ others =
    ap (λ ts. ele_lines (number + n) (map (renumbered first) ts)) (drop-cons tets n [] within) ∙ ap (λ m. one ++ ele_lines (number + n + 1) (map (renumbered first) (drop m tets))) next
    in
    ap (λ m. (out ++ there) ++ ele_lines m (map (renumbered first) (drop (n + 1) tets))) further
    ∙ ap (λ t. (out ++ t) ++ others) put
    ∙ ap (λ t. t ++ others) (sym (append_assoc out here one))
    ∙ append_assoc (out ++ here) one others
    ∙ ap (λ t. (out ++ here) ++ t) (sym rest)
    ∙ left
