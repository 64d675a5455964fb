-- Names of named words, and the one setting that a word reads as.
use Rattle.std.proofs.Common.{◌≡◌, inl, inr, ℕ, ℤ, pos, ◌<◌, ◌-◌, ◌^◌, List, [], ◌∷◌, ◌++◌, length, drop, codes, ◌+◌, slice_index_or, true, Option, Some, refl, ap, sym, ◌∙◌, subst, arith}
use Rattle.std.specs.Prelude.{nat_eq, find}
use Rattle.std.specs.List.{AllZip, starts_with}
use Rattle.std.proofs.lemmas.Bool.{eq-eqb, eqb-true, cases_lt}
use Rattle.std.proofs.lemmas.Fmt.{decimal_injective, decimal_digit}
use Rattle.definitions.specs.declared.Place.{Place}
use Rattle.definitions.specs.Places.{place}
use Rattle.command_line.specs.declared.Name.{Name}
use Rattle.command_line.specs.declared.Name.TheVariants.{Level, Below, Step, Long, Short, Workers, Slab, First, Units, Faces, At, Size, Seed}
use Rattle.command_line.specs.Grammar.{Setting, Value, Number, Point, ReadsSetting, IsNumber, IsUnits, IsNumeric, IsCoordinate, IsPoint, IsValue, name_number, same_name, name_text}
use Rattle.command_words.proofs.Commas.{point_once}
use Rattle.command_words.proofs.Decimals.{level_once}
use Rattle.command_words.proofs.TextEnds.{other_first}

abbrev pub all_names : List Name
all_names = Level ∷ Below ∷ Step ∷ Long ∷ Short ∷ Workers ∷ Slab ∷ First ∷ Units ∷ Faces ∷ At ∷ Size ∷ Seed ∷ []

-- a name by its number
pub name_at : (n other : Name) → slice_index_or all_names (name_number n) other ≡ n
name_at Level other = refl
name_at Below other = refl
name_at Step other = refl
name_at Long other = refl
name_at Short other = refl
name_at Workers other = refl
name_at Slab other = refl
name_at First other = refl
name_at Units other = refl
name_at Faces other = refl
name_at At other = refl
name_at Size other = refl
name_at Seed other = refl

pub name_below : (n : Name) → name_number n < 13
name_below Level = omega arith
name_below Below = omega arith
name_below Step = omega arith
name_below Long = omega arith
name_below Short = omega arith
name_below Workers = omega arith
name_below Slab = omega arith
name_below First = omega arith
name_below Units = omega arith
name_below Faces = omega arith
name_below At = omega arith
name_below Size = omega arith
name_below Seed = omega arith

same_some : {A : Type 0} (m n : A) → Some m ≡ Some n → m ≡ n
same_some m n e = cc

pub same_is : (m n : Name) → same_name m n ≡ true → m ≡ n
same_is m n h = sym (name_at m Level) ∙ ap (λ (k : ℕ). slice_index_or all_names k Level) (eqb-true (name_number m) (name_number n) h) ∙ name_at n Level

pub same_self : (n : Name) → same_name n n ≡ true
same_self n = eq-eqb (name_number n) (name_number n) refl

-- the name at the start of a word, and what stands behind it
abbrev name_of : List ℕ → Option Name
name_of w = find (λ n. starts_with nat_eq w (name_text n)) all_names

name_reads : (n : Name) (text : List ℕ) → name_of (name_text n ++ text) ≡ Some n
name_reads Level text = refl
name_reads Below text = refl
name_reads Step text = refl
name_reads Long text = refl
name_reads Short text = refl
name_reads Workers text = refl
name_reads Slab text = refl
name_reads First text = refl
name_reads Units text = refl
name_reads Faces text = refl
name_reads At text = refl
name_reads Size text = refl
name_reads Seed text = refl

tail_reads : (n : Name) (text : List ℕ) → drop (length (name_text n)) (name_text n ++ text) ≡ text
tail_reads Level text = refl
tail_reads Below text = refl
tail_reads Step text = refl
tail_reads Long text = refl
tail_reads Short text = refl
tail_reads Workers text = refl
tail_reads Slab text = refl
tail_reads First text = refl
tail_reads Units text = refl
tail_reads Faces text = refl
tail_reads At text = refl
tail_reads Size text = refl
tail_reads Seed text = refl

-- a text is one value at most
number_once : (low high : ℕ) (text : List ℕ) (a b : ℤ) → high < 2 ^ 64 → IsNumber low high text a → IsNumber low high text b → a ≡ b
number_once low high text a b h (n, l, u, e, f) (m, k, v, g, i) = f ∙ ap pos (decimal_injective n m (omega arith) (omega arith) (sym e ∙ g)) ∙ sym i

two_units : (text : List ℕ) → text ≡ codes "index" → text ≡ codes "world" → ⊥
two_units text e f = other_first (codes "index") (codes "world") 105 119 refl refl (omega arith) (sym e ∙ f)

units_once : (text : List ℕ) (a b : ℤ) → IsUnits text a → IsUnits text b → a ≡ b
units_once text a b (inl (e, f)) (inl (g, h)) = f ∙ sym h
units_once text a b (inl (e, f)) (inr (g, h)) = absurd (two_units text e g)
units_once text a b (inr (e, f)) (inl (g, h)) = absurd (two_units text g e)
units_once text a b (inr (e, f)) (inr (g, h)) = f ∙ sym h

numeric_once : (n : Name) (text : List ℕ) (a b : ℤ) → IsNumeric n text a → IsNumeric n text b → a ≡ b
numeric_once Level text a b p q = level_once text a b p q
numeric_once Below text a b p q = p.1 ∙ sym q.1
numeric_once Step text a b p q = number_once 1 64 text a b (omega arith) p q
numeric_once Long text a b p q = number_once 0 1023 text a b (omega arith) p q
numeric_once Short text a b p q = number_once 0 2047 text a b (omega arith) p q
numeric_once Workers text a b p q = number_once 1 64 text a b (omega arith) p q
numeric_once Slab text a b p q = number_once 1 64 text a b (omega arith) p q
numeric_once First text a b p q = number_once 0 1 text a b (omega arith) p q
numeric_once Units text a b p q = units_once text a b p q
numeric_once Faces text a b p q = p.1 ∙ sym q.1
numeric_once At text a b p q = absurd p
numeric_once Size text a b p q = number_once 1 128 text a b (omega arith) p q
numeric_once Seed text a b p q = number_once 0 (2 ^ 64 - 1) text a b (omega arith) p q

-- a number or a point, by the name
pub number_of : (n : Name) (text : List ℕ) (value : ℤ) → IsValue n text (Number value) → IsNumeric n text value
number_of Level text value h = h
number_of Below text value h = h
number_of Step text value h = h
number_of Long text value h = h
number_of Short text value h = h
number_of Workers text value h = h
number_of Slab text value h = h
number_of First text value h = h
number_of Units text value h = h
number_of Faces text value h = h
number_of At text value h = h
number_of Size text value h = h
number_of Seed text value h = h

pub point_of : (n : Name) (text : List ℕ) (p : Place) → IsValue n text (Point p) → (n ≡ At) × IsPoint text p
point_of Level text p h = absurd h
point_of Below text p h = absurd h
point_of Step text p h = absurd h
point_of Long text p h = absurd h
point_of Short text p h = absurd h
point_of Workers text p h = absurd h
point_of Slab text p h = absurd h
point_of First text p h = absurd h
point_of Units text p h = absurd h
point_of Faces text p h = absurd h
point_of At text p h = (refl, h)
point_of Size text p h = absurd h
point_of Seed text p h = absurd h

not_both : (n : Name) (text : List ℕ) (value : ℤ) (p : Place) → IsValue n text (Number value) → IsValue n text (Point p) → ⊥
not_both n text value p h k = subst (λ (m : Name). IsNumeric m text value) (point_of n text p k).0 (number_of n text value h)

value_once : (n : Name) (text : List ℕ) (a b : Value) → IsValue n text a → IsValue n text b → a ≡ b
value_once n text (Number a) (Number b) p q = ap Number (numeric_once n text a b (number_of n text a p) (number_of n text b q))
value_once n text (Number a) (Point b) p q = absurd (not_both n text a b p q)
value_once n text (Point a) (Number b) p q = absurd (not_both n text b a q p)
value_once n text (Point a) (Point b) p q = ap Point (point_once text a b (point_of n text a p).1 (point_of n text b q).1)

-- what a word that begins with a name reads as
pub record IsNamed (n : Name) (text : List ℕ) (s : Setting) : Type 0 where
  pub name_is : s.name ≡ n
  pub value_is : IsValue n text s.value

named : (n : Name) (w text : List ℕ) (s : Setting) → w ≡ name_text n ++ text → ReadsSetting w s → IsNamed n text s
named n w text s e r =
    let f : s.name ≡ n = same_some s.name n (sym (name_reads s.name r.text) ∙ ap name_of (sym r.word_is ∙ e) ∙ name_reads n text) in
    let g : name_text n ++ r.text ≡ name_text n ++ text = subst (λ (m : Name). name_text m ++ r.text ≡ name_text n ++ text) f (sym r.word_is ∙ e) in
    let t : r.text ≡ text = sym (tail_reads n r.text) ∙ ap (drop (length (name_text n))) g ∙ tail_reads n text in
    record {
      name_is = f;
      value_is = subst (λ (u : List ℕ). IsValue n u s.value) t (subst (λ (m : Name). IsValue m r.text s.value) f r.value_is);
    }

pub setting_once : (w : List ℕ) (s t : Setting) → ReadsSetting w s → ReadsSetting w t → s ≡ t
setting_once w s t r q =
    let h = named t.name w q.text s q.word_is r in
    let v = value_once t.name q.text s.value t.value h.value_is q.value_is in
    λ i. record { name = h.name_is i; value = v i }

pub settings_once : (ws : List (List ℕ)) (ss ts : List Setting) → AllZip ReadsSetting ws ss → AllZip ReadsSetting ws ts → ss ≡ ts
settings_once [] [] [] r q = refl
settings_once [] (s ∷ ss) ts r q = absurd r
settings_once [] [] (t ∷ ts) r q = absurd q
settings_once (w ∷ ws) [] ts r q = absurd r
settings_once (w ∷ ws) (s ∷ ss) [] r q = absurd q
settings_once (w ∷ ws) (s ∷ ss) (t ∷ ts) r q =
    let e = setting_once w s t r.0 q.0 in
    let f = settings_once ws ss ts r.1 q.1 in
    λ i. e i ∷ f i

-- what is found of a word's value is found of the word
pub setting_found : (n : Name) (w text : List ℕ) (o : Option Setting) → w ≡ name_text n ++ text →
    ((value : ℤ) → IsValue n text (Number value) → o ≡ Some (record { name = n; value = Number value })) →
    ((p : Place) → IsValue n text (Point p) → o ≡ Some (record { name = n; value = Point p })) → (s : Setting) → ReadsSetting w s → o ≡ Some s
setting_found n w text o e number point s r =
    let h = named n w text s e r in
    found_by s.value h.value_is ∙ (λ i. Some (record { name = sym h.name_is i; value = s.value }))
  where
    found_by : (value : Value) → IsValue n text value → o ≡ Some (record { name = n; value = value })
    found_by (Number value) k = number value k
    found_by (Point p) k = point p k

-- a word that begins with none of the names up to a number
abbrev pub IsUnnamed : List ℕ → ℕ → Type 0
IsUnnamed word count = (n : Name) → name_number n < count → (text : List ℕ) → word ≡ name_text n ++ text → ⊥

pub unnamed_more : (word : List ℕ) (i : ℕ) (other : Name) → IsUnnamed word i → ((text : List ℕ) → word ≡ name_text (slice_index_or all_names i other) ++ text → ⊥) → IsUnnamed word (i + 1)
unnamed_more word i other before here n lt text e =
    elim (cases_lt (name_number n) i) [
      | inl less ↦ before n less text e
      | inr le ↦
          let same : name_number n ≡ i = omega arith in
          let is : n ≡ slice_index_or all_names i other = sym (name_at n other) ∙ ap (λ (k : ℕ). slice_index_or all_names k other) same in
          here text (e ∙ ap (λ (m : Name). name_text m ++ text) is)
    ]

-- a word for each name
abbrev pub sample_text : Name → List ℕ
sample_text Level = codes "0"
sample_text Below = codes "yes"
sample_text Step = codes "1"
sample_text Long = codes "1"
sample_text Short = codes "1"
sample_text Workers = codes "1"
sample_text Slab = codes "1"
sample_text First = codes "1"
sample_text Units = codes "world"
sample_text Faces = codes "yes"
sample_text At = codes "0,0,0"
sample_text Size = codes "1"
sample_text Seed = codes "1"

abbrev pub sample_value : Name → Value
sample_value Level = Number (pos 0)
sample_value At = Point (place (pos 0) (pos 0) (pos 0))
sample_value n = Number (pos 1)

zero_is : IsCoordinate (codes "0") (pos 0)
zero_is = (0, omega arith, inl (sym (decimal_digit 0 (omega arith)), refl))

sample_is : (n : Name) → IsValue n (sample_text n) (sample_value n)
sample_is Level = (0, inl ((0, omega arith, inl (sym (decimal_digit 0 (omega arith)), refl)), refl))
sample_is Below = (refl, refl)
sample_is Step = (1, omega arith, omega arith, sym (decimal_digit 1 (omega arith)), refl)
sample_is Long = (1, omega arith, omega arith, sym (decimal_digit 1 (omega arith)), refl)
sample_is Short = (1, omega arith, omega arith, sym (decimal_digit 1 (omega arith)), refl)
sample_is Workers = (1, omega arith, omega arith, sym (decimal_digit 1 (omega arith)), refl)
sample_is Slab = (1, omega arith, omega arith, sym (decimal_digit 1 (omega arith)), refl)
sample_is First = (1, omega arith, omega arith, sym (decimal_digit 1 (omega arith)), refl)
sample_is Units = inr (refl, refl)
sample_is Faces = (refl, refl)
sample_is At = (codes "0", codes "0", codes "0", refl, zero_is, zero_is, zero_is)
sample_is Size = (1, omega arith, omega arith, sym (decimal_digit 1 (omega arith)), refl)
sample_is Seed = (1, omega arith, omega arith, sym (decimal_digit 1 (omega arith)), refl)

pub sample_reads : (n : Name) → ReadsSetting (name_text n ++ sample_text n) (record { name = n; value = sample_value n })
sample_reads n = record { text = sample_text n; word_is = refl; value_is = sample_is n }
