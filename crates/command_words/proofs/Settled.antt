-- Named words that are taken one after another: what was seen, and when no command goes on.
use Rattle.std.proofs.Common.{◌≡◌, ℕ, ℤ, pos, ◌+◌, ◌-◌, ◌<◌, ◌≤◌, List, [], ◌∷◌, ◌++◌, length, take, drop, append_assoc, append-nil, Bool, true, false, Option, Some, None, refl, ap, sym, ◌∙◌, subst, arith, suc, slice_index_or}
use Rattle.std.specs.Prelude.{count_by, cond, find, option_map, is_some, unwrap_or, ◌&&◌, ◌||◌, if◌then◌else◌}
use Rattle.std.specs.List.{AllZip, list_all}
use Rattle.std.specs.Option.{option_or}
use Rattle.std.proofs.Math.Seq.{take-suc}
use Rattle.std.proofs.lemmas.List.{get_or-drop, length-drop, take_all}
use Rattle.std.proofs.lemmas.List.Sums.{sum_by-cons, sum_by-append}
use Rattle.std.proofs.lemmas.List.Folds.{find-append, list_any-append, list_all-append}
use Rattle.command_line.specs.Grammar.{Setting, Value, ReadsSetting, IsNumeric, IsValue, IsNumber, value_of, is_of, is_set, same_name, name_text, required}
use Rattle.command_line.specs.declared.Name.{Name}
use Rattle.command_line.specs.declared.Verb.{Verb}
use Rattle.command_line.specs.declared.Verb.TheVariants.{Count, Mesh, Demo, Audit, Probe, Stream}
use Rattle.command_words.specs.declared.settings.Seen.{Seen}
use Rattle.command_words.specs.Settings.{held, said, natural, is_known, IsSettled, IsTaken, IsTakenAs, IsStuck, IsStop}
use Rattle.command_words.proofs.NamedWords.{same_is, same_self, settings_once, number_of, sample_text, sample_value, sample_reads}

-- lists that go with one another, place by place
zip_push : (ws : List (List ℕ)) (ss : List Setting) (w : List ℕ) (s : Setting) → AllZip ReadsSetting ws ss → ReadsSetting w s → AllZip ReadsSetting (ws ++ w ∷ []) (ss ++ s ∷ [])
zip_push [] [] w s r q = (q, tt)
zip_push [] (t ∷ ss) w s r q = absurd r
zip_push (v ∷ ws) [] w s r q = absurd r
zip_push (v ∷ ws) (t ∷ ss) w s r q = (r.0, zip_push ws ss w s r.1 q)

record IsSplit (ws vs : List (List ℕ)) (ss : List Setting) : Type 0 where
  front : List Setting
  back : List Setting
  parts : ss ≡ front ++ back
  front_are : AllZip ReadsSetting ws front
  back_are : AllZip ReadsSetting vs back

zip_split : (ws vs : List (List ℕ)) (ss : List Setting) → AllZip ReadsSetting (ws ++ vs) ss → IsSplit ws vs ss
zip_split [] vs ss r = record { front = []; back = ss; parts = refl; front_are = tt; back_are = r }
zip_split (w ∷ ws) vs [] r = absurd r
zip_split (w ∷ ws) vs (s ∷ ss) r =
    let h = zip_split ws vs ss r.1 in
    record { front = s ∷ h.front; back = h.back; parts = ap (λ (u : List Setting). s ∷ u) h.parts; front_are = (r.0, h.front_are); back_are = h.back_are }

-- tests
pub both : (a b : Bool) → a ≡ true → b ≡ true → (a && b) ≡ true
both a b p q = rw (p, q) refl

pub left_of : (a b : Bool) → (a && b) ≡ true → a ≡ true
left_of true b h = refl
left_of false b h = h

pub right_of : (a b : Bool) → (a && b) ≡ true → b ≡ true
right_of true b h = h
right_of false b h = let t : false ≡ true = h in cc

or_left : (a b : Bool) → a ≡ true → (a || b) ≡ true
or_left a b h = rw h refl

or_right : (a b : Bool) → b ≡ true → (a || b) ≡ true
or_right true b h = refl
or_right false b h = h

-- what is found is what is counted
count_cons : (p : Setting → Bool) (s : Setting) (ss : List Setting) → count_by p (s ∷ ss) ≡ cond (p s) 1 0 + count_by p ss
count_cons p s ss = sum_by-cons (λ x. cond (p x) 1 0) s ss

count_append : (p : Setting → Bool) (ss ts : List Setting) → count_by p (ss ++ ts) ≡ count_by p ss + count_by p ts
count_append p ss ts = sum_by-append (λ x. cond (p x) 1 0) ss ts

abbrev value_in : Option Setting → Option Value
value_in o = option_map (λ (s : Setting). s.value) o

none_step : (b : Bool) (s : Setting) (o : Option Setting) (k c : ℕ) → c ≡ cond b 1 0 + k → (value_in o ≡ None → k ≡ 0) → value_in (cond b (Some s) o) ≡ None → c ≡ 0
none_step true s o k c e f h = let t : Some s.value ≡ None = h in cc
none_step false s o k c e f h = omega (arith, e, f h)

none_counted : (n : Name) (ss : List Setting) → value_of ss n ≡ None → count_by (is_of n) ss ≡ 0
none_counted n [] h = refl
none_counted n (s ∷ ss) h = none_step (is_of n s) s (find (is_of n) ss) (count_by (is_of n) ss) (count_by (is_of n) (s ∷ ss)) (count_cons (is_of n) s ss) (none_counted n ss) h

zero_step : (b : Bool) (s : Setting) (o : Option Setting) (k c : ℕ) → c ≡ cond b 1 0 + k → (k ≡ 0 → value_in o ≡ None) → c ≡ 0 → value_in (cond b (Some s) o) ≡ None
zero_step true s o k c e f h = absurd (omega (arith, e, h))
zero_step false s o k c e f h = f (omega (arith, e, h))

pub none_of : (n : Name) (ss : List Setting) → count_by (is_of n) ss ≡ 0 → value_of ss n ≡ None
none_of n [] h = refl
none_of n (s ∷ ss) h = zero_step (is_of n s) s (find (is_of n) ss) (count_by (is_of n) ss) (count_by (is_of n) (s ∷ ss)) (count_cons (is_of n) s ss) (none_of n ss) h

set_step : (b : Bool) (s : Setting) (o : Option Setting) (c : Bool) → c ≡ is_some (value_in o) → (b || c) ≡ is_some (value_in (cond b (Some s) o))
set_step true s o c e = refl
set_step false s o c e = e

pub set_is : (n : Name) (ss : List Setting) → is_set ss n ≡ is_some (value_of ss n)
set_is n [] = refl
set_is n (s ∷ ss) = set_step (is_of n s) s (find (is_of n) ss) (is_set ss n) (set_is n ss)

-- one setting more
map_or : (a b : Option Setting) → value_in (option_or a b) ≡ option_or (value_in a) (value_in b)
map_or None b = refl
map_or (Some s) b = refl

said_is : (b : Bool) (s : Setting) → value_in (cond b (Some s) None) ≡ (if b then Some s.value else None)
said_is true s = refl
said_is false s = refl

value_more : (n : Name) (ss : List Setting) (s : Setting) → value_of (ss ++ s ∷ []) n ≡ option_or (value_of ss n) (said s n)
value_more n ss s =
    ap value_in (find-append (is_of n) ss (s ∷ [])) ∙ map_or (find (is_of n) ss) (find (is_of n) (s ∷ [])) ∙ ap (option_or (value_of ss n)) (said_is (same_name n s.name) s)

once_by : (b : Bool) (k c : ℕ) → c ≡ k + (cond b 1 0 + 0) → k ≤ 1 → (b ≡ true → k ≡ 0) → c ≤ 1
once_by true k c e h z = omega (arith, e, z refl)
once_by false k c e h z = omega (arith, e, h)

once_more : (n : Name) (ss : List Setting) (s : Setting) → count_by (is_of n) ss ≤ 1 → value_of ss s.name ≡ None → count_by (is_of n) (ss ++ s ∷ []) ≤ 1
once_more n ss s h z =
    once_by (same_name n s.name) (count_by (is_of n) ss) (count_by (is_of n) (ss ++ s ∷ []))
    (count_append (is_of n) ss (s ∷ []) ∙ ap (λ (k : ℕ). count_by (is_of n) ss + k) (count_cons (is_of n) s [])) h
    (λ t. subst (λ (m : Name). count_by (is_of m) ss ≡ 0) (sym (same_is n s.name t)) (none_counted s.name ss z))

known_more : (v : Verb) (ss : List Setting) (s : Setting) → list_all (λ t. is_known v t.name) ss ≡ true → is_known v s.name ≡ true → list_all (λ t. is_known v t.name) (ss ++ s ∷ []) ≡ true
known_more v ss s h k =
    list_all-append (λ t. is_known v t.name) ss (s ∷ []) ∙ both (list_all (λ t. is_known v t.name) ss) (is_known v s.name && true) h (both (is_known v s.name) true k refl)

pub settled_more : (v : Verb) (ws : List (List ℕ)) (ss : List Setting) (w : List ℕ) (s : Setting) → IsSettled v ws ss → ReadsSetting w s → is_known v s.name ≡ true → value_of ss s.name ≡ None → IsSettled v (ws ++ w ∷ []) (ss ++ s ∷ [])
settled_more v ws ss w s h r k z = record {
  named_are = zip_push ws ss w s h.named_are r;
  once = λ n. once_more n ss s (h.once n) z;
  known = known_more v ss s h.known k;
}

pub settled_none : (v : Verb) → IsSettled v [] []
settled_none v = record { named_are = tt; once = λ n. omega arith; known = refl }

-- a setting whose name was not set before comes first or last
or_swap : (b : Bool) (value : Value) (o : Option Value) → (b ≡ true → o ≡ None) → option_or (if b then Some value else None) o ≡ option_or o (if b then Some value else None)
or_swap true value o h = rw (h refl) refl
or_swap false value None h = refl
or_swap false value (Some z) h = refl

pub said_first : (seen : Seen) (s : Setting) (n : Name) → held seen s.name ≡ None → option_or (said s n) (held seen n) ≡ option_or (held seen n) (said s n)
said_first seen s n h = or_swap (same_name n s.name) s.value (held seen n) (λ t. ap (held seen) (same_is n s.name t) ∙ h)

pub unset_none : (o : Option Value) → is_some o ≡ false → o ≡ None
unset_none None h = refl
unset_none (Some z) h = let t : true ≡ false = h in cc

pub taken_none : (v : Verb) (seen : Seen) → ((n : Name) → held seen n ≡ None) → IsTaken v [] seen
taken_none v seen h = record { settings = []; settled = settled_none v; held_are = h }

pub taken_more : (v : Verb) (ws : List (List ℕ)) (seen next : Seen) (w : List ℕ) → IsTaken v ws seen → IsTakenAs v seen w next → IsTaken v (ws ++ w ∷ []) next
taken_more v ws seen next w t a = record {
  settings = t.settings ++ a.setting ∷ [];
  settled = settled_more v ws t.settings w a.setting t.settled a.word_reads a.known (sym (t.held_are a.setting.name) ∙ a.first);
  held_are = λ n. a.next_held n ∙ ap (λ (o : Option Value). option_or o (said a.setting n)) (t.held_are n) ∙ sym (value_more n t.settings a.setting);
}

-- Settings can go on until all that must be there are.
pub record IsFilled (v : Verb) (ws : List (List ℕ)) (names : List Name) : Type 0 where
  pub rest : List (List ℕ)
  pub settings : List Setting
  pub settled : IsSettled v (ws ++ rest) settings
  pub there : list_all (is_set settings) names ≡ true

still_set : (ss ts : List Setting) (names : List Name) → list_all (is_set ss) names ≡ true → list_all (is_set (ss ++ ts)) names ≡ true
still_set ss ts [] h = refl
still_set ss ts (n ∷ names) h =
    both (is_set (ss ++ ts) n) (list_all (is_set (ss ++ ts)) names)
    (list_any-append (is_of n) ss ts ∙ or_left (is_set ss n) (is_set ts n) (left_of (is_set ss n) (list_all (is_set ss) names) h))
    (still_set ss ts names (right_of (is_set ss n) (list_all (is_set ss) names) h))

newly_set : (ss : List Setting) (s : Setting) → is_set (ss ++ s ∷ []) s.name ≡ true
newly_set ss s = list_any-append (is_of s.name) ss (s ∷ []) ∙ or_right (is_set ss s.name) (same_name s.name s.name || false) (or_left (same_name s.name s.name) false (same_self s.name))

fill_by : (v : Verb) (ws : List (List ℕ)) (n : Name) (names : List Name) (b : Bool) (f : IsFilled v ws names) → is_known v n ≡ true → is_set f.settings n ≡ b → IsFilled v ws (n ∷ names)
fill_by v ws n names true f k e = record { rest = f.rest; settings = f.settings; settled = f.settled; there = both (is_set f.settings n) (list_all (is_set f.settings) names) e f.there }
fill_by v ws n names false f k e =
    let s : Setting = record { name = n; value = sample_value n } in
    let w : List ℕ = name_text n ++ sample_text n in
    let none : value_of f.settings n ≡ None = unset_none (value_of f.settings n) (sym (set_is n f.settings) ∙ e) in
    record {
      rest = f.rest ++ w ∷ [];
      settings = f.settings ++ s ∷ [];
      settled = subst (λ (u : List (List ℕ)). IsSettled v u (f.settings ++ s ∷ [])) (append_assoc ws f.rest (w ∷ [])) (settled_more v (ws ++ f.rest) f.settings w s f.settled (sample_reads n) k none);
      there = both (is_set (f.settings ++ s ∷ []) n) (list_all (is_set (f.settings ++ s ∷ [])) names) (newly_set f.settings s) (still_set f.settings (s ∷ []) names f.there);
    }

fill : (v : Verb) (ws : List (List ℕ)) (ss : List Setting) → IsSettled v ws ss → (names : List Name) → list_all (is_known v) names ≡ true → IsFilled v ws names
fill v ws ss h [] k = record { rest = []; settings = ss; settled = subst (λ (u : List (List ℕ)). IsSettled v u ss) (sym (append-nil ws)) h; there = refl }
fill v ws ss h (n ∷ names) k =
    let f = fill v ws ss h names (right_of (is_known v n) (list_all (is_known v) names) k) in
    fill_by v ws n names (is_set f.settings n) f (left_of (is_known v n) (list_all (is_known v) names) k) refl

required_known : (v : Verb) → list_all (is_known v) (required v) ≡ true
required_known Count = refl
required_known Mesh = refl
required_known Demo = refl
required_known Audit = refl
required_known Probe = refl
required_known Stream = refl

pub filled : (v : Verb) (ws : List (List ℕ)) (ss : List Setting) → IsSettled v ws ss → IsFilled v ws (required v)
filled v ws ss h = fill v ws ss h (required v) (required_known v)

-- With a word that is stuck no settings go on.
stuck_at : (v : Verb) (x : List ℕ) (back : List (List ℕ)) (seen : Seen) (held_by bs : List Setting) → ((n : Name) → held seen n ≡ value_of held_by n) → IsStuck v seen x → AllZip ReadsSetting (x ∷ back) bs → ((n : Name) → count_by (is_of n) (held_by ++ bs) ≤ 1) → list_all (λ t. is_known v t.name) (held_by ++ bs) ≡ true → ⊥
stuck_at v x back seen held_by [] held stuck zip once known = absurd zip
stuck_at v x back seen held_by (b ∷ bs) held stuck zip once known =
    let p = is_of b.name in
    let own : ◌≡◌ {A = ℕ} (cond (p b) 1 0) 1 = ap {B = ℕ} (λ (t : Bool). cond t 1 0) (same_self b.name) in
    let zero : count_by p held_by ≡ 0 = omega (arith, once b.name, count_append p held_by (b ∷ bs), count_cons p b bs, own) in
    let all : (list_all (λ t. is_known v t.name) held_by && list_all (λ t. is_known v t.name) (b ∷ bs)) ≡ true = sym (list_all-append (λ t. is_known v t.name) held_by (b ∷ bs)) ∙ known in
    let tail : list_all (λ t. is_known v t.name) (b ∷ bs) ≡ true = right_of (list_all (λ t. is_known v t.name) held_by) (list_all (λ t. is_known v t.name) (b ∷ bs)) all in
    stuck b zip.0 (left_of (is_known v b.name) (list_all (λ t. is_known v t.name) bs) tail) (held b.name ∙ none_of b.name held_by zero)

pub stuck_none : (v : Verb) (front : List (List ℕ)) (x : List ℕ) (back : List (List ℕ)) (seen : Seen) (ss : List Setting) → IsTaken v front seen → IsStuck v seen x → IsSettled v (front ++ x ∷ back) ss → ⊥
stuck_none v front x back seen ss t stuck h =
    let s = zip_split front (x ∷ back) ss h.named_are in
    let e : t.settings ≡ s.front = settings_once front t.settings s.front t.settled.named_are s.front_are in
    stuck_at v x back seen s.front s.back
    (λ n. t.held_are n ∙ ap (λ (u : List Setting). value_of u n) e) stuck s.back_are
    (λ n. subst (λ (u : List Setting). count_by (is_of n) u ≤ 1) s.parts (h.once n))
    (subst (λ (u : List Setting). list_all (λ t. is_known v t.name) u ≡ true) s.parts h.known)

-- what no command has is not set
set_not : (v : Verb) (n : Name) (s : Setting) (b : Bool) → (b ≡ true → n ≡ s.name) → is_known v n ≡ false → is_known v s.name ≡ true → b ≡ false
set_not v n s true same unknown known = let t : false ≡ true = sym unknown ∙ ap (is_known v) (same refl) ∙ known in cc
set_not v n s false same unknown known = refl

pub unknown_unset : (v : Verb) (n : Name) (ss : List Setting) → is_known v n ≡ false → list_all (λ t. is_known v t.name) ss ≡ true → is_set ss n ≡ false
unknown_unset v n [] unknown known = refl
unknown_unset v n (s ∷ ss) unknown known =
    let first = set_not v n s (same_name n s.name) (same_is n s.name) unknown (left_of (is_known v s.name) (list_all (λ t. is_known v t.name) ss) known) in
    rw first (unknown_unset v n ss unknown (right_of (is_known v s.name) (list_all (λ t. is_known v t.name) ss) known))

-- what a name is set to stands behind it in a word
pub record IsSaid (n : Name) (value : Value) : Type 0 where
  pub text : List ℕ
  pub value_is : IsValue n text value

said_step : (b : Bool) (n : Name) (value : Value) (s : Setting) (w : List ℕ) (o : Option Setting) → (b ≡ true → n ≡ s.name) → ReadsSetting w s → (value_in o ≡ Some value → IsSaid n value) → value_in (cond b (Some s) o) ≡ Some value → IsSaid n value
said_step true n value s w o f r more h =
    let e : s.value ≡ value = cc in
    record { text = r.text; value_is = subst (λ (m : Name). IsValue m r.text value) (sym (f refl)) (subst (λ (z : Value). IsValue s.name r.text z) e r.value_is) }
said_step false n value s w o f r more h = more h

pub said_in : (ws : List (List ℕ)) (ss : List Setting) (n : Name) (value : Value) → AllZip ReadsSetting ws ss → value_of ss n ≡ Some value → IsSaid n value
said_in [] [] n value r h = let t : None ≡ Some value = h in cc
said_in [] (s ∷ ss) n value r h = absurd r
said_in (w ∷ ws) [] n value r h = absurd r
said_in (w ∷ ws) (s ∷ ss) n value r h = said_step (is_of n s) n value s w (find (is_of n) ss) (same_is n s.name) r.0 (said_in ws ss n value r.1) h

-- The number that a name is set to, or its default, is within the name's limits.
pub number_between : (n : Name) (low high default : ℕ) (ws : List (List ℕ)) (ss : List Setting) (o : Option ℕ) → ((text : List ℕ) (value : ℤ) → IsNumeric n text value → IsNumber low high text value) → low ≤ default → default ≤ high → AllZip ReadsSetting ws ss → option_map natural o ≡ value_of ss n → (low ≤ unwrap_or o default) × (unwrap_or o default ≤ high)
number_between n low high default ws ss None limits l h zip e = (l, h)
number_between n low high default ws ss (Some k) limits l h zip e =
    let s = said_in ws ss n (natural k) zip (sym e) in
    let v = limits s.text (pos k) (number_of n s.text (pos k) s.value_is) in
    let same : k ≡ v.0 = cc (v.4) in
    (omega (arith, same, v.1), omega (arith, same, v.2))

-- words taken one after another, from a start on
abbrev from_start : List (List ℕ) → ℕ → ℕ → List (List ℕ)
from_start ws start i = take (i - start) (drop start ws)

item_from : (ws : List (List ℕ)) (start i : ℕ) → start ≤ i → slice_index_or (drop start ws) (i - start) [] ≡ slice_index_or ws i []
item_from ws start i le = get_or-drop start ws (i - start) [] ∙ ap (λ (k : ℕ). slice_index_or ws k []) (omega arith)

within_from : (ws : List (List ℕ)) (start i : ℕ) → start ≤ i → i < length ws → i - start < length (drop start ws)
within_from ws start i le lt = omega (arith, length-drop start ws)

from_more : (ws : List (List ℕ)) (start i : ℕ) → start ≤ i → i < length ws → from_start ws start i ++ slice_index_or ws i [] ∷ [] ≡ from_start ws start (i + 1)
from_more ws start i le lt =
    let k : suc (i - start) ≡ i + 1 - start = omega arith in
    ap (λ (w : List ℕ). from_start ws start i ++ w ∷ []) (sym (item_from ws start i le)) ∙ sym (take-suc (drop start ws) (i - start) [] (within_from ws start i le lt)) ∙ ap (λ (n : ℕ). take n (drop start ws)) k

pub from_none : (v : Verb) (ws : List (List ℕ)) (start : ℕ) (seen : Seen) → ((n : Name) → held seen n ≡ None) → IsTaken v (from_start ws start start) seen
from_none v ws start seen h =
    let z : 0 ≡ start - start = omega arith in
    subst (λ (n : ℕ). IsTaken v (take n (drop start ws)) seen) z (taken_none v seen h)

pub from_next : (v : Verb) (ws : List (List ℕ)) (start i : ℕ) (seen next : Seen) → start ≤ i → i < length ws → IsTaken v (from_start ws start i) seen → IsTakenAs v seen (slice_index_or ws i []) next → IsTaken v (from_start ws start (i + 1)) next
from_next v ws start i seen next le lt t a =
    subst (λ (u : List (List ℕ)). IsTaken v u next) (from_more ws start i le lt) (taken_more v (from_start ws start i) seen next (slice_index_or ws i []) t a)

pub from_stop : (v : Verb) (ws : List (List ℕ)) (start i : ℕ) (seen : Seen) → start ≤ i → i < length ws → IsTaken v (from_start ws start i) seen → IsStuck v seen (slice_index_or ws i []) → IsStop v ws start i
from_stop v ws start i seen le lt t stuck = record {
  taken = i - start;
  seen = seen;
  place_is = omega arith;
  within = within_from ws start i le lt;
  before = t;
  stuck = subst (λ (w : List ℕ). IsStuck v seen w) (sym (item_from ws start i le)) stuck;
}

pub from_all : (v : Verb) (ws : List (List ℕ)) (start i : ℕ) (seen : Seen) → length ws ≤ i → IsTaken v (from_start ws start i) seen → IsTaken v (drop start ws) seen
from_all v ws start i seen le t = subst (λ (u : List (List ℕ)). IsTaken v u seen) (take_all (i - start) (drop start ws) (omega (arith, length-drop start ws))) t
