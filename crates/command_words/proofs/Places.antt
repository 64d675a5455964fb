-- The commands of the grammar, and the places at which words are bad.
use Rattle.std.proofs.Common.{◌≡◌, inl, inr, ℕ, ◌+◌, ◌-◌, ◌<◌, ◌≤◌, zero, suc, List, [], ◌∷◌, ◌++◌, length, take, drop, append_assoc, length-append, true, false, Option, Some, refl, ap, sym, ◌∙◌, subst, arith, slice_index_or, add-one}
use Rattle.std.specs.Prelude.{IsTrue, nat_lt, find}
use Rattle.std.specs.Str.{bytes_eq}
use Rattle.std.proofs.Math.Seq.{take-suc, take-append-add}
use Rattle.std.proofs.lemmas.Bool.{cases_lt}
use Rattle.std.proofs.lemmas.Bool.Decides.{nat_tests}
use Rattle.std.proofs.lemmas.List.{take-take, take-append-drop, drop_at, length-take-le, get_or_append_left, get_or-take}
use Rattle.std.proofs.lemmas.List.Folds.{list_all-append}
use Rattle.std.proofs.lemmas.Slice.Eq.{bytes_eq-Decides}
use Rattle.std.specs.List.{AllZip, list_all}
use Rattle.command_line.specs.declared.Verb.{Verb}
use Rattle.command_line.specs.declared.Verb.TheVariants.{Count, Mesh, Demo, Audit, Probe, Stream}
use Rattle.command_line.specs.Grammar.{Setting, ReadsSetting, IsComplete, Reads, Command, Begins, IsBadPlace, command_of, is_set, verb_text, file_count, required}
use Rattle.command_words.specs.declared.settings.Seen.{Seen}
use Rattle.command_words.specs.Commands.{is_word, is_name, HasVerb, AreNames, IsBadName}
use Rattle.command_words.specs.Settings.{IsSettled, IsTaken, IsStuck, IsStop}
use Rattle.command_words.proofs.NamedWords.{settings_once}
use Rattle.command_words.proofs.Settled.{settled_none, filled, stuck_none, left_of, right_of, both}

-- the first word
other_text : (w : List ℕ) (text : List ℕ) → bytes_eq w text ≡ true → w ≡ text
other_text w text h = (bytes_eq-Decides w text).0 h

pub first_is : (ws : List (List ℕ)) (text : List ℕ) → is_word ws 0 text ≡ true → (rest : List (List ℕ)) × (ws ≡ text ∷ rest)
first_is [] text h = let t : false ≡ true = grind (arith, nat_tests, h) in cc
first_is (w ∷ ws) text h =
    let t : bytes_eq w text ≡ true = grind (arith, nat_tests, h) in
    (ws, ap (λ (u : List ℕ). u ∷ ws) (other_text w text t))

-- commands are told apart by their words
abbrev all_verbs : List Verb
all_verbs = Count ∷ Mesh ∷ Demo ∷ Audit ∷ Probe ∷ Stream ∷ []

abbrev verb_at : List ℕ → Option Verb
verb_at text = find (λ v. bytes_eq text (verb_text v)) all_verbs

verb_reads : (v : Verb) → verb_at (verb_text v) ≡ Some v
verb_reads Count = refl
verb_reads Mesh = refl
verb_reads Demo = refl
verb_reads Audit = refl
verb_reads Probe = refl
verb_reads Stream = refl

some_is : (u v : Verb) → Some u ≡ Some v → u ≡ v
some_is u v e = cc

same_verb : (u v : Verb) → verb_text u ≡ verb_text v → u ≡ v
same_verb u v e = some_is u v (sym (verb_reads u) ∙ ap verb_at e ∙ verb_reads v)

head_is : (v w : List ℕ) (xs ys : List (List ℕ)) → v ∷ xs ≡ w ∷ ys → v ≡ w
head_is v w xs ys e = cc

tail_is : (v w : List ℕ) (xs ys : List (List ℕ)) → v ∷ xs ≡ w ∷ ys → xs ≡ ys
tail_is v w xs ys e = cc

verb_read : (v : Verb) (rest : List (List ℕ)) (c : Command) (r : Reads (verb_text v ∷ rest) c) → r.verb ≡ v
verb_read v rest c r = sym (same_verb v r.verb (head_is (verb_text v) (verb_text r.verb) rest (r.files ++ r.named) r.words_are))

-- Names of files: the word at a number is there, and is not empty.
pub record IsFileName (words : List (List ℕ)) (n : ℕ) : Type 0 where
  pub there : n < length words
  pub some : 0 < length (slice_index_or words n [])

file_name_is : (ws : List (List ℕ)) (n : ℕ) → is_name ws n ≡ true → IsFileName ws n
file_name_is ws n h = record { there = grind (arith, nat_tests, h); some = grind (arith, nat_tests, h) }

file_name_not : (ws : List (List ℕ)) (n : ℕ) → is_name ws n ≡ false → IsFileName ws n → ⊥
file_name_not ws n h i =
    let there : n < length ws = i.there in
    let some : 0 < length (slice_index_or ws n []) = i.some in
    let t : is_name ws n ≡ true = grind (arith, nat_tests, there, some) in
    let f : true ≡ false = sym t ∙ h in
    cc

abbrev pub are_files : List (List ℕ) → Type 0
are_files files = IsTrue (list_all (λ f. nat_lt 0 (length f)) files)

file_first : (f : List ℕ) (files : List (List ℕ)) → are_files (f ∷ files) → 0 < length f
file_first f files h = let t : nat_lt 0 (length f) ≡ true = left_of (nat_lt 0 (length f)) (list_all (λ g. nat_lt 0 (length g)) files) h in grind (arith, nat_tests, t)

files_rest : (f : List ℕ) (files : List (List ℕ)) → are_files (f ∷ files) → are_files files
files_rest f files h = right_of (nat_lt 0 (length f)) (list_all (λ g. nat_lt 0 (length g)) files) h

files_cons : (f : List ℕ) (files : List (List ℕ)) → 0 < length f → are_files files → are_files (f ∷ files)
files_cons f files some h = both (nat_lt 0 (length f)) (list_all (λ g. nat_lt 0 (length g)) files) (grind (arith, nat_tests, some)) h

-- names of files that are there
file_named : (files named : List (List ℕ)) (k : ℕ) → k < length files → are_files files → IsFileName (files ++ named) k
file_named [] named k lt h = absurd (omega (arith, lt))
file_named (f ∷ files) named zero lt h = record { there = omega arith; some = file_first f files h }
file_named (f ∷ files) named (suc k) lt h =
    let i = file_named files named k (omega (arith, lt)) (files_rest f files h) in
    record { there = omega (arith, i.there); some = i.some }

-- the words behind the first, as far as they can be names of files
record IsFront (rest : List (List ℕ)) (count : ℕ) : Type 0 where
  within : count ≤ length rest
  files : are_files (take count rest)

front_is : (rest : List (List ℕ)) (count : ℕ) → ((k : ℕ) → k < count → IsFileName rest k) → IsFront rest count
front_is rest zero h = record { within = omega arith; files = refl }
front_is [] (suc count) h = absurd (omega (arith, (h 0 (omega arith)).there))
front_is (f ∷ rest) (suc count) h =
    let i = front_is rest count (λ k lt. (let n = h (suc k) (omega arith) in record { there = omega (arith, n.there); some = n.some })) in
    record { within = omega (arith, i.within); files = files_cons f (take count rest) (h 0 (omega arith)).some i.files }

behind : (w : List ℕ) (rest : List (List ℕ)) (k : ℕ) → IsFileName (w ∷ rest) (suc k) → IsFileName rest k
behind w rest k n = record { there = omega (arith, n.there); some = n.some }

front_of : (w : List ℕ) (rest : List (List ℕ)) (count : ℕ) → AreNames (w ∷ rest) count → IsFront rest count
front_of w rest count h = front_is rest count (λ k lt. behind w rest k (subst (λ (n : ℕ). IsFileName (w ∷ rest) n) (add-one k) (file_name_is (w ∷ rest) (k + 1) (h k lt))))

-- the words of a command that reads, from a place among its file names on
file_read : (v : Verb) (rest : List (List ℕ)) (c : Command) (k : ℕ) → Reads (verb_text v ∷ rest) c → k < file_count v → IsFileName rest k
file_read v rest c k r lt =
    let same : r.verb ≡ v = verb_read v rest c r in
    let len : length r.files ≡ file_count v = r.files_len ∙ ap file_count same in
    let tail : rest ≡ r.files ++ r.named = tail_is (verb_text v) (verb_text r.verb) rest (r.files ++ r.named) r.words_are in
    subst (λ (u : List (List ℕ)). IsFileName u k) (sym tail) (file_named r.files r.named k (omega (arith, lt, len)) r.files_named)

-- what a list reads as behind its file names
pub record IsReadAs (v : Verb) (named : List (List ℕ)) (c : Command) : Type 0 where
  pub settings : List Setting
  pub settled : IsSettled v named settings
  pub there : list_all (is_set settings) (required v) ≡ true
  pub command_is : c ≡ command_of v settings

read_as : (u v : Verb) (named : List (List ℕ)) (settings : List Setting) (c : Command) → u ≡ v → AllZip ReadsSetting named settings → IsComplete u settings → c ≡ command_of u settings → IsReadAs v named c
read_as u v named settings c same zip complete is =
    subst (λ (w : Verb). IsReadAs w named c) same
    (record { settings = settings; settled = record { named_are = zip; once = complete.once; known = complete.known }; there = complete.there; command_is = is })

same_rest : (files named fs ns : List (List ℕ)) → length files ≡ length fs → files ++ named ≡ fs ++ ns → named ≡ ns
same_rest files named fs ns len e =
    sym (drop_at files named (length files) refl) ∙ ap (λ (u : List (List ℕ)). drop (length files) u) e ∙ drop_at fs ns (length files) (sym len)

pub reads_as : (v : Verb) (files named : List (List ℕ)) (c : Command) → length files ≡ file_count v → Reads (verb_text v ∷ (files ++ named)) c → IsReadAs v named c
reads_as v files named c len r =
    let same : r.verb ≡ v = verb_read v (files ++ named) c r in
    let tail : files ++ named ≡ r.files ++ r.named = tail_is (verb_text v) (verb_text r.verb) (files ++ named) (r.files ++ r.named) r.words_are in
    let lens : length files ≡ length r.files = len ∙ sym (r.files_len ∙ ap file_count same) in
    let rest : r.named ≡ named = sym (same_rest files named r.files r.named lens tail) in
    read_as r.verb v named r.settings c same (subst (λ (u : List (List ℕ)). AllZip ReadsSetting u r.settings) rest r.named_are) r.complete r.command_is

pub reads_whole : (v : Verb) (files named : List (List ℕ)) (settings : List Setting) → length files ≡ file_count v → are_files files → IsSettled v named settings → list_all (is_set settings) (required v) ≡ true → Reads (verb_text v ∷ (files ++ named)) (command_of v settings)
reads_whole v files named settings len some settled there = record {
  verb = v;
  files = files;
  named = named;
  settings = settings;
  words_are = refl;
  files_len = len;
  files_named = some;
  named_are = settled.named_are;
  complete = record { once = settled.once; known = settled.known; there = there };
  command_is = refl;
}

-- words with which a command begins
begins_prefix : (w : List ℕ) (xs ys : List (List ℕ)) → Begins (w ∷ (xs ++ ys)) → Begins (w ∷ xs)
begins_prefix w xs ys b = (ys ++ b.0, b.1, subst (λ (u : List (List ℕ)). Reads (w ∷ u) b.1) (append_assoc xs ys b.0) b.2)

pub begins_named : (v : Verb) (files named : List (List ℕ)) (settings : List Setting) → length files ≡ file_count v → are_files files → IsSettled v named settings → Begins (verb_text v ∷ (files ++ named))
begins_named v files named settings len some settled =
    let f = filled v named settings settled in
    let whole : Reads (verb_text v ∷ (files ++ (named ++ f.rest))) (command_of v f.settings) = reads_whole v files (named ++ f.rest) f.settings len some f.settled f.there in
    (f.rest, command_of v f.settings, subst (λ (u : List (List ℕ)). Reads (verb_text v ∷ u) (command_of v f.settings)) (sym (append_assoc files named f.rest)) whole)

abbrev a_file : List ℕ
a_file = 97 ∷ []

begins_files : (v : Verb) (missing : ℕ) (files : List (List ℕ)) → length files + missing ≡ file_count v → are_files files → Begins (verb_text v ∷ files)
begins_files v zero files len some = begins_prefix (verb_text v) files [] (begins_named v files [] [] (omega (arith, len)) some (settled_none v))
begins_files v (suc missing) files len some =
    begins_prefix (verb_text v) files (a_file ∷ [])
    (begins_files v missing (files ++ a_file ∷ []) (omega (arith, len, length-append files (a_file ∷ []))) (list_all-append (λ f. nat_lt 0 (length f)) files (a_file ∷ []) ∙ both (list_all (λ f. nat_lt 0 (length f)) files) true some refl))

begins_none : Begins []
begins_none = let b = begins_files Count 1 [] refl refl in (verb_text Count ∷ b.0, b.1, b.2)

-- words that do not begin with a command's word
pub no_verb : (ws : List (List ℕ)) → ((v : Verb) → HasVerb ws v → ⊥) → IsBadPlace ws 0
no_verb ws none = record {
  unread = λ c r. none r.verb (r.files ++ r.named, r.words_are);
  within = omega arith;
  begins = begins_none;
  ends = not_first ws none;
}
  where
    not_first : (ws : List (List ℕ)) → ((v : Verb) → HasVerb ws v → ⊥) → 0 < length ws → Begins (take (0 + 1) ws) → ⊥
    not_first [] none lt on = absurd (omega (arith, lt))
    not_first (w ∷ ws) none lt on =
        let r = on.2 in
        none r.verb (ws, ap (λ (u : List ℕ). u ∷ ws) (head_is w (verb_text r.verb) on.0 (r.files ++ r.named) r.words_are))

-- words of which one cannot be a file's name
unnamed_place : (v : Verb) (rest : List (List ℕ)) (n : ℕ) → n < file_count v → IsFront rest n → (IsFileName rest n → ⊥) → IsBadPlace (verb_text v ∷ rest) (suc n)
unnamed_place v rest n lt front unnamed = record {
  unread = λ c r. unnamed (file_read v rest c n r lt);
  within = omega (arith, front.within);
  begins = begins_files v (file_count v - n) (take n rest) (omega (arith, length-take-le n rest front.within, lt)) front.files;
  ends = λ less on.
      let e : suc n + 1 ≡ suc (suc n) = omega arith in
      let next : Begins (take (suc (suc n)) (verb_text v ∷ rest)) = subst (λ (m : ℕ). Begins (take m (verb_text v ∷ rest))) e on in
      let i = file_read v (take (suc n) rest ++ next.0) next.1 n next.2 lt in
      let within : n < length rest = omega (arith, less) in
      let short : n < length (take (suc n) rest) = omega (arith, length-take-le (suc n) rest (omega (arith, within))) in
      let at : slice_index_or (take (suc n) rest ++ next.0) n [] ≡ slice_index_or rest n [] = get_or_append_left (take (suc n) rest) next.0 [] n short ∙ get_or-take (suc n) rest n [] (omega arith) in
      unnamed (record { there = within; some = subst (λ (f : List ℕ). 0 < length f) at i.some });
}

pub bad_name_place : (ws : List (List ℕ)) (v : Verb) (place : ℕ) → HasVerb ws v → IsBadName ws (file_count v) place → IsBadPlace ws place
bad_name_place ws v place verb bad = subst (λ (u : List (List ℕ)). IsBadName u (file_count v) place → IsBadPlace u place) (sym verb.1) (λ b. behind_verb verb.0 b) bad
  where
    behind_verb : (rest : List (List ℕ)) → IsBadName (verb_text v ∷ rest) (file_count v) place → IsBadPlace (verb_text v ∷ rest) place
    behind_verb rest b =
        let e : suc b.names ≡ place = omega (arith, b.place_is) in
        subst (λ (n : ℕ). IsBadPlace (verb_text v ∷ rest) n) e
        (unnamed_place v rest b.names b.within (front_of (verb_text v) rest b.names b.before)
        (λ i. file_name_not (verb_text v ∷ rest) (b.names + 1) b.bad (subst (λ (n : ℕ). IsFileName (verb_text v ∷ rest) n) (sym (add-one b.names)) (record { there = omega (arith, i.there); some = i.some }))))

-- a command's word and all its file names, and what follows them
pub record IsOpened (v : Verb) (ws : List (List ℕ)) : Type 0 where
  pub files : List (List ℕ)
  pub named : List (List ℕ)
  pub words_are : ws ≡ verb_text v ∷ (files ++ named)
  pub files_len : length files ≡ file_count v
  pub files_named : IsTrue (list_all (λ f. nat_lt 0 (length f)) files)

pub opened : (ws : List (List ℕ)) (v : Verb) → HasVerb ws v → AreNames ws (file_count v) → IsOpened v ws
opened ws v verb names =
    let front = front_of (verb_text v) verb.0 (file_count v) (subst (λ (u : List (List ℕ)). AreNames u (file_count v)) verb.1 names) in
    record {
      files = take (file_count v) verb.0;
      named = drop (file_count v) verb.0;
      words_are = verb.1 ∙ ap (λ (u : List (List ℕ)). verb_text v ∷ u) (sym (take-append-drop (file_count v) verb.0));
      files_len = length-take-le (file_count v) verb.0 front.within;
      files_named = front.files;
    }

pub named_from : (v : Verb) (ws : List (List ℕ)) (o : IsOpened v ws) → drop (file_count v + 1) ws ≡ o.named
named_from v ws o =
    let e : drop (suc (file_count v)) (verb_text v ∷ (o.files ++ o.named)) ≡ o.named = drop_at o.files o.named (file_count v) o.files_len in
    ap (λ (u : List (List ℕ)). drop (file_count v + 1) u) o.words_are ∙ ap (λ (n : ℕ). drop n (verb_text v ∷ (o.files ++ o.named))) (add-one (file_count v)) ∙ e

-- the list up to a place, the item at it, and what follows
parted : (ws : List (List ℕ)) (k : ℕ) → k < length ws → take k ws ++ (slice_index_or ws k [] ∷ drop (suc k) ws) ≡ ws
parted ws k lt =
    sym (append_assoc (take k ws) (slice_index_or ws k [] ∷ []) (drop (suc k) ws)) ∙ ap (λ (u : List (List ℕ)). u ++ drop (suc k) ws) (sym (take-suc ws k [] lt)) ∙ take-append-drop (suc k) ws

-- words of which one named word is not taken
stuck_reads : (v : Verb) (files front : List (List ℕ)) (x : List ℕ) (back : List (List ℕ)) (seen : Seen) (c : Command) → length files ≡ file_count v → IsTaken v front seen → IsStuck v seen x → Reads (verb_text v ∷ (files ++ (front ++ x ∷ back))) c → ⊥
stuck_reads v files front x back seen c len t stuck r =
    let s = reads_as v files (front ++ x ∷ back) c len r in
    stuck_none v front x back seen s.settings t stuck s.settled

stopped : (v : Verb) (files named : List (List ℕ)) (k : ℕ) (seen : Seen) → length files ≡ file_count v → are_files files → k < length named → IsTaken v (take k named) seen → IsStuck v seen (slice_index_or named k []) → IsBadPlace (verb_text v ∷ (files ++ named)) (suc (length files + k))
stopped v files named k seen len some lt t stuck = record {
  unread = λ c r. stuck_reads v files (take k named) (slice_index_or named k []) (drop (suc k) named) seen c len t stuck (subst (λ (u : List (List ℕ)). Reads (verb_text v ∷ (files ++ u)) c) (sym (parted named k lt)) r);
  within = omega (arith, lt, length-append files named);
  begins = subst (λ (u : List (List ℕ)). Begins (verb_text v ∷ u)) (sym (take-append-add files named k)) (begins_named v files (take k named) t.settings len some t.settled);
  ends = λ less on.
      let e : suc (length files + k) + 1 ≡ suc (length files + suc k) = omega arith in
      let next : Begins (take (suc (length files + suc k)) (verb_text v ∷ (files ++ named))) = subst (λ (m : ℕ). Begins (take m (verb_text v ∷ (files ++ named)))) e on in
      let g : take (length files + suc k) (files ++ named) ++ next.0 ≡ files ++ (take k named ++ (slice_index_or named k [] ∷ next.0)) =
      ap (λ (u : List (List ℕ)). u ++ next.0) (take-append-add files named (suc k) ∙ ap (λ (u : List (List ℕ)). files ++ u) (take-suc named k [] lt)) ∙ append_assoc files (take k named ++ slice_index_or named k [] ∷ []) next.0 ∙ ap (λ (u : List (List ℕ)). files ++ u) (append_assoc (take k named) (slice_index_or named k [] ∷ []) next.0) in
      stuck_reads v files (take k named) (slice_index_or named k []) next.0 seen next.1 len t stuck (subst (λ (u : List (List ℕ)). Reads (verb_text v ∷ u) next.1) g next.2);
}

pub stop_place : (ws : List (List ℕ)) (v : Verb) (place : ℕ) → IsOpened v ws → IsStop v ws (file_count v + 1) place → IsBadPlace ws place
stop_place ws v place o stop =
    let from : drop (file_count v + 1) ws ≡ o.named = named_from v ws o in
    let p : suc (length o.files + stop.taken) ≡ place = omega (arith, stop.place_is, o.files_len) in
    subst (λ (n : ℕ). IsBadPlace ws n) p
    (subst (λ (u : List (List ℕ)). IsBadPlace u (suc (length o.files + stop.taken))) (sym o.words_are)
    (stopped v o.files o.named stop.taken stop.seen o.files_len o.files_named
    (subst (λ (u : List (List ℕ)). stop.taken < length u) from stop.within)
    (subst (λ (u : List (List ℕ)). IsTaken v (take stop.taken u) stop.seen) from stop.before)
    (subst (λ (u : List (List ℕ)). IsStuck v stop.seen (slice_index_or u stop.taken [])) from stop.stuck)))

-- A list reads as one command at most, and words are bad at one place at most.
pub one_command : (ws : List (List ℕ)) (c d : Command) → Reads ws c → Reads ws d → c ≡ d
one_command ws c d r q =
    let same = reads_as r.verb r.files r.named d r.files_len (subst (λ (u : List (List ℕ)). Reads u d) r.words_are q) in
    r.command_is ∙ ap (command_of r.verb) (settings_once r.named r.settings same.settings r.named_are same.settled.named_are) ∙ sym same.command_is

-- a list whose beginning begins a command
begins_before : (ws : List (List ℕ)) (m n : ℕ) → m ≤ n → Begins (take n ws) → Begins (take m ws)
begins_before ws m n le on =
    let e : take m (take n ws) ++ drop m (take n ws) ≡ take n ws = take-append-drop m (take n ws) in
    let t : take m (take n ws) ≡ take m ws = take-take m n ws le in
    let whole : take m ws ++ (drop m (take n ws) ++ on.0) ≡ take n ws ++ on.0 =
    sym (append_assoc (take m ws) (drop m (take n ws)) on.0) ∙ ap (λ (u : List (List ℕ)). u ++ on.0) (ap (λ (u : List (List ℕ)). u ++ drop m (take n ws)) (sym t) ∙ e) in
    (drop m (take n ws) ++ on.0, on.1, subst (λ (u : List (List ℕ)). Reads u on.1) (sym whole) on.2)

not_before : (ws : List (List ℕ)) (m n : ℕ) → IsBadPlace ws m → IsBadPlace ws n → m < n → ⊥
not_before ws m n p q lt = p.ends (omega (arith, q.within)) (begins_before ws (m + 1) n (omega arith) q.begins)

pub one_place : (ws : List (List ℕ)) (m n : ℕ) → IsBadPlace ws m → IsBadPlace ws n → m ≡ n
one_place ws m n p q = elim (cases_lt m n) [ inl lt ↦ absurd (not_before ws m n p q lt) | inr ge ↦ elim (cases_lt n m) [ inl gt ↦ absurd (not_before ws n m q p gt) | inr le ↦ omega arith ] ]
