-- The commands that are seen, and what they mean by the grammar.
use Rattle.std.proofs.Common.{◌≡◌, ℕ, ℤ, pos, ◌+◌, List, [], ◌∷◌, ◌++◌, length, drop, Bool, true, false, Option, Some, None, refl, ap, sym, ◌∙◌, subst, arith}
use Rattle.std.proofs.Math.Seq.{take-length}
use Rattle.std.specs.Prelude.{◌&&◌, ◌==◌, option_map, option_and_then, unwrap_or, unsigned_abs, is_some}
use Rattle.std.specs.List.{list_all}
use Rattle.definitions.specs.declared.Place.{Place}
use Rattle.definitions.specs.Places.{place}
use Rattle.command_line.specs.declared.Name.{Name}
use Rattle.command_line.specs.declared.Name.TheVariants.{Level, Below, Step, Long, Short, Workers, Slab, First, Units, Faces, At, Size, Seed}
use Rattle.command_line.specs.declared.Verb.{Verb}
use Rattle.command_line.specs.declared.Verb.TheVariants.{Count, Mesh, Demo, Audit, Probe, Stream}
use Rattle.command_line.specs.Grammar.{Setting, Value, Number, Point, Reads, Command, Meshing, Begins, IsBadPlace, CountSigns, MakeMesh, MakeDemo, ProbePoint, StreamMesh, command_of, meshing_with, is_set, number_or, shares_of, plan_of as plan_of_settings, value_of, value_or, number_in, point_in, verb_text, file_count, required}
use Rattle.command_words.specs.declared.settings.Seen.{Seen}
use Rattle.command_words.specs.declared.command.Command.{Command as Found}
use Rattle.command_words.specs.declared.command.Command.TheVariants as found
use Rattle.command_words.specs.Commands.{command_seen, meaning_of, plan_seen, shares_seen}
use Rattle.command_words.specs.Settings.{held, natural, is_yes, units_value, IsSettled, IsTaken}
use Rattle.command_words.proofs.NamedWords.{settings_once}
use Rattle.command_words.proofs.Settled.{set_is, unknown_unset, left_of, right_of, both}
use Rattle.command_words.proofs.Places.{IsOpened, are_files, begins_named, named_from, reads_as, reads_whole}

-- a name that must be set, and was not
record IsMissing (v : Verb) (seen : Seen) : Type 0 where
  name : Name
  needed : (ss : List Setting) → list_all (is_set ss) (required v) ≡ true → is_set ss name ≡ true
  unset : held seen name ≡ None

from_none_map : {A B C : Type 0} (f : A → B) (g : A → C) (o : Option A) → option_map f o ≡ None → option_map g o ≡ None
from_none_map f g None e = refl
from_none_map f g (Some x) e = cc

-- the second of two names that must be there, where the first is
missing_second : (v : Verb) (seen : Seen) (first second : Name) {A B : Type 0} (f : A → Option B) (g : A → Value) (o : Option A) → required v ≡ first ∷ second ∷ [] → held seen first ≡ option_map g o →
    ((x : A) → o ≡ Some x → f x ≡ None → held seen second ≡ None) → option_and_then f o ≡ None → IsMissing v seen
missing_second v seen first second f g None is h then e = record {
  name = first;
  needed = λ ss k. left_of (is_set ss first) (is_set ss second && true) (ap (list_all (is_set ss)) (sym is) ∙ k);
  unset = h;
}
missing_second v seen first second f g (Some x) is h then e = record {
  name = second;
  needed = λ ss k. left_of (is_set ss second) true (right_of (is_set ss first) (is_set ss second && true) (ap (list_all (is_set ss)) (sym is) ∙ k));
  unset = then x refl e;
}

missing : (v : Verb) (seen : Seen) → command_seen v seen ≡ None → IsMissing v seen
missing Count seen e = record { name = Level; needed = λ ss h. left_of (is_set ss Level) true h; unset = from_none_map _ Number seen.level e }
missing Mesh seen e = record { name = Level; needed = λ ss h. left_of (is_set ss Level) true h; unset = from_none_map _ Number seen.level e }
missing Demo seen e =
    missing_second Demo seen Size Seed (λ size. option_map (λ seed. found.Demo size seed (plan_seen seen)) seen.seed) natural seen.size refl refl
    (λ size is none. from_none_map (λ seed. found.Demo size seed (plan_seen seen)) natural seen.seed none) e
missing Audit seen e = cc
missing Probe seen e =
    missing_second Probe seen Level At (λ level. option_map (λ at. found.Probe 1 level seen.below (unwrap_or seen.step 1) (shares_seen seen) at) seen.at) Number seen.level refl refl
    (λ level is none. from_none_map (λ at. found.Probe 1 level seen.below (unwrap_or seen.step 1) (shares_seen seen) at) Point seen.at none) e
missing Stream seen e = record { name = Level; needed = λ ss h. left_of (is_set ss Level) true h; unset = from_none_map _ Number seen.level e }

not_unset : (v : Verb) (named : List (List ℕ)) (seen : Seen) (ss : List Setting) (n : Name) → IsTaken v named seen → held seen n ≡ None → IsSettled v named ss → is_set ss n ≡ true → ⊥
not_unset v named seen ss n t none settled there =
    let e : t.settings ≡ ss = settings_once named t.settings ss t.settled.named_are settled.named_are in
    let w : value_of ss n ≡ None = ap (λ (u : List Setting). value_of u n) (sym e) ∙ sym (t.held_are n) ∙ none in
    let f : is_set ss n ≡ false = set_is n ss ∙ ap is_some w in
    cc

incomplete : (v : Verb) (files named : List (List ℕ)) (seen : Seen) → length files ≡ file_count v → are_files files → IsTaken v named seen → IsMissing v seen → IsBadPlace (verb_text v ∷ (files ++ named)) (length (verb_text v ∷ (files ++ named)))
incomplete v files named seen len some t m = record {
  unread = λ c r. (let s = reads_as v files named c len r in not_unset v named seen s.settings m.name t m.unset s.settled (m.needed s.settings s.there));
  within = omega arith;
  begins = subst (λ (u : List (List ℕ)). Begins u) (sym (take-length (verb_text v ∷ (files ++ named)))) (begins_named v files named t.settings len some t.settled);
  ends = λ lt on. absurd (omega (arith, lt));
}

taken_behind : (ws : List (List ℕ)) (v : Verb) (seen : Seen) (o : IsOpened v ws) → IsTaken v (drop (file_count v + 1) ws) seen → IsTaken v o.named seen
taken_behind ws v seen o t = subst (λ (u : List (List ℕ)). IsTaken v u seen) (named_from v ws o) t

pub no_command : (ws : List (List ℕ)) (v : Verb) (seen : Seen) → IsOpened v ws → IsTaken v (drop (file_count v + 1) ws) seen → command_seen v seen ≡ None → IsBadPlace ws (length ws)
no_command ws v seen o t none =
    subst (λ (u : List (List ℕ)). IsBadPlace u (length u)) (sym o.words_are) (incomplete v o.files o.named seen o.files_len o.files_named (taken_behind ws v seen o t) (missing v seen none))

-- the command by what was seen, with defaults for what is not there
abbrev pub origin : Place
origin = place (pos 0) (pos 0) (pos 0)

abbrev pub by_seen : Verb → Seen → Found
by_seen Count seen = found.Count 1 (unwrap_or seen.level (pos 0)) seen.below (unwrap_or seen.step 1)
by_seen Mesh seen = found.Mesh 1 2 (unwrap_or seen.level (pos 0)) seen.below (unwrap_or seen.step 1) (shares_seen seen) (plan_seen seen) (unwrap_or seen.first 0) (unwrap_or seen.world false) seen.faces
by_seen Demo seen = found.Demo (unwrap_or seen.size 1) (unwrap_or seen.seed 0) (plan_seen seen)
by_seen Audit seen = found.Audit 1
by_seen Probe seen = found.Probe 1 (unwrap_or seen.level (pos 0)) seen.below (unwrap_or seen.step 1) (shares_seen seen) (unwrap_or seen.at origin)
by_seen Stream seen = found.Stream 1 2 (unwrap_or seen.level (pos 0)) seen.below (unwrap_or seen.step 1) (shares_seen seen) (plan_seen seen) (unwrap_or seen.first 0) (unwrap_or seen.world false)

from_some_map : {A : Type 0} (f : A → Found) (o : Option A) (d : A) (c : Found) → option_map f o ≡ Some c → f (unwrap_or o d) ≡ c
from_some_map f None d c e = cc
from_some_map f (Some x) d c e = cc

from_some_then : {A : Type 0} (f : A → Option Found) (o : Option A) (d : A) (c : Found) → option_and_then f o ≡ Some c → f (unwrap_or o d) ≡ Some c
from_some_then f None d c e = cc
from_some_then f (Some x) d c e = e

pub by_is : (v : Verb) (seen : Seen) (c : Found) → command_seen v seen ≡ Some c → by_seen v seen ≡ c
by_is Count seen c e = from_some_map _ seen.level (pos 0) c e
by_is Mesh seen c e = from_some_map _ seen.level (pos 0) c e
by_is Demo seen c e =
    from_some_map (λ seed. found.Demo (unwrap_or seen.size 1) seed (plan_seen seen)) seen.seed 0 c
    (from_some_then (λ size. option_map (λ seed. found.Demo size seed (plan_seen seen)) seen.seed) seen.size 1 c e)
by_is Audit seen c e = cc
by_is Probe seen c e =
    from_some_map (λ at. found.Probe 1 (unwrap_or seen.level (pos 0)) seen.below (unwrap_or seen.step 1) (shares_seen seen) at) seen.at origin c
    (from_some_then (λ level. option_map (λ at. found.Probe 1 level seen.below (unwrap_or seen.step 1) (shares_seen seen) at) seen.at) seen.level (pos 0) c e)
by_is Stream seen c e = from_some_map _ seen.level (pos 0) c e

-- what must be there is
there_map : {A B : Type 0} (f : A → Found) (g : A → B) (o : Option A) (c : Found) → option_map f o ≡ Some c → is_some (option_map g o) ≡ true
there_map f g None c e = cc
there_map f g (Some x) c e = refl

there_then : {A B : Type 0} (f : A → Option Found) (g : A → B) (o : Option A) (c : Found) → option_and_then f o ≡ Some c → is_some (option_map g o) ≡ true
there_then f g None c e = cc
there_then f g (Some x) c e = refl

-- what the command is
below_is : (b : Bool) (o : Option Value) → is_yes b ≡ o → b ≡ is_some o
below_is true o e = ap is_some e
below_is false o e = ap is_some e

level_in : (o : Option ℤ) (p : Option Value) (default : ℤ) → option_map Number o ≡ p → unwrap_or o default ≡ number_in p default
level_in None p default e = ap (λ (q : Option Value). number_in q default) e
level_in (Some z) p default e = ap (λ (q : Option Value). number_in q default) e

number_is : (default : ℕ) (o : Option ℕ) (p : Option Value) → option_map natural o ≡ p → unwrap_or o default ≡ unsigned_abs (number_in p (pos default))
number_is default None p e = ap (λ (q : Option Value). unsigned_abs (number_in q (pos default))) e
number_is default (Some n) p e = ap (λ (q : Option Value). unsigned_abs (number_in q (pos default))) e

world_is : (o : Option Bool) (p : Option Value) → option_map (λ world. Number (units_value world)) o ≡ p → unwrap_or o false ≡ (unsigned_abs (number_in p (pos 0)) == 1)
world_is None p e = ap (λ (q : Option Value). unsigned_abs (number_in q (pos 0)) == 1) e
world_is (Some true) p e = ap (λ (q : Option Value). unsigned_abs (number_in q (pos 0)) == 1) e
world_is (Some false) p e = ap (λ (q : Option Value). unsigned_abs (number_in q (pos 0)) == 1) e

point_is : (o : Option Place) (p : Option Value) → option_map Point o ≡ p → unwrap_or o origin ≡ point_in p origin
point_is None p e = ap (λ (q : Option Value). point_in q origin) e
point_is (Some x) p e = ap (λ (q : Option Value). point_in q origin) e

abbrev meshing_seen : Seen → Bool → Meshing
meshing_seen seen faces =
    record { input = 1; output = 2; level = unwrap_or seen.level (pos 0); below = seen.below; step = unwrap_or seen.step 1; shares = shares_seen seen; plan = plan_seen seen; numbering = unwrap_or seen.first 0; world = unwrap_or seen.world false; faces = faces }

module _ (v : Verb) (named : List (List ℕ)) (seen : Seen) (t : IsTaken v named seen) where
  set_by : (n : Name) → is_some (held seen n) ≡ true → is_set t.settings n ≡ true
  set_by n e = set_is n t.settings ∙ ap is_some (sym (t.held_are n)) ∙ e

  level_is : unwrap_or seen.level (pos 0) ≡ value_or t.settings Level (pos 0)
  level_is = level_in seen.level (value_of t.settings Level) (pos 0) (t.held_are Level)

  below_seen : seen.below ≡ is_set t.settings Below
  below_seen = below_is seen.below (value_of t.settings Below) (t.held_are Below) ∙ sym (set_is Below t.settings)

  step_is : unwrap_or seen.step 1 ≡ number_or t.settings Step 1
  step_is = number_is 1 seen.step (value_of t.settings Step) (t.held_are Step)

  shares_are : shares_seen seen ≡ shares_of t.settings
  shares_are = λ i. record { long = number_is 1023 seen.long (value_of t.settings Long) (t.held_are Long) i; short = number_is 1687 seen.short (value_of t.settings Short) (t.held_are Short) i }

  plan_is : plan_seen seen ≡ plan_of_settings t.settings
  plan_is = λ i. record { workers = number_is 4 seen.workers (value_of t.settings Workers) (t.held_are Workers) i; slab = number_is 4 seen.slab (value_of t.settings Slab) (t.held_are Slab) i }

  numbering_is : unwrap_or seen.first 0 ≡ number_or t.settings First 0
  numbering_is = number_is 0 seen.first (value_of t.settings First) (t.held_are First)

  world_seen : unwrap_or seen.world false ≡ (number_or t.settings Units 0 == 1)
  world_seen = world_is seen.world (value_of t.settings Units) (t.held_are Units)

  faces_seen : seen.faces ≡ is_set t.settings Faces
  faces_seen = below_is seen.faces (value_of t.settings Faces) (t.held_are Faces) ∙ sym (set_is Faces t.settings)

  at_is : unwrap_or seen.at origin ≡ point_in (value_of t.settings At) origin
  at_is = point_is seen.at (value_of t.settings At) (t.held_are At)

  size_is : unwrap_or seen.size 1 ≡ number_or t.settings Size 1
  size_is = number_is 1 seen.size (value_of t.settings Size) (t.held_are Size)

  seed_is : unwrap_or seen.seed 0 ≡ number_or t.settings Seed 0
  seed_is = number_is 0 seen.seed (value_of t.settings Seed) (t.held_are Seed)

  meshing_is : (faces : Bool) → faces ≡ is_set t.settings Faces → meshing_seen seen faces ≡ meshing_with t.settings
  meshing_is faces e =
      λ i. record { input = 1; output = 2; level = level_is i; below = below_seen i; step = step_is i; shares = shares_are i; plan = plan_is i; numbering = numbering_is i; world = world_seen i; faces = e i }

meaning_is : (v : Verb) (named : List (List ℕ)) (seen : Seen) (t : IsTaken v named seen) → meaning_of (by_seen v seen) ≡ command_of v t.settings
meaning_is Count named seen t = λ i. CountSigns 1 (level_is Count named seen t i) (below_seen Count named seen t i) (step_is Count named seen t i)
meaning_is Mesh named seen t = ap MakeMesh (meshing_is Mesh named seen t seen.faces (faces_seen Mesh named seen t))
meaning_is Demo named seen t = λ i. MakeDemo (size_is Demo named seen t i) (seed_is Demo named seen t i) (plan_is Demo named seen t i)
meaning_is Audit named seen t = refl
meaning_is Probe named seen t =
    λ i. ProbePoint 1 (level_is Probe named seen t i) (below_seen Probe named seen t i) (step_is Probe named seen t i) (shares_are Probe named seen t i) (at_is Probe named seen t i)
meaning_is Stream named seen t = ap StreamMesh (meshing_is Stream named seen t false (sym (unknown_unset Stream Faces t.settings refl t.settled.known)))

required_there : (v : Verb) (named : List (List ℕ)) (seen : Seen) (c : Found) (t : IsTaken v named seen) → command_seen v seen ≡ Some c → list_all (is_set t.settings) (required v) ≡ true
required_there Count named seen c t e = both (is_set t.settings Level) true (set_by Count named seen t Level (there_map _ Number seen.level c e)) refl
required_there Mesh named seen c t e = both (is_set t.settings Level) true (set_by Mesh named seen t Level (there_map _ Number seen.level c e)) refl
required_there Demo named seen c t e =
    let f : ℕ → Option Found = λ size. option_map (λ seed. found.Demo size seed (plan_seen seen)) seen.seed in
    both (is_set t.settings Size) (is_set t.settings Seed && true) (set_by Demo named seen t Size (there_then f natural seen.size c e))
    (both (is_set t.settings Seed) true (set_by Demo named seen t Seed (there_map (λ seed. found.Demo (unwrap_or seen.size 1) seed (plan_seen seen)) natural seen.seed c (from_some_then f seen.size 1 c e))) refl)
required_there Audit named seen c t e = refl
required_there Probe named seen c t e =
    let f : ℤ → Option Found = λ level. option_map (λ at. found.Probe 1 level seen.below (unwrap_or seen.step 1) (shares_seen seen) at) seen.at in
    let g : Place → Found = λ at. found.Probe 1 (unwrap_or seen.level (pos 0)) seen.below (unwrap_or seen.step 1) (shares_seen seen) at in
    both (is_set t.settings Level) (is_set t.settings At && true) (set_by Probe named seen t Level (there_then f Number seen.level c e))
    (both (is_set t.settings At) true (set_by Probe named seen t At (there_map g Point seen.at c (from_some_then f seen.level (pos 0) c e))) refl)
required_there Stream named seen c t e = both (is_set t.settings Level) true (set_by Stream named seen t Level (there_map _ Number seen.level c e)) refl

pub reads_all : (ws : List (List ℕ)) (v : Verb) (seen : Seen) (c : Found) → IsOpened v ws → IsTaken v (drop (file_count v + 1) ws) seen → command_seen v seen ≡ Some c → Reads ws (meaning_of c)
reads_all ws v seen c o taken e =
    let t = taken_behind ws v seen o taken in
    let whole : Reads (verb_text v ∷ (o.files ++ o.named)) (command_of v t.settings) = reads_whole v o.files o.named t.settings o.files_len o.files_named t.settled (required_there v o.named seen c t e) in
    let means : meaning_of c ≡ command_of v t.settings = ap meaning_of (sym (by_is v seen c e)) ∙ meaning_is v o.named seen t in
    subst (λ (u : List (List ℕ)). Reads u (meaning_of c)) (sym o.words_are)
    (subst (λ (d : Command). Reads (verb_text v ∷ (o.files ++ o.named)) d) (sym means) whole)
