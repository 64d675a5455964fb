-- The numbers of a command that is seen are within their limits.
use Rattle.std.proofs.Common.{◌≡◌, inl, inr, ℕ, ℤ, pos, neg_ℤ, zero, suc, ◌<◌, ◌≤◌, ◌^◌, List, length, length-append, Option, Some, None, refl, ap, sym, ◌∙◌, subst, arith}
use Rattle.std.specs.Prelude.{option_map, unwrap_or, unsigned_abs, IfSome}
use Rattle.definitions.specs.declared.Place.{Place}
use Rattle.command_line.specs.declared.Name.TheVariants.{Step, Long, Short, Workers, Slab, First, At, Size}
use Rattle.command_line.specs.declared.Verb.{Verb}
use Rattle.command_line.specs.declared.Verb.TheVariants.{Count, Mesh, Demo, Audit, Probe, Stream}
use Rattle.command_line.specs.Grammar.{Point, IsCoordinate, IsPoint, IsPlan, file_count}
use Rattle.command_words.specs.declared.settings.Seen.{Seen}
use Rattle.command_words.specs.declared.command.Command.{Command as Found}
use Rattle.command_words.specs.Commands.{IsNear, IsSourceWithin, command_seen, source_of, step_of, mesh_of, probe_of, plan_of, plan_seen}
use Rattle.command_words.specs.Settings.{IsTaken}
use Rattle.command_words.proofs.NamedWords.{point_of}
use Rattle.command_words.proofs.Settled.{number_between, said_in}
use Rattle.command_words.proofs.Places.{IsOpened}
use Rattle.command_words.proofs.Meanings.{origin, by_seen, by_is}

pub step_within : (v : Verb) (named : List (List ℕ)) (seen : Seen) → IsTaken v named seen → (1 ≤ unwrap_or seen.step 1) × (unwrap_or seen.step 1 ≤ 64)
step_within v named seen t = number_between Step 1 64 1 named t.settings seen.step (λ text value h. h) (omega arith) (omega arith) t.settled.named_are (t.held_are Step)

pub long_within : (v : Verb) (named : List (List ℕ)) (seen : Seen) → IsTaken v named seen → unwrap_or seen.long 1023 ≤ 1023
long_within v named seen t = (number_between Long 0 1023 1023 named t.settings seen.long (λ text value h. h) (omega arith) (omega arith) t.settled.named_are (t.held_are Long)).1

pub short_within : (v : Verb) (named : List (List ℕ)) (seen : Seen) → IsTaken v named seen → unwrap_or seen.short 1687 ≤ 2047
short_within v named seen t = (number_between Short 0 2047 1687 named t.settings seen.short (λ text value h. h) (omega arith) (omega arith) t.settled.named_are (t.held_are Short)).1

pub plan_within : (v : Verb) (named : List (List ℕ)) (seen : Seen) → IsTaken v named seen → IsPlan (record { workers = unwrap_or seen.workers 4; slab = unwrap_or seen.slab 4 })
plan_within v named seen t =
    let w = number_between Workers 1 64 4 named t.settings seen.workers (λ text value h. h) (omega arith) (omega arith) t.settled.named_are (t.held_are Workers) in
    let s = number_between Slab 1 64 4 named t.settings seen.slab (λ text value h. h) (omega arith) (omega arith) t.settled.named_are (t.held_are Slab) in
    record { some_workers = w.0; most_workers = w.1; some_slab = s.0; most_slab = s.1 }

pub size_within : (v : Verb) (named : List (List ℕ)) (seen : Seen) → IsTaken v named seen → (1 ≤ unwrap_or seen.size 1) × (unwrap_or seen.size 1 ≤ 128)
size_within v named seen t = number_between Size 1 128 1 named t.settings seen.size (λ text value h. h) (omega arith) (omega arith) t.settled.named_are (t.held_are Size)

pub numbering_within : (v : Verb) (named : List (List ℕ)) (seen : Seen) → IsTaken v named seen → unwrap_or seen.first 0 ≤ 1
numbering_within v named seen t = (number_between First 0 1 0 named t.settings seen.first (λ text value h. h) (omega arith) (omega arith) t.settled.named_are (t.held_are First)).1

below_size : (n : ℕ) → unsigned_abs (neg_ℤ (pos n)) ≡ n
below_size zero = refl
below_size (suc n) = refl

coordinate_within : (text : List ℕ) (value : ℤ) → IsCoordinate text value → unsigned_abs value < 2 ^ 40
coordinate_within text value (n, h, inl (e, f)) = rw f h
coordinate_within text value (n, h, inr (e, f)) = rw (f, below_size n) h

point_near : (text : List ℕ) (p : Place) → IsPoint text p → IsNear p
point_near text p (x, y, z, e, hx, hy, hz) = record { x = coordinate_within x p.x hx; y = coordinate_within y p.y hy; z = coordinate_within z p.z hz }

pub point_within : (v : Verb) (named : List (List ℕ)) (seen : Seen) → IsTaken v named seen → IsNear (unwrap_or seen.at origin)
point_within v named seen t = go seen.at refl
  where
    go : (o : Option Place) → seen.at ≡ o → IsNear (unwrap_or o origin)
    go None e = record { x = omega arith; y = omega arith; z = omega arith }
    go (Some p) e =
        let s = said_in named t.settings At (Point p) t.settled.named_are (sym (t.held_are At) ∙ ap (option_map Point) e) in
        point_near s.text p (point_of At s.text p s.value_is).1

-- what a command that was seen says
pub step_seen : (v : Verb) (seen : Seen) (c : Found) → command_seen v seen ≡ Some c → (1 ≤ unwrap_or seen.step 1) × (unwrap_or seen.step 1 ≤ 64) → (1 ≤ step_of c) × (step_of c ≤ 64)
step_seen v seen c e h = subst (λ (d : Found). (1 ≤ step_of d) × (step_of d ≤ 64)) (by_is v seen c e) (go v)
  where
    go : (v : Verb) → (1 ≤ step_of (by_seen v seen)) × (step_of (by_seen v seen) ≤ 64)
    go Count = h
    go Mesh = h
    go Demo = (omega arith, omega arith)
    go Audit = (omega arith, omega arith)
    go Probe = h
    go Stream = h

pub plan_is_seen : (v : Verb) (seen : Seen) (c : Found) → command_seen v seen ≡ Some c → IsPlan (plan_seen seen) → IfSome (plan_of c) IsPlan
plan_is_seen v seen c e h = subst (λ (d : Found). IfSome (plan_of d) IsPlan) (by_is v seen c e) (go v)
  where
    go : (v : Verb) → IfSome (plan_of (by_seen v seen)) IsPlan
    go Count = tt
    go Mesh = h
    go Demo = h
    go Audit = tt
    go Probe = tt
    go Stream = h

long_enough : (v : Verb) (ws : List (List ℕ)) → IsOpened v ws → file_count v < length ws
long_enough v ws o = omega (arith, ap length o.words_are, length-append o.files o.named, o.files_len)

pub source_seen : (v : Verb) (ws : List (List ℕ)) (seen : Seen) (c : Found) → IsOpened v ws → command_seen v seen ≡ Some c → (1 ≤ unwrap_or seen.size 1) × (unwrap_or seen.size 1 ≤ 128) → IsSourceWithin (source_of c) (length ws)
source_seen v ws seen c o e h = subst (λ (d : Found). IsSourceWithin (source_of d) (length ws)) (by_is v seen c e) (go v (long_enough v ws o))
  where
    go : (v : Verb) → file_count v < length ws → IsSourceWithin (source_of (by_seen v seen)) (length ws)
    go Count l = l
    go Mesh l = omega (arith, l)
    go Demo l = h
    go Audit l = l
    go Probe l = l
    go Stream l = omega (arith, l)

pub output_seen : (v : Verb) (ws : List (List ℕ)) (seen : Seen) (c : Found) → IsOpened v ws → command_seen v seen ≡ Some c → IfSome (mesh_of c) (λ m. m.output < length ws)
output_seen v ws seen c o e = subst (λ (d : Found). IfSome (mesh_of d) (λ m. m.output < length ws)) (by_is v seen c e) (go v (long_enough v ws o))
  where
    go : (v : Verb) → file_count v < length ws → IfSome (mesh_of (by_seen v seen)) (λ m. m.output < length ws)
    go Count l = tt
    go Mesh l = l
    go Demo l = tt
    go Audit l = tt
    go Probe l = tt
    go Stream l = l

pub numbering_seen : (v : Verb) (seen : Seen) (c : Found) → command_seen v seen ≡ Some c → unwrap_or seen.first 0 ≤ 1 → IfSome (mesh_of c) (λ m. m.numbering ≤ 1)
numbering_seen v seen c e h = subst (λ (d : Found). IfSome (mesh_of d) (λ m. m.numbering ≤ 1)) (by_is v seen c e) (go v)
  where
    go : (v : Verb) → IfSome (mesh_of (by_seen v seen)) (λ m. m.numbering ≤ 1)
    go Count = tt
    go Mesh = h
    go Demo = tt
    go Audit = tt
    go Probe = tt
    go Stream = h

pub point_seen : (v : Verb) (seen : Seen) (c : Found) → command_seen v seen ≡ Some c → IsNear (unwrap_or seen.at origin) → IfSome (probe_of c) (λ p. IsNear p.at)
point_seen v seen c e h = subst (λ (d : Found). IfSome (probe_of d) (λ p. IsNear p.at)) (by_is v seen c e) (go v)
  where
    go : (v : Verb) → IfSome (probe_of (by_seen v seen)) (λ p. IsNear p.at)
    go Count = tt
    go Mesh = tt
    go Demo = tt
    go Audit = tt
    go Probe = h
    go Stream = tt
