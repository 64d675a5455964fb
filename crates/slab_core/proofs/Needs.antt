-- What an event that is allowed says of its numbers.
use Rattle.std.proofs.Common.{◌≡◌, ◌<◌, ℕ, true, not, ◌&&◌, length, subst, arith, get_or}
use Rattle.std.specs.Prelude.{All}
use Rattle.std.proofs.lemmas.Bool.{and_parts}
use Rattle.definitions.specs.Layout.{reach}
use Rattle.list_words.specs.Words.{has, has_all}
use Rattle.list_words.proofs.Lists.{has_at}
use Rattle.slab_core.specs.declared.event.Event.{Event}
use Rattle.slab_core.specs.declared.event.Event.TheVariants.{Raise, Finish}
use Rattle.slab_core.specs.States.{WorkerState, CoreState}
use Rattle.slab_core.specs.Steps.{worker, slab_count, reaches, slabs_done, is_there, has_put_layer, may_finish, allowed}
use Rattle.slab_core.specs.Sound.{IsSound}
use Rattle.slab_core.proofs.Workers.{live, drawn_below}
use Rattle.slab_core.proofs.Keeps.{reached_layer}

-- a slab that a worker drew
pub drawn_slab : (s : CoreState) (w : ℕ) (k : WorkerState) (j : ℕ) → IsSound s → is_there s w ≡ true → k ≡ worker s w → has j k.drawn ≡ true → j < slab_count s
drawn_slab s w k j sound there is e = drawn_below s w j sound (live s w there).within (subst (λ (v : WorkerState). has j v.drawn ≡ true) is e)

pub drawn_slabs : (s : CoreState) (w : ℕ) (k : WorkerState) → IsSound s → is_there s w ≡ true → k ≡ worker s w → All (λ j. j < slab_count s) k.drawn
drawn_slabs s w k sound there is i d lt = drawn_slab s w k (get_or k.drawn i d) sound there is (has_at k.drawn i d lt)

pub raised_flag : (s : CoreState) (e : Event) (w h : ℕ) → IsSound s → e ≡ Raise w h → allowed e s ≡ true → h < length s.flags
raised_flag s e w h sound is a =
    let a' : allowed (Raise w h) s ≡ true = subst (λ (f : Event). allowed f s ≡ true) is a in
    let d = and_parts (is_there s w && has h (worker s w).down && reaches s (worker s w) h) (has_put_layer s (worker s w) h) a' in
    let c = and_parts (is_there s w && has h (worker s w).down) (reaches s (worker s w) h) d.0 in
    let l = reached_layer s h (worker s w).drawn c.1 in
    let f = sound.shaped.flags in
    omega arith

pub finished_slab : (s : CoreState) (e : Event) (w j : ℕ) → IsSound s → e ≡ Finish w j → allowed e s ≡ true → j < slab_count s
finished_slab s e w j sound is a =
    let a' : allowed (Finish w j) s ≡ true = subst (λ (f : Event). allowed f s ≡ true) is a in
    let b = and_parts (is_there s w) (may_finish s (worker s w) j) a' in
    let c = and_parts (has j (worker s w).drawn && not (has j (slabs_done (worker s w)))) (has_all (reach s.dims s.slab j) (worker s w).seen) b.1 in
    let d = and_parts (has j (worker s w).drawn) (not (has j (slabs_done (worker s w)))) c.0 in
    drawn_below s w j sound (live s w b.0).within d.0
