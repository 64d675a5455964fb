-- The state that the events of a script lead to, with one sample in slabs of two layers: five layers of 9, 4, 9, 4 and 9 vertices, in three slabs.
use Rattle.std.proofs.Common.{◌≡◌, ℕ, List, take, ap, ◌∙◌}
use Rattle.std.specs.Prelude.{replicate}
use Rattle.definitions.specs.Lattice.{dims}
use Rattle.slab_core.specs.declared.event.Event.{Event}
use Rattle.slab_core.specs.States.{CoreState, new_core}
use Rattle.slab_core.specs.Steps.{after_all, count_allowed}

abbrev pub start : ℕ → CoreState
start workers = new_core (dims 1 1 1) 1 (replicate 35 1) workers

-- the state after the events up to the first that isn't allowed
abbrev pub left : ℕ → List Event → CoreState
left workers events = after_all (take (count_allowed events (start workers)) events) (start workers)

pub left_by : (workers n : ℕ) (events : List Event) (s t : CoreState) → s ≡ start workers → n ≡ count_allowed events s → t ≡ after_all (take n events) s → t ≡ left workers events
left_by workers n events s t e f g = g ∙ (λ i. after_all (take ((f ∙ ap (count_allowed events) e) i) events) (e i))
