-- Which events are allowed in a state, and what each makes of it.
use Rattle.std.specs.Prelude.{ℕ, suc, ◌+◌, ◌==◌, nat_lt, List, [], ◌∷◌, ◌++◌, map, length, Bool, true, false, not, ◌&&◌, if◌then◌else◌, slice_index, slice_index_or, slice_set, slice_range, fold}
use Rattle.std.specs.List.{list_any}
use Rattle.definitions.specs.Lattice.{vertices, vertex_at, layers}
use Rattle.definitions.specs.Layout.{layer_ids, layer_start, slabs, reach, reach_from, reach_to, is_in_reach}
use Rattle.list_words.specs.Words.{has, has_all, joined, without}
use Rattle.slab_core.specs.declared.event.Event.{Event}
use Rattle.slab_core.specs.declared.event.Event.TheVariants.{Claim, Look, Put, Raise, Read, Finish, Quit}
use Rattle.slab_core.specs.States.{WorkerState, CoreState, new_worker}

abbrev pub worker : CoreState → ℕ → WorkerState
worker s w = slice_index_or s.workers w new_worker

abbrev pub is_up : CoreState → ℕ → Bool
is_up s h = slice_index_or s.flags h false

abbrev pub slab_count : CoreState → ℕ
slab_count s = slabs s.dims s.slab

abbrev pub layer_of : CoreState → ℕ → ℕ
layer_of s id = (vertex_at s.dims id).h

-- layer h is in the reach of a slab that the worker drew
abbrev pub reaches : CoreState → WorkerState → ℕ → Bool
reaches s k h = list_any (λ j. is_in_reach s.dims s.slab j h) k.drawn

abbrev pub slabs_done : WorkerState → List ℕ
slabs_done k = map (λ (p : ℕ × List ℕ). p.0) k.done

-- the words of the layers in the reach of slab j, among words of all vertices
abbrev pub reach_words : CoreState → List ℕ → ℕ → List ℕ
reach_words s words j = slice_range words (layer_start s.dims (reach_from s.slab j)) (layer_start s.dims (reach_to s.dims s.slab j))

-- ---- what is asked

-- the worker is there, and isn't gone
abbrev pub is_there : CoreState → ℕ → Bool
is_there s w = nat_lt w (length s.workers) && not (worker s w).gone

-- all ids of layer h are among those that the worker put
abbrev pub has_put_layer : CoreState → WorkerState → ℕ → Bool
has_put_layer s k h = has_all (layer_ids s.dims h) k.put

-- the worker drew slab j, hasn't done it, and saw all layers of its reach
abbrev pub may_finish : CoreState → WorkerState → ℕ → Bool
may_finish s k j = has j k.drawn && not (has j (slabs_done k)) && has_all (reach s.dims s.slab j) k.seen

abbrev pub allowed : Event → CoreState → Bool
allowed (Claim w) s = is_there s w && not (worker s w).out
allowed (Look w h) s = is_there s w && nat_lt h (layers s.dims)
allowed (Put w id) s = is_there s w && nat_lt id (length (vertices s.dims))
allowed (Raise w h) s = is_there s w && has h (worker s w).down && reaches s (worker s w) h && has_put_layer s (worker s w) h
allowed (Read w id) s = is_there s w && nat_lt id (length (vertices s.dims)) && has (layer_of s id) (worker s w).seen
allowed (Finish w j) s = is_there s w && may_finish s (worker s w) j
allowed (Quit w) s = is_there s w && (worker s w).out && has_all (worker s w).drawn (slabs_done (worker s w))

-- ---- what is done

abbrev pub claimed : ℕ → ℕ → WorkerState → WorkerState
claimed next slabs k = if nat_lt next slabs then record k { drawn = k.drawn ++ next ∷ [] } else record k { out = true }

abbrev pub looked : ℕ → Bool → WorkerState → WorkerState
looked h up k = if up then record k { seen = joined h k.seen; down = without h k.down } else record k { down = joined h k.down }

abbrev pub raised : ℕ → WorkerState → WorkerState
raised h k = record k { down = without h k.down; seen = joined h k.seen; made = k.made ++ h ∷ [] }

-- a word 0 becomes the one that is wanted
abbrev pub words_put : CoreState → ℕ → List ℕ
words_put s id = if slice_index s.words id == 0 then slice_set s.words id (slice_index s.wanted id) else s.words

abbrev pub workers_with : CoreState → ℕ → WorkerState → List WorkerState
workers_with s w k = slice_set s.workers w k

abbrev pub after : Event → CoreState → CoreState
after (Claim w) s = record s { next = s.next + 1; workers = workers_with s w (claimed s.next (slab_count s) (worker s w)) }
after (Look w h) s = record s { workers = workers_with s w (looked h (is_up s h) (worker s w)) }
after (Put w id) s = record s { words = words_put s id; workers = workers_with s w (record (worker s w) { put = joined id (worker s w).put }) }
after (Raise w h) s = record s { flags = slice_set s.flags h true; workers = workers_with s w (raised h (worker s w)) }
after (Read w id) s = record s { workers = workers_with s w (record (worker s w) { got = (worker s w).got ++ (id, slice_index s.words id) ∷ [] }) }
after (Finish w j) s = record s { workers = workers_with s w (record (worker s w) { done = (worker s w).done ++ (j, reach_words s s.words j) ∷ [] }) }
after (Quit w) s = record s { workers = workers_with s w (record (worker s w) { gone = true }) }

-- the events one after another
abbrev pub after_all : List Event → CoreState → CoreState
after_all events s = fold (λ t e. after e t) s events

-- how many of the events are allowed, each in the state that those before it leave, up to the first that isn't
abbrev pub count_allowed : List Event → CoreState → ℕ
count_allowed [] s = 0
count_allowed (e ∷ es) s = if allowed e s then suc (count_allowed es (after e s)) else 0
