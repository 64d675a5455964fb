-- The states of the concurrent core: what workers share, and what each has done.
use Rattle.std.specs.Prelude.{ℕ, Bool, false, List, [], length, replicate}
use Rattle.definitions.specs.declared.Dims.{Dims}
use Rattle.definitions.specs.Lattice.{vertices, layers}

-- What a worker has done: slabs drawn, layers seen with their flag up and with it down, ids put, layers made, ids read with their words, slabs done with the words of their reach; whether it found no slab left, and whether it is gone.
pub record WorkerState : Type 0 where
  pub drawn : List ℕ
  pub seen : List ℕ
  pub down : List ℕ
  pub put : List ℕ
  pub made : List ℕ
  pub got : List (ℕ × ℕ)
  pub done : List (ℕ × List ℕ)
  pub out : Bool
  pub gone : Bool

-- The sizes and the slab size, the code that each vertex is to have, the next slab, one word per vertex, 0 or a code, one flag per layer, up or down, and the workers.
pub record CoreState : Type 0 where
  pub dims : Dims
  pub slab : ℕ
  pub wanted : List ℕ
  pub next : ℕ
  pub words : List ℕ
  pub flags : List Bool
  pub workers : List WorkerState

abbrev pub new_worker : WorkerState
new_worker = record { drawn = []; seen = []; down = []; put = []; made = []; got = []; done = []; out = false; gone = false }

abbrev pub new_core : Dims → ℕ → List ℕ → ℕ → CoreState
new_core d slab wanted workers =
    record {
      dims = d;
      slab = slab;
      wanted = wanted;
      next = 0;
      words = replicate (length (vertices d)) 0;
      flags = replicate (layers d) false;
      workers = replicate workers new_worker;
    }
