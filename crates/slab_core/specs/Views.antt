-- The state that a program's value stands for.
use Rattle.slab_core.specs.States.{CoreState}
use Rattle.slab_core.specs.declared.state.State.TheInside.{Inside}

abbrev pub seen_as : Inside → CoreState
seen_as s = record {
  dims = s.layout.dims;
  slab = s.layout.slab;
  wanted = s.wanted.items;
  next = s.next;
  words = s.words.items;
  flags = s.flags.items;
  workers = s.workers.items;
}
