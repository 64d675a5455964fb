use Rattle.std.proofs.Common.{◌≡◌, ◌≤◌, length, vec_capacity, All, Option, None}
use Rattle.std.specs.Prelude.{Result}
use Rattle.st_base.specs.declared.NoMemory.{NoMemory}
use Rattle.slab_emit.specs.declared.part.Part.{Part}
use Rattle.slab_emit.proofs.round.places_of.Given as goal

abbrev pub invariant-loop : goal.invariant-loop
invariant-loop l = record {
  len : length l.places.items ≡ l.counter;
  none : All (λ (p : Option (Result Part NoMemory)). p ≡ None) l.places.items;
  room : l.fn.count ≤ vec_capacity l.places;
}
