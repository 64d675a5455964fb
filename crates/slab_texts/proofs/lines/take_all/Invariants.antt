use Rattle.std.proofs.Common.{◌≡◌, ◌++◌, List, take}
use Rattle.std.specs.Prelude.{flat_map}
use Rattle.std.specs.List.{enumerate_from}
use Rattle.definitions.specs.declared.Extreme.{Extreme}
use Rattle.definitions.specs.declared.Place.{Place}
use Rattle.definitions.specs.Angles.{angles_of, extremes_of}
use Rattle.slab_texts.specs.Nodes.{AreInRow}
use Rattle.slab_texts.proofs.lines.take_all.Given as goal

abbrev pub invariant-loop-n : goal.invariant-loop-n
invariant-loop-n l = (all : List Place) → AreInRow all l.nodes.first l.nodes.places.items → (xs : List Extreme) → l.initial.angles ≡ extremes_of xs → l.angles ≡ extremes_of (xs ++ flat_map (angles_of all) (enumerate_from l.number (take l.n l.tets)))
