-- Lines of tetrahedra with the extremes of their angles.
use Rattle.std.specs.Prelude.{◌≡◌, ℕ, ◌+◌, Bool, if◌then◌else◌, List, [], ◌++◌, All, ◌^◌, flat_map, map, length, pos, ◌<ℤ◌, ◌<◌, ◌≤◌}
use Rattle.std.specs.List.{enumerate_from}
use Rattle.definitions.specs.declared.Place.{Place}
use Rattle.definitions.specs.declared.Extreme.{Extreme}
use Rattle.definitions.specs.Angles.{angles_of, extremes_of}
use Rattle.definitions.specs.Soundness.{corner_places}
use Rattle.definitions.specs.Vectors.{det}
use Rattle.determinants.specs.Bounds.{AreNear}
use Rattle.mesh_texts.specs.Lines.{ele_lines, renumbered}
use Rattle.slab_texts.specs.declared.lines.TetLines.{TetLines}
use Rattle.slab_texts.specs.declared.nodes.Nodes.{Nodes}
use Rattle.slab_texts.specs.Nodes.{AreInRow}

-- Four places that are near to one another and span a volume above zero: the angles between their faces can be measured.
pub record Spans (tet : List Place) : Type 0 where
  pub near : AreNear tet
  pub positive : pos 0 <ℤ det tet

abbrev pub IsMeasured : List Place → List ℕ → Type 0
IsMeasured places tet = Spans (corner_places places tet)

-- the lines of tetrahedra, numbered from `first`, where lines are written
abbrev pub lines_if : Bool → ℕ → ℕ → List (List ℕ) → List ℕ
lines_if writes first from tets = if writes then ele_lines (first + from) (map (renumbered first) tets) else []

-- some tetrahedra more, of nodes at these places
pub record AddsTets (places : List Place) (old : TetLines) (tets : List (List ℕ)) (new : TetLines) : Type 0 where
  pub text : new.text.items ≡ old.text.items ++ lines_if old.writes old.numbering old.number tets
  pub writes : new.writes ≡ old.writes
  pub numbering : new.numbering ≡ old.numbering
  pub number : new.number ≡ old.number + length tets
  pub angles : (xs : List Extreme) → old.angles ≡ extremes_of xs → new.angles ≡ extremes_of (xs ++ flat_map (angles_of places) (enumerate_from old.number tets))

-- the same wherever the places of these nodes stand in a row
abbrev pub Adds : Nodes → TetLines → List (List ℕ) → TetLines → Type 0
Adds nodes old tets new = (all : List Place) → AreInRow all nodes.first nodes.places.items → AddsTets all old tets new

-- the places of these nodes stand in a row of a list of places by which tetrahedra can be measured
pub record AreMeasuredIn (nodes : Nodes) (tets : List (List ℕ)) : Type 0 where
  pub all : List Place
  pub row : AreInRow all nodes.first nodes.places.items
  pub measured : All (IsMeasured all) tets

-- a number of one of these nodes, below 2^31
pub record IsAmong (nodes : Nodes) (n : ℕ) : Type 0 where
  pub low : nodes.first ≤ n
  pub high : n < nodes.first + length nodes.places.items
  pub small : n < 2 ^ 31

abbrev pub AreAmong : Nodes → List ℕ → Type 0
AreAmong nodes numbers = All (IsAmong nodes) numbers
