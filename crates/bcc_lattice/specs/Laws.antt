-- What is known of all codes of states, and of the tetrahedra at all vertices.
use Rattle.std.specs.Prelude.{◌≡◌, ◌≢◌, ◌⊎◌, ◌↔◌, Bool, true, List, ◌∷◌, AllPairs, map, flat_map}
use Rattle.definitions.specs.declared.Dims.{Dims}
use Rattle.definitions.specs.declared.State.{State}
use Rattle.definitions.specs.declared.Vertex.{Vertex}
use Rattle.definitions.specs.Lattice.{InDomain, before, vertices}
use Rattle.definitions.specs.States.{IsState, code}
use Rattle.definitions.specs.Tetrahedra.{IsLatticeTet, lattice_tets, tets_from}
use Rattle.lattice_laws.specs.Ascending.{Has}
use Rattle.bcc_lattice.specs.declared.tetrahedra.TetsAt.{TetsAt}
use Rattle.bcc_lattice.specs.TetLists.{tets_of}

-- two states that have one code are equal
abbrev pub CodesTellStates : Type 0
CodesTellStates = (s t : State) → IsState s → IsState t → code s ≡ code t → s ≡ t

-- the first list stands before the second: where they first differ, its element does
abbrev pub StandsBefore : {X : Type 0} → (X → X → Bool) → List X → List X → Type 0
StandsBefore lt (x ∷ xs) (y ∷ ys) = (lt x y ≡ true) ⊎ ((x ≡ y) × StandsBefore lt xs ys)
StandsBefore lt xs ys = ⊥

-- the tetrahedra that are found at each vertex, one vertex after another in order
abbrev pub all_found : Dims → (Vertex → TetsAt) → List (List Vertex)
all_found d found = flat_map (λ v. map (λ tet. tet.at) (tets_of (found v))) (vertices d)

-- the list has all lattice tetrahedra and nothing else, in order by their vertices, each once
pub record ListsTets (d : Dims) (tets : List (List Vertex)) : Type 0 where
  pub all : tets ≡ lattice_tets d
  pub exactly : (tet : List Vertex) → Has tet tets ↔ IsLatticeTet d tet
  pub ordered : AllPairs (StandsBefore before) tets
  pub once : AllPairs (λ s t. s ≢ t) tets

-- so it is where what is found at each vertex are the tetrahedra of which it is the lowest
abbrev pub FoundTetsAreListed : Type 0
FoundTetsAreListed =
    (d : Dims) (found : Vertex → TetsAt) → ((v : Vertex) → InDomain d v → map (λ tet. tet.at) (tets_of (found v)) ≡ tets_from d v) → ListsTets d (all_found d found)
