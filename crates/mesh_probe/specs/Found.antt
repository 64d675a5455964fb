-- What a search for the piece that holds a point finds.
use Rattle.std.specs.Prelude.{◌≡◌, ◌<◌, ℕ, pos, List, [], length, map, slice_index, slice_index_or, take}
use Rattle.definitions.specs.declared.Vertex.{Vertex}
use Rattle.definitions.specs.declared.Place.{Place}
use Rattle.definitions.specs.declared.State.{State}
use Rattle.definitions.specs.declared.State.TheVariants as state
use Rattle.definitions.specs.Lattice.{InDomain, vertex}
use Rattle.definitions.specs.Values.{Field}
use Rattle.definitions.specs.States.{Shares, states}
use Rattle.definitions.specs.Mesh.{node_place, state_at}
use Rattle.lattice_laws.specs.Ascending.{Has}
use Rattle.mesh_probe.specs.Holding.{Holds, weights, pieces_from}
use Rattle.mesh_probe.specs.declared.hold.Hold.{Hold}

-- these are the states of the vertices with these ids
abbrev pub AreStatesAt : List State → List ℕ → List State → Type 0
AreStatesAt ss ids told = (j : ℕ) → j < 4 → state_at ss (slice_index ids j) ≡ slice_index_or told j state.Minus

-- the places of the nodes of a piece
abbrev pub piece_places : Field → Shares → List ℕ → List Place
piece_places f s keys = map (node_place f (states f s)) keys

-- none of the pieces holds the point
abbrev pub NoneHolds : Field → Shares → Place → List (List ℕ) → Type 0
NoneHolds f s p pieces = (keys : List ℕ) → Has keys pieces → Holds (piece_places f s keys) p → ⊥

-- The piece with this rank holds the point, the first of these pieces to do so; it has these nodes, and the point these weights.
pub record IsFirstOf (f : Field) (s : Shares) (p : Place) (pieces : List (List ℕ)) (rank : ℕ) (nodes : List ℕ) (ws : List ℕ) : Type 0 where
  pub within : rank < length pieces
  pub nodes_are : nodes ≡ slice_index_or pieces rank []
  pub weights_are : map pos ws ≡ weights (piece_places f s nodes) p
  pub first : NoneHolds f s p (take rank pieces)

-- no piece holds the point in a lattice tetrahedron whose lowest vertex this is
abbrev pub IsClear : Field → Shares → Place → Vertex → Type 0
IsClear f s p v = InDomain f.dims v → NoneHolds f s p (pieces_from f.dims (states f s) v)

-- A piece that holds the point, the first of those of its lowest vertex.
pub record IsFound (f : Field) (s : Shares) (p : Place) (hold : Hold) : Type 0 where
  pub domain : InDomain f.dims hold.lowest
  pub first : IsFirstOf f s p (pieces_from f.dims (states f s) hold.lowest) hold.rank hold.nodes hold.weights

-- the first in row y of layer h
pub record IsFoundInRow (f : Field) (s : Shares) (p : Place) (h y : ℕ) (hold : Hold) : Type 0 where
  pub found : IsFound f s p hold
  pub layer : hold.lowest.h ≡ h
  pub row : hold.lowest.y ≡ y
  pub clear : (x : ℕ) → x < hold.lowest.x → IsClear f s p (vertex h y x)

-- the first in layer h
pub record IsFoundInLayer (f : Field) (s : Shares) (p : Place) (h : ℕ) (hold : Hold) : Type 0 where
  pub found : IsFound f s p hold
  pub layer : hold.lowest.h ≡ h
  pub clear_row : (x : ℕ) → x < hold.lowest.x → IsClear f s p (vertex h hold.lowest.y x)
  pub clear_rows : (y x : ℕ) → y < hold.lowest.y → IsClear f s p (vertex h y x)

-- the first of all
pub record IsFirstFound (f : Field) (s : Shares) (p : Place) (hold : Hold) : Type 0 where
  pub found : IsFound f s p hold
  pub clear_row : (x : ℕ) → x < hold.lowest.x → IsClear f s p (vertex hold.lowest.h hold.lowest.y x)
  pub clear_rows : (y x : ℕ) → y < hold.lowest.y → IsClear f s p (vertex hold.lowest.h y x)
  pub clear_layers : (h y x : ℕ) → h < hold.lowest.h → IsClear f s p (vertex h y x)
