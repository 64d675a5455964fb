-- Each node stands inside: a vertex in its state, or a cut on an edge to a neighbour in the domain.
use Rattle.std.proofs.Common.{◌≡◌, ℕ, ◌+◌, ◌*◌, ◌/◌, ◌%◌, ◌<◌, ◌==◌, inl, inr, arith, refl, sym, subst, Bool, true, false, List, [], ◌∷◌, map, length, Option, Some, None}
use Rattle.std.specs.Prelude.{if◌then◌else◌, option_and_then, unwrap_or}
use Rattle.std.specs.List.{range_with_len, AllByRecursion}
use Rattle.std.proofs.lemmas.List.{get_or-map}
use Rattle.definitions.specs.declared.Vertex.{Vertex}
use Rattle.definitions.specs.declared.State.TheVariants as state
use Rattle.definitions.specs.Lattice.{InDomain, neighbour, vertex, vertices, vertex_at, step}
use Rattle.definitions.specs.Values.{Field, value}
use Rattle.definitions.specs.Cuts.{cut_number}
use Rattle.definitions.specs.States.{Shares, state_of, states}
use Rattle.definitions.specs.Places.{cut_place, state_place}
use Rattle.definitions.specs.Mesh.{all_pieces, edge_cut, mesh, node_keys, node_place, occurs, state_at}
use Rattle.lattice_laws.specs.Ascending.{Has}
use Rattle.lattice_laws.proofs.Laws.{ids_count_vertices}
use Rattle.lattice_laws.proofs.LaterNeighbours.{neighbour_leads}
use Rattle.lattice_laws.proofs.Members.{from_filter, from_range}
use Rattle.lattice_laws.proofs.Sublists.{all_by_place}
use Rattle.lattice_laws.proofs.Vertices.{domain_out}
use Rattle.place_laws.specs.Inside.{StandsInside, NodesStandInside}
use Rattle.place_laws.proofs.Between.{leads_by, between, no_part_inside}
use Rattle.snap_laws.proofs.StatesAre.{number_small}
use Rattle.place_laws.proofs.StatePlaces.{state_inside}

module _ (f : Field) (s : Shares) where
  pub state_at_id : (n : ℕ) → n < length (vertices f.dims) → state_at (states f s) n ≡ state_of f s (vertex_at f.dims n)
  unfolding states
  state_at_id n h = get_or-map (state_of f s) (vertices f.dims) n (vertex 0 0 0) state.Minus h

  -- the cut on an edge from v, if there is one, and else v itself
  edge_inside : (v : Vertex) (dir : ℕ) → InDomain f.dims v → StandsInside f.dims (cut_place v dir (edge_cut f v dir))
  edge_inside v dir inside = go (neighbour f.dims v dir true) refl
    where
      stays : StandsInside f.dims (cut_place v dir 0)
      stays = no_part_inside f.dims v (step dir) inside

      at_cut : (w : Vertex) → neighbour f.dims v dir true ≡ Some w → (o : Option ℕ) → cut_number (value f v) (value f w) ≡ o → StandsInside f.dims (cut_place v dir (unwrap_or o 0))
      at_cut w e None q = stays
      at_cut w e (Some k) q =
          let l = neighbour_leads f.dims v w dir true e in
          between f.dims v w (step dir) k inside (domain_out f.dims w l.1) (leads_by v w (step dir) l.0) (number_small (value f v) (value f w) k q)

      go : (o : Option Vertex) → neighbour f.dims v dir true ≡ o → StandsInside f.dims (cut_place v dir (unwrap_or (option_and_then (λ w. cut_number (value f v) (value f w)) o) 0))
      go None e = stays
      go (Some w) e = at_cut w e (cut_number (value f v) (value f w)) refl

  node_inside : (key : ℕ) → key / 8 < length (vertices f.dims) → StandsInside f.dims (node_place f (states f s) key)
  unfolding node_place
  node_inside key h = go (key % 8 == 0)
    where
      v : Vertex
      v = vertex_at f.dims (key / 8)

      inside : InDomain f.dims v
      inside = let i = ids_count_vertices f.dims in i.inside (key / 8) h

      go : (b : Bool) → StandsInside f.dims (if b then state_place v (state_at (states f s) (key / 8)) else cut_place v (key % 8) (edge_cut f v (key % 8)))
      go true = subst (λ t. StandsInside f.dims (state_place v t)) (sym (state_at_id (key / 8) h)) (state_inside f s v inside)
      go false = edge_inside v (key % 8) inside

  all_inside : (keys : List ℕ) → ((key : ℕ) → Has key keys → key / 8 < length (vertices f.dims)) → AllByRecursion (StandsInside f.dims) (map (node_place f (states f s)) keys)
  all_inside [] h = tt
  all_inside (key ∷ keys) h = (node_inside key (h key (inl refl)), all_inside keys (λ k m. h k (inr m)))

  key_small : (key : ℕ) → Has key (node_keys f.dims (states f s)) → key / 8 < length (vertices f.dims)
  unfolding node_keys
  key_small key h =
      let r = from_range 0 (8 * length (vertices f.dims)) key (from_filter (occurs (all_pieces f.dims (states f s))) key (range_with_len 0 (8 * length (vertices f.dims))) h).0 in
      below key (length (vertices f.dims)) r.1
    where
      below : (k n : ℕ) → k < 0 + 8 * n → k / 8 < n
      below k n h = omega arith

pub nodes_stand_inside : NodesStandInside
unfolding mesh
nodes_stand_inside f s = all_by_place (StandsInside f.dims) (map (node_place f (states f s)) (node_keys f.dims (states f s))) (all_inside f s (node_keys f.dims (states f s)) (key_small f s))
