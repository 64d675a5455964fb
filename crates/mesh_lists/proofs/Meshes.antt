-- The mesh of a field by its states, and how large it is.
use Rattle.std.proofs.Common.{◌≡◌, ap, sym, subst, All, ℕ, ◌*◌, ◌^◌, ◌<◌, ◌≤◌, arith, refl, ◌∙◌, List, length, map}
use Rattle.std.proofs.lemmas.List.{length-map}
use Rattle.definitions.specs.declared.Place.{Place}
use Rattle.definitions.specs.declared.State.{State}
use Rattle.definitions.specs.Lattice.{vertices}
use Rattle.definitions.specs.Values.{Field, IsField}
use Rattle.definitions.specs.States.{Shares, IsShares, states}
use Rattle.definitions.specs.Mesh.{Mesh, all_pieces, mesh, node_keys, node_place, number_of}
use Rattle.near_laws.specs.Near.{IsPlaced}
use Rattle.near_laws.proofs.NearNodes.{nodes_are_near}
use Rattle.definitions.specs.Soundness.{IsPositive}
use Rattle.sound_laws.proofs.Positive.{tets_are_positive}
use Rattle.mesh_lists.specs.Made.{IsMade}
use Rattle.mesh_lists.specs.Parts.{mesh_of}
use Rattle.mesh_lists.proofs.Sizes.{few_keys, few_pieces}

-- the parts of the mesh of these states
pub parts_are : (f : Field) (ss : List State) (m : Mesh) (places : List Place) (tets : List (List ℕ)) → m ≡ record { places = places; tets = tets } → places ≡ map (node_place f ss) (node_keys f.dims ss) →
    tets ≡ map (map (number_of (node_keys f.dims ss))) (all_pieces f.dims ss) → m ≡ mesh_of f ss
unfolding mesh_of
parts_are f ss m places tets e p t = e ∙ (λ i. record { places = p i; tets = t i })

pub mesh_by_states : (f : Field) (s : Shares) → mesh_of f (states f s) ≡ mesh f s
unfolding mesh mesh_of
mesh_by_states f s = refl

pub is_made : (f : Field) (s : Shares) (ss : List State) (places : List Place) (tets : List (List ℕ)) → IsField f → IsShares s → ss ≡ states f s → places ≡ map (node_place f ss) (node_keys f.dims ss) →
    tets ≡ map (map (number_of (node_keys f.dims ss))) (all_pieces f.dims ss) → IsMade (record { places = places; tets = tets })
is_made f s ss places tets i j e p t = record {
  field = f;
  shares = s;
  is_field = i;
  are_shares = j;
  is = parts_are f ss (record { places = places; tets = tets }) places tets refl p t ∙ ap (mesh_of f) e ∙ mesh_by_states f s;
}

-- the tetrahedra of a mesh have places
pub made_near : (m : Mesh) → IsMade m → All (IsPlaced m.places) m.tets
made_near m h = subst (λ n. All (IsPlaced n.places) n.tets) (sym h.is) (nodes_are_near h.field h.shares h.are_shares)

-- and volumes above zero
pub made_positive : (m : Mesh) → IsMade m → All (IsPositive m.places) m.tets
made_positive m h = subst (λ n. All (IsPositive n.places) n.tets) (sym h.is) (tets_are_positive h.field h.shares h.are_shares)

module _ (f : Field) (s : Shares) (few : length (vertices f.dims) ≤ 2 ^ 27) where
  pub few_places : length (mesh f s).places < 2 ^ 31
  unfolding mesh
  few_places =
      let l = length-map (node_keys f.dims (states f s)) (node_place f (states f s)) in
      bound (length (map (node_place f (states f s)) (node_keys f.dims (states f s)))) (length (node_keys f.dims (states f s))) (length (vertices f.dims)) l (few_keys f.dims (states f s)) few
    where
      bound : (m k v : ℕ) → m ≡ k → k ≤ 8 * v → v ≤ 2 ^ 27 → m < 2 ^ 31
      bound m k v e h g = omega arith

  pub few_tets : length (mesh f s).tets < 2 ^ 32
  unfolding mesh
  few_tets =
      let l = length-map (all_pieces f.dims (states f s)) (map (number_of (node_keys f.dims (states f s)))) in
      bound (length (map (map (number_of (node_keys f.dims (states f s)))) (all_pieces f.dims (states f s)))) (length (all_pieces f.dims (states f s))) (length (vertices f.dims)) l (few_pieces f.dims (states f s)) few
    where
      bound : (m k v : ℕ) → m ≡ k → k ≤ 18 * v → v ≤ 2 ^ 27 → m < 2 ^ 32
      bound m k v e h g = omega arith
