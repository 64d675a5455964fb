-- What the neighbours of a mesh's tetrahedra ask, that no tetrahedron has a node twice and no triangle is in more than two; and what they are to one another.
use Rattle.std.proofs.Common.{◌≢◌, ℕ, List, [], ◌∷◌, get_or}
use Rattle.std.specs.Prelude.{AllPairs}
use Rattle.definitions.specs.declared.Place.{Place}
use Rattle.definitions.specs.Mesh.{mesh}
use Rattle.definitions.specs.States.{Shares, IsShares}
use Rattle.definitions.specs.Values.{Field}
use Rattle.adjacency.specs.Laws.{AreMutual, EndsAtBoundary, NodesDiffer, ShareByTwo}
use Rattle.face_neigh.proofs.Partners.{ends_of, mutual_of}
use Rattle.lattice_laws.proofs.Sublists.{pairs_by_place}
use Rattle.sound_laws.proofs.Sound.{boundary_is_closed, mesh_conforms}
use Rattle.triangle_laws.proofs.DirectedTriangles.{IsFour, is_four, as_four}
use Rattle.triangle_laws.proofs.Orders.{different, own_order}

four_differ : (places : List Place) (tet : List ℕ) → IsFour places tet → AllPairs (λ (a b : ℕ). a ≢ b) tet
four_differ places _ (is_four p q r s positive) =
    let d = different places (p ∷ q ∷ r ∷ s ∷ []) p q r s (own_order places p q r s positive) in
    pairs_by_place (λ (a b : ℕ). a ≢ b) (p ∷ q ∷ r ∷ s ∷ []) ((d.ab, (d.ac, (d.ad, tt))), ((d.bc, (d.bd, tt)), ((d.cd, tt), (tt, tt))))

pub nodes_differ : (f : Field) (s : Shares) → IsShares s → NodesDiffer (mesh f s).tets
nodes_differ f s ok k d lt =
    let c = mesh_conforms f s ok in
    four_differ (mesh f s).places (get_or (mesh f s).tets k d) (as_four (mesh f s).places (get_or (mesh f s).tets k d) (c.four k d lt) (c.positive k d lt))

pub share_by_two : (f : Field) (s : Shares) → IsShares s → ShareByTwo (mesh f s).tets
share_by_two f s ok = (boundary_is_closed f s ok).at_most_two

-- tetrahedra are neighbours of each other, and there is none exactly across a boundary triangle
pub are_joined : (f : Field) (s : Shares) → IsShares s → AreMutual (mesh f s).tets × EndsAtBoundary (mesh f s).tets
are_joined f s ok =
    let c = mesh_conforms f s ok in (
      mutual_of (mesh f s).tets (record { four = c.four; differ = nodes_differ f s ok; by_two = share_by_two f s ok }),
      ends_of (mesh f s).tets (record { four = c.four; differ = nodes_differ f s ok; by_two = share_by_two f s ok }),
    )
