-- The mesh of every field is sound: its tetrahedra conform, so that triangles are paired and the boundary closes up, and nodes are where they should be.
use Rattle.std.specs.Prelude.{ℕ, List, length}
use Rattle.std.proofs.Common.{◌≡◌, ap, ◌∙◌}
use Rattle.std.proofs.lemmas.List.{length-map}
use Rattle.definitions.specs.Values.{Field}
use Rattle.definitions.specs.States.{Shares, IsShares, states}
use Rattle.definitions.specs.Pieces.{oriented}
use Rattle.definitions.specs.Mesh.{mesh}
use Rattle.lattice_laws.proofs.Sublists.{all_by_place}
use Rattle.triangle_laws.specs.Laws.{AreConforming}
use Rattle.triangle_laws.proofs.Partners.{triangles_are_shared, boundaries_close}
use Rattle.node_laws.proofs.Padding.{states_are_padded}
use Rattle.node_laws.proofs.PlusVertices.{plus_vertices_are_nodes, minus_vertices_are_no_nodes}
use Rattle.face_laws.proofs.NumberedBoundary.{mesh_boundary_is_level}
use Rattle.parent_laws.specs.Parents.{Parent, node_number}
use Rattle.stencil_laws.proofs.OrientedPieces.{length_oriented}
use Rattle.parent_laws.proofs.Parents.{tets_have_parents}
use Rattle.sound_laws.specs.Laws.{BoundaryIsClosed, MeshIsSound}
use Rattle.sound_laws.proofs.Positive.{tets_are_positive}
use Rattle.sound_laws.proofs.Meeting.{piece_of, tets_meet}
use Rattle.sound_laws.proofs.Different.{tets_differ}
use Rattle.lattice_laws.proofs.Members.{all_from_members}

parent_has_four : (f : Field) (s : Shares) (t : List ℕ) → Parent f s t → length t ≡ 4
parent_has_four f s t o =
    let p = piece_of f s t o in
    ap length o.nodes ∙ (length-map (oriented o.tet o.piece) (node_number f s o.tet) ∙ (length_oriented o.tet o.piece ∙ p.four))

-- what makes the mesh of a field conform
pub mesh_conforms : (f : Field) (s : Shares) → IsShares s → AreConforming (mesh f s).places (mesh f s).tets
mesh_conforms f s ok = record {
  four = all_by_place (λ t. length t ≡ 4) (mesh f s).tets (all_from_members (λ t. length t ≡ 4) (mesh f s).tets (λ t m. parent_has_four f s t (tets_have_parents f s t m)));
  positive = tets_are_positive f s ok;
  meet = tets_meet f s ok;
  different = tets_differ f s;
}

pub boundary_is_closed : BoundaryIsClosed
boundary_is_closed f s ok = record {
  at_most_two = triangles_are_shared (mesh f s).places (mesh f s).tets (mesh_conforms f s ok);
  level = mesh_boundary_is_level f s;
  closes = boundaries_close (mesh f s).places (mesh f s).tets (mesh_conforms f s ok);
}

pub mesh_is_sound : MeshIsSound
mesh_is_sound f s ok = record {
  positive = tets_are_positive f s ok;
  meet = tets_meet f s ok;
  different = tets_differ f s;
  boundary = boundary_is_closed f s ok;
  plus_in = plus_vertices_are_nodes f.dims (states f s) (states_are_padded f s);
  minus_out = minus_vertices_are_no_nodes f.dims (states f s) (states_are_padded f s);
}
