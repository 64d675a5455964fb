-- The faces of a tetrahedron.
use Rattle.std.specs.Prelude.{List, ◌+ℤ◌, neg_ℤ}
use Rattle.definitions.specs.declared.Place.{Place}
use Rattle.definitions.specs.Places.{place}
use Rattle.dihedral.specs.declared.faces.Faces.{Faces}
use Rattle.dihedral.specs.Fractions.{normal_at}
use Rattle.dihedral.specs.Pairs.{IsPairOf}

-- what three vectors lack to add up to nothing
abbrev pub closing : Place → Place → Place → Place
closing l m n = place (neg_ℤ ((l.x +ℤ m.x) +ℤ n.x)) (neg_ℤ ((l.y +ℤ m.y) +ℤ n.y)) (neg_ℤ ((l.z +ℤ m.z) +ℤ n.z))

-- the faces opposite the nodes have these normals; they meet two at a time at the edges
pub record HaveNormals (k l m n : Place) (faces : Faces) : Type 0 where
  pub edge_0 : IsPairOf n m faces.edge_0
  pub edge_1 : IsPairOf l n faces.edge_1
  pub edge_2 : IsPairOf m l faces.edge_2
  pub edge_3 : IsPairOf n k faces.edge_3
  pub edge_4 : IsPairOf m k faces.edge_4
  pub edge_5 : IsPairOf l k faces.edge_5

-- each opposite a node, with a normal that points outwards
abbrev pub AreFaces : List Place → Faces → Type 0
AreFaces tet faces = HaveNormals (normal_at tet 1 2 3) (normal_at tet 0 3 2) (normal_at tet 0 1 3) (normal_at tet 0 2 1) faces
