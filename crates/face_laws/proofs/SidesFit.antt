-- The triangles of the pieces of all 81 cases, each by one computation.
use Rattle.std.proofs.Common.{◌≡◌, refl, true}
use Rattle.std.specs.List.{list_all, range_with_len}
use Rattle.definitions.specs.Facets.{fill}
use Rattle.definitions.specs.Stencils.{kept, facets}
use Rattle.lattice_laws.specs.FiniteTests.{every_case}
use Rattle.lattice_laws.proofs.FiniteTests.{each_case}
use Rattle.face_laws.specs.Sides.{are_kept, is_inner_twice, is_of_faces, has_face_triangles, every_side}
use Rattle.face_laws.specs.Laws.{SidesFitEachCase}

all_are_kept : every_case (every_side are_kept) ≡ true
unfolding kept facets fill
all_are_kept = refl

all_inner_twice : every_case (every_side is_inner_twice) ≡ true
unfolding kept facets fill
all_inner_twice = refl

all_of_faces : every_case (every_side is_of_faces) ≡ true
unfolding kept facets fill
all_of_faces = refl

all_faces_taken : every_case (λ signs. list_all (has_face_triangles signs) (range_with_len 0 4)) ≡ true
unfolding kept facets fill
all_faces_taken = refl

pub sides_fit_each_case : SidesFitEachCase
sides_fit_each_case signs len = record {
  kept = each_case (every_side are_kept) all_are_kept signs len;
  inner_twice = each_case (every_side is_inner_twice) all_inner_twice signs len;
  of_face = each_case (every_side is_of_faces) all_of_faces signs len;
  all_taken = each_case (λ signs. list_all (has_face_triangles signs) (range_with_len 0 4)) all_faces_taken signs len;
}
