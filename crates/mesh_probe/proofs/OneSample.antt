-- Which tetrahedra of the mesh of one sample hold points, by computing.
use Rattle.std.specs.Prelude.{◌≡◌, [], ◌∷◌, refl, pos, negsuc, true, int_lt}
use Rattle.std.specs.List.{list_all, list_any}
use Rattle.definitions.specs.Places.{place}
use Rattle.definitions.specs.Mesh.{mesh}
use Rattle.definitions.specs.Soundness.{corner_places}
use Rattle.worked_values.specs.Fields.{usual, one_sample}
use Rattle.worked_values.proofs.AllOpen.{all_open}
use Rattle.mesh_probe.specs.Holding.{places_of, weights}

-- a node of the first tetrahedron, its fourth, and another, its first
pub at_the_sample : weights (places_of one_sample usual 0) (place (pos 0) (pos 0) (pos 0)) ≡ pos 0 ∷ pos 0 ∷ pos 0 ∷ pos 44894461952 ∷ []
unfolding all_open
at_the_sample = refl

pub at_the_lowest_node : weights (places_of one_sample usual 0) (place (pos 0) (pos 0) (negsuc 4095)) ≡ pos 44894461952 ∷ pos 0 ∷ pos 0 ∷ pos 0 ∷ []
unfolding all_open
at_the_lowest_node = refl

-- a point inside the first tetrahedron
pub inside : weights (places_of one_sample usual 0) (place (pos 0) (negsuc 999) (negsuc 1999)) ≡ pos 10960562000 ∷ pos 9588736000 ∷ pos 9588736000 ∷ pos 14756427952 ∷ []
unfolding all_open
inside = refl

-- a point below the lowest node: in each tetrahedron a weight is below 0
pub outside : list_all (λ t. list_any (λ w. int_lt w (pos 0)) (weights (corner_places (mesh one_sample usual).places t) (place (pos 0) (pos 0) (negsuc 4096)))) (mesh one_sample usual).tets ≡ true
unfolding all_open
outside = refl
