-- The places of a tetrahedron's nodes, one by one.
use Rattle.std.proofs.Common.{◌≡◌, ℕ, ◌<◌, List, length, get_or, arith}
use Rattle.std.proofs.lemmas.List.{get_or-map}
use Rattle.definitions.specs.declared.Place.{Place}
use Rattle.definitions.specs.Vectors.{det, det_of, minus, place_at}
use Rattle.definitions.specs.Soundness.{corner_places}

pub corner_place : (places : List Place) (tet : List ℕ) (k : ℕ) → k < length tet → place_at (corner_places places tet) k ≡ place_at places (get_or tet k 0)
corner_place places tet k lt = get_or-map (place_at places) tet k 0 _ lt

pub det_by_corners : (places : List Place) (tet : List ℕ) → length tet ≡ 4 →
    det (corner_places places tet) ≡ det_of (minus (place_at places (get_or tet 1 0)) (place_at places (get_or tet 0 0))) (minus (place_at places (get_or tet 2 0)) (place_at places (get_or tet 0 0))) (minus (place_at places (get_or tet 3 0)) (place_at places (get_or tet 0 0)))
det_by_corners places tet four =
    let from = corner_place places tet 0 (omega arith) in
    let a = corner_place places tet 1 (omega arith) in
    let b = corner_place places tet 2 (omega arith) in
    let c = corner_place places tet 3 (omega arith) in
    λ i. det_of (minus (a i) (from i)) (minus (b i) (from i)) (minus (c i) (from i))
