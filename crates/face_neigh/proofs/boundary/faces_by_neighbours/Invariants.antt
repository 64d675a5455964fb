use Rattle.std.proofs.Common.{◌≡◌, ℕ, List, take, eqb}
use Rattle.std.specs.Prelude.{filter}
use Rattle.definitions.specs.Soundness.{all_triangles, tets_at_triangle}
use Rattle.face_neigh.proofs.boundary.faces_by_neighbours.Given as goal

abbrev pub invariant-loop-number : goal.invariant-loop-number
invariant-loop-number l = l.faces.items ≡ filter (λ (x : List ℕ). eqb (tets_at_triangle l.tets x) 1) (all_triangles (take l.number l.tets))
