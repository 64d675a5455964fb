use Rattle.std.proofs.Common.{◌≡◌, ℕ, List, sym, subst}
use Rattle.std.specs.Prelude.{All, IsTrue}
use Rattle.std.specs.List.{list_all}
use Rattle.std.proofs.lemmas.Result.{IfOk-weaker}
use Rattle.definitions.specs.Soundness.{boundary, edge_count}
use Rattle.adjacency.specs.Laws.{StandOnce}
use Rattle.face_neigh.proofs.BoundaryTriangles.{once_of}
use Rattle.face_neigh.proofs.boundary.faces.Goals as goal

pub returns-clause-once : goal.returns-clause-once
returns-clause-once c =
    IfOk-weaker c.faces_by_neighbours.result (λ found. found.items ≡ boundary c.args.tets.now) (λ found. StandOnce found.items)
    (λ found e. subst StandOnce (sym e) (once_of c.args.tets.now)) c.faces_by_neighbours.ensures

pub returns-clause-closed : goal.returns-clause-closed
returns-clause-closed c =
    λ is_level h. IfOk-weaker c.faces_by_neighbours.result (λ found. found.items ≡ boundary c.args.tets.now) (λ found. (a b : ℕ) → edge_count found.items a b ≡ edge_count found.items b a)
    (λ found e a b. subst (λ (l : List (List ℕ)). edge_count l a b ≡ edge_count l b a) (sym e) (h.closes a b)) c.faces_by_neighbours.ensures

pub returns-clause-level : goal.returns-clause-level
returns-clause-level c =
    λ is_level h. IfOk-weaker c.faces_by_neighbours.result (λ found. found.items ≡ boundary c.args.tets.now) (λ found. All (λ face. IsTrue (list_all is_level face)) found.items)
    (λ found e. subst (λ (l : List (List ℕ)). All (λ face. IsTrue (list_all is_level face)) l) (sym e) h.level) c.faces_by_neighbours.ensures
