use Rattle.std.proofs.Common.{rules}
use Rattle.std.proofs.lemmas.List.Sorted.{IsNonDecreasingBy-from_sort_by_key}
use Rattle.mesh_audit.specs.Triangles.{key_of}
use Rattle.mesh_audit.specs.declared.triangles.Triangle.{Triangle}
use Rattle.mesh_audit.proofs.triangles.sort.Goals as goal

pub returns-clause-sorted : goal.returns-clause-sorted
returns-clause-sorted c =
    let k = λ (t : Triangle). key_of t.nodes in
    IsNonDecreasingBy-from_sort_by_key k _ c.sort_unstable_by_key.ensures.sorted (λ a r f h. (search rules, search rules))
