use Rattle.std.proofs.Common.{◌∙◌, sym, subst, arith}
use Rattle.std.specs.List.Sorted.{IsPermutation}
use Rattle.mesh_audit.specs.Triangles.{triangles_from, LeastTet, is_one_of_many}
use Rattle.mesh_files.specs.Verdicts.{is_crowded, is_turned}
use Rattle.mesh_audit.proofs.SortedTriangles.{three_nodes, first_crowded, first_turned, boundary_length, few_boundary, within_tets}
use Rattle.mesh_audit.proofs.judging.fit.Goals as goal

pub find-requires-clause-nodes : goal.find-requires-clause-nodes
find-requires-clause-nodes c =
    let move = subst (IsPermutation (triangles_from 0 c.args.tets.now)) (sym c.as_slice.ensures.value) c.in_ok-sorted.ensures.moved in
    three_nodes c.args.tets.now c.as_slice.result.now c.requires.plain move

pub returns-clause-crowded : goal.returns-clause-crowded
returns-clause-crowded c =
    let move = subst (IsPermutation (triangles_from 0 c.args.tets.now)) (sym c.as_slice.ensures.value) c.in_ok-sorted.ensures.moved in
    first_crowded c.args.tets.now c.as_slice.result.now c.find.result.crowded c.requires.plain move c.find.ensures.crowded

pub returns-clause-crowded_within : goal.returns-clause-crowded_within
returns-clause-crowded_within c =
    let move = subst (IsPermutation (triangles_from 0 c.args.tets.now)) (sym c.as_slice.ensures.value) c.in_ok-sorted.ensures.moved in
    within_tets (is_crowded c.args.tets.now) c.args.tets.now c.find.result.crowded (first_crowded c.args.tets.now c.as_slice.result.now c.find.result.crowded c.requires.plain move c.find.ensures.crowded)

pub returns-clause-turned : goal.returns-clause-turned
returns-clause-turned c = λ none.
    let move = subst (IsPermutation (triangles_from 0 c.args.tets.now)) (sym c.as_slice.ensures.value) c.in_ok-sorted.ensures.moved in
    first_turned c.args.tets.now c.as_slice.result.now c.find.result.turned c.requires.plain move (subst (LeastTet (is_one_of_many c.as_slice.result.now) c.as_slice.result.now) none c.find.ensures.crowded) c.find.ensures.turned

pub returns-clause-turned_within : goal.returns-clause-turned_within
returns-clause-turned_within c = λ none.
    let move = subst (IsPermutation (triangles_from 0 c.args.tets.now)) (sym c.as_slice.ensures.value) c.in_ok-sorted.ensures.moved in
    within_tets (is_turned c.args.tets.now) c.args.tets.now c.find.result.turned
    (first_turned c.args.tets.now c.as_slice.result.now c.find.result.turned c.requires.plain move (subst (LeastTet (is_one_of_many c.as_slice.result.now) c.as_slice.result.now) none c.find.ensures.crowded) c.find.ensures.turned)

pub returns-clause-boundary : goal.returns-clause-boundary
returns-clause-boundary c =
    let move = subst (IsPermutation (triangles_from 0 c.args.tets.now)) (sym c.as_slice.ensures.value) c.in_ok-sorted.ensures.moved in
    c.find.ensures.boundary ∙ sym (boundary_length c.args.tets.now c.as_slice.result.now c.requires.plain move)

pub returns-clause-few : goal.returns-clause-few
returns-clause-few c =
    let move = subst (IsPermutation (triangles_from 0 c.args.tets.now)) (sym c.as_slice.ensures.value) c.in_ok-sorted.ensures.moved in
    omega (arith, few_boundary c.args.tets.now, c.find.ensures.boundary, boundary_length c.args.tets.now c.as_slice.result.now c.requires.plain move)
