use Rattle.std.proofs.Common.{◌+◌, ◌-◌}
use Rattle.definitions.specs.Lattice.{vertex}
use Rattle.vertex_numbers.proofs.StepIds.{id_fits, id_led}
use Rattle.vertex_numbers.proofs.Upwards.{up_2, up_3, up_5, up_7}
use Rattle.vertex_numbers.proofs.steps.column_ids.Goals as goal

pub overflow_add-result : goal.overflow_add-result
overflow_add-result c =
    let d = c.args._dims in
    let v = c.args._v in
    let k = c.requires.domain in
    id_fits d v (vertex v.h (v.y + 2) v.x) 2 c.args.id c.args.steps.second k (up_2 d v k c.requires.column) c.requires.id c.requires.steps.second c.requires.sizes

pub overflow_add-result-2 : goal.overflow_add-result-2
overflow_add-result-2 c =
    let d = c.args._dims in
    let v = c.args._v in
    let k = c.requires.domain in
    id_fits d v (vertex (v.h + 1) (v.y - 1) (v.x - 1)) 3 c.args.id c.args.steps.third k (up_3 d v k c.requires.column) c.requires.id c.requires.steps.third c.requires.sizes

pub overflow_add-result-3 : goal.overflow_add-result-3
overflow_add-result-3 c =
    let d = c.args._dims in
    let v = c.args._v in
    let k = c.requires.domain in
    id_fits d v (vertex (v.h + 1) (v.y + 1) (v.x - 1)) 5 c.args.id c.args.steps.fifth k (up_5 d v k c.requires.column) c.requires.id c.requires.steps.fifth c.requires.sizes

pub overflow_add-result-4 : goal.overflow_add-result-4
overflow_add-result-4 c =
    let d = c.args._dims in
    let v = c.args._v in
    let k = c.requires.domain in
    id_fits d v (vertex (v.h + 2) v.y v.x) 7 c.args.id c.args.steps.seventh k (up_7 d v k c.requires.column) c.requires.id c.requires.steps.seventh c.requires.sizes

pub returns : goal.returns
returns c =
    let d = c.args._dims in
    let v = c.args._v in
    let k = c.requires.domain in
    let column = c.requires.column in
    let steps = c.requires.steps in
    record {
      second = id_led d v (vertex v.h (v.y + 2) v.x) 2 c.args.id c.args.steps.second k (up_2 d v k column) c.requires.id steps.second;
      third = id_led d v (vertex (v.h + 1) (v.y - 1) (v.x - 1)) 3 c.args.id c.args.steps.third k (up_3 d v k column) c.requires.id steps.third;
      fifth = id_led d v (vertex (v.h + 1) (v.y + 1) (v.x - 1)) 5 c.args.id c.args.steps.fifth k (up_5 d v k column) c.requires.id steps.fifth;
      seventh = id_led d v (vertex (v.h + 2) v.y v.x) 7 c.args.id c.args.steps.seventh k (up_7 d v k column) c.requires.id steps.seventh;
    }
