use Rattle.std.proofs.Common.{◌≡◌, length, rules}
use Rattle.vertex_numbers.specs.Numbering.{number_in}
use Rattle.mesh_lists.proofs.Pieces.{four_mapped}
use Rattle.mesh_lists.proofs.tetrahedra.numbers_of.Goals as goal

pub returns : goal.returns
returns c =
    let len : length c.args.keys ≡ 4 = search rules in
    four_mapped (number_in c.args.starts.now) c.args.keys c.number.result c.number-2.result c.number-3.result c.number-4.result len c.number.ensures c.number-2.ensures c.number-3.ensures c.number-4.ensures
