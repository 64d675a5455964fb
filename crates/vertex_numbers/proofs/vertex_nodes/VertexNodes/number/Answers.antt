use Rattle.std.proofs.Common.{◌+◌, ◌^◌, ◌<◌, ◌≤◌, ℕ, Fits, w32, arith}
use Rattle.vertex_numbers.proofs.EightBits.{few_below}
use Rattle.vertex_numbers.proofs.vertex_nodes.VertexNodes.number.Goals as goal

pub overflow_add-result : goal.overflow_add-result
overflow_add-result c = fits _ _ c.requires.few (few_below c.args.self.now.bits c.args.dir c.requires.dir)
  where
    fits : (y z : ℕ) → y + 8 < 2 ^ 32 → z ≤ 8 → Fits w32 (y + z)
    fits y z h l = omega arith
