use Rattle.std.proofs.Common.{◌≡◌, ℕ, ◌-◌, ◌<◌, ◌≤◌}
use Rattle.std.specs.Prelude.{slice_index}
use Rattle.vertex_numbers.proofs.starts.Starts.next_used.Given as goal

abbrev pub invariant-loop-n : goal.invariant-loop-n
invariant-loop-n l = (n : ℕ) → l.id ≤ n → n < l.n → slice_index l.self.nodes (n - l.self.first) ≡ 0
