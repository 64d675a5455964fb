use Rattle.std.proofs.Common.{◌≡◌, drop, map, ℕ, List}
use Rattle.list_words.specs.Words.{has}
use Rattle.slab_core.proofs.worker.Worker.is_done_with.Given as goal

abbrev pub invariant-loop-done : goal.invariant-loop-done
invariant-loop-done l = has l.slab (map (λ (p : ℕ × List ℕ). p.0) (drop l.done-index l.self.done)) ≡ has l.slab (map (λ (p : ℕ × List ℕ). p.0) l.self.done)
