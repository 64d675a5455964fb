use Rattle.std.proofs.Common.{◌≡◌, ◌+◌, ◌-◌, ◌/◌, ◌<◌, ◌≤◌, ◌%◌, ◌^◌, ℕ, Fits, w32, length, arith, ap}
use Rattle.std.proofs.lemmas.List.{get_or_read}
use Rattle.vertex_numbers.proofs.EightBits.{few_below}
use Rattle.vertex_numbers.proofs.starts.Starts.number.Goals as goal

pub overflow_add-result : goal.overflow_add-result
overflow_add-result c =
    let first = ap (λ n. n.first) c.self.view_is in
    let len = ap (λ n. n.len) c.self.view_is in
    let i = c.self.invariant in
    let n = c.args.key / 8 - c.self.inside.first in
    let within : n < length c.self.inside.before.items = place (c.args.key / 8) c.self.inside.first _ (length c.self.inside.nodes.items) _ (length c.self.inside.before.items) first len i.whole c.requires.low c.requires.high in
    fits _ _ _ (get_or_read c.self.inside.before.items n _ within c.index-2.ensures 0) (i.few n within) (few_below c.index.result.now (c.args.key % 8) (omega arith))
  where
    place : (k f g m l b : ℕ) → f ≡ g → m ≡ l → b ≡ m → g ≤ k → k < g + l → k - f < b
    place k f g m l b e1 e2 e3 low high = omega arith

    fits : (x y z : ℕ) → x ≡ y → y + 8 < 2 ^ 32 → z ≤ 8 → Fits w32 (x + z)
    fits x y z e h l = omega arith
