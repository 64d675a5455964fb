use Rattle.std.proofs.Common.{◌≡◌, ℕ, ◌+◌, ◌*◌, ◌/◌, ◌-◌, ◌%◌, ◌^◌, ◌<◌, ◌≤◌, arith, sym, ◌∙◌, ap, subst, length}
use Rattle.std.specs.Prelude.{count_ones, slice_index}
use Rattle.std.proofs.lemmas.List.{get_or_read}
use Rattle.vertex_numbers.specs.Numbering.{Numbering}
use Rattle.vertex_numbers.specs.VertexNodes.{AreNodesAt}
use Rattle.vertex_numbers.proofs.starts.Starts.vertex_nodes.Goals as goal

-- the entries of an id
nodes_of_entries : (n : Numbering) (id before bits : ℕ) → before ≡ slice_index n.before (id - n.first) → bits ≡ slice_index n.nodes (id - n.first) → before + 8 < 2 ^ 32 → AreNodesAt n id (record { before = before; bits = bits })
nodes_of_entries n id before bits e f few = record {
  number = λ dir lt. let p : (8 * id + dir) / 8 ≡ id = omega arith in let q : (8 * id + dir) % 8 ≡ dir = omega arith in
      (λ i. slice_index n.before (p i - n.first) + count_ones (slice_index n.nodes (p i - n.first) % 2 ^ q i)) ∙ sym (λ i. e i + count_ones (f i % 2 ^ dir));
  few = few;
}

pub returns : goal.returns
returns c =
    let s = c.self.inside in
    let n : Numbering = record { first = s.first; len = length s.nodes.items; nodes = s.nodes.items; before = s.before.items } in
    let at = c.args.id - s.first in
    let first : s.first ≡ c.args.self.now.first = ap (λ m. m.first) c.self.view_is in
    let len : length s.nodes.items ≡ c.args.self.now.len = ap (λ m. m.len) c.self.view_is in
    let in_nodes : at < length s.nodes.items = place c.args.id s.first _ (length s.nodes.items) _ first len c.requires.low c.requires.high in
    let in_before : at < length s.before.items = subst (λ (m : ℕ). at < m) (sym c.self.invariant.whole) in_nodes in
    let e : c.index.result.now ≡ slice_index s.before.items at = get_or_read s.before.items at _ in_before c.index.ensures 0 in
    let f : c.index-2.result.now ≡ slice_index s.nodes.items at = get_or_read s.nodes.items at _ in_nodes c.index-2.ensures 0 in
    subst (λ (m : Numbering). AreNodesAt m c.args.id (record { before = c.index.result.now; bits = c.index-2.result.now })) c.self.view_is
    (nodes_of_entries n c.args.id c.index.result.now c.index-2.result.now e f (subst (λ (b : ℕ). b + 8 < 2 ^ 32) (sym e) (c.self.invariant.few at in_before)))
  where
    place : (k f g m l : ℕ) → f ≡ g → m ≡ l → g ≤ k → k < g + l → k - f < m
    place k f g m l e1 e2 low high = omega arith
