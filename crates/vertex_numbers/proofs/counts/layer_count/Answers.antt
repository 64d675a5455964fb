use Rattle.std.proofs.Common.{◌≡◌, ◌≤◌, ◌+◌, ◌*◌, ℕ, arith, ap, sym, ◌∙◌}
use Rattle.std.specs.List.{range_with_len, sum_by}
use Rattle.definitions.specs.Layout.{layer_start}
use Rattle.lattice_counts.specs.Counts.{row_len}
use Rattle.vertex_numbers.specs.Counts.{nodes_at_id, pieces_at_id}
use Rattle.vertex_numbers.proofs.LayerIds.{all_rows}
use Rattle.vertex_numbers.proofs.LayersTold.{nodes_of_layer, pieces_of_layer}
use Rattle.vertex_numbers.proofs.Sums.{sum_join}
use Rattle.vertex_numbers.proofs.counts.layer_count.Goals as goal

one_more : (j row : ℕ) → (j + 1) * row ≡ j * row + row
one_more j row = omega arith

-- the sum so far, with that of one more row
with_row : (f : ℕ → ℕ) (start j row n k : ℕ) → n ≡ sum_by f (range_with_len start (j * row)) → k ≡ sum_by f (range_with_len (start + j * row) row) → n + k ≡ sum_by f (range_with_len start ((j + 1) * row))
with_row f start j row n k p q = (λ i. p i + q i) ∙ sym (sum_join f start (j * row) row) ∙ ap (λ m. sum_by f (range_with_len start m)) (sym (one_more j row))

few_more : (m n k j row : ℕ) → n ≤ m * (j * row) → k ≤ m * row → n + k ≤ m * ((j + 1) * row)
few_more m n k j row p q = let e : m * ((j + 1) * row) ≡ m * (j * row) + m * row = ap (λ r. m * r) (one_more j row) ∙ split m (j * row) row in omega arith
  where
    split : (m a b : ℕ) → m * (a + b) ≡ m * a + m * b
    split m a b = omega arith

pub loop-j-preserved : goal.loop-j-preserved
loop-j-preserved g c =
    let d = c.args.dims in
    let start = layer_start d c.args.h in
    let row = row_len d.nx c.args.h in
    let j = c.loop-j.j in
    let i = c.loop-j.invariant in
    let e = c.share_of_row-more.ensures in
    let told = g.met.S.StateSource.same_told c.args.from.now c.loop-j.from i.same in
    let t = g.S.StateSource.told c.args.from.now in
    record {
      layer = i.layer;
      nodes = with_row (nodes_at_id d t) start j row _ _ i.nodes (e.nodes ∙ ap (λ f. sum_by (nodes_at_id d f) (range_with_len (start + j * row) row)) told);
      tets = with_row (pieces_at_id d t) start j row _ _ i.tets (e.tets ∙ ap (λ f. sum_by (pieces_at_id d f) (range_with_len (start + j * row) row)) told);
      few_nodes = few_more 8 _ _ j row i.few_nodes e.few_nodes;
      few_tets = few_more 18 _ _ j row i.few_tets e.few_tets;
      same = g.met.S.StateSource.follows c.args.from.now c.loop-j.from c.share_of_row-more.new.from i.same e.same;
    }

pub returns-clause-nodes : goal.returns-clause-nodes
returns-clause-nodes g c = λ ss padded agrees.
    let d = c.args.dims in
    let t = g.S.StateSource.told c.args.from.now in
    c.loop-j.invariant.nodes
    ∙ ap (λ n. sum_by (nodes_at_id d t) (range_with_len (layer_start d c.args.h) n)) (all_rows d c.args.h c.loop-j.j c.rows-j-end.result c.rows-j-end.ensures.rows c.loop-j-test.false c.loop-j.auto.j-end)
    ∙ nodes_of_layer d c.requires.dims c.args.h c.requires.layer (g.S.StateSource.knows c.args.from.now) t ss agrees c.requires.known padded

pub returns-clause-tets : goal.returns-clause-tets
returns-clause-tets g c = λ ss padded agrees.
    let d = c.args.dims in
    let t = g.S.StateSource.told c.args.from.now in
    c.loop-j.invariant.tets
    ∙ ap (λ n. sum_by (pieces_at_id d t) (range_with_len (layer_start d c.args.h) n)) (all_rows d c.args.h c.loop-j.j c.rows-j-end.result c.rows-j-end.ensures.rows c.loop-j-test.false c.loop-j.auto.j-end)
    ∙ pieces_of_layer d c.requires.dims c.args.h c.requires.layer (g.S.StateSource.knows c.args.from.now) t ss agrees c.requires.known
