use Rattle.std.proofs.Common.{◌≡◌, ℕ, ◌+◌, ◌-◌, ◌*◌, ◌<◌, ◌≤◌, arith, refl, ap, ◌∙◌}
use Rattle.std.specs.List.{range_with_len, sum_by}
use Rattle.lattice_counts.specs.Counts.{row_len}
use Rattle.vertex_numbers.specs.Counts.{nodes_at_id, pieces_at_id, row_start}
use Rattle.vertex_numbers.proofs.Sums.{sum_parts}
use Rattle.vertex_numbers.proofs.counts.share_of_row.Goals as goal

few_more : (m n k a b : ℕ) → n ≤ m * a → k ≤ m * (b - a) → a < b → n + k ≤ m * b
few_more m n k a b p q lt = let e : m * a + m * (b - a) ≡ m * b = split m a b lt in omega arith
  where
    split : (m a b : ℕ) → a < b → m * a + m * (b - a) ≡ m * b
    split m a b lt = let e : a + (b - a) ≡ b = omega arith in sum m a (b - a) ∙ ap (λ n. m * n) e
      where
        sum : (m a c : ℕ) → m * a + m * c ≡ m * (a + c)
        sum m a c = omega arith

-- the sum so far, with that of the vertices after them
with_more : (f : ℕ → ℕ) (s a b n k : ℕ) → a < b → n ≡ sum_by f (range_with_len s a) → k ≡ sum_by f (range_with_len (s + a) (b - a)) → n + k ≡ sum_by f (range_with_len s b)
with_more f s a b n k lt p q = (λ i. p i + q i) ∙ sum_parts f s a b (omega arith)

pub loop-i-init : goal.loop-i-init
loop-i-init g c = record {
  nodes = refl;
  tets = refl;
  few_nodes = omega arith;
  few_tets = omega arith;
  within = omega arith;
  row_h = c.row_of-row.ensures.h;
  same = g.met.S.StateSource.stays c.args.from.now;
}

pub loop-i-preserved : goal.loop-i-preserved
loop-i-preserved g c =
    let d = c.args.dims in
    let start = c.row_of-row.result.start in
    let a = c.loop-i.i in
    let i = c.loop-i.invariant in
    let b = c.count_from-more.result.end in
    let e = c.count_from-more.ensures in
    let told = g.met.S.StateSource.same_told c.args.from.now c.loop-i.from i.same in
    let t = g.S.StateSource.told c.args.from.now in
    record {
      nodes = with_more (nodes_at_id d t) start a b _ _ e.low i.nodes (e.nodes ∙ ap (λ f. sum_by (nodes_at_id d f) (range_with_len (start + a) (b - a))) told);
      tets = with_more (pieces_at_id d t) start a b _ _ e.low i.tets (e.tets ∙ ap (λ f. sum_by (pieces_at_id d f) (range_with_len (start + a) (b - a))) told);
      few_nodes = few_more 8 _ _ a b i.few_nodes e.few_nodes e.low;
      few_tets = few_more 18 _ _ a b i.few_tets e.few_tets e.low;
      within = high_in b c.row_of-row.result.h c.args.h d.nx i.row_h e.high;
      row_h = i.row_h;
      same = g.met.S.StateSource.follows c.args.from.now c.loop-i.from c.count_from-more.new.from i.same e.same;
    }
  where
    high_in : (b g h n : ℕ) → g ≡ h → b ≤ row_len n g → b ≤ row_len n h
    high_in b g h n e le = omega arith

-- the ids of the whole row
all_columns : (i n m : ℕ) → n ≡ m → n ≤ i → i ≤ m → i ≡ m
all_columns i n m e past within = omega arith

pub returns-clause-nodes : goal.returns-clause-nodes
returns-clause-nodes g c =
    let d = c.args.dims in
    let e = c.row_of-row.ensures in
    let i = c.loop-i.invariant in
    let start = e.row.start ∙ (λ k. row_start d (e.h k) (e.j k)) in
    let whole = all_columns c.loop-i.i c.columns.result (row_len d.nx c.args.h) c.columns.ensures.columns c.loop-i-test.false i.within in
    i.nodes ∙ (λ k. sum_by (nodes_at_id d (g.S.StateSource.told c.args.from.now)) (range_with_len (start k) (whole k)))

pub returns-clause-tets : goal.returns-clause-tets
returns-clause-tets g c =
    let d = c.args.dims in
    let e = c.row_of-row.ensures in
    let i = c.loop-i.invariant in
    let start = e.row.start ∙ (λ k. row_start d (e.h k) (e.j k)) in
    let whole = all_columns c.loop-i.i c.columns.result (row_len d.nx c.args.h) c.columns.ensures.columns c.loop-i-test.false i.within in
    i.tets ∙ (λ k. sum_by (pieces_at_id d (g.S.StateSource.told c.args.from.now)) (range_with_len (start k) (whole k)))
