use Rattle.std.proofs.Common.{◌≡◌, ℕ, ◌+◌, ◌*◌, ◌<◌, ◌≤◌, refl, ap, ◌∙◌, subst, arith}
use Rattle.std.proofs.Math.Nat.{mul-le-mul_right}
use Rattle.definitions.specs.declared.Dims.{Dims}
use Rattle.definitions.specs.Layout.{layer_len, layer_start}
use Rattle.lattice_counts.specs.Counts.{row_len}
use Rattle.lattice_counts.proofs.Ranks.{layer_length}
use Rattle.layer_cells.specs.Seats.{CellSeatValue}
use Rattle.vertex_numbers.proofs.LayerIds.{all_rows}
use Rattle.slab_survey.proofs.Puts.{put_none, put_both, put_same}
use Rattle.slab_survey.proofs.layer.put_layer.Goals as goal

one_more : (s j w : ℕ) → s + j * w + w ≡ s + (j + 1) * w
one_more s j w = omega arith

no_rows : (s w : ℕ) → s + 0 * w ≡ s
no_rows s w = omega arith

room_left : (count first j w n len limit : ℕ) → count ≡ first + j * w → j < n → len ≡ n * w → first + len < limit → count + w < limit
room_left count first j w n len limit is lt all room =
    let m : (j + 1) * w ≤ n * w = mul-le-mul_right w (omega arith) in
    omega arith

pub put_row-requires-clause-seat : goal.put_row-requires-clause-seat
put_row-requires-clause-seat g c = ap (λ (s : CellSeatValue). s.of) c.loop-j.invariant.0.rest ∙ c.requires.seat

pub put_row-requires-clause-room : goal.put_row-requires-clause-room
put_row-requires-clause-room g c =
    let d = c.args.field.now.dims in
    room_left _ _ c.loop-j.j (row_len d.nx c.args.h) (row_len d.ny c.args.h) (layer_len d c.args.h) _ c.loop-j.invariant.1 (subst (λ (n : ℕ). c.loop-j.j < n) (c.rows-j-end.ensures.rows ∙ ap (λ (e : Dims). row_len e.ny c.args.h) c.dims.ensures.value) c.loop-j-test.true) (layer_length d c.args.h) c.requires.room

pub loop-j-init : goal.loop-j-init
loop-j-init g c =
    let d = c.args.field.now.dims in
    (put_none _ _ _ (let n = no_rows (layer_start d c.args.h) (row_len d.nx c.args.h) in omega arith), omega arith)

pub loop-j-preserved : goal.loop-j-preserved
loop-j-preserved g c =
    let d = c.args.field.now.dims in
    let i = c.loop-j.invariant in
    let p = c.put_row.ensures in
    let w = row_len d.nx c.args.h in (
      put_same _ _ _ _ _ _ refl (one_more (layer_start d c.args.h) c.loop-j.j w) (put_both _ _ _ _ _ _ _ i.0 p.put refl),
      let n = i.1 in let k = p.count in sums _ _ _ c.loop-j.j w n k,
    )
  where
    sums : (now count first j w : ℕ) → count ≡ first + j * w → now ≡ count + w → now ≡ first + (j + 1) * w
    sums now count first j w a b = omega arith

pub returns-clause-put : goal.returns-clause-put
returns-clause-put g c =
    let d = c.args.field.now.dims in
    put_same _ _ _ _ _ _ refl (ap (λ (n : ℕ). layer_start d c.args.h + n) (all_rows d c.args.h c.loop-j.j c.rows-j-end.result (c.rows-j-end.ensures.rows ∙ ap (λ (e : Dims). row_len e.ny c.args.h) c.dims.ensures.value) c.loop-j-test.false c.loop-j.auto.j-end)) c.loop-j.invariant.0

pub returns-clause-count : goal.returns-clause-count
returns-clause-count g c =
    let d = c.args.field.now.dims in
    c.loop-j.invariant.1 ∙ ap (λ (n : ℕ). g.L.Ledger.count c.args.ledger.now + n) (all_rows d c.args.h c.loop-j.j c.rows-j-end.result (c.rows-j-end.ensures.rows ∙ ap (λ (e : Dims). row_len e.ny c.args.h) c.dims.ensures.value) c.loop-j-test.false c.loop-j.auto.j-end)
