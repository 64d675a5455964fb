use Rattle.std.proofs.Common.{◌≤◌, ◌+◌, ◌<◌, ℕ, max, length, arith}
use Rattle.face_neigh.proofs.Noting.{notes_more, notes_up_to}
use Rattle.face_neigh.proofs.pairs.note_pairs.Goals as goal

pub loop-k-preserved : goal.loop-k-preserved
loop-k-preserved c = (notes_more _ _ _ _ _ c.loop-k.auto.k c.loop-k.invariant.0 c.note_pair.ensures, omega arith)

pub returns : goal.returns
returns c =
    let le : c.loop-k.k ≤ max 1 (length c.args.sides.now) = c.loop-k.invariant.1 in
    let ge : length c.args.sides.now ≤ c.loop-k.k = c.loop-k-test.false in
    let up : (j : ℕ) → j + 1 < c.loop-k.k → j + 1 < length c.args.sides.now = (λ j lt. omega arith) in
    let down : (j : ℕ) → j + 1 < length c.args.sides.now → j + 1 < c.loop-k.k = (λ j lt. omega arith) in
    notes_up_to _ _ _ c.loop-k.k _ up down c.loop-k.invariant.0
