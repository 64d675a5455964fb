use Rattle.std.proofs.Common.{◌≡◌, ◌≤◌, ◌<◌, ◌+◌, ℕ, arith, sym, subst, ◌∙◌}
use Rattle.vertex_numbers.specs.Numbering.{HasRoom, IsDraft}
use Rattle.vertex_numbers.proofs.Drafts.{few_more, room_for_fewer}
use Rattle.vertex_numbers.proofs.NumberedIds.{draft_more}
use Rattle.vertex_numbers.proofs.starts.push_run.Goals as goal

low : (a n : ℕ) → a ≤ a + n
low a n = omega arith

high : (a n len : ℕ) → n < len → a + n < a + len
high a n len lt = omega arith

less : (a n len l : ℕ) → n < len → a + len ≤ l → a + n < l
less a n len l lt le = omega arith

pub push_one-requires-clause-few : goal.push_one-requires-clause-few
push_one-requires-clause-few c =
    let s = c.args._states.now in
    let at = c.args._id + c.loop.counter in
    let bits = c.bits_if_plus-bits.ensures ∙ sym (c.requires.bits at (low c.args._id c.loop.counter) (high c.args._id c.loop.counter c.args.len c.loop-test.true)) in
    few_more s.dims s.states c.requires.dims at _ _ (less c.args._id c.loop.counter c.args.len _ c.loop-test.true c.requires.within) c.loop.invariant.draft.count bits

pub push_one-requires-clause-room : goal.push_one-requires-clause-room
push_one-requires-clause-room c =
    c.loop.invariant.room 1 (room_for_fewer c.args.draft.now (c.loop.counter + 1) c.args.len (next c.loop.counter c.args.len c.loop-test.true) c.requires.room)
  where
    next : (n l : ℕ) → n < l → n + 1 ≤ l
    next n l h = omega arith

pub loop-preserved : goal.loop-preserved
loop-preserved c =
    let s = c.args._states.now in
    let n = c.loop.counter in
    let at = c.args._id + n in
    let bits = c.bits_if_plus-bits.ensures ∙ sym (c.requires.bits at (low c.args._id n) (high c.args._id n c.args.len c.loop-test.true)) in
    let one = c.push_one.ensures in
    let i = c.loop.invariant in
    record {
      draft =
          subst (λ m. IsDraft s.dims s.states m c.push_one.new.draft) (one_further c.args._id n)
          (draft_more s.dims s.states at c.loop.draft c.push_one.new.draft _ i.draft bits one.first one.nodes one.before one.count);
      first = one.first ∙ i.first;
      room = λ m h. one.room m (i.room (m + 1) (subst (λ k. HasRoom c.args.draft.now k) (another n m) h));
    }
  where
    one_further : (a n : ℕ) → a + n + 1 ≡ a + (n + 1)
    one_further a n = omega arith

    another : (n m : ℕ) → n + 1 + m ≡ n + (m + 1)
    another n m = omega arith

pub returns-clause-room : goal.returns-clause-room
returns-clause-room c = λ n h. c.loop.invariant.room n (subst (λ m. HasRoom c.args.draft.now (m + n)) (all c.loop.counter c.args.len c.loop.auto.counter-end c.loop-test.false) h)
  where
    all : (n len : ℕ) → n ≤ len → len ≤ n → len ≡ n
    all n len p q = omega arith
