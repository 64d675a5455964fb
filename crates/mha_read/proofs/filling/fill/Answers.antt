use Rattle.std.proofs.Common.{rules, ◌≡◌, ◌+◌, ◌++◌, List, ℕ, take, drop, ap, sym, ◌∙◌, subst, Option}
use Rattle.std.proofs.Math.Seq.{take-add}
use Rattle.std.proofs.KnownBytes.{Consumes-trans}
use Rattle.std.specs.Io.KnownBytes.{Consumes}
use Rattle.st_base.proofs.Frames.{then_input}
use Rattle.mha_read.proofs.filling.fill.Goals as goal

-- what was taken before, and then the bytes behind it
taken_more : (a b c : Option (List ℕ)) (old new : List ℕ) (at n : ℕ) → Consumes a b (take at old) → Consumes b c (take n (drop at new)) → take at new ≡ take at old → Consumes a c (take (at + n) new)
taken_more a b c old new at n h k front =
    let e : take at old ++ take n (drop at new) ≡ take (at + n) new = ap (λ (t : List ℕ). t ++ take n (drop at new)) (sym front) ∙ sym (take-add at n new) in
    subst (λ (t : List ℕ). Consumes a c t) e (Consumes-trans a b c _ _ h k)

pub loop-preserved : goal.loop-preserved
loop-preserved g c = record {
  is_open = search rules;
  faults = search rules;
  apart = then_input c.loop.invariant.apart c.in-Ok.ensures.apart;
  turns = search rules;
  within = search rules;
  taken = taken_more _ _ _ _ _ _ _ c.loop.invariant.taken c.in-Ok.ensures.bytes c.read_at.ensures.front;
}
