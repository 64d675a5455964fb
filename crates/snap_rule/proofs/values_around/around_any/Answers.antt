use Rattle.std.proofs.Common.{◌≡◌, ◌≢◌, ℕ, ◌+◌, ◌<◌, ◌≤◌, ◌^◌, arith, refl, sym, ◌∙◌, subst, length, get_or, pos, ℤ, zero, suc, List, [], ◌∷◌, below_more, get_or-set_other, get_or-set_same, w64, to_z, of_z}
use Rattle.std.specs.Prelude.{unsigned_abs}
use Rattle.std.proofs.Math.ListN.{set, length-set}
use Rattle.std.proofs.lemmas.List.FromFn.{fill_by_all}
use Rattle.snap_laws.specs.Around.{around}
use Rattle.snap_rule.proofs.Values.{read}
use Rattle.snap_rule.proofs.values_around.around_any.Goals as goal

pub loop-n-init : goal.loop-n-init
loop-n-init c = (refl, (λ k h. absurd (omega arith)), (λ k h. absurd (omega arith)))

same_default : (xs : List ℤ) (k : ℕ) (d e : ℤ) → k < length xs → get_or xs k d ≡ get_or xs k e
same_default [] k d e h = absurd (omega arith)
same_default (x ∷ xs) zero d e h = refl
same_default (x ∷ xs) (suc k) d e h = same_default xs k d e (omega arith)

-- one more element
kept : (P : ℕ → ℤ → Type 0) (xs : List ℤ) (i : ℕ) (z : ℤ) → i < length xs → ((k : ℕ) → k < i → P k (get_or xs k (pos 0))) → P i z → (k : ℕ) → k < i + 1 → P k (get_or (set xs i z) k (pos 0))
kept P xs i z lt below here =
    below_more (λ k. P k (get_or (set xs i z) k (pos 0))) i
    (λ k h. let ne : k ≢ i = omega arith in subst (P k) (sym (get_or-set_other xs i k z (pos 0) ne)) (below k h))
    (subst (P i) (sym (get_or-set_same xs i z (pos 0) lt)) here)

pub loop-n-preserved : goal.loop-n-preserved
loop-n-preserved c =
    let small : unsigned_abs c.value_beyond.result ≤ 2 ^ 40 = let s = c.value_beyond.ensures.small in omega arith in
    let r = read c.value_beyond.result small in
    let lt : c.loop-n.n < length c.loop-n.values = omega arith in (
      length-set c.loop-n.values c.loop-n.n (to_z w64 (of_z w64 c.value_beyond.result)) ∙ c.loop-n.invariant.0,
      kept (λ k z. z ≡ around c.args.field.now c.args.v (1 + k)) c.loop-n.values c.loop-n.n (to_z w64 (of_z w64 c.value_beyond.result)) lt c.loop-n.invariant.1 (r ∙ c.value_beyond.ensures.value),
      kept (λ k z. unsigned_abs z ≤ 2 ^ 40) c.loop-n.values c.loop-n.n (to_z w64 (of_z w64 c.value_beyond.result)) lt c.loop-n.invariant.2 (subst (λ z. unsigned_abs z ≤ 2 ^ 40) (sym r) small),
    )

pub returns-clause-values : goal.returns-clause-values
returns-clause-values c =
    let n : 14 ≤ c.loop-n.n = omega arith in
    fill_by_all (λ k. around c.args.field.now c.args.v (1 + k)) c.loop-n.values 14 (pos 0) c.loop-n.invariant.0 (λ k h. c.loop-n.invariant.1 k (omega arith))

pub returns-clause-small : goal.returns-clause-small
returns-clause-small c = λ k d h.
    let n : c.loop-n.n ≡ 14 = omega arith in
    let lt : k < c.loop-n.n = let l = c.loop-n.invariant.0 in omega arith in
    subst (λ z. unsigned_abs z ≤ 2 ^ 40) (same_default c.loop-n.values k (pos 0) d h) (c.loop-n.invariant.2 k lt)
