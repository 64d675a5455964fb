use Rattle.std.proofs.Common.{◌≡◌, ℕ, zero, suc, ◌+◌, ◌/◌, ◌%◌, ◌^◌, ◌≤◌, sym, ap, ◌∙◌, arith}
use Rattle.std.specs.Prelude.{bit_and}
use Rattle.std.specs.Int.{bit_at}
use Rattle.samples.proofs.SetBits.{in_both, moved_down}
use Rattle.snap_rule.proofs.columns.with_next.Goals as goal

next : (w r b : ℕ) → r ≤ 1 → bit_at (bit_and (bit_and (bit_and w (w / 2 ^ 1)) (w / 2 ^ 2)) (w / 2 ^ (2 + r))) b ≡ 1 → (t : ℕ) → t ≤ 2 + r → bit_at w (b + t) ≡ 1
next w r b one h t le =
    let last = in_both (bit_and (bit_and w (w / 2 ^ 1)) (w / 2 ^ 2)) (w / 2 ^ (2 + r)) b h in
    let third = in_both (bit_and w (w / 2 ^ 1)) (w / 2 ^ 2) b last.0 in
    let two = in_both w (w / 2 ^ 1) b third.0 in
    go t le two.0 (moved_down w 1 b two.1) (moved_down w 2 b third.1) (moved_down w (2 + r) b last.1)
  where
    at : (x y : ℕ) → x ≡ y → bit_at w x ≡ 1 → bit_at w y ≡ 1
    at x y e h = ap (bit_at w) (sym e) ∙ h

    go : (t : ℕ) → t ≤ 2 + r → bit_at w b ≡ 1 → bit_at w (1 + b) ≡ 1 → bit_at w (2 + b) ≡ 1 → bit_at w (2 + r + b) ≡ 1 → bit_at w (b + t) ≡ 1
    go zero le p q s u = at b (b + 0) (omega arith) p
    go (suc zero) le p q s u = at (1 + b) (b + 1) (omega arith) q
    go (suc (suc zero)) le p q s u = at (2 + b) (b + 2) (omega arith) s
    go (suc (suc (suc n))) le p q s u = at (2 + r + b) (b + suc (suc (suc n))) (omega arith) u

pub returns : goal.returns
returns c b h = next c.args.word (c.args.h % 2) b (omega arith) h
