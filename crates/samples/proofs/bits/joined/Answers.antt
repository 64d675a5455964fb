use Rattle.std.proofs.Common.{◌≡◌, ◌+◌, ◌-◌, ◌/◌, ◌^◌, ◌≤◌, inl, inr, ap, ◌∙◌, arith}
use Rattle.std.specs.Int.{bit_at}
use Rattle.samples.proofs.SetBits.{in_either, moved_down}
use Rattle.samples.proofs.bits.joined.Goals as goal

pub returns : goal.returns
returns c b h = elim (in_either (c.args.low / 2 ^ c.args.at) c.moved_up-2.result b h) [
  | inl low ↦ inl (moved_down c.args.low c.args.at b low)
  | inr high ↦
      (let far = c.moved_up-2.ensures.low b high in
      let once = c.moved_up-2.ensures.bits b high in
      let more = c.moved_up.ensures.low (b - (63 - c.args.at)) once in
      let at : c.args.at + b - 64 ≡ b - (63 - c.args.at) - 1 = omega arith in
      let beyond : 64 ≤ c.args.at + b = omega arith in
      inr (beyond, ap (bit_at c.args.high) at ∙ c.moved_up.ensures.bits (b - (63 - c.args.at)) once))
]
