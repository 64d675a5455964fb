use Rattle.std.proofs.Common.{◌-◌, ◌^◌, inl, inr, arith}
use Rattle.std.specs.Prelude.{bit_or}
use Rattle.samples.proofs.SetBits.{in_either, not_in}
use Rattle.samples.proofs.bits.moved_between.Goals as goal

pub returns : goal.returns
returns c b h low high = elim (in_either (bit_or c.moved_up.result c.ones_below.result) (2 ^ 64 - 1 - c.ones_below-2.result) b h) [
  | inl first ↦ elim (in_either c.moved_up.result c.ones_below.result b first) [
    | inl moved ↦ c.moved_up.ensures.bits b moved
    | inr before ↦ (let below = c.ones_below.ensures.below b before in absurd (omega arith))
  ]
  | inr outside ↦
      (let out = not_in c.ones_below-2.result b outside in
      let set = c.ones_below-2.ensures.each b high out.0 in
      absurd (omega (arith, out.1, set)))
]
