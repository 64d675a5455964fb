use Rattle.std.proofs.Common.{List, ℕ, ◌∷◌, ap, refl, ◌∙◌, arith, lit<}
use Rattle.node_ele_write.proofs.WorldDecimals.{decimals_joined}
use Rattle.node_ele_write.proofs.world.put_decimals.Goals as goal

pub put_digits-requires-2-clause-room : goal.put_digits-requires-2-clause-room
put_digits-requires-2-clause-room c = omega (arith, c.put_digits.ensures.length 10 (lit< tt) refl, c.requires.room)

pub put_digits-requires-3-clause-room : goal.put_digits-requires-3-clause-room
put_digits-requires-3-clause-room c = omega (arith, c.put_digits.ensures.length 10 (lit< tt) refl, c.put_digits-2.ensures.length 9 (lit< tt) refl, c.requires.room)

pub byte-requires : goal.byte-requires
byte-requires c = omega (arith, c.put_digits.ensures.length 10 (lit< tt) refl, c.put_digits-2.ensures.length 9 (lit< tt) refl, c.put_digits-3.ensures.length 12 (lit< tt) refl, c.requires.room)

pub returns-clause-text : goal.returns-clause-text
returns-clause-text c =
    c.byte.ensures
    ∙ ap (λ (t : List ℕ). 46 ∷ t) (decimals_joined c.args.parts.twelve c.args.parts.nine c.args.parts.ten c.args.line.now c.put_digits.new.line c.put_digits-2.new.line c.put_digits-3.new.line c.requires.twelve c.requires.nine c.requires.ten (c.put_digits.ensures.text 10 (lit< tt) refl) (c.put_digits-2.ensures.text 9 (lit< tt) refl) (c.put_digits-3.ensures.text 12 (lit< tt) refl))

pub returns-clause-length : goal.returns-clause-length
returns-clause-length c = rw c.byte.ensures (omega (arith, c.put_digits.ensures.length 10 (lit< tt) refl, c.put_digits-2.ensures.length 9 (lit< tt) refl, c.put_digits-3.ensures.length 12 (lit< tt) refl))
