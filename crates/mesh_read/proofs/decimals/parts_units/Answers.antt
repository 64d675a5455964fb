use Rattle.std.proofs.Common.{◌∙◌, sym, subst, arith, ◌%◌, ◌≢◌, ℕ}
use Rattle.mesh_files.proofs.GridUnits.{fine_behind, fine_front, exact_parts}
use Rattle.mesh_read.proofs.decimals.parts_units.Goals as goal

pub returns-then-not-are_zeros-clause-value : goal.returns-then-not-are_zeros-clause-value
returns-then-not-are_zeros-clause-value c = fine_behind c.args.front.now c.args.behind.now c.requires.few c.requires.rest c.requires.behind (sym c.are_zeros.ensures ∙ c.if-not-are_zeros.true)

pub returns-then-thirteen-ne0-clause-value : goal.returns-then-thirteen-ne0-clause-value
returns-then-thirteen-ne0-clause-value c = fine_front c.args.front.now c.args.behind.now c.requires.few c.requires.rest c.requires.behind (subst (λ (n : ℕ). n % 1220703125 ≢ 0) c.thirteen_digits-thirteen.ensures.value c.if-thirteen-ne0.true)

pub returns-clause-value : goal.returns-clause-value
returns-clause-value c = exact_parts c.args.front.now c.args.behind.now c.thirteen_digits-thirteen.result c.requires.few (sym c.are_zeros.ensures ∙ c.if-not-are_zeros.false) c.thirteen_digits-thirteen.ensures.value (omega (arith, c.if-thirteen-ne0.false))
