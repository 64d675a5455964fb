use Rattle.std.proofs.Common.{◌≡◌, ◌+◌, ◌-◌, ◌*◌, ◌/◌, ◌%◌, ◌<◌, ◌≤◌, ◌^◌, ℕ, Fits, w32, arith, ap}
use Rattle.definitions.specs.declared.Dims.{Dims}
use Rattle.definitions.specs.Layout.{layer_len}
use Rattle.lattice_counts.specs.Counts.{row_len}
use Rattle.lattice_counts.proofs.Sizes.{ny_small}
use Rattle.vertex_numbers.proofs.StepIds.{IsThird, fifth_leads, layer_holds, third_leads}
use Rattle.vertex_numbers.proofs.steps.third_step.Goals as goal

fits : (n ny y : ℕ) → n < 2 ^ 25 → ny < 2 ^ 23 → y < 2 * ny + 3 → Fits w32 (n + y / 2)
fits n ny y a b e = omega arith

small : (n ny y : ℕ) → n < 2 ^ 25 → ny < 2 ^ 23 → y < 2 * ny + 3 → n + y / 2 < 2 ^ 26
small n ny y a b e = omega arith

below : (n m : ℕ) → n < 2 ^ 25 → n - m < 2 ^ 26
below n m a = omega arith

wide : (n : ℕ) → n ≤ 2 ^ 23 → n < 2 ^ 25
wide n a = omega arith

holds : (a b l m q : ℕ) → a ≡ b → l ≡ m → b + q ≤ m → a + q ≤ l
holds a b l m q e f h = omega arith

third_of_even : (d : Dims) (h y row len : ℕ) → row ≡ row_len d.nx h → len ≡ layer_len d h → h % 2 ≡ 0 → row + y / 2 ≤ len → IsThird d h y (len - (row + y / 2))
third_of_even d h y row len e f even le = record { even = λ p. whole row (row_len d.nx h) (y / 2) len (layer_len d h) e f le; odd = λ p. absurd (both h even p) }
  where
    whole : (a b q l m : ℕ) → a ≡ b → l ≡ m → a + q ≤ l → l - (a + q) + (b + q) ≡ m
    whole a b q l m e f le = omega arith

    both : (h : ℕ) → h % 2 ≡ 0 → h % 2 ≡ 1 → ⊥
    both h p q = omega arith

third_of_odd : (d : Dims) (h y len : ℕ) → len ≡ layer_len d h → h % 2 ≡ 1 → IsThird d h y (len + y / 2)
third_of_odd d h y len f odd = record { even = λ p. absurd (both h p odd); odd = λ p. ap (λ n. n + y / 2) f }
  where
    both : (h : ℕ) → h % 2 ≡ 0 → h % 2 ≡ 1 → ⊥
    both h p q = omega arith

pub overflow_add-result : goal.overflow_add-result
overflow_add-result c = fits c.columns.result c.args.dims.ny c.args.y (wide c.columns.result c.columns.ensures.small) (ny_small c.args.dims c.requires.sizes) c.requires.row

pub overflow_sub-result : goal.overflow_sub-result
overflow_sub-result c =
    holds c.columns.result (row_len c.args.dims.nx c.args.h) c.layer_len-len.result (layer_len c.args.dims c.args.h) (c.args.y / 2) c.columns.ensures.columns c.layer_len-len.ensures.len
    (layer_holds c.args.dims c.args.h c.args.y c.requires.row c.if-h-eq0.true)

pub overflow_add-result-else-h-eq0 : goal.overflow_add-result-else-h-eq0
overflow_add-result-else-h-eq0 c = fits c.layer_len-len.result c.args.dims.ny c.args.y c.layer_len-len.ensures.small (ny_small c.args.dims c.requires.sizes) c.requires.row

pub returns-then-h-eq0-clause-third : goal.returns-then-h-eq0-clause-third
returns-then-h-eq0-clause-third c =
    third_leads c.args.dims c.args.h c.args.y _
    (third_of_even c.args.dims c.args.h c.args.y c.columns.result c.layer_len-len.result c.columns.ensures.columns c.layer_len-len.ensures.len c.if-h-eq0.true
    (holds c.columns.result (row_len c.args.dims.nx c.args.h) c.layer_len-len.result (layer_len c.args.dims c.args.h) (c.args.y / 2) c.columns.ensures.columns c.layer_len-len.ensures.len
    (layer_holds c.args.dims c.args.h c.args.y c.requires.row c.if-h-eq0.true)))

pub returns-then-h-eq0-clause-fifth : goal.returns-then-h-eq0-clause-fifth
returns-then-h-eq0-clause-fifth c =
    fifth_leads c.args.dims c.args.h c.args.y _
    (third_of_even c.args.dims c.args.h c.args.y c.columns.result c.layer_len-len.result c.columns.ensures.columns c.layer_len-len.ensures.len c.if-h-eq0.true
    (holds c.columns.result (row_len c.args.dims.nx c.args.h) c.layer_len-len.result (layer_len c.args.dims c.args.h) (c.args.y / 2) c.columns.ensures.columns c.layer_len-len.ensures.len
    (layer_holds c.args.dims c.args.h c.args.y c.requires.row c.if-h-eq0.true)))

pub returns-then-h-eq0-clause-small : goal.returns-then-h-eq0-clause-small
returns-then-h-eq0-clause-small c = below c.layer_len-len.result (c.columns.result + c.args.y / 2) c.layer_len-len.ensures.small

pub returns-else-h-eq0-clause-third : goal.returns-else-h-eq0-clause-third
returns-else-h-eq0-clause-third c =
    third_leads c.args.dims c.args.h c.args.y _ (third_of_odd c.args.dims c.args.h c.args.y c.layer_len-len.result c.layer_len-len.ensures.len (let e = c.if-h-eq0.false in omega arith))

pub returns-else-h-eq0-clause-fifth : goal.returns-else-h-eq0-clause-fifth
returns-else-h-eq0-clause-fifth c =
    fifth_leads c.args.dims c.args.h c.args.y _ (third_of_odd c.args.dims c.args.h c.args.y c.layer_len-len.result c.layer_len-len.ensures.len (let e = c.if-h-eq0.false in omega arith))

pub returns-else-h-eq0-clause-small : goal.returns-else-h-eq0-clause-small
returns-else-h-eq0-clause-small c = small c.layer_len-len.result c.args.dims.ny c.args.y c.layer_len-len.ensures.small (ny_small c.args.dims c.requires.sizes) c.requires.row
