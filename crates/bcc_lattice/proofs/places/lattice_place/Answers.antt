use Rattle.std.proofs.Common.{◌≡◌, ℕ, ◌<◌, ◌^◌, arith, pos, w64, to_z, of_z, rules}
use Rattle.std.specs.Prelude.{◌-ℤ◌, ◌*ℤ◌}
use Rattle.std.proofs.lemmas.Int.{ints}
use Rattle.bcc_lattice.proofs.places.lattice_place.Goals as goal

axis : (n : ℕ) → n < 2 ^ 32 → to_z w64 (of_z w64 (to_z w64 (of_z w64 (to_z w64 n -ℤ pos 2)) *ℤ pos 4096)) ≡ (pos n -ℤ pos 2) *ℤ pos 4096
axis n h = omega (arith, ints)

pub returns-clause-place : goal.returns-clause-place
returns-clause-place c =
    let x : c.args.v.x < 2 ^ 32 = search rules in
    let y : c.args.v.y < 2 ^ 32 = search rules in
    let h : c.args.v.h < 2 ^ 32 = search rules in
    (λ i. record { x = axis c.args.v.x x i; y = axis c.args.v.y y i; z = axis c.args.v.h h i })
