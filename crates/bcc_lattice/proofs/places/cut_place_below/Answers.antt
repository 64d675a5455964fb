use Rattle.std.proofs.Common.{◌<◌, ◌^◌, ap, ◌∙◌, rules}
use Rattle.std.specs.Prelude.{◌+ℤ◌, ◌*ℤ◌}
use Rattle.definitions.specs.Lattice.{step}
use Rattle.definitions.specs.Places.{lattice_place}
use Rattle.bcc_lattice.proofs.Steps.{back_read, back_and_on}
use Rattle.bcc_lattice.proofs.places.cut_place_below.Goals as goal

pub returns-clause-place : goal.returns-clause-place
returns-clause-place c =
    let h : c.args.k < 2 ^ 16 = search rules in
    let e = back_read c.args.k h in
    let p = lattice_place c.args.upper in
    let s = step c.args.dir in
    let x = c.place_along.ensures.x ∙ ap (λ z. p.x +ℤ (s.x *ℤ z)) e ∙ back_and_on p.x s.x c.args.k in
    let y = c.place_along.ensures.y ∙ ap (λ z. p.y +ℤ (s.y *ℤ z)) e ∙ back_and_on p.y s.y c.args.k in
    let z = c.place_along.ensures.z ∙ ap (λ z. p.z +ℤ (s.h *ℤ z)) e ∙ back_and_on p.z s.h c.args.k in
    (λ i. record { x = x i; y = y i; z = z i })
