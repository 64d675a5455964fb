use Rattle.std.proofs.Common.{◌<◌, ◌^◌, ap, ◌∙◌, rules}
use Rattle.std.specs.Prelude.{◌+ℤ◌, ◌*ℤ◌}
use Rattle.definitions.specs.Lattice.{step}
use Rattle.definitions.specs.Places.{lattice_place}
use Rattle.bcc_lattice.proofs.Steps.{number_read}
use Rattle.bcc_lattice.proofs.places.cut_place.Goals as goal

pub returns-clause-place : goal.returns-clause-place
returns-clause-place c =
    let h : c.args.k < 2 ^ 16 = search rules in
    let e = number_read c.args.k h in
    let x = c.place_along.ensures.x ∙ ap (λ z. (lattice_place c.args.lower).x +ℤ ((step c.args.dir).x *ℤ z)) e in
    let y = c.place_along.ensures.y ∙ ap (λ z. (lattice_place c.args.lower).y +ℤ ((step c.args.dir).y *ℤ z)) e in
    let z = c.place_along.ensures.z ∙ ap (λ z. (lattice_place c.args.lower).z +ℤ ((step c.args.dir).h *ℤ z)) e in
    (λ i. record { x = x i; y = y i; z = z i })
