use Rattle.std.proofs.Common.{◌≡◌, ◌∙◌, ◌&&◌, ℤ, w64, to_z, of_z, FitsSigned, rules}
use Rattle.std.proofs.lemmas.Int.{to_z-of_z}
use Rattle.definitions.specs.Vectors.{place_at}
use Rattle.mesh_probe.specs.Boxes.{is_between}
use Rattle.mesh_probe.proofs.weights.is_in_box.Goals as goal

-- numbers of 64 bits are told as they are
back : (a b c d q : ℤ) → FitsSigned w64 a → FitsSigned w64 b → FitsSigned w64 c → FitsSigned w64 d → FitsSigned w64 q
    → is_between (to_z w64 (of_z w64 a)) (to_z w64 (of_z w64 b)) (to_z w64 (of_z w64 c)) (to_z w64 (of_z w64 d)) (to_z w64 (of_z w64 q)) ≡ is_between a b c d q
back a b c d q fa fb fc fd fq = λ i. is_between (to_z-of_z w64 a fa i) (to_z-of_z w64 b fb i) (to_z-of_z w64 c fc i) (to_z-of_z w64 d fd i) (to_z-of_z w64 q fq i)

pub returns : goal.returns
returns c =
    let t = c.args.tet in
    let p = c.args.point in
    let x = c.is_between-x.ensures ∙ back (place_at t 0).x (place_at t 1).x (place_at t 2).x (place_at t 3).x p.x (search rules) (search rules) (search rules) (search rules) (search rules) in
    let y = c.is_between-y.ensures ∙ back (place_at t 0).y (place_at t 1).y (place_at t 2).y (place_at t 3).y p.y (search rules) (search rules) (search rules) (search rules) (search rules) in
    let z = c.is_between-z.ensures ∙ back (place_at t 0).z (place_at t 1).z (place_at t 2).z (place_at t 3).z p.z (search rules) (search rules) (search rules) (search rules) (search rules) in
    λ i. (x i && y i) && z i
