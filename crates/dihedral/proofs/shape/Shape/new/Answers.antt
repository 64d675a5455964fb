use Rattle.std.proofs.Common.{arith}
use Rattle.definitions.specs.Places.{place}
use Rattle.dihedral.proofs.shape.Shape.new.Goals as goal

pub returns : goal.returns
returns c = λ near.
    let b = near 1 0 (omega arith) (omega arith) in
    let e = near 2 0 (omega arith) (omega arith) in
    let f = near 3 0 (omega arith) (omega arith) in
    record {
      second = λ i. place (c.from_to.ensures.x b.x i) (c.from_to.ensures.y b.y i) (c.from_to.ensures.z b.z i);
      third = λ i. place (c.from_to-2.ensures.x e.x i) (c.from_to-2.ensures.y e.y i) (c.from_to-2.ensures.z e.z i);
      fourth = λ i. place (c.from_to-3.ensures.x f.x i) (c.from_to-3.ensures.y f.y i) (c.from_to-3.ensures.z f.z i);
    }
