use Rattle.std.proofs.Common.{refl}
use Rattle.std.proofs.lemmas.List.Elements.{All-set}
use Rattle.dihedral.specs.Shapes.{CoversShape}
use Rattle.dihedral.specs.Stars.{star_shapes}
use Rattle.dihedral.proofs.CoveredAngles.{stay_six}
use Rattle.dihedral.proofs.SameShapes.{all_wider, covers_shape}
use Rattle.dihedral.proofs.remembering.Remembering.take.Goals as goal

pub returns-then-has : goal.returns-then-has
returns-then-has c = λ xs h. stay_six c.args.self.now c.args.tet c.args.number c.args.nodes xs (c.if-has.ensures refl c.args.tet (c.new-shape.ensures c.requires.near) c.requires.positive) h

pub invariant_of-self : goal.invariant_of-self
invariant_of-self c = (
  All-set (CoversShape c.take.new.self) c.self.inside.seen c.slot-slot.result c.new-shape.result (covers_shape c.take.new.self c.args.tet c.new-shape.result (c.new-shape.ensures c.requires.near) c.take.ensures.covers)
      (all_wider c.self.inside.running c.take.new.self c.self.inside.seen c.take.ensures.widens c.self.invariant.0),
  λ t. all_wider c.self.inside.running c.take.new.self star_shapes c.take.ensures.widens (c.self.invariant.1 t),
)

pub invariant_of-self-else-is_whole : goal.invariant_of-self-else-is_whole
invariant_of-self-else-is_whole c = (
  all_wider c.self.inside.running c.take.new.self c.self.inside.seen c.take.ensures.widens c.self.invariant.0,
  λ t. all_wider c.self.inside.running c.take.new.self star_shapes c.take.ensures.widens (c.self.invariant.1 t),
)
