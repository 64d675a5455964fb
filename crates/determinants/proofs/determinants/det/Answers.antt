use Rattle.std.proofs.Common.{arith, sym, subst, lit<}
use Rattle.definitions.specs.declared.Place.{Place}
use Rattle.definitions.specs.Vectors.{minus, place_at}
use Rattle.bcc_lattice.specs.Bounds.{IsSmallPlace}
use Rattle.determinants.proofs.determinants.det.Goals as goal

-- a difference is within the bound of a cross product
wider : (p : Place) → IsSmallPlace 12286 p → IsSmallPlace 301891592 p
wider p h = record { x = let b = h.x in omega arith; y = let b = h.y in omega arith; z = let b = h.z in omega arith }

pub dot-requires-clause-p : goal.dot-requires-clause-p
dot-requires-clause-p c = subst (λ p. IsSmallPlace 301891592 p) (sym c.minus.ensures) (wider (minus (place_at c.args.tet 1) (place_at c.args.tet 0)) (c.requires 1 0 (lit< tt) (lit< tt)))
