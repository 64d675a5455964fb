-- The kind of a lattice tetrahedron, by comparing coordinates of its vertices.
use Rattle.std.proofs.Common.{◌≡◌, ◌≢◌, ◌<◌, ◌≤◌, List, refl, ap, arith}
use Rattle.std.proofs.lemmas.Int.{ints}
use Rattle.definitions.specs.declared.Vertex.{Vertex}
use Rattle.definitions.specs.Pieces.{slot}
use Rattle.lattice_laws.specs.Kinds.{Kind, kind_146, kind_256, kind_347, kind_357, kind_467, kind_567, slot_1, slot_2}
use Rattle.lattice_laws.specs.Vectors.{x_of, y_of, z_of}
use Rattle.moved_matrix.specs.Matrix.{StandsAs}

module _ (tet : List Vertex) where
  abbrev lowest : Vertex
  lowest = slot tet 0

  abbrev second : Vertex
  second = slot tet 1

  abbrev third : Vertex
  third = slot tet 2

  pub is_146 : (κ : Kind) → StandsAs tet κ → second.h ≡ lowest.h → lowest.x < second.x → κ ≡ kind_146
  is_146 kind_146 h a b = refl
  is_146 κ h a b =
      let x = ap x_of (h slot_1) in
      let y = ap y_of (h slot_1) in
      let z = ap z_of (h slot_1) in
      let u = ap x_of (h slot_2) in
      absurd (omega (arith, ints))

  pub is_256 : (κ : Kind) → StandsAs tet κ → second.h ≡ lowest.h → second.x ≤ lowest.x → κ ≡ kind_256
  is_256 kind_256 h a b = refl
  is_256 κ h a b =
      let x = ap x_of (h slot_1) in
      let y = ap y_of (h slot_1) in
      let z = ap z_of (h slot_1) in
      let u = ap x_of (h slot_2) in
      absurd (omega (arith, ints))

  pub is_467 : (κ : Kind) → StandsAs tet κ → second.h ≢ lowest.h → lowest.x < second.x → κ ≡ kind_467
  is_467 kind_467 h a b = refl
  is_467 κ h a b =
      let x = ap x_of (h slot_1) in
      let y = ap y_of (h slot_1) in
      let z = ap z_of (h slot_1) in
      let u = ap x_of (h slot_2) in
      absurd (omega (arith, ints))

  pub is_567 : (κ : Kind) → StandsAs tet κ → second.h ≢ lowest.h → second.x ≤ lowest.x → lowest.y < second.y → κ ≡ kind_567
  is_567 kind_567 h a b c = refl
  is_567 κ h a b c =
      let x = ap x_of (h slot_1) in
      let y = ap y_of (h slot_1) in
      let z = ap z_of (h slot_1) in
      let u = ap x_of (h slot_2) in
      absurd (omega (arith, ints))

  pub is_347 : (κ : Kind) → StandsAs tet κ → second.h ≢ lowest.h → second.x ≤ lowest.x → second.y ≤ lowest.y → lowest.x < third.x → κ ≡ kind_347
  is_347 kind_347 h a b c d = refl
  is_347 κ h a b c d =
      let x = ap x_of (h slot_1) in
      let y = ap y_of (h slot_1) in
      let z = ap z_of (h slot_1) in
      let u = ap x_of (h slot_2) in
      absurd (omega (arith, ints))

  pub is_357 : (κ : Kind) → StandsAs tet κ → second.h ≢ lowest.h → second.x ≤ lowest.x → second.y ≤ lowest.y → third.x ≤ lowest.x → κ ≡ kind_357
  is_357 kind_357 h a b c d = refl
  is_357 κ h a b c d =
      let x = ap x_of (h slot_1) in
      let y = ap y_of (h slot_1) in
      let z = ap z_of (h slot_1) in
      let u = ap x_of (h slot_2) in
      absurd (omega (arith, ints))
