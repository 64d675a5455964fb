-- The sign of a piece's volume: that of the order of its nodes times that of its lattice tetrahedron.
use Rattle.std.specs.Prelude.{◌≡◌, ℕ, true, List, [], ◌∷◌}
use Rattle.std.proofs.Common.{refl, sym, ap, subst, ◌∙◌, arith}
use Rattle.std.proofs.Math.IntN.{ℤ, pos, ◌*ℤ◌}
use lib.Signed.{◌<ℤ◌}
use borrow.Author.Differences.{below_in}
use Rattle.definitions.specs.declared.Sign.{Sign}
use Rattle.definitions.specs.declared.Corner.{Corner}
use Rattle.exact.specs.Polynomials.{Expression, variable, constant, plus, times, negate, is_same}
use Rattle.exact.specs.Determinants.{det3_expression}
use Rattle.exact.specs.Dominance.{IsDominant}
use Rattle.exact.proofs.Ring.{ring}
use Rattle.exact.proofs.IntegerOrder.{product_positive, factor_positive}
use Rattle.lattice_laws.specs.Vectors.{Vector, ◌*ᵥ◌}
use Rattle.lattice_laws.specs.Kinds.{Kind, kind_146, Slot, slot_0, slot_1, slot_2, slot_3, offset}
use Rattle.moved_lattice.specs.WeightedSums.{sum4, combination, volume_of_four, det_of_rows}
use Rattle.moved_lattice.proofs.WeightedVolumes.{volume_of_sums}
use Rattle.lattice_laws.specs.Vectors.{x_of, y_of, z_of}
use Rattle.stencil_laws.specs.NodeRows.{order_sign, AreCutNumbers, entry_of}
use Rattle.stencil_laws.specs.PositiveTest.{piece_is_positive}
use Rattle.stencil_laws.proofs.PositivePieces.{positive}
use Rattle.stencil_laws.proofs.PositivePieces as pieces
use Rattle.piece_laws.specs.SignedVolumes.{kind_sign, lattice_place, piece_rows}
use Rattle.piece_laws.specs.Laws.{PiecesHaveSignedVolumes}

abbrev from_lowest : Kind → Slot → ℕ → (Vector → ℤ) → Expression
from_lowest κ s i f = plus (times (constant (pos 4096)) (plus (variable i) (constant (f (offset κ s))))) (negate (times (constant (pos 4096)) (plus (variable i) (constant (f (offset κ slot_0))))))

abbrev lattice_expression : Kind → Expression
lattice_expression κ =
    det3_expression (from_lowest κ slot_1 0 x_of) (from_lowest κ slot_1 1 y_of) (from_lowest κ slot_1 2 z_of) (from_lowest κ slot_2 0 x_of) (from_lowest κ slot_2 1 y_of) (from_lowest κ slot_2 2 z_of)
    (from_lowest κ slot_3 0 x_of) (from_lowest κ slot_3 1 y_of) (from_lowest κ slot_3 2 z_of)

lattice_det : (b : Vector) (κ : Kind) → volume_of_four (lattice_place b κ) ≡ kind_sign κ *ℤ pos 274877906944
lattice_det b κ = ring (b.x ∷ b.y ∷ b.z ∷ []) (lattice_expression κ) (constant (kind_sign κ *ℤ pos 274877906944)) (go κ)
  where
    go : (κ : Kind) → is_same (lattice_expression κ) (constant (kind_sign κ *ℤ pos 274877906944)) ≡ true
    go kind_146 = refl
    go κ = refl

-- a sign is 1 or -1 where its square is 1
kind_square : (κ : Kind) → kind_sign κ *ℤ kind_sign κ ≡ pos 1
kind_square kind_146 = refl
kind_square κ = refl

regroup : (s t a b m x : ℤ) → s *ℤ s ≡ pos 1 → t *ℤ t ≡ pos 1 → a ≡ s *ℤ m → b ≡ t *ℤ x → (s *ℤ t) *ℤ (a *ℤ b) ≡ m *ℤ x
regroup s t a b m x es et ea eb =
    (λ i. (s *ℤ t) *ℤ (ea i *ℤ eb i))
    ∙ ring (s ∷ t ∷ m ∷ x ∷ []) (times (times (variable 0) (variable 1)) (times (times (variable 0) (variable 2)) (times (variable 1) (variable 3)))) (times (times (times (variable 0) (variable 0)) (times (variable 1) (variable 1))) (times (variable 2) (variable 3))) refl
    ∙ (λ i. (es i *ℤ et i) *ℤ (m *ℤ x))
    ∙ ring (m ∷ x ∷ []) (times (times (constant (pos 1)) (constant (pos 1))) (times (variable 0) (variable 1))) (times (variable 0) (variable 1)) refl

pull : (z s d : ℤ) → z *ℤ (s *ℤ (s *ℤ (s *ℤ (s *ℤ d)))) ≡ s *ℤ (s *ℤ (s *ℤ (s *ℤ (z *ℤ d))))
pull z s d = ring (z ∷ s ∷ d ∷ []) (times (variable 0) (times (variable 1) (times (variable 1) (times (variable 1) (times (variable 1) (variable 2)))))) (times (variable 1) (times (variable 1) (times (variable 1) (times (variable 1) (times (variable 0) (variable 2)))))) refl

-- each node's place, 8192-fold, is its row's sum of the lattice places: then the piece's volume has the sign of its order times that of its lattice tetrahedron
piece_sign : (bs : Vector) (κ : Kind) (r : List ℤ) (signs : List Sign) (a b c d : Corner) (n : Slot → Vector) → AreCutNumbers r → IsDominant (entry_of r) → piece_is_positive signs (a ∷ b ∷ c ∷ d ∷ []) ≡ true
    → order_sign signs (a ∷ b ∷ c ∷ d ∷ []) *ℤ order_sign signs (a ∷ b ∷ c ∷ d ∷ []) ≡ pos 1
    → ((i : Slot) → sum4 (piece_rows r signs a b c d i) ≡ pos 8192)
    → ((i : Slot) → pos 8192 *ᵥ n i ≡ combination (piece_rows r signs a b c d i) (lattice_place bs κ))
    → pos 0 <ℤ ((order_sign signs (a ∷ b ∷ c ∷ d ∷ []) *ℤ kind_sign κ) *ℤ volume_of_four n)
piece_sign bs κ r signs a b c d n ok dom e sq sums places =
    let o = order_sign signs (a ∷ b ∷ c ∷ d ∷ []) in
    let t = positive r signs (a ∷ b ∷ c ∷ d ∷ []) ok dom e in
    let f = volume_of_sums (pos 8192) (piece_rows r signs a b c d) n (lattice_place bs κ) sums places in
    let g = regroup o (kind_sign κ) (det_of_rows (piece_rows r signs a b c d)) (volume_of_four (lattice_place bs κ)) t.0 (pos 274877906944) sq (kind_square κ) t.2 (lattice_det bs κ) in
    let h : (o *ℤ kind_sign κ) *ℤ (pos 8192 *ℤ (pos 8192 *ℤ (pos 8192 *ℤ (pos 8192 *ℤ volume_of_four n)))) ≡ t.0 *ℤ pos 274877906944 = ap (λ x. (o *ℤ kind_sign κ) *ℤ x) f ∙ g in
    let u : pos 0 <ℤ (pos 8192 *ℤ (pos 8192 *ℤ (pos 8192 *ℤ (pos 8192 *ℤ ((o *ℤ kind_sign κ) *ℤ volume_of_four n))))) =
    subst (λ (x : ℤ). pos 0 <ℤ x) (sym (sym (pull (o *ℤ kind_sign κ) (pos 8192) (volume_of_four n)) ∙ h)) (product_positive t.0 (pos 274877906944) t.1 big) in
    down4 ((o *ℤ kind_sign κ) *ℤ volume_of_four n) u
  where
    down4 : (z : ℤ) → pos 0 <ℤ (pos 8192 *ℤ (pos 8192 *ℤ (pos 8192 *ℤ (pos 8192 *ℤ z)))) → pos 0 <ℤ z
    down4 z u =
        factor_positive (pos 8192) z 0 above_0
        (factor_positive (pos 8192) (pos 8192 *ℤ z) 0 above_0
        (factor_positive (pos 8192) (pos 8192 *ℤ (pos 8192 *ℤ z)) 0 above_0
        (factor_positive (pos 8192) (pos 8192 *ℤ (pos 8192 *ℤ (pos 8192 *ℤ z))) 0 above_0 u)))
      where
        above_0 : pos 0 <ℤ pos 8192
        above_0 = below_in _ _ (omega arith)

    big : pos 0 <ℤ pos 274877906944
    big = below_in _ _ (omega arith)

-- the law, of every piece of every case
pub pieces_have_signed_volumes : PiecesHaveSignedVolumes
pieces_have_signed_volumes bs κ r signs a b c d n ok dominant len i sums places =
    piece_sign bs κ r signs a b c d n ok dominant (pieces.passes signs (a ∷ b ∷ c ∷ d ∷ []) len i) (pieces.order_signs_are_units signs (a ∷ b ∷ c ∷ d ∷ []) len i) sums places
