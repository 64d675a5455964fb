-- The frame that the table has for a lattice tetrahedron is its own.
use Rattle.std.proofs.Common.{◌≡◌, ℕ, zero, suc, ◌<◌, true, false, List, [], ◌∷◌, if◌then◌else◌, refl, sym, ap, ◌∙◌, arith, pos}
use Rattle.std.specs.Prelude.{slice_index_or, int_lt}
use Rattle.definitions.specs.declared.Vertex.{Vertex}
use Rattle.definitions.specs.declared.Corner.TheVariants.{Whole}
use Rattle.definitions.specs.Lattice.{direction}
use Rattle.definitions.specs.Pieces.{slot}
use Rattle.lattice_laws.specs.Kinds.{Kind, kind_146}
use Rattle.lattice_laws.specs.Vectors.{Vector}
use Rattle.lattice_laws.specs.NumberedTetrahedra.{IsNumberedTet}
use Rattle.stencils.specs.declared.frames.Frame.{Frame}
use Rattle.stencils.specs.declared.frames.TheConstants.{FRAMES}
use Rattle.stencils.specs.Cases.{is_turned}
use Rattle.stencils.specs.Frames.{are_directions, edge_directions, FitsFrame, kind_number}
use Rattle.stencils.proofs.Translated.{IsMoved, det_same, direction_same, less_x, less_y, equal_y, equal_h}
use Rattle.stencils.proofs.KindModels.{kind_model, has_kind}

abbrev pub frame_at : ℕ → Frame
frame_at n = slice_index_or FRAMES n (record { directions = []; is_turned = false })

pub small_at : (n : ℕ) → n < 6 → are_directions (frame_at n).directions ≡ true
small_at zero h = refl
small_at (suc zero) h = refl
small_at (suc (suc zero)) h = refl
small_at (suc (suc (suc zero))) h = refl
small_at (suc (suc (suc (suc zero)))) h = refl
small_at (suc (suc (suc (suc (suc zero))))) h = refl
small_at (suc (suc (suc (suc (suc (suc n)))))) h = absurd (omega arith)

abbrev pub number_of : List Vertex → ℕ
number_of tet = kind_number (slot tet 0) (slot tet 1) (slot tet 2)

model_fits : (κ : Kind) → FitsFrame (kind_model κ) (frame_at (number_of (kind_model κ)))
unfolding direction
model_fits kind_146 = record { directions = refl; turned = refl; small = refl }
model_fits κ = record { directions = refl; turned = refl; small = refl }

module _ (tet base : List Vertex) (s : Vector) (m : IsMoved tet base s) where
  number_same : number_of tet ≡ number_of base
  number_same =
      λ i. if equal_h tet base s m 1 0 (omega arith) (omega arith) i
      then (if equal_y tet base s m 1 0 (omega arith) (omega arith) i then 0 else 1)
      else (if less_y tet base s m 0 1 (omega arith) (omega arith) i then 5
      else (if less_x tet base s m 0 1 (omega arith) (omega arith) i then 4
      else (if less_y tet base s m 0 2 (omega arith) (omega arith) i then 3 else 2)))

  edges_same : edge_directions tet ≡ edge_directions base
  edges_same =
      λ i. direction_same tet base s m 0 1 (omega arith) (omega arith) i
      ∷ direction_same tet base s m 0 2 (omega arith) (omega arith) i
      ∷ direction_same tet base s m 0 3 (omega arith) (omega arith) i
      ∷ direction_same tet base s m 1 2 (omega arith) (omega arith) i
      ∷ direction_same tet base s m 1 3 (omega arith) (omega arith) i
      ∷ direction_same tet base s m 2 3 (omega arith) (omega arith) i
      ∷ []

  pub turned_same : is_turned tet ≡ is_turned base
  turned_same = ap (λ d. int_lt d (pos 0)) (det_same tet base s m (Whole 0 ∷ Whole 1 ∷ Whole 2 ∷ Whole 3 ∷ []) refl)

  frame_same : FitsFrame base (frame_at (number_of base)) → FitsFrame tet (frame_at (number_of tet))
  frame_same f =
      record {
        directions = (λ i. (frame_at (number_same i)).directions) ∙ (f.directions ∙ sym edges_same);
        turned = (λ i. (frame_at (number_same i)).is_turned) ∙ (f.turned ∙ sym turned_same);
        small = (λ i. are_directions (frame_at (number_same i)).directions) ∙ f.small;
      }

-- the frame of a lattice tetrahedron
pub frame_fits : (tet : List Vertex) (ids : List ℕ) → IsNumberedTet tet ids → FitsFrame tet (frame_at (number_of tet))
frame_fits tet ids h = let k = has_kind tet ids h in frame_same tet (kind_model k.kind) k.step k.moved (model_fits k.kind)
