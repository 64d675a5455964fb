-- Each lattice tetrahedron is a step away from one of six: what holds of these holds of all.
use Rattle.std.proofs.Common.{◌≡◌, ℕ, List, [], ◌∷◌, refl, sym, ap, ◌∙◌, arith, subst}
use Rattle.std.proofs.Math.IntN.{ℤ, pos, negsuc, ◌+ℤ◌}
use Rattle.std.proofs.lemmas.Int.{ints}
use Rattle.definitions.specs.declared.Vertex.{Vertex}
use Rattle.definitions.specs.Lattice.{vertex}
use Rattle.definitions.specs.Pieces.{slot}
use Rattle.lattice_laws.specs.Kinds.{Kind, kind_146, kind_256, kind_347, kind_357, kind_467, kind_567, KindOfTet, tet_of_kind, vector_of, offset, slot_1, slot_2, slot_3}
use Rattle.lattice_laws.specs.Vectors.{Vector, vector, ◌+ᵥ◌, x_of, y_of, z_of}
use Rattle.lattice_laws.specs.NumberedTetrahedra.{IsNumberedTet}
use Rattle.lattice_laws.proofs.SixKinds.{numbered_kind}
use Rattle.stencils.proofs.Translated.{IsMoved}
use Rattle.lattice_laws.proofs.Lists.{below_four}

-- a tetrahedron of each kind
abbrev pub kind_model : Kind → List Vertex
kind_model kind_146 = vertex 2 2 2 ∷ vertex 2 2 4 ∷ vertex 3 1 3 ∷ vertex 3 3 3 ∷ []
kind_model kind_256 = vertex 2 2 2 ∷ vertex 2 4 2 ∷ vertex 3 3 1 ∷ vertex 3 3 3 ∷ []
kind_model kind_347 = vertex 2 2 2 ∷ vertex 3 1 1 ∷ vertex 3 1 3 ∷ vertex 4 2 2 ∷ []
kind_model kind_357 = vertex 2 2 2 ∷ vertex 3 1 1 ∷ vertex 3 3 1 ∷ vertex 4 2 2 ∷ []
kind_model kind_467 = vertex 2 2 2 ∷ vertex 3 1 3 ∷ vertex 3 3 3 ∷ vertex 4 2 2 ∷ []
kind_model kind_567 = vertex 2 2 2 ∷ vertex 3 3 1 ∷ vertex 3 3 3 ∷ vertex 4 2 2 ∷ []

-- the step from a model's lowest vertex
abbrev pub from_two : Vertex → Vector
from_two t = vector (pos t.x +ℤ negsuc 1) (pos t.y +ℤ negsuc 1) (pos t.h +ℤ negsuc 1)

-- a tetrahedron of a kind is moved from the model of it
pub record HasKind (tet : List Vertex) : Type 0 where
  pub kind : Kind
  pub step : Vector
  pub moved : IsMoved tet (kind_model kind) step

at_first : (a : ℕ) → pos a ≡ pos 2 +ℤ (pos a +ℤ negsuc 1)
at_first a = omega (arith, ints)

at_later : (a b : ℕ) (o m : ℤ) → pos b ≡ pos a +ℤ o → m ≡ pos 2 +ℤ o → pos b ≡ m +ℤ (pos a +ℤ negsuc 1)
at_later a b o m e f = omega (arith, ints)

-- the vertices of a model, as steps from its first
model_steps : (κ : Kind) → (vector_of (slot (kind_model κ) 1) ≡ vector (pos 2) (pos 2) (pos 2) +ᵥ offset κ slot_1) × (vector_of (slot (kind_model κ) 2) ≡ vector (pos 2) (pos 2) (pos 2) +ᵥ offset κ slot_2) × (vector_of (slot (kind_model κ) 3) ≡ vector (pos 2) (pos 2) (pos 2) +ᵥ offset κ slot_3) × (slot (kind_model κ) 0 ≡ vertex 2 2 2)
model_steps kind_146 = (refl, refl, refl, refl)
model_steps κ = (refl, refl, refl, refl)

moved_from : (t u v w : Vertex) → KindOfTet t u v w → HasKind (t ∷ u ∷ v ∷ w ∷ [])
moved_from t u v w (tet_of_kind κ e1 e2 e3) =
    let s = model_steps κ in
    record {
      kind = κ;
      step = from_two t;
      moved = record {
        x = below_four (λ n. pos (slot (t ∷ u ∷ v ∷ w ∷ []) n).x ≡ pos (slot (kind_model κ) n).x +ℤ (pos t.x +ℤ negsuc 1))
            (at_first t.x ∙ (λ i. pos (sym s.3 i).x +ℤ (pos t.x +ℤ negsuc 1))) (at_later _ _ _ _ (ap x_of e1) (ap x_of s.0)) (at_later _ _ _ _ (ap x_of e2) (ap x_of s.1)) (at_later _ _ _ _ (ap x_of e3) (ap x_of s.2));
        y = below_four (λ n. pos (slot (t ∷ u ∷ v ∷ w ∷ []) n).y ≡ pos (slot (kind_model κ) n).y +ℤ (pos t.y +ℤ negsuc 1))
            (at_first t.y ∙ (λ i. pos (sym s.3 i).y +ℤ (pos t.y +ℤ negsuc 1))) (at_later _ _ _ _ (ap y_of e1) (ap y_of s.0)) (at_later _ _ _ _ (ap y_of e2) (ap y_of s.1)) (at_later _ _ _ _ (ap y_of e3) (ap y_of s.2));
        h = below_four (λ n. pos (slot (t ∷ u ∷ v ∷ w ∷ []) n).h ≡ pos (slot (kind_model κ) n).h +ℤ (pos t.h +ℤ negsuc 1))
            (at_first t.h ∙ (λ i. pos (sym s.3 i).h +ℤ (pos t.h +ℤ negsuc 1))) (at_later _ _ _ _ (ap z_of e1) (ap z_of s.0)) (at_later _ _ _ _ (ap z_of e2) (ap z_of s.1)) (at_later _ _ _ _ (ap z_of e3) (ap z_of s.2));
      };
    }

-- each lattice tetrahedron has a kind
pub has_kind : (tet : List Vertex) (ids : List ℕ) → IsNumberedTet tet ids → HasKind tet
has_kind tet ids h = let k = numbered_kind tet ids h in subst (λ (vs : List Vertex). HasKind vs) (sym k.4) (moved_from k.0 k.1 k.2 k.3 k.5)
