-- A line that is made from its end to its front.
use Rattle.std.proofs.Common.{◌≡◌, ℕ, ◌+◌, ap, codes, List, [], ◌∷◌, ◌++◌, append_assoc, decimal, ℤ, pos, ◌*ℤ◌, ◌∙◌, Bool, Some, None}
use Rattle.std.specs.Prelude.{slice_index, slice_index_or}
use Rattle.definitions.specs.declared.Extreme.{Extreme}
use Rattle.definitions.specs.declared.Place.{Place}
use Rattle.formats.specs.declared.Axis.{Axis}
use Rattle.formats.specs.declared.Frame.{Frame}
use Rattle.formats.specs.Frames.{AreAxes}
use Rattle.formats.specs.Texts.{line}
use Rattle.mesh_texts.specs.Coordinates.{coordinate_text}
use Rattle.mesh_texts.specs.Frames.{frame_text, world_text, world_value}
use Rattle.mesh_texts.specs.Lines.{marker_text, node_line}
use Rattle.mesh_texts.specs.Report.{angle_line, cosine_text, place_of_angle}

five_fields : (a b c d e : List ℕ) → a ++ (32 ∷ (b ++ (32 ∷ (c ++ (32 ∷ (d ++ (32 ∷ (e ++ (10 ∷ []))))))))) ≡ line (a ∷ b ∷ c ∷ d ∷ e ∷ [])
five_fields a b c d e = simp append_assoc

-- the line of a node, from its marker to its front
pub node_line_made : (frame : Frame) (number : ℕ) (place : Place) (level : Bool) (marker places whole : List ℕ) → marker ≡ 32 ∷ (marker_text level ++ 10 ∷ [])
    → places ≡ 32 ∷ (frame_text frame 0 place.x ++ (32 ∷ (frame_text frame 1 place.y ++ (32 ∷ (frame_text frame 2 place.z ++ marker))))) → whole ≡ decimal number ++ places
    → whole ≡ node_line frame (number, record { place = place; level = level })
node_line_made frame number place level marker places whole m p w = made (decimal number) (frame_text frame 0 place.x) (frame_text frame 1 place.y) (frame_text frame 2 place.z) (marker_text level) m p w
  where
    made : (a b c d e : List ℕ) → marker ≡ 32 ∷ (e ++ 10 ∷ []) → places ≡ 32 ∷ (b ++ (32 ∷ (c ++ (32 ∷ (d ++ marker))))) → whole ≡ a ++ places → whole ≡ line (a ∷ b ∷ c ∷ d ∷ e ∷ [])
    made a b c d e f g h =
        h ∙ ap (λ t. a ++ t) (g ∙ ap (λ t. 32 ∷ (b ++ (32 ∷ (c ++ (32 ∷ (d ++ t)))))) f) ∙ five_fields a b c d e

-- the second half of the line of an angle
pub place_of_angle_made : (first : ℕ) (angle : Extreme) (u v : ℕ) (a b c d e : List ℕ) → u ≡ slice_index angle.ends 0 → v ≡ slice_index angle.ends 1 → b ≡ a ++ (codes "tetrahedron " ++ decimal (first + angle.tet)) →
    c ≡ b ++ (codes " edge " ++ decimal (first + u)) → d ≡ c ++ (codes " " ++ decimal (first + v)) → e ≡ d ++ (10 ∷ []) → e ≡ a ++ place_of_angle first angle
place_of_angle_made first angle u v a b c d e f g p q r s =
    three_numbers a b c d e _ _ _ p (q ∙ ap (λ n. b ++ (codes " edge " ++ decimal (first + n))) f) (r ∙ ap (λ n. c ++ (codes " " ++ decimal (first + n))) g) s
  where
    three_numbers : (a b c d e f g h : List ℕ) → b ≡ a ++ (codes "tetrahedron " ++ f) → c ≡ b ++ (codes " edge " ++ g) → d ≡ c ++ (codes " " ++ h) → e ≡ d ++ (10 ∷ []) → e ≡ a ++ line (codes "tetrahedron" ∷ f ∷ codes "edge" ∷ g ∷ h ∷ [])
    three_numbers a b c d e f g h p q r s = s ∙ ap (λ t. t ++ (10 ∷ [])) (r ∙ ap (λ t. t ++ (codes " " ++ h)) (q ∙ ap (λ t. t ++ (codes " edge " ++ g)) p)) ∙ simp append_assoc

-- a line in two halves
two_halves : (a b c d e f w x : List ℕ) (ys : List (List ℕ)) (y : List ℕ) → b ≡ a ++ w → c ≡ b ++ (32 ∷ []) → d ≡ c ++ x → e ≡ d ++ (32 ∷ []) → f ≡ e ++ line (y ∷ ys) → f ≡ a ++ line (w ∷ x ∷ y ∷ ys)
two_halves a b c d e f w x ys y p q r s t =
    t ∙ ap (λ u. u ++ line (y ∷ ys)) (s ∙ ap (λ u. u ++ (32 ∷ [])) (r ∙ ap (λ u. u ++ x) (q ∙ ap (λ u. u ++ (32 ∷ [])) p))) ∙ simp append_assoc

-- the line of an angle, in two halves
pub angle_line_made : (first : ℕ) (word : List ℕ) (angle : Extreme) (a b c d e f : List ℕ) → b ≡ a ++ word → c ≡ b ++ (32 ∷ []) → d ≡ c ++ cosine_text angle.cosine → e ≡ d ++ (32 ∷ []) → f ≡ e ++ place_of_angle first angle → f ≡ a ++ angle_line first word angle
angle_line_made first word angle a b c d e f p q r s t =
    two_halves a b c d e f word (cosine_text angle.cosine) (decimal (first + angle.tet) ∷ codes "edge" ∷ decimal (first + slice_index angle.ends 0) ∷ decimal (first + slice_index angle.ends 1) ∷ []) (codes "tetrahedron") p q r s t

-- five fields, one by one from the front
pub fields_behind : (l a b c d e l0 l1 l2 l3 l4 l5 : List ℕ) → l0 ≡ l ++ a → l1 ≡ l0 ++ 32 ∷ b → l2 ≡ l1 ++ 32 ∷ c → l3 ≡ l2 ++ 32 ∷ d → l4 ≡ l3 ++ 32 ∷ e → l5 ≡ l4 ++ 10 ∷ [] → l5 ≡ l ++ line (a ∷ b ∷ c ∷ d ∷ e ∷ [])
fields_behind l a b c d e l0 l1 l2 l3 l4 l5 e0 e1 e2 e3 e4 e5 =
    e5 ∙ ap (λ t. t ++ 10 ∷ []) (e4 ∙ ap (λ t. t ++ 32 ∷ e) (e3 ∙ ap (λ t. t ++ 32 ∷ d) (e2 ∙ ap (λ t. t ++ 32 ∷ c) (e1 ∙ ap (λ t. t ++ 32 ∷ b) e0)))) ∙ joined
  where
    joined : ((((((l ++ a) ++ 32 ∷ b) ++ 32 ∷ c) ++ 32 ∷ d) ++ 32 ∷ e) ++ 10 ∷ []) ≡ l ++ line (a ∷ b ∷ c ∷ d ∷ e ∷ [])
    joined =
        let last : List ℕ = 32 ∷ (e ++ (10 ∷ [])) in
        append_assoc ((((l ++ a) ++ 32 ∷ b) ++ 32 ∷ c) ++ 32 ∷ d) (32 ∷ e) (10 ∷ [])
        ∙ append_assoc (((l ++ a) ++ 32 ∷ b) ++ 32 ∷ c) (32 ∷ d) last
        ∙ append_assoc ((l ++ a) ++ 32 ∷ b) (32 ∷ c) (32 ∷ (d ++ last))
        ∙ append_assoc (l ++ a) (32 ∷ b) (32 ∷ (c ++ (32 ∷ (d ++ last))))
        ∙ append_assoc l a (32 ∷ (b ++ (32 ∷ (c ++ (32 ∷ (d ++ last))))))
        ∙ ap (λ (t : List ℕ). l ++ t) (five_fields a b c d e)

-- the line of a node in index units
pub node_line_row : (step number : ℕ) (place : Place) (level : Bool) (x y z : ℤ) (l0 l1 l2 l3 l4 l5 : List ℕ) → x ≡ pos step *ℤ place.x → y ≡ pos step *ℤ place.y → z ≡ pos step *ℤ place.z → l0 ≡ decimal number →
    l1 ≡ l0 ++ 32 ∷ coordinate_text x → l2 ≡ l1 ++ 32 ∷ coordinate_text y → l3 ≡ l2 ++ 32 ∷ coordinate_text z → l4 ≡ l3 ++ 32 ∷ marker_text level → l5 ≡ l4 ++ 10 ∷ [] →
    l5 ≡ node_line (record { step = step; world = None }) (number, record { place = place; level = level })
node_line_row step number place level x y z l0 l1 l2 l3 l4 l5 ex ey ez e0 e1 e2 e3 e4 e5 =
    fields_behind [] (decimal number) (coordinate_text (pos step *ℤ place.x)) (coordinate_text (pos step *ℤ place.y)) (coordinate_text (pos step *ℤ place.z)) (marker_text level) l0 l1 l2 l3 l4 l5 e0
    (e1 ∙ ap (λ (v : ℤ). l0 ++ 32 ∷ coordinate_text v) ex) (e2 ∙ ap (λ (v : ℤ). l1 ++ 32 ∷ coordinate_text v) ey) (e3 ∙ ap (λ (v : ℤ). l2 ++ 32 ∷ coordinate_text v) ez) e4 e5

-- the line of a node in the volume's own units
pub own_line_row : (axes : List Axis) (other : Axis) (step number : ℕ) (place : Place) (level : Bool) (l0 l1 l2 l3 l4 l5 : List ℕ) → AreAxes axes → l0 ≡ decimal number →
    l1 ≡ l0 ++ 32 ∷ world_text (world_value (slice_index_or axes 0 other) step place.x) → l2 ≡ l1 ++ 32 ∷ world_text (world_value (slice_index_or axes 1 other) step place.y) → l3 ≡ l2 ++ 32 ∷ world_text (world_value (slice_index_or axes 2 other) step place.z) →
    l4 ≡ l3 ++ 32 ∷ marker_text level → l5 ≡ l4 ++ 10 ∷ [] → l5 ≡ node_line (record { step = step; world = Some axes }) (number, record { place = place; level = level })
own_line_row [] other step number place level l0 l1 l2 l3 l4 l5 are e0 e1 e2 e3 e4 e5 = elim are [ ]
own_line_row (x ∷ []) other step number place level l0 l1 l2 l3 l4 l5 are e0 e1 e2 e3 e4 e5 = elim are [ ]
own_line_row (x ∷ (y ∷ [])) other step number place level l0 l1 l2 l3 l4 l5 are e0 e1 e2 e3 e4 e5 = elim are [ ]
own_line_row (x ∷ (y ∷ (z ∷ (_ ∷ _)))) other step number place level l0 l1 l2 l3 l4 l5 are e0 e1 e2 e3 e4 e5 = elim are [ ]
own_line_row (x ∷ y ∷ z ∷ []) other step number place level l0 l1 l2 l3 l4 l5 are e0 e1 e2 e3 e4 e5 =
    fields_behind [] (decimal number) (world_text (world_value x step place.x)) (world_text (world_value y step place.y)) (world_text (world_value z step place.z)) (marker_text level) l0 l1 l2 l3 l4 l5 e0 e1 e2 e3 e4 e5
