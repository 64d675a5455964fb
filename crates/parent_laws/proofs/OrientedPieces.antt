-- An oriented piece has the nodes of the piece, the last two in either order.
use Rattle.std.specs.Prelude.{Bool, true, false, List, [], ◌∷◌, map, if◌then◌else◌, int_lt, pos}
use Rattle.std.proofs.Common.{inl, inr}
use Rattle.definitions.specs.declared.Vertex.{Vertex}
use Rattle.definitions.specs.declared.Corner.{Corner}
use Rattle.definitions.specs.Pieces.{oriented, swap_last_two, middle}
use Rattle.definitions.specs.Vectors.{det}
use Rattle.lattice_laws.specs.Ascending.{Has}

has_swapped : (c : Corner) (p : List Corner) → Has c p → Has c (swap_last_two p)
has_swapped c [] m = m
has_swapped c (x ∷ []) m = m
has_swapped c (x ∷ y ∷ []) m = m
has_swapped c (x ∷ y ∷ z ∷ []) m = m
has_swapped c (x ∷ y ∷ z ∷ w ∷ []) (inl e) = inl e
has_swapped c (x ∷ y ∷ z ∷ w ∷ []) (inr (inl e)) = inr (inl e)
has_swapped c (x ∷ y ∷ z ∷ w ∷ []) (inr (inr (inl e))) = inr (inr (inr (inl e)))
has_swapped c (x ∷ y ∷ z ∷ w ∷ []) (inr (inr (inr (inl e)))) = inr (inr (inl e))
has_swapped c (x ∷ y ∷ z ∷ w ∷ []) (inr (inr (inr (inr m)))) = absurd m
has_swapped c (x ∷ y ∷ z ∷ w ∷ v ∷ l) m = m

pub has_oriented : (tet : List Vertex) (c : Corner) (p : List Corner) → Has c p → Has c (oriented tet p)
unfolding oriented
has_oriented tet c p m = elim (int_lt (det (map (middle tet) p)) (pos 0)) as (λ b. Has c (if b then swap_last_two p else p)) [ true ↦ has_swapped c p m | false ↦ m ]

from_swapped : (c : Corner) (p : List Corner) → Has c (swap_last_two p) → Has c p
from_swapped c [] m = m
from_swapped c (x ∷ []) m = m
from_swapped c (x ∷ y ∷ []) m = m
from_swapped c (x ∷ y ∷ z ∷ []) m = m
from_swapped c (x ∷ y ∷ z ∷ w ∷ []) (inl e) = inl e
from_swapped c (x ∷ y ∷ z ∷ w ∷ []) (inr (inl e)) = inr (inl e)
from_swapped c (x ∷ y ∷ z ∷ w ∷ []) (inr (inr (inl e))) = inr (inr (inr (inl e)))
from_swapped c (x ∷ y ∷ z ∷ w ∷ []) (inr (inr (inr (inl e)))) = inr (inr (inl e))
from_swapped c (x ∷ y ∷ z ∷ w ∷ []) (inr (inr (inr (inr m)))) = absurd m
from_swapped c (x ∷ y ∷ z ∷ w ∷ v ∷ l) m = m

pub from_oriented : (tet : List Vertex) (c : Corner) (p : List Corner) → Has c (oriented tet p) → Has c p
unfolding oriented
from_oriented tet c p m = go (int_lt (det (map (middle tet) p)) (pos 0)) m
  where
    go : (b : Bool) → Has c (if b then swap_last_two p else p) → Has c p
    go true m = from_swapped c p m
    go false m = m
