-- A key with a reason occurs, where no Plus vertex lies in the padding.
use Rattle.std.proofs.Common.{inl, inr, ◌⊎◌, ◌≡◌, ℕ, ◌+◌, ◌*◌, true, false, List, refl, sym, ap, ◌∙◌, arith}
use Rattle.definitions.specs.declared.Dims.{Dims}
use Rattle.definitions.specs.declared.Vertex.{Vertex}
use Rattle.definitions.specs.declared.State.{State}
use Rattle.definitions.specs.declared.Sign.{Sign}
use Rattle.definitions.specs.declared.Sign.TheVariants.{Minus, Zero, Plus}
use Rattle.definitions.specs.Lattice.{InDomain, id, direction, before, are_neighbours}
use Rattle.definitions.specs.Tetrahedra.{IsLatticeTet}
use Rattle.definitions.specs.Stencils.{is_plus, is_minus}
use Rattle.definitions.specs.Cuts.{are_opposite}
use Rattle.definitions.specs.Mesh.{occurs, tet_pieces}
use Rattle.lattice_laws.proofs.Directions.{offset_of_itself}
use Rattle.lattice_laws.specs.NumberedTetrahedra.{IsInner}
use Rattle.node_laws.specs.Reasons.{Reason, plus, beside, crossed, sign}
use Rattle.node_laws.proofs.NodesOfATetrahedron.{vertex_occurs, cut_occurs, plus_of}
use Rattle.lattice_laws.proofs.EdgeTetrahedra.{edge_tet, tet_146, nowhere_is, neighbours_sym, one_before}

pub not_minus : (s : Sign) → is_plus s ≡ true → is_minus s ≡ false
not_minus Plus h = refl
not_minus Zero h = cc
not_minus Minus h = cc

-- a lattice tetrahedron in whose pieces the key occurs
pub record Found (d : Dims) (ss : List State) (key : ℕ) : Type 0 where
  pub tet : List Vertex
  pub lattice : IsLatticeTet d tet
  pub here : occurs (tet_pieces d ss tet) key ≡ true

module _ (d : Dims) (ss : List State) (key : ℕ) (padded : (v : Vertex) → InDomain d v → is_plus (sign d ss v) ≡ true → IsInner d v) where
  -- v is not Minus, and its neighbour w is Plus, v the lower
  lower_found : (v w : Vertex) → InDomain d v → InDomain d w → key ≡ 8 * id d v → is_minus (sign d ss v) ≡ false → are_neighbours v w ≡ true → before v w ≡ true → is_plus (sign d ss w) ≡ true → Found d ss key
  lower_found v w iv iw e m n b p =
      let t = edge_tet d v w iv (inr (padded w iw p)) n b in
      record {
        tet = t.tet;
        lattice = t.lattice;
        here = vertex_occurs d ss t.tet t.lattice key 0 t.at (omega arith) t.at_high
            (ap (λ u. is_minus (sign d ss u)) t.lowest ∙ m) (ap (λ u. is_plus (sign d ss u)) t.upper ∙ p) (e ∙ ap (λ u. 8 * id d u) (sym t.lowest));
      }

  upper_found : (v w : Vertex) → InDomain d v → InDomain d w → key ≡ 8 * id d v → is_minus (sign d ss v) ≡ false → are_neighbours w v ≡ true → before w v ≡ true → is_plus (sign d ss w) ≡ true → Found d ss key
  upper_found v w iv iw e m n b p =
      let t = edge_tet d w v iw (inl (padded w iw p)) n b in
      record {
        tet = t.tet;
        lattice = t.lattice;
        here = vertex_occurs d ss t.tet t.lattice key t.at 0 t.at_high (omega arith)
            (ap (λ u. is_minus (sign d ss u)) t.upper ∙ m) (ap (λ u. is_plus (sign d ss u)) t.lowest ∙ p) (e ∙ ap (λ u. 8 * id d u) (sym t.upper));
      }

  beside_found : (v w : Vertex) → InDomain d v → InDomain d w → key ≡ 8 * id d v → is_minus (sign d ss v) ≡ false → are_neighbours v w ≡ true → is_plus (sign d ss w) ≡ true → Found d ss key
  beside_found v w iv iw e m n p =
      elim (one_before v w n) [
        | inl b ↦ lower_found v w iv iw e m n b p
        | inr b ↦ upper_found v w iv iw e m (sym (neighbours_sym v w) ∙ n) b p
      ]

  -- a key with a reason occurs in the pieces of a lattice tetrahedron
  pub found_if : Reason d ss key → Found d ss key
  found_if (plus v iv e p) =
      let iv' = padded v iv p in
      let t = tet_146 d v v iv iv' (inl (offset_of_itself v)) in
      let l = nowhere_is d v iv iv' in
      record {
        tet = _;
        lattice = t;
        here = vertex_occurs d ss _ t key 0 0 (omega arith) (omega arith)
            (ap (λ u. is_minus (sign d ss u)) l ∙ not_minus (sign d ss v) p) (ap (λ u. is_plus (sign d ss u)) l ∙ p) (e ∙ ap (λ u. 8 * id d u) (sym l));
      }
  found_if (beside v w iv iw e m (inl n) p) = beside_found v w iv iw e m n p
  found_if (beside v w iv iw e m (inr n) p) = beside_found v w iv iw e m (sym (neighbours_sym w v) ∙ n) p
  found_if (crossed u w iu iw e n b o) =
      let ends : (IsInner d u) ⊎ (IsInner d w) = elim (plus_of (sign d ss u) (sign d ss w) o) [ inl p ↦ inl (padded u iu p) | inr p ↦ inr (padded w iw p) ] in
      let t = edge_tet d u w iu ends n b in
      record {
        tet = t.tet;
        lattice = t.lattice;
        here = cut_occurs d ss t.tet t.lattice key 0 t.at t.at_low t.at_high
            ((λ i. are_opposite (sign d ss (t.lowest i)) (sign d ss (t.upper i))) ∙ o) (e ∙ (λ i. 8 * id d (sym t.lowest i) + direction (sym t.lowest i) (sym t.upper i)));
      }
