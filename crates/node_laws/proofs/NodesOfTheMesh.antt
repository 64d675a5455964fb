-- A key occurs in the mesh exactly where it has a reason.
use Rattle.std.proofs.Common.{◌≡◌, ℕ, ◌<◌, true, List, [], get_or, refl, sym, ap, subst, ◌∙◌, ◌==◌, arith}
use Rattle.std.specs.List.{list_any}
use Rattle.definitions.specs.declared.Dims.{Dims}
use Rattle.definitions.specs.declared.Vertex.{Vertex}
use Rattle.definitions.specs.declared.State.{State}
use Rattle.definitions.specs.declared.Sign.{Sign}
use Rattle.definitions.specs.declared.Sign.TheVariants.{Minus, Zero, Plus}
use Rattle.definitions.specs.Lattice.{InDomain, id}
use Rattle.definitions.specs.Tetrahedra.{lattice_tets}
use Rattle.definitions.specs.Stencils.{is_plus}
use Rattle.definitions.specs.Mesh.{occurs, tet_pieces, all_pieces, ArePadded, is_inner}
use Rattle.lattice_laws.specs.NumberedTetrahedra.{IsInner}
use Rattle.lattice_laws.proofs.ListedTetrahedra.{lattice_tets_listed}
use Rattle.lattice_laws.proofs.Lists.{any_flat_map}
use Rattle.lattice_laws.proofs.Sublists.{has_at}
use Rattle.lattice_laws.proofs.Vertices.{vertex_at-id}
use Rattle.std.proofs.lemmas.Bool.Decides.{nat_tests}
use Rattle.list_words.proofs.Lists.{place_where}
use Rattle.node_laws.specs.Reasons.{Reason, sign}
use Rattle.node_laws.specs.Laws.{NodesHaveReasons}
use Rattle.node_laws.proofs.NodesOfATetrahedron.{reason}
use Rattle.node_laws.proofs.FoundNodes.{found_if}
use Rattle.node_laws.proofs.Pieces.{lattice_tet_uses_nodes}

inner_from_test : (d : Dims) (v : Vertex) → is_inner d v ≡ true → IsInner d v
inner_from_test d v e = record {
  h_low = grind (arith, nat_tests);
  h_high = grind (arith, nat_tests);
  y_low = grind (arith, nat_tests);
  y_high = grind (arith, nat_tests);
  x_low = grind (arith, nat_tests);
  x_high = grind (arith, nat_tests);
}

plus_from_test : (s : Sign) → is_plus s ≡ true → s ≡ Plus
plus_from_test Plus h = refl
plus_from_test Zero h = cc
plus_from_test Minus h = cc

-- a Plus vertex is no padding
pub plus_is_inner : (d : Dims) (ss : List State) → ArePadded d ss → (v : Vertex) → InDomain d v → is_plus (sign d ss v) ≡ true → IsInner d v
plus_is_inner d ss padded v k p =
    let b = vertex_at-id d v k in
    let e = padded.inner (id d v) (subst (λ n. id d v < n) (sym padded.whole) b.0) (plus_from_test (sign d ss v) p) in
    inner_from_test d v (ap (is_inner d) (sym b.1) ∙ e)

module _ (d : Dims) (ss : List State) (key : ℕ) where
  reason_if : occurs (all_pieces d ss) key ≡ true → Reason d ss key
  unfolding all_pieces
  reason_if h =
      let e = sym (any_flat_map (list_any (λ k. k == key)) (tet_pieces d ss) (lattice_tets d)) ∙ h in
      let r = place_where (λ t. occurs (tet_pieces d ss t) key) (lattice_tets d) [] e in
      let t = get_or (lattice_tets d) r.0 [] in
      let m = (lattice_tets_listed d t).0 (has_at (lattice_tets d) r.0 [] r.1) in
      reason d ss t m key r.2

  occurs_if : ArePadded d ss → Reason d ss key → occurs (all_pieces d ss) key ≡ true
  occurs_if padded why = let f = found_if d ss key (plus_is_inner d ss padded) why in lattice_tet_uses_nodes d ss f.tet key f.lattice f.here

-- a key occurs exactly where it has a reason
pub nodes_have_reasons : NodesHaveReasons
nodes_have_reasons d ss padded key = (reason_if d ss key, occurs_if d ss key padded)
