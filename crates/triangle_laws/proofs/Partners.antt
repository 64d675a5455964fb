-- Each triangle is in one tetrahedron in its own direction, and in at most one other, turned.
use Rattle.std.proofs.Common.{◌≡◌, ◌≢◌, ℕ, ◌+◌, ◌<◌, ◌≤◌, true, ◌==◌, cond, List, [], ◌∷◌, get_or, sym, ap, ◌∙◌, subst, inl, inr, arith}
use Rattle.std.proofs.lemmas.Bool.Decides.{nat_tests}
use Rattle.std.proofs.lemmas.Bool.{and_from, or_left}
use Rattle.definitions.specs.declared.Place.{Place}
use Rattle.definitions.specs.Soundness.{same_nodes, triangles_of, all_triangles, tets_at_triangle}
use Rattle.lattice_laws.specs.Ascending.{Has}
use Rattle.lattice_laws.proofs.Members.{from_flat_map, place_of, all_from_members}
use Rattle.lattice_laws.proofs.Sublists.{has_at}
use Rattle.triangle_laws.specs.Boundary.{turned, IsPaired}
use Rattle.triangle_laws.proofs.Closing.{paired_boundaries_close}
use Rattle.triangle_laws.specs.Laws.{AreConforming, TrianglesAreShared, PartnersAreTurned, TrianglesArePaired, BoundariesClose}
use Rattle.triangle_laws.proofs.Orders.{own_order, AreDifferent, different}
use Rattle.triangle_laws.proofs.SharedTriangles.{same_test}
use Rattle.triangle_laws.proofs.Sums.{total-is, total-plus, total-every, bit, hits, hits_of_member}
use Rattle.triangle_laws.proofs.DirectedTriangles.{IsFour, is_four, as_four, at_most_one_turned}
use Rattle.triangle_laws.proofs.SameNodes.{same_or_turned}

-- three different nodes
data IsTriangle : List ℕ → Type 0 where
  is_triangle : (a b c : ℕ) → a ≢ b → a ≢ c → b ≢ c → IsTriangle (a ∷ b ∷ c ∷ [])

of_four : (places : List Place) (tet t : List ℕ) → IsFour places tet → Has t (triangles_of tet) → IsTriangle t
of_four places _ t (is_four p q r s h) m = go m
  where
    k : AreDifferent p q r s
    k = different places (p ∷ q ∷ r ∷ s ∷ []) p q r s (own_order places p q r s h)

    go : Has t (triangles_of (p ∷ q ∷ r ∷ s ∷ [])) → IsTriangle t
    go (inl e) = subst IsTriangle e (is_triangle p r q k.ac k.ab (λ e. k.bc (sym e)))
    go (inr (inl e)) = subst IsTriangle e (is_triangle p q s k.ab k.ad k.bd)
    go (inr (inr (inl e))) = subst IsTriangle e (is_triangle p s r k.ad k.ac (λ e. k.cd (sym e)))
    go (inr (inr (inr (inl e)))) = subst IsTriangle e (is_triangle q r s k.bc k.bd k.cd)
    go (inr (inr (inr (inr e)))) = absurd e

module _ (places : List Place) (tets : List (List ℕ)) (k : AreConforming places tets) where
  -- each is a triangle
  are_triangles : (t : List ℕ) → Has t (all_triangles tets) → IsTriangle t
  are_triangles t m =
      let f = from_flat_map triangles_of t tets m in
      let n = place_of [] f.0 tets f.1 in
      of_four places f.0 t (subst (IsFour places) n.2 (as_four places (get_or tets n.0 []) (k.four n.0 [] n.1) (k.positive n.0 [] n.1))) f.2

  abbrev turned_count : List ℕ → ℕ
  turned_count t = hits (turned t) (all_triangles tets)

  -- the tetrahedra at a triangle, by its direction
  two_ways : (a b c : ℕ) → a ≢ b → a ≢ c → b ≢ c → tets_at_triangle tets (a ∷ b ∷ c ∷ []) ≡ turned_count (a ∷ c ∷ b ∷ []) + turned_count (a ∷ b ∷ c ∷ [])
  two_ways a b c ab ac bc =
      total-is (λ u. bit (same_nodes (a ∷ b ∷ c ∷ []) u)) (all_triangles tets)
      ∙ total-every (λ u. bit (same_nodes (a ∷ b ∷ c ∷ []) u)) (λ u. bit (turned (a ∷ c ∷ b ∷ []) u) + bit (turned (a ∷ b ∷ c ∷ []) u)) (all_triangles tets)
      (all_from_members (λ u. bit (same_nodes (a ∷ b ∷ c ∷ []) u) ≡ bit (turned (a ∷ c ∷ b ∷ []) u) + bit (turned (a ∷ b ∷ c ∷ []) u)) (all_triangles tets) (λ u m. split u (are_triangles u m)))
      ∙ total-plus (λ u. bit (turned (a ∷ c ∷ b ∷ []) u)) (λ u. bit (turned (a ∷ b ∷ c ∷ []) u)) (all_triangles tets)
    where
      split : (u : List ℕ) → IsTriangle u → bit (same_nodes (a ∷ b ∷ c ∷ []) u) ≡ bit (turned (a ∷ c ∷ b ∷ []) u) + bit (turned (a ∷ b ∷ c ∷ []) u)
      split _ (is_triangle x y z xy xz yz) = same_or_turned a b c x y z ab ac bc xy xz yz

  -- a triangle of the tetrahedra: itself, and those turned, of which there is one at most
  itself : (t : List ℕ) → Has t (all_triangles tets) → (tets_at_triangle tets t ≡ 1 + turned_count t) × (turned_count t ≤ 1)
  itself t m = go t (are_triangles t m) m
    where
      go : (t : List ℕ) → IsTriangle t → Has t (all_triangles tets) → (tets_at_triangle tets t ≡ 1 + turned_count t) × (turned_count t ≤ 1)
      go _ (is_triangle a b c ab ac bc) h =
          let own : turned (a ∷ c ∷ b ∷ []) (a ∷ b ∷ c ∷ []) ≡ true = or_left _ _ (and_from (a == a) _ (same_test a) (and_from (b == b) _ (same_test b) (same_test c))) in
          let there = hits_of_member (turned (a ∷ c ∷ b ∷ [])) (a ∷ b ∷ c ∷ []) (all_triangles tets) h own in
          let once = at_most_one_turned places tets k a c b in
          let twice = at_most_one_turned places tets k a b c in
          let s = two_ways a b c ab ac bc in
          (add (turned_count (a ∷ c ∷ b ∷ [])) _ _ there once s, twice)
        where
          add : (m n o : ℕ) → 0 < m → m ≤ 1 → o ≡ m + n → o ≡ 1 + n
          add m n o h i e = omega arith

  paired : (t : List ℕ) → Has t (all_triangles tets) → IsPaired tets t
  paired t m = let e = itself t m in total-is (λ u. cond (turned t u) 1 0) (all_triangles tets) ∙ go (tets_at_triangle tets t) (turned_count t) e.0 e.1
    where
      go : (n m : ℕ) → n ≡ 1 + m → m ≤ 1 → m ≡ cond (n == 1) 0 1
      go n m e h = grind (arith, nat_tests)

-- ---- the laws
pub triangles_are_shared : TrianglesAreShared
triangles_are_shared places tets k n d lt = let e = itself places tets k (get_or (all_triangles tets) n d) (has_at (all_triangles tets) n d lt) in at_most (tets_at_triangle tets (get_or (all_triangles tets) n d)) _ e.0 e.1
  where
    at_most : (m n : ℕ) → m ≡ 1 + n → n ≤ 1 → m ≤ 2
    at_most m n e h = omega arith

pub partners_are_turned : PartnersAreTurned
partners_are_turned places tets k n d lt =
    (itself places tets k (get_or (all_triangles tets) n d) (has_at (all_triangles tets) n d lt)).0 ∙ ap (λ m. 1 + m) (sym (total-is (λ u. bit (turned (get_or (all_triangles tets) n d) u)) (all_triangles tets)))

pub triangles_are_paired : TrianglesArePaired
triangles_are_paired places tets k n d lt = paired places tets k (get_or (all_triangles tets) n d) (has_at (all_triangles tets) n d lt)

pub boundaries_close : BoundariesClose
boundaries_close places tets k = paired_boundaries_close tets (triangles_are_paired places tets k)
