-- Triangles by their places among those of all tetrahedra: triangle k of tetrahedron t stands at 4 t + k.
use Rattle.std.proofs.Common.{◌≡◌, ◌≢◌, ℕ, zero, suc, ◌+◌, ◌*◌, ◌/◌, ◌%◌, ◌<◌, ◌≤◌, true, false, eqb, List, [], ◌∷◌, length, take, get_or, refl, sym, ap, ◌∙◌, subst, arith}
use Rattle.std.specs.Prelude.{All, AllPairs, count_by}
use Rattle.std.specs.List.{enumerate_from}
use Rattle.std.proofs.lemmas.Bool.{ne_eqb, eq-eqb, or_from, or_left, or_right, false≢true}
use Rattle.std.proofs.lemmas.List.{get_or-map, length-map, length-take-le}
use Rattle.std.proofs.lemmas.List.Concat.{get_or-flat_map}
use Rattle.std.proofs.lemmas.List.Elements.{All-from_get_or, All-take}
use Rattle.std.proofs.lemmas.List.FromFn.{get_or-enumerate_from, length-enumerate_from}
use Rattle.definitions.specs.Soundness.{is_in, same_nodes, triangles_of, all_triangles}
use Rattle.adjacency.specs.Laws.{NodesDiffer, ShareByTwo}
use Rattle.face_neigh.specs.declared.side.Side.{Side}
use Rattle.face_neigh.specs.Sides.{side_of, sides}
use Rattle.face_neigh.proofs.Counts.{counts_any_three}
use Rattle.face_neigh.proofs.SideLists.{length-triangles_of, length-all_triangles}
use Rattle.face_neigh.proofs.Triples.{Ascends, nodes_of, in_side, side_ascends, members_from_same, same_from_members, same_sides}

-- three nodes that differ
pub record IsTriangle (x : List ℕ) : Type 0 where
  pub a : ℕ
  pub b : ℕ
  pub c : ℕ
  pub is : x ≡ a ∷ b ∷ c ∷ []
  pub ab : a ≢ b
  pub ac : a ≢ c
  pub bc : b ≢ c

-- a tetrahedron with four nodes that differ
pub record IsTetrahedron (tet : List ℕ) : Type 0 where
  pub a : ℕ
  pub b : ℕ
  pub c : ℕ
  pub d : ℕ
  pub is : tet ≡ a ∷ b ∷ c ∷ d ∷ []
  pub differ : AllPairs (λ (m n : ℕ). m ≢ n) (a ∷ b ∷ c ∷ d ∷ [])

tetrahedron_of : (tet : List ℕ) → length tet ≡ 4 → AllPairs (λ (m n : ℕ). m ≢ n) tet → IsTetrahedron tet
tetrahedron_of (a ∷ b ∷ c ∷ d ∷ []) h differ = record { a = a; b = b; c = c; d = d; is = refl; differ = differ }
tetrahedron_of [] h differ = absurd (omega arith)
tetrahedron_of (a ∷ []) h differ = absurd (omega arith)
tetrahedron_of (a ∷ b ∷ []) h differ = absurd (omega arith)
tetrahedron_of (a ∷ b ∷ c ∷ []) h differ = absurd (omega arith)
tetrahedron_of (a ∷ b ∷ c ∷ d ∷ e ∷ tet) h differ = absurd (omega arith)

module _ (a b c d : ℕ) (differ : AllPairs (λ (m n : ℕ). m ≢ n) (a ∷ b ∷ c ∷ d ∷ [])) where
  ab : a ≢ b
  ab = differ 0 1 0 (omega arith) (omega arith)

  ac : a ≢ c
  ac = differ 0 2 0 (omega arith) (omega arith)

  ad : a ≢ d
  ad = differ 0 3 0 (omega arith) (omega arith)

  bc : b ≢ c
  bc = differ 1 2 0 (omega arith) (omega arith)

  bd : b ≢ d
  bd = differ 1 3 0 (omega arith) (omega arith)

  cd : c ≢ d
  cd = differ 2 3 0 (omega arith) (omega arith)

  triangle_of : (k : ℕ) → k < 4 → IsTriangle (get_or (triangles_of (a ∷ b ∷ c ∷ d ∷ [])) k [])
  triangle_of zero lt = record { a = a; b = c; c = b; is = refl; ab = ac; ac = ab; bc = λ e. bc (sym e) }
  triangle_of (suc zero) lt = record { a = a; b = b; c = d; is = refl; ab = ab; ac = ad; bc = bd }
  triangle_of (suc (suc zero)) lt = record { a = a; b = d; c = c; is = refl; ab = ad; ac = ac; bc = λ e. cd (sym e) }
  triangle_of (suc (suc (suc zero))) lt = record { a = b; b = c; c = d; is = refl; ab = bc; ac = bd; bc = cd }
  triangle_of (suc (suc (suc (suc k)))) lt = absurd (omega arith)

  lacks_three : (x y z n : ℕ) → x ≢ n → y ≢ n → z ≢ n → is_in (x ∷ y ∷ z ∷ []) n ≡ false
  lacks_three x y z n f g h = or_from (eqb x n) _ (ne_eqb x n f) (or_from (eqb y n) _ (ne_eqb y n g) (or_from (eqb z n) false (ne_eqb z n h) refl))

  -- the node that triangle k lacks
  abbrev left_out : ℕ → ℕ
  left_out k = get_or (d ∷ c ∷ b ∷ a ∷ []) k 0

  lacks : (k : ℕ) → k < 4 → is_in (get_or (triangles_of (a ∷ b ∷ c ∷ d ∷ [])) k []) (left_out k) ≡ false
  lacks zero lt = lacks_three a c b d ad cd bd
  lacks (suc zero) lt = lacks_three a b d c ac bc (λ e. cd (sym e))
  lacks (suc (suc zero)) lt = lacks_three a d c b ab (λ e. bd (sym e)) (λ e. bc (sym e))
  lacks (suc (suc (suc zero))) lt = lacks_three b c d a (λ e. ab (sym e)) (λ e. ac (sym e)) (λ e. ad (sym e))
  lacks (suc (suc (suc (suc k)))) lt = absurd (omega arith)

  first_in : (x y z : ℕ) → is_in (x ∷ y ∷ z ∷ []) x ≡ true
  first_in x y z = or_left (eqb x x) _ (eq-eqb x x refl)

  second_in : (x y z : ℕ) → is_in (x ∷ y ∷ z ∷ []) y ≡ true
  second_in x y z = or_right (eqb x y) _ (or_left (eqb y y) _ (eq-eqb y y refl))

  third_in : (x y z : ℕ) → is_in (x ∷ y ∷ z ∷ []) z ≡ true
  third_in x y z = or_right (eqb x z) _ (or_right (eqb y z) _ (or_left (eqb z z) _ (eq-eqb z z refl)))

  -- any other triangle has it
  others_have : (k j : ℕ) → k < 4 → j < 4 → k ≢ j → is_in (get_or (triangles_of (a ∷ b ∷ c ∷ d ∷ [])) j []) (left_out k) ≡ true
  others_have zero zero lk lj ne = absurd (ne refl)
  others_have zero (suc zero) lk lj ne = third_in a b d
  others_have zero (suc (suc zero)) lk lj ne = second_in a d c
  others_have zero (suc (suc (suc zero))) lk lj ne = third_in b c d
  others_have (suc zero) zero lk lj ne = second_in a c b
  others_have (suc zero) (suc zero) lk lj ne = absurd (ne refl)
  others_have (suc zero) (suc (suc zero)) lk lj ne = third_in a d c
  others_have (suc zero) (suc (suc (suc zero))) lk lj ne = second_in b c d
  others_have (suc (suc zero)) zero lk lj ne = third_in a c b
  others_have (suc (suc zero)) (suc zero) lk lj ne = second_in a b d
  others_have (suc (suc zero)) (suc (suc zero)) lk lj ne = absurd (ne refl)
  others_have (suc (suc zero)) (suc (suc (suc zero))) lk lj ne = first_in b c d
  others_have (suc (suc (suc zero))) zero lk lj ne = first_in a c b
  others_have (suc (suc (suc zero))) (suc zero) lk lj ne = first_in a b d
  others_have (suc (suc (suc zero))) (suc (suc zero)) lk lj ne = first_in a d c
  others_have (suc (suc (suc zero))) (suc (suc (suc zero))) lk lj ne = absurd (ne refl)
  others_have (suc (suc (suc (suc k)))) j lk lj ne = absurd (omega arith)
  others_have k (suc (suc (suc (suc j)))) lk lj ne = absurd (omega arith)

-- what the calls know of their tetrahedra
pub record IsFit (tets : List (List ℕ)) : Type 0 where
  pub four : All (λ tet. length tet ≡ 4) tets
  pub differ : NodesDiffer tets
  pub by_two : ShareByTwo tets

pub fit_of : (tets : List (List ℕ)) → ((i : ℕ) → i < length tets → length (get_or tets i []) ≡ 4) → NodesDiffer tets → ShareByTwo tets → IsFit tets
fit_of tets four differ by_two = record { four = All-from_get_or (λ (t : List ℕ). length t ≡ 4) tets [] four; differ = differ; by_two = by_two }

module _ (tets : List (List ℕ)) (fit : IsFit tets) where
  tet_at : (t : ℕ) → t < length tets → IsTetrahedron (get_or tets t [])
  tet_at t lt = tetrahedron_of (get_or tets t []) (fit.four t [] lt) (fit.differ t [] lt)

  -- the triangle at a place
  abbrev pub triangle_at : ℕ → List ℕ
  triangle_at p = get_or (all_triangles tets) p []

  pub length_all : length (all_triangles tets) ≡ 4 * length tets
  length_all = length-all_triangles tets fit.four

  pub triangle_of_tet : (t k : ℕ) → t < length tets → k < 4 → triangle_at (4 * t + k) ≡ get_or (triangles_of (get_or tets t [])) k []
  triangle_of_tet t k lt lk =
      let l : length (all_triangles (take t tets)) ≡ 4 * t = length-all_triangles (take t tets) (All-take (λ (x : List ℕ). length x ≡ 4) t tets fit.four) ∙ ap (λ n. 4 * n) (length-take-le t tets (omega arith)) in
      let m : length (triangles_of (get_or tets t [])) ≡ 4 = length-triangles_of (get_or tets t []) (fit.four t [] lt) in
      ap (λ n. triangle_at (n + k)) (sym l) ∙ get_or-flat_map triangles_of tets t k [] [] lt (omega arith)

  pub triangle_at_place : (p : ℕ) → p < 4 * length tets → triangle_at p ≡ get_or (triangles_of (get_or tets (p / 4) [])) (p % 4) []
  triangle_at_place p lt = let e : p ≡ 4 * (p / 4) + p % 4 = omega arith in ap triangle_at e ∙ triangle_of_tet (p / 4) (p % 4) (omega arith) (omega arith)

  pub triangle : (p : ℕ) → p < 4 * length tets → IsTriangle (triangle_at p)
  triangle p lt =
      let t = tet_at (p / 4) (omega arith) in
      let e : triangle_at p ≡ get_or (triangles_of (t.a ∷ t.b ∷ t.c ∷ t.d ∷ [])) (p % 4) [] = triangle_at_place p lt ∙ ap (λ x. get_or (triangles_of x) (p % 4) []) t.is in
      subst IsTriangle (sym e) (triangle_of t.a t.b t.c t.d t.differ (p % 4) (omega arith))

  -- the side at a place, and its nodes
  abbrev pub side : ℕ → Side
  side p = side_of p (triangle_at p)

  abbrev pub key : ℕ → List ℕ
  key p = nodes_of (side p)

  pub length_sides : length (sides tets) ≡ 4 * length tets
  unfolding sides
  length_sides = length-map (enumerate_from 0 (all_triangles tets)) (λ (e : ℕ × List ℕ). side_of e.0 e.1) ∙ (length-enumerate_from 0 (all_triangles tets) ∙ length_all)

  pub side_is : (p : ℕ) (d : Side) → p < 4 * length tets → get_or (sides tets) p d ≡ side p
  unfolding sides
  side_is p d lt =
      let l = length_all in
      let m = length-enumerate_from 0 (all_triangles tets) in
      let e : get_or (enumerate_from 0 (all_triangles tets)) p (0, []) ≡ (0 + p, triangle_at p) = get_or-enumerate_from 0 (all_triangles tets) p (0, []) (omega arith) in
      let z : 0 + p ≡ p = omega arith in
      get_or-map (λ (e : ℕ × List ℕ). side_of e.0 e.1) (enumerate_from 0 (all_triangles tets)) p (0, []) d (omega arith)
      ∙ (ap (λ (e : ℕ × List ℕ). side_of e.0 e.1) e ∙ ap (λ n. side_of n (triangle_at p)) z)

  members : (p n : ℕ) → p < 4 * length tets → is_in (nodes_of (side p)) n ≡ is_in (triangle_at p) n
  members p n lt =
      let t = triangle p lt in
      subst (λ x. is_in (nodes_of (side_of p x)) n ≡ is_in x n) (sym t.is) (in_side p t.a t.b t.c n)

  ascends : (p : ℕ) → p < 4 * length tets → Ascends (side p)
  ascends p lt = let t = triangle p lt in subst (λ x. Ascends (side_of p x)) (sym t.is) (side_ascends p t.a t.b t.c t.ab t.ac t.bc)

  -- triangles have the same nodes exactly where their sides have
  pub key_from_same : (p q : ℕ) → p < 4 * length tets → q < 4 * length tets → same_nodes (triangle_at p) (triangle_at q) ≡ true → key p ≡ key q
  key_from_same p q lp lq h =
      same_sides (side p) (side q) (ascends p lp) (ascends q lq) (λ n. members p n lp ∙ (members_from_same (triangle_at p) (triangle_at q) h n ∙ sym (members q n lq)))

  pub same_from_key : (p q : ℕ) → p < 4 * length tets → q < 4 * length tets → key p ≡ key q → same_nodes (triangle_at p) (triangle_at q) ≡ true
  same_from_key p q lp lq e =
      same_from_members (triangle_at p) (triangle_at q)
      (λ n. sym (members p n lp) ∙ (ap (λ x. is_in x n) e ∙ members q n lq))

  -- no three triangles have the same nodes
  pub no_three : (p q r : ℕ) → p < 4 * length tets → q < 4 * length tets → r < 4 * length tets → p ≢ q → p ≢ r → q ≢ r → key p ≡ key q → key p ≡ key r → ⊥
  no_three p q r lp lq lr pq pr qr e f =
      let l = length_all in
      let three = counts_any_three (same_nodes (triangle_at p)) (all_triangles tets) p q r [] pq pr qr (omega arith) (omega arith) (omega arith) (same_from_key p p lp lp refl) (same_from_key p q lp lq e) (same_from_key p r lp lr f) in
      let two : count_by (same_nodes (triangle_at p)) (all_triangles tets) ≤ 2 = fit.by_two p [] (omega arith) in
      absurd (omega arith)

  -- two triangles with the same nodes are of two tetrahedra
  pub tets_differ : (p q : ℕ) → p < 4 * length tets → q < 4 * length tets → p ≢ q → key p ≡ key q → p / 4 ≢ q / 4
  tets_differ p q lp lq ne e same =
      let t = tet_at (p / 4) (omega arith) in
      let ep : triangle_at p ≡ get_or (triangles_of (t.a ∷ t.b ∷ t.c ∷ t.d ∷ [])) (p % 4) [] = triangle_at_place p lp ∙ ap (λ x. get_or (triangles_of x) (p % 4) []) t.is in
      let eq : triangle_at q ≡ get_or (triangles_of (t.a ∷ t.b ∷ t.c ∷ t.d ∷ [])) (q % 4) [] =
      triangle_at_place q lq ∙ (ap (λ n. get_or (triangles_of (get_or tets n [])) (q % 4) []) (sym same) ∙ ap (λ x. get_or (triangles_of x) (q % 4) []) t.is) in
      let n = left_out t.a t.b t.c t.d t.differ (p % 4) in
      let other : p % 4 ≢ q % 4 = (λ z. ne (omega arith)) in
      let here : is_in (triangle_at p) n ≡ false = ap (λ x. is_in x n) ep ∙ lacks t.a t.b t.c t.d t.differ (p % 4) (omega arith) in
      let there : is_in (triangle_at q) n ≡ true = ap (λ x. is_in x n) eq ∙ others_have t.a t.b t.c t.d t.differ (p % 4) (q % 4) (omega arith) (omega arith) other in
      false≢true (sym here ∙ (members_from_same (triangle_at p) (triangle_at q) (same_from_key p q lp lq e) n ∙ there))
