-- Lines and angles of layers join, and those of all layers are those of the mesh.
use Rattle.std.proofs.Common.{All, subst, ◌≡◌, ℕ, zero, suc, ◌+◌, ◌-◌, ◌*◌, ◌/◌, ◌%◌, ◌<◌, ◌≤◌, arith, refl, sym, ◌∙◌, ap, List, [], ◌∷◌, ◌++◌, map, length, length-append, min}
use Rattle.std.specs.Prelude.{flat_map}
use Rattle.std.specs.Int.{div_ceil}
use Rattle.std.specs.List.{enumerate_from, range_with_len}
use Rattle.std.proofs.Math.Nat.{mul-le-mul_left}
use Rattle.std.proofs.lemmas.Grind.{div_ceil_times}
use Rattle.std.proofs.lemmas.List.{length-map, map-append}
use Rattle.definitions.specs.declared.Dims.{Dims}
use Rattle.definitions.specs.declared.State.{State}
use Rattle.definitions.specs.Angles.{angles, angles_of}
use Rattle.definitions.specs.Lattice.{layers}
use Rattle.definitions.specs.Layout.{slab_from, slab_to, slabs}
use Rattle.definitions.specs.Mesh.{layer_node_keys, layer_pieces, node_keys, number_of}
use Rattle.definitions.specs.Soundness.{corner_places}
use Rattle.definitions.specs.Values.{Field}
use Rattle.dihedral.specs.Fractions.{IsAngle}
use Rattle.dihedral.proofs.AnglesAreFractions.{six_are_angles}
use Rattle.lattice_laws.proofs.Sublists.{all_by_place, all_from_place}
use Rattle.lattice_laws.proofs.AscendingLists.{all_append}
use Rattle.std.specs.List.{AllByRecursion}
use Rattle.list_words.proofs.Lists.{all_left, all_right}
use Rattle.formats.specs.declared.Frame.{Frame}
use Rattle.mesh_texts.specs.Nodes.{node_of_key, nodes_of}
use Rattle.mesh_texts.specs.Lines.{ele_line, ele_lines, node_line, node_lines, renumbered}
use Rattle.mesh_lists.proofs.NumberedLists.{numbered_append}
use Rattle.mesh_lists.specs.Parts.{mesh_of, numbered}
use Rattle.slab_texts.specs.Laws.{AllSlabsJoin, AllSpansAreAll, AllSpansJoin, AnglesAreFractions}
use Rattle.slab_texts.specs.Spans.{nodes_below, span_angles, span_keys, span_node_lines, span_nodes, span_pieces, span_tet_lines, span_tets, tets_below}
use Rattle.slab_texts.specs.Texts.{IsMeasured}
use Rattle.slab_texts.proofs.Spans.{all_keys, all_of_pieces, keys_then, pieces_then}

-- numbered lists, the second numbered from where the first ends
numbered_then : {X Y : Type 0} (f : ℕ × X → List Y) (a b : ℕ) (xs ys zs : List X) → b ≡ a + length xs → zs ≡ xs ++ ys → flat_map f (enumerate_from a xs) ++ flat_map f (enumerate_from b ys) ≡ flat_map f (enumerate_from a zs)
numbered_then f a b xs ys zs e h =
    ap (λ n. flat_map f (enumerate_from a xs) ++ flat_map f (enumerate_from n ys)) e ∙ sym (numbered_append f a xs ys) ∙ ap (λ l. flat_map f (enumerate_from a l)) (sym h)

behind : (first a b n : ℕ) → b ≡ a + n → first + b ≡ first + a + n
behind first a b n e = omega arith

none_behind : (first n : ℕ) → n ≡ 0 → first + n ≡ first
none_behind first n e = omega arith

module _ (f : Field) (ss : List State) where
  nodes_join : (from mid to : ℕ) → from ≤ mid → mid ≤ to → span_nodes f ss from to ≡ span_nodes f ss from mid ++ span_nodes f ss mid to
  nodes_join from mid to h k = ap (map (node_of_key f ss)) (keys_then f.dims ss from mid to h k) ∙ map-append (node_of_key f ss) (span_keys f.dims ss from mid) (span_keys f.dims ss mid to)

  nodes_then : (from mid : ℕ) → from ≤ mid → nodes_below f.dims ss mid ≡ nodes_below f.dims ss from + length (span_nodes f ss from mid)
  nodes_then from mid h =
      ap length (keys_then f.dims ss 0 from mid (omega arith) h) ∙ length-append (span_keys f.dims ss 0 from) (span_keys f.dims ss from mid)
      ∙ ap (λ n. nodes_below f.dims ss from + n) (sym (length-map (span_keys f.dims ss from mid) (node_of_key f ss)))

  tets_then : (from mid to : ℕ) → from ≤ mid → mid ≤ to → span_tets f.dims ss from to ≡ span_tets f.dims ss from mid ++ span_tets f.dims ss mid to
  tets_then from mid to h k =
      ap (numbered f.dims ss) (pieces_then f.dims ss from mid to h k) ∙ map-append (map (number_of (node_keys f.dims ss))) (span_pieces f.dims ss from mid) (span_pieces f.dims ss mid to)

  counts_then : (from mid : ℕ) → from ≤ mid → tets_below f.dims ss mid ≡ tets_below f.dims ss from + length (span_tets f.dims ss from mid)
  counts_then from mid h =
      ap length (pieces_then f.dims ss 0 from mid (omega arith) h) ∙ length-append (span_pieces f.dims ss 0 from) (span_pieces f.dims ss from mid)
      ∙ ap (λ n. tets_below f.dims ss from + n) (sym (length-map (span_pieces f.dims ss from mid) (map (number_of (node_keys f.dims ss)))))

  node_lines_then : (frame : Frame) (first from mid to : ℕ) → from ≤ mid → mid ≤ to → span_node_lines frame first f ss from mid ++ span_node_lines frame first f ss mid to ≡ span_node_lines frame first f ss from to
  unfolding span_node_lines
  node_lines_then frame first from mid to h k =
      numbered_then (node_line frame) (first + nodes_below f.dims ss from) (first + nodes_below f.dims ss mid) (span_nodes f ss from mid) (span_nodes f ss mid to) (span_nodes f ss from to) (behind first _ _ _ (nodes_then from mid h)) (nodes_join from mid to h k)

  tet_lines_then : (first from mid to : ℕ) → from ≤ mid → mid ≤ to → span_tet_lines first f.dims ss from mid ++ span_tet_lines first f.dims ss mid to ≡ span_tet_lines first f.dims ss from to
  unfolding span_tet_lines
  tet_lines_then first from mid to h k =
      let again = map (renumbered first) in
      let x = span_tets f.dims ss from mid in
      numbered_then ele_line (first + tets_below f.dims ss from) (first + tets_below f.dims ss mid) (again x) (again (span_tets f.dims ss mid to)) (again (span_tets f.dims ss from to))
      (behind first _ _ _ (counts_then from mid h ∙ ap (λ n. tets_below f.dims ss from + n) (sym (length-map x (renumbered first)))))
      (ap again (tets_then from mid to h k) ∙ map-append (renumbered first) x (span_tets f.dims ss mid to))

  angles_then : (from mid to : ℕ) → from ≤ mid → mid ≤ to → span_angles f ss from mid ++ span_angles f ss mid to ≡ span_angles f ss from to
  unfolding span_angles
  angles_then from mid to h k =
      numbered_then (angles_of (mesh_of f ss).places) (tets_below f.dims ss from) (tets_below f.dims ss mid) (span_tets f.dims ss from mid) (span_tets f.dims ss mid to) (span_tets f.dims ss from to) (counts_then from mid h) (tets_then from mid to h k)

  -- ---- of all layers

  no_nodes : nodes_below f.dims ss 0 ≡ 0
  unfolding span_keys
  no_nodes = refl

  no_tets : tets_below f.dims ss 0 ≡ 0
  unfolding span_pieces
  no_tets = refl

  all_nodes : (frame : Frame) (first : ℕ) → span_node_lines frame first f ss 0 (layers f.dims) ≡ node_lines frame first (nodes_of f ss)
  unfolding span_node_lines nodes_of
  all_nodes frame first = λ i. node_lines frame (none_behind first _ no_nodes i) (map (node_of_key f ss) (all_keys f.dims ss i))

  all_tets : (first : ℕ) → span_tet_lines first f.dims ss 0 (layers f.dims) ≡ ele_lines first (map (renumbered first) (mesh_of f ss).tets)
  unfolding span_tet_lines mesh_of
  all_tets first = λ i. ele_lines (none_behind first _ no_tets i) (map (renumbered first) (numbered f.dims ss (all_of_pieces f.dims ss i)))

  all_angles : span_angles f ss 0 (layers f.dims) ≡ angles (mesh_of f ss)
  unfolding span_angles angles mesh_of
  all_angles = λ i. flat_map (angles_of (mesh_of f ss).places) (enumerate_from (no_tets i) (numbered f.dims ss (all_of_pieces f.dims ss i)))

  -- ---- none

  no_keys : (a : ℕ) → span_keys f.dims ss a a ≡ []
  unfolding span_keys
  no_keys a = ap (λ n. flat_map (layer_node_keys f.dims ss) (range_with_len a n)) (let e : a - a ≡ 0 = omega arith in e)

  no_pieces : (a : ℕ) → span_pieces f.dims ss a a ≡ []
  unfolding span_pieces
  no_pieces a = ap (λ n. flat_map (layer_pieces f.dims ss) (range_with_len a n)) (let e : a - a ≡ 0 = omega arith in e)

  no_node_lines : (frame : Frame) (first a : ℕ) → span_node_lines frame first f ss a a ≡ []
  unfolding span_node_lines
  no_node_lines frame first a = ap (λ ks. node_lines frame (first + nodes_below f.dims ss a) (map (node_of_key f ss) ks)) (no_keys a)

  no_tet_lines : (first a : ℕ) → span_tet_lines first f.dims ss a a ≡ []
  unfolding span_tet_lines
  no_tet_lines first a = ap (λ ps. ele_lines (first + tets_below f.dims ss a) (map (renumbered first) (numbered f.dims ss ps))) (no_pieces a)

  no_angles : (a : ℕ) → span_angles f ss a a ≡ []
  unfolding span_angles
  no_angles a = ap (λ ps. flat_map (angles_of (mesh_of f ss).places) (enumerate_from (tets_below f.dims ss a) (numbered f.dims ss ps))) (no_pieces a)

-- ---- slabs

pub begins : (l m j : ℕ) → 0 < m → j < div_ceil l m → m * j < l
begins l m j some lt = by_rest (l % m) refl
  where
    by_rest : (r : ℕ) → l % m ≡ r → m * j < l
    by_rest zero e = let p = mul-le-mul_left m (let q : j + 1 ≤ l / m = omega arith in q) in omega arith
    by_rest (suc r) e = let p = mul-le-mul_left m (let q : j ≤ l / m = omega arith in q) in omega arith

ends : (l m : ℕ) → 0 < m → l ≤ m * div_ceil l m
ends l m some = let e = (div_ceil_times l m some).0 in turn l m (div_ceil l m) e
  where
    turn : (l m k : ℕ) → l ≤ k * m → l ≤ m * k
    turn l m k h = omega arith

-- the first layer of slab j, which may be past the last slab
abbrev pub bound : Dims → ℕ → ℕ → ℕ
bound d t j = min (2 * t * j) (layers d)

-- what joins over layers joins over slabs
module _ {X : Type 0} (d : Dims) (t : ℕ) (some : 0 < t) (F : ℕ → ℕ → List X) (join : (from mid to : ℕ) → from ≤ mid → mid ≤ to → F from mid ++ F mid to ≡ F from to) (none : (a : ℕ) → F a a ≡ []) where
  pub slabs_then : (j n : ℕ) → j + n ≤ slabs d t → flat_map (λ k. F (slab_from t k) (slab_to d t k)) (range_with_len j n) ≡ F (bound d t j) (bound d t (j + n))
  slabs_then j zero le = sym (ap (λ m. F (bound d t j) (bound d t m)) (let e : j + 0 ≡ j = omega arith in e) ∙ none (bound d t j))
  slabs_then j (suc n) le =
      let lt : j < div_ceil (layers d) (2 * t) = omega arith in
      let at : slab_from t j ≡ bound d t j = first (2 * t * j) (layers d) (begins (layers d) (2 * t) j (omega arith) lt) in
      let next : j + 1 + n ≡ j + suc n = omega arith in
      (λ i. F (at i) (slab_to d t j) ++ slabs_then (j + 1) n (omega arith) i)
      ∙ join (bound d t j) (bound d t (j + 1)) (bound d t (j + 1 + n)) (rises (2 * t) j 1 (layers d)) (rises (2 * t) (j + 1) n (layers d))
      ∙ ap (λ m. F (bound d t j) (bound d t m)) next
    where
      first : (a l : ℕ) → a < l → a ≡ min a l
      first a l h = omega arith

      rises : (m a n l : ℕ) → min (m * a) l ≤ min (m * (a + n)) l
      rises m a n l = let p = mul-le-mul_left m (let q : a ≤ a + n = omega arith in q) in omega arith

  pub slabs_all : flat_map (λ k. F (slab_from t k) (slab_to d t k)) (range_with_len 0 (slabs d t)) ≡ F 0 (layers d)
  slabs_all =
      slabs_then 0 (slabs d t) (omega arith)
      ∙ (λ i. F (zeros t (layers d) i) (last (2 * t * (0 + slabs d t)) (layers d) (whole (2 * t) (slabs d t) (layers d) (ends (layers d) (2 * t) (omega arith))) i))
    where
      zeros : (t l : ℕ) → min (2 * t * 0) l ≡ 0
      zeros t l = omega arith

      last : (a l : ℕ) → l ≤ a → min a l ≡ l
      last a l h = omega arith

      whole : (m s l : ℕ) → l ≤ m * s → l ≤ m * (0 + s)
      whole m s l h = omega arith

-- ---- angles

all_numbered : {X Y : Type 0} (P : Y → Type 0) (Q : X → Type 0) (g : ℕ × X → List Y) → ((n : ℕ) (x : X) → Q x → AllByRecursion P (g (n, x))) → (n : ℕ) (xs : List X) → AllByRecursion Q xs → AllByRecursion P (flat_map g (enumerate_from n xs))
all_numbered P Q g h n [] k = tt
all_numbered P Q g h n (x ∷ xs) k = all_append P (g (n, x)) (flat_map g (enumerate_from (n + 1) xs)) (h n x k.0) (all_numbered P Q g h (n + 1) xs k.1)

pub angles_are_fractions : AnglesAreFractions
unfolding span_angles
angles_are_fractions f ss from to h =
    all_by_place IsAngle (flat_map (angles_of (mesh_of f ss).places) (enumerate_from (tets_below f.dims ss from) (span_tets f.dims ss from to)))
    (all_numbered IsAngle (IsMeasured (mesh_of f ss).places) (angles_of (mesh_of f ss).places)
    (λ n tet m. all_from_place IsAngle (angles_of (mesh_of f ss).places (n, tet)) (six_are_angles (corner_places (mesh_of f ss).places tet) m.positive n tet))
    (tets_below f.dims ss from) (span_tets f.dims ss from to) (all_from_place (IsMeasured (mesh_of f ss).places) (span_tets f.dims ss from to) h))

-- what holds of all tetrahedra holds of those of some layers
pub tets_hold : (P : List ℕ → Type 0) (f : Field) (ss : List State) (from to : ℕ) → from ≤ to → to ≤ layers f.dims → All P (mesh_of f ss).tets → All P (span_tets f.dims ss from to)
unfolding mesh_of
tets_hold P f ss from to h le all =
    let whole : All P (span_tets f.dims ss 0 (layers f.dims)) = subst (λ (ps : List (List ℕ)). All P (numbered f.dims ss ps)) (sym (all_of_pieces f.dims ss)) all in
    let high : All P (span_tets f.dims ss from (layers f.dims)) = all_right P (span_tets f.dims ss 0 from) (span_tets f.dims ss from (layers f.dims)) (subst (All P) (tets_then f ss 0 from (layers f.dims) (omega arith) (omega arith)) whole) in
    all_left P (span_tets f.dims ss from to) (span_tets f.dims ss to (layers f.dims)) (subst (All P) (tets_then f ss from to (layers f.dims) h le) high)

pub spans_join : AllSpansJoin
spans_join f ss = record { nodes = node_lines_then f ss; tets = tet_lines_then f ss; angles = angles_then f ss }

pub spans_are_all : AllSpansAreAll
spans_are_all f ss = record { nodes = all_nodes f ss; tets = all_tets f ss; angles = all_angles f ss }

pub slabs_join : AllSlabsJoin
slabs_join f ss t some = record {
  nodes = λ frame first. slabs_all f.dims t some (span_node_lines frame first f ss) (node_lines_then f ss frame first) (no_node_lines f ss frame first) ∙ all_nodes f ss frame first;
  tets = λ first. slabs_all f.dims t some (span_tet_lines first f.dims ss) (tet_lines_then f ss first) (no_tet_lines f ss first) ∙ all_tets f ss first;
  angles = slabs_all f.dims t some (span_angles f ss) (angles_then f ss) (no_angles f ss) ∙ all_angles f ss;
}
