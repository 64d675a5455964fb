-- Lists of tetrahedra with one more, and the numbers of their nodes.
use Rattle.std.proofs.Common.{◌≡◌, ℕ, ◌+◌, ◌-◌, ◌<◌, ◌≤◌, inl, inr, arith, refl, sym, ◌∙◌, ap, subst, List, [], ◌∷◌, ◌++◌, All, map, length, get_or}
use Rattle.std.specs.Prelude.{flat_map}
use Rattle.std.specs.List.{AllByRecursion, range_with_len}
use Rattle.std.proofs.lemmas.List.{append-nil, get_or-map, length-map, map-append}
use Rattle.std.proofs.lemmas.List.Concat.{flat_map-append}
use Rattle.std.proofs.lemmas.List.Elements.{All-map}
use Rattle.list_words.proofs.Ranges.{range_add}
use Rattle.definitions.specs.declared.Dims.{Dims}
use Rattle.definitions.specs.declared.State.{State}
use Rattle.definitions.specs.declared.Vertex.{Vertex}
use Rattle.definitions.specs.Lattice.{InDomain}
use Rattle.definitions.specs.Mesh.{node_keys, number_of, tet_pieces}
use Rattle.definitions.specs.Tetrahedra.{tets_from}
use Rattle.lattice_laws.specs.Ascending.{Has}
use Rattle.lattice_laws.proofs.Sublists.{all_by_place, all_from_place}
use Rattle.mesh_lists.specs.Layers.{HoldLayers}
use Rattle.mesh_lists.specs.Parts.{numbered, numbered_from}
use Rattle.mesh_lists.proofs.LowestNodes.{few_from}
use Rattle.slab_texts.specs.declared.lines.TetLines.{TetLines}
use Rattle.slab_texts.specs.declared.nodes.Nodes.{Nodes}
use Rattle.slab_texts.specs.Nodes.{HasNodes}
use Rattle.slab_texts.specs.Texts.{Adds, AreAmong, IsAmong}
use Rattle.slab_texts.proofs.Adding.{adds_more, adds_none}
use Rattle.slab_texts.proofs.Numbers.{piece_numbered}

pub none : (n : Nodes) (a : TetLines) → Adds n a [] a
none n a = λ all r. adds_none all a

-- what was added, and more
pub more : (n : Nodes) (a b c : TetLines) (xs ys zs : List (List ℕ)) → xs ++ ys ≡ zs → Adds n a xs b → Adds n b ys c → Adds n a zs c
more n a b c xs ys zs e h k = subst (λ l. Adds n a l c) e (λ all row. adds_more all a b c xs ys (h all row) (k all row))

-- one more id
pub ids_more : (d : Dims) (ss : List State) (f : ℕ → List (List ℕ)) (a n : ℕ) → a ≤ n → numbered d ss (flat_map f (range_with_len a (n - a))) ++ numbered d ss (f n) ≡ numbered d ss (flat_map f (range_with_len a (n + 1 - a)))
ids_more d ss f a n le =
    let g = map (number_of (node_keys d ss)) in
    sym (map-append g (flat_map f (range_with_len a (n - a))) (f n))
    ∙ ap (map g)
    (ap (λ l. flat_map f (range_with_len a (n - a)) ++ l) (sym (append-nil (f n)) ∙ ap (λ m. flat_map f (range_with_len m 1)) (let e : n ≡ a + (n - a) = omega arith in e))
    ∙ sym (flat_map-append f (range_with_len a (n - a)) (range_with_len (a + (n - a)) 1))
    ∙ ap (flat_map f) (sym (range_add a (n - a) 1))
    ∙ ap (λ m. flat_map f (range_with_len a m)) (let e : (n - a) + 1 ≡ n + 1 - a = omega arith in e))

pub no_ids : (d : Dims) (ss : List State) (f : ℕ → List (List ℕ)) (a : ℕ) → [] ≡ numbered d ss (flat_map f (range_with_len a (a - a)))
no_ids d ss f a = ap (λ m. numbered d ss (flat_map f (range_with_len a m))) (let e : 0 ≡ a - a = omega arith in e)

-- the numbers of a piece are among those of the nodes
module _ (d : Dims) (ss : List State) (n : Nodes) (h : HasNodes d ss n) (v : Vertex) (inside : InDomain d v) (hold : HoldLayers d v.h n.start n.end) where
  piece_among : (tet : List Vertex) → Has tet (tets_from d v) → (i : ℕ) → i < length (tet_pieces d ss tet) → AreAmong n (map (number_of (node_keys d ss)) (get_or (tet_pieces d ss tet) i []))
  piece_among tet m i lt =
      let all = piece_numbered d ss h.padded n.start n.end v inside tet m hold i lt in
      All-map (IsAmong n) (number_of (node_keys d ss)) (get_or (tet_pieces d ss tet) i [])
      (λ k z kt.
      (let w = all k z kt in
      let r = among (number_of (node_keys d ss) (get_or (get_or (tet_pieces d ss tet) i []) k z)) _ _ _ _ h.first h.count w.low w.high in
      let few = h.few in
      record { low = r.0; high = r.1; small = (let q = r.1 in omega arith) }))
    where
      among : (x f g p q : ℕ) → f ≡ g → p ≡ q → g ≤ x → x < g + q → (f ≤ x) × (x < f + p)
      among x f g p q e u lo hi = (omega arith, omega arith)

  tet_among : (tet : List Vertex) → Has tet (tets_from d v) → AllByRecursion (AreAmong n) (numbered d ss (tet_pieces d ss tet))
  tet_among tet m =
      all_from_place (AreAmong n) (numbered d ss (tet_pieces d ss tet))
      (λ i z lt.
      (let count : length (numbered d ss (tet_pieces d ss tet)) ≡ length (tet_pieces d ss tet) = length-map (tet_pieces d ss tet) (map (number_of (node_keys d ss))) in
      let short : i < length (tet_pieces d ss tet) = omega arith in
      subst (λ (ns : List ℕ). AreAmong n ns) (sym (get_or-map (map (number_of (node_keys d ss))) (tet_pieces d ss tet) i [] z short)) (piece_among tet m i short)))

  joined : (xs ys : List (List ℕ)) → AllByRecursion (AreAmong n) xs → AllByRecursion (AreAmong n) ys → AllByRecursion (AreAmong n) (xs ++ ys)
  joined [] ys p q = q
  joined (x ∷ xs) ys p q = (p.0, joined xs ys p.1 q)

  tets_among : (ts : List (List Vertex)) → ((t : List Vertex) → Has t ts → Has t (tets_from d v)) → AllByRecursion (AreAmong n) (numbered d ss (flat_map (tet_pieces d ss) ts))
  tets_among [] h = tt
  tets_among (t ∷ ts) h =
      subst (λ (xs : List (List ℕ)). AllByRecursion (AreAmong n) xs) (sym (map-append (map (number_of (node_keys d ss))) (tet_pieces d ss t) (flat_map (tet_pieces d ss) ts)))
      (joined (numbered d ss (tet_pieces d ss t)) (numbered d ss (flat_map (tet_pieces d ss) ts)) (tet_among t (h t (inl refl))) (tets_among ts (λ u m. h u (inr m))))

  pub all_among : All (AreAmong n) (numbered_from d ss v)
  all_among = all_by_place (AreAmong n) (numbered_from d ss v) (tets_among (tets_from d v) (λ t m. m))

-- how many there are
pub few_numbered : (d : Dims) (ss : List State) (v : Vertex) → InDomain d v → length (numbered_from d ss v) ≤ 18
few_numbered d ss v inside = subst (λ (n : ℕ). n ≤ 18) (sym (length-map (flat_map (tet_pieces d ss) (tets_from d v)) (map (number_of (node_keys d ss))))) (few_from d ss v inside)
