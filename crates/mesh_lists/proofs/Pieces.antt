-- The pieces of a lattice tetrahedron and of a vertex by the numbers of their nodes, and lists of them with one more.
use Rattle.std.proofs.Common.{◌≡◌, ℕ, ◌+◌, ◌*◌, ◌<◌, ◌≤◌, ◌==◌, ◌^◌, arith, refl, sym, ◌∙◌, ap, subst, true, List, [], ◌∷◌, ◌++◌, map, length, get_or, take, append_assoc, eq-eqb}
use Rattle.std.specs.Prelude.{All, flat_map}
use Rattle.std.specs.List.{AllByRecursion, list_any}
use Rattle.std.proofs.lemmas.List.{append-nil, get_or-map, get_or-take, length-map, length-take-le, map-append, take_all, take_more}
use Rattle.std.proofs.lemmas.List.Concat.{flat_map-append}
use Rattle.std.proofs.lemmas.List.Folds.{list_any_at}
use Rattle.std.proofs.lemmas.List.Elements.{All-map}
use Rattle.bcc_lattice.specs.declared.Tet.{Tet}
use Rattle.lattice_counts.proofs.Ranks.{id_small}
use Rattle.definitions.specs.declared.Dims.{Dims}
use Rattle.definitions.specs.declared.Vertex.{Vertex}
use Rattle.definitions.specs.declared.State.{State}
use Rattle.definitions.specs.Lattice.{InDomain, IsDims, id, vertices}
use Rattle.definitions.specs.declared.Sign.{Sign}
use Rattle.definitions.specs.States.{sign_of_state}
use Rattle.definitions.specs.Pieces.{pieces}
use Rattle.definitions.specs.Tetrahedra.{IsLatticeTet, lattice_tets, tets_from}
use Rattle.definitions.specs.Mesh.{ArePadded, all_pieces, node_keys, number_of, occurs, state_at, tet_pieces}
use Rattle.lattice_laws.specs.Ascending.{Has}
use Rattle.lattice_laws.proofs.Sublists.{all_from_place}
use Rattle.lattice_laws.proofs.Vertices.{vertex_at-id}
use Rattle.vertex_numbers.specs.Numbering.{HoldsKey, Numbering, number_in}
use Rattle.mesh_lists.specs.Layers.{NumbersLayers}
use Rattle.mesh_lists.proofs.Layers.{held}

-- a list of four
pub four_mapped : {X : Type 0} (f : ℕ → X) (xs : List ℕ) (a b c d : X) → length xs ≡ 4 → a ≡ f (get_or xs 0 0) → b ≡ f (get_or xs 1 0) → c ≡ f (get_or xs 2 0) → d ≡ f (get_or xs 3 0) → a ∷ b ∷ c ∷ d ∷ [] ≡ map f xs
four_mapped f [] a b c d len p q r s = absurd (omega arith)
four_mapped f (x ∷ []) a b c d len p q r s = absurd (omega arith)
four_mapped f (x ∷ y ∷ []) a b c d len p q r s = absurd (omega arith)
four_mapped f (x ∷ y ∷ z ∷ []) a b c d len p q r s = absurd (omega arith)
four_mapped f (x ∷ y ∷ z ∷ w ∷ []) a b c d len p q r s = λ i. p i ∷ q i ∷ r i ∷ s i ∷ []
four_mapped f (x ∷ y ∷ z ∷ w ∷ u ∷ us) a b c d len p q r s = absurd (omega arith)

-- what a key that occurs has
pub record HasNumber (d : Dims) (ss : List State) (n : Numbering) (key : ℕ) : Type 0 where
  pub here : HoldsKey n key
  pub number : number_in n key ≡ number_of (node_keys d ss) key

has_number : (d : Dims) (ss : List State) (n : Numbering) (v : Vertex) (tet : List Vertex) (key : ℕ) → ArePadded d ss → NumbersLayers d ss v.h n → InDomain d v → Has tet (tets_from d v) → occurs (tet_pieces d ss tet) key ≡ true → HasNumber d ss n key
has_number d ss n v tet key padded h inside m o =
    let k = held d ss padded v tet key n.first (n.first + n.len) inside m h.hold o in
    let here : HoldsKey n key = record { low = k.1.0; high = k.1.1 } in
    record { here = here; number = h.number key here k.0 }

pub mapped_same : {X Y : Type 0} (f g : X → Y) (xs : List X) → AllByRecursion (λ x. f x ≡ g x) xs → map f xs ≡ map g xs
mapped_same f g [] h = refl
mapped_same f g (x ∷ xs) h = λ i. h.0 i ∷ mapped_same f g xs h.1 i

-- the keys of a piece of a lattice tetrahedron have numbers
module _ (d : Dims) (ss : List State) (n : Numbering) (padded : ArePadded d ss) (v : Vertex) (h : NumbersLayers d ss v.h n) (inside : InDomain d v) (tet : List Vertex) (t : Has tet (tets_from d v)) (m : ℕ) (e : List ℕ) (lt : m < length (tet_pieces d ss tet)) where
  occurs_in_piece : (k : ℕ) (z : ℕ) → k < length (get_or (tet_pieces d ss tet) m e) → occurs (tet_pieces d ss tet) (get_or (get_or (tet_pieces d ss tet) m e) k z) ≡ true
  occurs_in_piece k z kt =
      let key = get_or (get_or (tet_pieces d ss tet) m e) k z in
      list_any_at (list_any (λ j. j == key)) (tet_pieces d ss tet) m e lt (list_any_at (λ j. j == key) (get_or (tet_pieces d ss tet) m e) k z kt (eq-eqb key key refl))

  pub piece_is_numbered : All (HoldsKey n) (get_or (tet_pieces d ss tet) m e)
  piece_is_numbered = λ k z kt. (has_number d ss n v tet (get_or (get_or (tet_pieces d ss tet) m e) k z) padded h inside t (occurs_in_piece k z kt)).here

  pub piece_numbers : map (number_in n) (get_or (tet_pieces d ss tet) m e) ≡ map (number_of (node_keys d ss)) (get_or (tet_pieces d ss tet) m e)
  piece_numbers =
      mapped_same (number_in n) (number_of (node_keys d ss)) (get_or (tet_pieces d ss tet) m e)
      (all_from_place (λ key. number_in n key ≡ number_of (node_keys d ss) key) (get_or (tet_pieces d ss tet) m e)
      (λ k z kt. (has_number d ss n v tet (get_or (get_or (tet_pieces d ss tet) m e) k z) padded h inside t (occurs_in_piece k z kt)).number))

-- an array has the pieces of a lattice tetrahedron in front
pub record HasPieces (d : Dims) (ss : List State) (tet : List Vertex) (len : ℕ) (of : List (List ℕ)) : Type 0 where
  pub front : take len of ≡ tet_pieces d ss tet
  pub count : len ≡ length (tet_pieces d ss tet)

pub has_pieces : (d : Dims) (ss : List State) (tet : List Vertex) (ids : List ℕ) (signs : List Sign) (len : ℕ) (of : List (List ℕ)) → ids ≡ map (id d) tet → signs ≡ map (λ n. sign_of_state (state_at ss n)) ids →
    take len of ≡ pieces tet ids signs → len ≡ length (pieces tet ids signs) → HasPieces d ss tet len of
unfolding tet_pieces
has_pieces d ss tet ids signs len of e f front count =
    let same : pieces tet ids signs ≡ pieces tet (map (id d) tet) (map (λ n. sign_of_state (state_at ss n)) (map (id d) tet)) =
    ap (pieces tet ids) f ∙ ap (λ ns. pieces tet ns (map (λ n. sign_of_state (state_at ss n)) ns)) e
    in
    record { front = front ∙ same; count = count ∙ ap length same }

-- the first n of an array, and its element at a place among them
pub of_front : {X : Type 0} (n k : ℕ) (of xs : List X) (e : X) → take n of ≡ xs → k < n → get_or of k e ≡ get_or xs k e
of_front n k of xs e same lt = sym (get_or-take n of k e lt) ∙ ap (λ l. get_or l k e) same

-- an array has the tetrahedra from a vertex in front: what its n-th element is
pub record IsTetAt (d : Dims) (v : Vertex) (n : ℕ) (t : Tet) : Type 0 where
  pub lattice : IsLatticeTet d t.at
  pub ids : t.ids ≡ map (id d) t.at
  pub within : n < length (tets_from d v)
  pub here : t.at ≡ get_or (tets_from d v) n []

tet_of : (d : Dims) (v : Vertex) (len : ℕ) (of : List Tet) (n : ℕ) (e : Tet) → len ≤ length of → n < len → map (λ t. t.at) (take len of) ≡ tets_from d v → map (λ t. t.ids) (take len of) ≡ map (map (id d)) (tets_from d v) →
    All (λ t. IsLatticeTet d t.at) (take len of) → IsTetAt d v n (get_or of n e)
tet_of d v len of n e long lt tets ids lattice =
    let count : length (take len of) ≡ len = length-take-le len of long in
    let lt' : n < length (take len of) = subst (λ m. n < m) (sym count) lt in
    let read : get_or (take len of) n e ≡ get_or of n e = get_or-take len of n e lt in
    let within : n < length (tets_from d v) = subst (λ m. n < m) (sym (length-map (take len of) (λ t. t.at)) ∙ ap length tets) lt' in
    let here : (get_or of n e).at ≡ get_or (tets_from d v) n [] = ap (λ t. t.at) (sym read) ∙ sym (get_or-map (λ t. t.at) (take len of) n e [] lt') ∙ ap (λ ts. get_or ts n []) tets in
    record {
      lattice = subst (λ t. IsLatticeTet d t.at) read (lattice n e lt');
      ids = ap (λ t. t.ids) (sym read) ∙ sym (get_or-map (λ t. t.ids) (take len of) n e [] lt') ∙ ap (λ ts. get_or ts n []) ids ∙ get_or-map (map (id d)) (tets_from d v) n [] [] within ∙ ap (map (id d)) (sym here);
      within = within;
      here = here;
    }

-- the same where the sizes are known as others
pub tet_at : (d s : Dims) (v : Vertex) (len : ℕ) (of : List Tet) (n : ℕ) (e : Tet) → s ≡ d → length of ≡ 6 → len ≤ 6 → n < len → map (λ t. t.at) (take len of) ≡ tets_from s v →
    map (λ t. t.ids) (take len of) ≡ map (map (id s)) (tets_from s v) → All (λ t. IsLatticeTet s t.at) (take len of) → IsTetAt d v n (get_or of n e)
tet_at d s v len of n e same six long lt tets ids lattice =
    subst (λ z. IsTetAt z v n (get_or of n e)) same (tet_of s v len of n e (subst (λ m. len ≤ m) (sym six) long) lt tets ids lattice)

pub tets_count : (d s : Dims) (v : Vertex) (len : ℕ) (of : List Tet) → s ≡ d → length of ≡ 6 → len ≤ 6 → map (λ t. t.at) (take len of) ≡ tets_from s v → length (tets_from d v) ≡ len
tets_count d s v len of same six long tets =
    ap (λ z. length (tets_from z v)) (sym same) ∙ ap length (sym tets) ∙ length-map (take len of) (λ t. t.at) ∙ length-take-le len of (subst (λ m. len ≤ m) (sym six) long)

-- keys of vertices fit
pub ids_fit : (d : Dims) (tet : List Vertex) (ids : List ℕ) → IsDims d → IsLatticeTet d tet → ids ≡ map (id d) tet → All (λ id. 8 * id + 7 < 2 ^ 32) ids
ids_fit d tet ids is t e =
    subst (All (λ n. 8 * n + 7 < 2 ^ 32)) (sym e)
    (All-map (λ n. 8 * n + 7 < 2 ^ 32) (id d) tet (λ k w lt. let s = id_small d is (get_or tet k w) (t.within k w lt) in fits (id d (get_or tet k w)) s))
  where
    fits : (n : ℕ) → n < 2 ^ 27 → 8 * n + 7 < 2 ^ 32
    fits n lt = omega arith

-- ids are those of vertices
pub ids_within : (d : Dims) (tet : List Vertex) (ids : List ℕ) → IsLatticeTet d tet → ids ≡ map (id d) tet → All (λ n. n < length (vertices d)) ids
ids_within d tet ids t e =
    subst (All (λ n. n < length (vertices d))) (sym e)
    (All-map (λ n. n < length (vertices d)) (id d) tet (λ k w lt. (vertex_at-id d (get_or tet k w) (t.within k w lt)).0))

-- one more piece
pub pieces_more : (f : List ℕ → List ℕ) (ps : List (List ℕ)) (n : ℕ) (e : List ℕ) (xs ys zs : List (List ℕ)) → n < length ps → ys ≡ xs ++ map f (take n ps) → zs ≡ ys ++ f (get_or ps n e) ∷ [] → zs ≡ xs ++ map f (take (n + 1) ps)
pieces_more f ps n e xs ys zs lt h g =
    g ∙ ap (λ l. l ++ f (get_or ps n e) ∷ []) h ∙ append_assoc xs (map f (take n ps)) (f (get_or ps n e) ∷ [])
    ∙ ap (λ l. xs ++ l) (sym (map-append f (take n ps) (get_or ps n e ∷ [])) ∙ ap (map f) (sym (take_more ps n e lt)))

-- the pieces of one more tetrahedron
pub tets_more : {X : Type 0} (f : List ℕ → List ℕ) (g : X → List (List ℕ)) (ts : List X) (n : ℕ) (e : X) (xs ys zs : List (List ℕ)) → n < length ts → ys ≡ xs ++ map f (flat_map g (take n ts)) → zs ≡ ys ++ map f (g (get_or ts n e)) →
    zs ≡ xs ++ map f (flat_map g (take (n + 1) ts))
tets_more f g ts n e xs ys zs lt h k =
    k ∙ ap (λ l. l ++ map f (g (get_or ts n e))) h ∙ append_assoc xs (map f (flat_map g (take n ts))) (map f (g (get_or ts n e)))
    ∙ ap (λ l. xs ++ l) (sym (map-append f (flat_map g (take n ts)) (g (get_or ts n e))) ∙ ap (map f) (ap (λ l. flat_map g (take n ts) ++ l) (sym (append-nil (g (get_or ts n e)))) ∙ sym (flat_map-append g (take n ts) (get_or ts n e ∷ [])) ∙ ap (flat_map g) (sym (take_more ts n e lt))))

flat_map_twice : {X Y Z : Type 0} (f : Y → List Z) (g : X → List Y) (xs : List X) → flat_map (λ x. flat_map f (g x)) xs ≡ flat_map f (flat_map g xs)
flat_map_twice f g [] = refl
flat_map_twice f g (x ∷ xs) = ap (λ zs. flat_map f (g x) ++ zs) (flat_map_twice f g xs) ∙ sym (flat_map-append f (g x) (flat_map g xs))

-- the pieces of all vertices are all pieces
pub pieces_by_vertex : (d : Dims) (ss : List State) (n : ℕ) → length (vertices d) ≤ n → flat_map (λ v. flat_map (tet_pieces d ss) (tets_from d v)) (take n (vertices d)) ≡ all_pieces d ss
unfolding all_pieces lattice_tets
pieces_by_vertex d ss n le = ap (flat_map (λ v. flat_map (tet_pieces d ss) (tets_from d v))) (take_all n (vertices d) le) ∙ flat_map_twice (tet_pieces d ss) (tets_from d) (vertices d)
