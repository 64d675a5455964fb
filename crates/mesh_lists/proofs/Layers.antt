-- The layers of the nodes of a lattice tetrahedron's pieces, and numberings that hold them.
use Rattle.std.proofs.Common.{◌≡◌, ℕ, ◌+◌, ◌*◌, ◌/◌, ◌<◌, ◌≤◌, ◌==◌, arith, sym, ◌∙◌, ap, subst, Bool, true, List, length, min}
use Rattle.std.specs.Prelude.{flat_map}
use Rattle.std.specs.List.{list_any}
use Rattle.definitions.specs.declared.Dims.{Dims}
use Rattle.definitions.specs.declared.Vertex.{Vertex}
use Rattle.definitions.specs.declared.State.{State}
use Rattle.definitions.specs.Lattice.{InDomain, id, layer, layers, vertex_at, vertices}
use Rattle.definitions.specs.Layout.{layer_len, layer_start}
use Rattle.definitions.specs.Mesh.{ArePadded, all_pieces, occurs, tet_pieces}
use Rattle.definitions.specs.Tetrahedra.{tets_from}
use Rattle.lattice_counts.specs.Counts.{before_in_layer, below_layer}
use Rattle.lattice_counts.proofs.Ranks.{in_layer, rank, start, within_layer}
use Rattle.lattice_laws.specs.Ascending.{Has}
use Rattle.lattice_laws.proofs.Laws.{ids_count_vertices}
use Rattle.lattice_laws.proofs.Lists.{any_flat_map}
use Rattle.lattice_laws.proofs.Members.{has_flat_map, any_of_member}
use Rattle.lattice_laws.proofs.Sublists.{has_at}
use Rattle.lattice_laws.proofs.Vertices.{id-vertex_at, vertex_at-id}
use Rattle.node_laws.specs.Laws.{StandsAbove}
use Rattle.node_laws.proofs.Layers.{all_start, next_start}
use Rattle.node_laws.proofs.Reach.{pieces_use_near_layers}
use Rattle.node_laws.proofs.Standing.{keys_are_below}
use Rattle.vertex_numbers.specs.Numbering.{Numbering, NumbersIds, NumbersMesh, used_in}
use Rattle.vertex_numbers.proofs.LayerStarts.{starts_rise}
use Rattle.mesh_lists.specs.Layers.{HoldLayers, NumbersLayers}
use Rattle.mesh_lists.specs.Parts.{keys_of_vertex}
use Rattle.mesh_lists.proofs.Numberings.{same_used}

module _ (d : Dims) where
  -- an id lies among those of its vertex's layer
  pub id_in_layer : (n : ℕ) → n < length (vertices d) → (layer_start d (vertex_at d n).h ≤ n) × (n < layer_start d ((vertex_at d n).h + 1))
  id_in_layer n lt =
      let v = vertex_at d n in
      let inside = (ids_count_vertices d).inside n lt in
      let place = sym (id-vertex_at d n lt) ∙ rank d v inside in
      let first = start d v.h (let b = inside.h_below in omega arith) in
      let next = next_start d v.h inside.h_below in
      bounds n (below_layer d v.h) (before_in_layer d v) (layer_len d v.h) (layer_start d v.h) (layer_start d (v.h + 1)) place (within_layer d v inside) first next
    where
      bounds : (n b p l s t : ℕ) → n ≡ b + p → p < l → s ≡ b → t ≡ s + l → (s ≤ n) × (n < t)
      bounds n b p l s t e lt f g = (omega arith, omega arith)

  -- the ids of vertices in some layers
  pub ids_between : (n h top : ℕ) → n < length (vertices d) → h ≤ (vertex_at d n).h → (vertex_at d n).h + 1 ≤ top → top ≤ layers d → (layer_start d h ≤ n) × (n < layer_start d top)
  ids_between n h top lt low high within =
      let i = id_in_layer n lt in
      let here : (vertex_at d n).h ≤ layers d = omega arith in
      let a = starts_rise d h (vertex_at d n).h low here in
      let b = starts_rise d ((vertex_at d n).h + 1) top high within in
      bounds n (layer_start d h) (layer_start d (vertex_at d n).h) (layer_start d ((vertex_at d n).h + 1)) (layer_start d top) i.0 i.1 a b
    where
      bounds : (n a s t b : ℕ) → s ≤ n → n < t → a ≤ s → t ≤ b → (a ≤ n) × (n < b)
      bounds n a s t b p q r u = (omega arith, omega arith)

module _ (d : Dims) (ss : List State) (padded : ArePadded d ss) where
  abbrev occ : ℕ → Bool
  occ = occurs (all_pieces d ss)

  -- a node of a piece of a tetrahedron from a vertex is in the vertex's layer or the two above it
  stands : (v : Vertex) (tet : List Vertex) (key : ℕ) → InDomain d v → Has v (layer d v.h) → Has tet (tets_from d v) → occurs (tet_pieces d ss tet) key ≡ true → StandsAbove d ss v.h key
  stands v tet key inside here m o =
      let all = has_flat_map (tets_from d) v tet (layer d v.h) here m in
      pieces_use_near_layers d ss v.h key inside.h_below
      (any_flat_map (list_any (λ k. k == key)) (tet_pieces d ss) (flat_map (tets_from d) (layer d v.h))
      ∙ any_of_member (λ t. occurs (tet_pieces d ss t) key) tet (flat_map (tets_from d) (layer d v.h)) all o)

  has_layer : (v : Vertex) → InDomain d v → Has v (layer d v.h)
  has_layer v inside = subst (λ w. Has w (layer d v.h)) (in_layer d v inside) (has_at (layer d v.h) (before_in_layer d v) (record { h = 0; y = 0; x = 0 }) (within_layer d v inside))

  -- its id is among those that hold these layers
  pub held : (v : Vertex) (tet : List Vertex) (key a b : ℕ) → InDomain d v → Has tet (tets_from d v) → HoldLayers d v.h a b → occurs (tet_pieces d ss tet) key ≡ true → (occ key ≡ true) × ((a ≤ key / 8) × (key / 8 < b))
  held v tet key a b inside m hold o =
      let s = stands v tet key inside (has_layer v inside) m o in
      let lt : key / 8 < length (vertices d) = vertex_of key (length (vertices d)) (keys_are_below d ss key padded s.occurs_too) in
      let below = ((ids_count_vertices d).inside (key / 8) lt).h_below in
      let r = ids_between d (key / 8) v.h (min (v.h + 3) (layers d)) lt s.low (top (vertex_at d (key / 8)).h v.h (layers d) s.high below) (capped (v.h + 3) (layers d)) in
      (s.occurs_too, bounds a (layer_start d v.h) (key / 8) (layer_start d (min (v.h + 3) (layers d))) b hold.low r.0 r.1 hold.high)
    where
      vertex_of : (k n : ℕ) → k < 8 * n → k / 8 < n
      vertex_of k n lt = omega arith

      top : (g h l : ℕ) → g ≤ h + 2 → g < l → g + 1 ≤ min (h + 3) l
      top g h l p q = omega arith

      capped : (m l : ℕ) → min m l ≤ l
      capped m l = omega arith

      bounds : (a s n t b : ℕ) → a ≤ s → s ≤ n → n < t → t ≤ b → (a ≤ n) × (n < b)
      bounds a s n t b p q r u = (omega arith, omega arith)

-- the id of a vertex of the layer or of one of the two above it is held
pub vertex_held : (d : Dims) (h a b : ℕ) (w : Vertex) → HoldLayers d h a b → InDomain d w → h ≤ w.h → w.h ≤ h + 2 → (a ≤ id d w) × (id d w < b)
vertex_held d h a b w hold inside low high =
    let e = vertex_at-id d w inside in
    let layer_is : (vertex_at d (id d w)).h ≡ w.h = ap (λ (v : Vertex). v.h) e.1 in
    let r = ids_between d (id d w) h (min (h + 3) (layers d)) e.0 (subst (λ (m : ℕ). h ≤ m) (sym layer_is) low) (subst (λ (m : ℕ). m + 1 ≤ min (h + 3) (layers d)) (sym layer_is) (top w.h h (layers d) high inside.h_below)) (capped (h + 3) (layers d)) in
    bounds a (layer_start d h) (id d w) (layer_start d (min (h + 3) (layers d))) b hold.low r.0 r.1 hold.high
  where
    top : (g h l : ℕ) → g ≤ h + 2 → g < l → g + 1 ≤ min (h + 3) l
    top g h l p q = omega arith

    capped : (m l : ℕ) → min m l ≤ l
    capped m l = omega arith

    bounds : (a s n t b : ℕ) → a ≤ s → s ≤ n → n < t → t ≤ b → (a ≤ n) × (n < b)
    bounds a s n t b p q r u = (omega arith, omega arith)

-- that of a vertex of the layer
pub own_held : (d : Dims) (ss : List State) (v : Vertex) (n : Numbering) (m : ℕ) → NumbersLayers d ss v.h n → InDomain d v → m ≡ id d v → (n.first ≤ m) × (m < n.first + n.len)
own_held d ss v n m h inside e = subst (λ (i : ℕ). (n.first ≤ i) × (i < n.first + n.len)) (sym e) (vertex_held d v.h n.first (n.first + n.len) v h.hold inside (omega arith) (omega arith))

-- what is used at it
pub layer_used : (d : Dims) (ss : List State) (v : Vertex) (n : Numbering) (m : ℕ) → NumbersLayers d ss v.h n → InDomain d v → m ≡ id d v → list_any (used_in n) (keys_of_vertex m) ≡ list_any (occurs (all_pieces d ss)) (keys_of_vertex m)
layer_used d ss v n m h inside e =
    let r = own_held d ss v n m h inside e in
    same_used d ss n m h.used r.0 r.1

-- a numbering of the nodes of ids that hold some layers is one of the nodes of these
pub numbers_layers : (d : Dims) (ss : List State) (h a b : ℕ) (n : Numbering) → NumbersIds d ss a b n → HoldLayers d h a b → NumbersLayers d ss h n
numbers_layers d ss h a b n m hold = record {
  hold = subst (λ (i : ℕ). HoldLayers d h i (n.first + n.len)) (sym m.first) (subst (λ (i : ℕ). HoldLayers d h a i) (sym m.end) hold);
  used = m.used;
  number = m.number;
}

-- and one of all nodes is so for any layers
pub all_layers : (d : Dims) (ss : List State) (h : ℕ) (n : Numbering) → NumbersMesh d ss n → NumbersLayers d ss h n
all_layers d ss h n m =
    numbers_layers d ss h 0 (length (vertices d)) n m
    (record {
      low = omega arith;
      high = subst (λ (l : ℕ). layer_start d (min (h + 3) (layers d)) ≤ l) (all_start d) (starts_rise d (min (h + 3) (layers d)) (layers d) (capped (h + 3) (layers d)) (omega arith));
    })
  where
    capped : (m l : ℕ) → min m l ≤ l
    capped m l = omega arith
