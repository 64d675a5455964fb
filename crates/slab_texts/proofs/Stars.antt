-- Plus vertices stand at their lattice places; so a vertex and its neighbours upwards that are all Plus stand as on the lattice.
use Rattle.std.proofs.Common.{◌≡◌, ℕ, ◌+◌, ◌*◌, ◌<◌, ◌≤◌, arith, refl, sym, ◌∙◌, ap, true, List, [], ◌∷◌, All, map, length, Some}
use Rattle.std.specs.Prelude.{pos, ℤ, ◌+ℤ◌, ◌-ℤ◌, ◌*ℤ◌}
use Rattle.std.proofs.lemmas.Int.{ints}
use Rattle.std.proofs.lemmas.List.{get_or-map}
use Rattle.definitions.specs.declared.Dims.{Dims}
use Rattle.definitions.specs.declared.Place.{Place}
use Rattle.definitions.specs.declared.Sign.TheVariants.{Plus}
use Rattle.definitions.specs.declared.State.{State}
use Rattle.definitions.specs.declared.State.TheVariants as state
use Rattle.definitions.specs.declared.Vertex.{Vertex}
use Rattle.definitions.specs.Lattice.{InDomain, id, neighbour, step, vertices}
use Rattle.definitions.specs.Mesh.{node_keys, node_place, number_of, state_at}
use Rattle.definitions.specs.Places.{lattice_place, place, state_place}
use Rattle.definitions.specs.States.{sign_of_state}
use Rattle.definitions.specs.Values.{Field}
use Rattle.definitions.specs.Vectors.{place_at}
use Rattle.dihedral.specs.Stars.{neighbour_of}
use Rattle.lattice_laws.proofs.LaterNeighbours.{neighbour_to}
use Rattle.lattice_laws.proofs.Vertices.{domain_out, vertex_at-id}
use Rattle.node_laws.proofs.NumbersLeadBack.{numbers_lead_back}
use Rattle.node_laws.proofs.Standing.{keys_are_below}
use Rattle.place_laws.proofs.Between.{leads_by}
use Rattle.mesh_lists.specs.Parts.{ArePlusNodes, IsPlusNode, IsPlusTowards, mesh_of, whole_tets}
use Rattle.mesh_lists.proofs.NodePlaces.{vertex_place}
use Rattle.mesh_lists.proofs.WholeTetrahedra.{plus_occurs}
use Rattle.vertex_numbers.specs.declared.Later.{Later}
use Rattle.slab_texts.specs.declared.nodes.Nodes.{Nodes}
use Rattle.slab_texts.specs.Nodes.{AreInRow, HasNodes, HasPlaces}
use Rattle.slab_texts.specs.Stars.{AreStar, PlusOnLattice}
use Rattle.slab_texts.specs.Texts.{AreAmong, IsAmong}
use Rattle.slab_texts.proofs.Places.{places_in_row}

-- ---- Plus vertices are not moved

unmoved : (v : Vertex) (s : State) → sign_of_state s ≡ Plus → state_place v s ≡ lattice_place v
unmoved v state.Minus e = cc
unmoved v state.Plus e = refl
unmoved v (state.Zero edge k) e = cc

-- the place of a Plus vertex among those of all nodes
module _ (f : Field) (ss : List State) (n : Nodes) (h : HasNodes f.dims ss n) where
  plus_place : (v : Vertex) (number : ℕ) → InDomain f.dims v → IsPlusNode f.dims ss v number → place_at (mesh_of f ss).places number ≡ lattice_place v
  unfolding mesh_of
  plus_place v number inside p =
      let d = f.dims in
      let key = 8 * id d v in
      let o = plus_occurs d ss h.padded v inside p.plus in
      let fit = numbers_lead_back d ss in
      let low = keys_are_below d ss key h.padded o in
      let at : number_of (node_keys d ss) key < length (node_keys d ss) = fit.below key o low in
      ap (place_at (map (node_place f ss) (node_keys d ss))) p.is
      ∙ get_or-map (node_place f ss) (node_keys d ss) (number_of (node_keys d ss) key) 0 (place (pos 0) (pos 0) (pos 0)) at
      ∙ ap (node_place f ss) (fit.back key o low ∙ from_none key)
      ∙ vertex_place f ss v (id d v) 0 (vertex_at-id d v inside).1 refl
      ∙ unmoved v (state_at ss (id d v)) p.plus
    where
      from_none : (m : ℕ) → m ≡ m + 0
      from_none m = omega arith

  pub plus_on_lattice : n.start ≤ n.end → n.end ≤ length (vertices f.dims) → HasPlaces f ss n → PlusOnLattice f.dims ss n
  plus_on_lattice le within places v number inside p among =
      let row = places_in_row f ss n.start n.end n.first n.places.items le within h.first places in
      sym (row.place number among.low among.high) ∙ plus_place v number inside p

-- ---- the neighbours of a vertex

neighbour_is : (d : Dims) (v w : Vertex) (dir : ℕ) → neighbour d v dir true ≡ Some w → lattice_place w ≡ neighbour_of (lattice_place v) dir
neighbour_is d v w dir e =
    let l = leads_by v w (step dir) (neighbour_to d v w dir e).0 in
    λ i. place (moved (pos v.x) (pos w.x) (step dir).x l.x i) (moved (pos v.y) (pos w.y) (step dir).y l.y i) (moved (pos v.h) (pos w.h) (step dir).h l.h i)
  where
    moved : (a b s : ℤ) → b ≡ a +ℤ s → (b -ℤ pos 2) *ℤ pos 4096 ≡ ((a -ℤ pos 2) *ℤ pos 4096) +ℤ (s *ℤ pos 4096)
    moved a b s e = omega (arith, ints)

module _ (d : Dims) (ss : List State) (n : Nodes) (h : PlusOnLattice d ss n) where
  module _ (all : List Place) (row : AreInRow all n.first n.places.items) where
    stands : (v : Vertex) (number : ℕ) → InDomain d v → IsPlusNode d ss v number → IsAmong n number → place_at all number ≡ lattice_place v
    stands v number inside p among = row.place number among.low among.high ∙ h v number inside p among

    stands_towards : (v : Vertex) (own dir number : ℕ) → place_at all own ≡ lattice_place v → IsPlusTowards d ss v dir number → IsAmong n number → place_at all number ≡ neighbour_of (place_at all own) dir
    stands_towards v own dir number e t among =
        stands t.there number (domain_out d t.there (neighbour_to d v t.there dir t.leads).1) t.node among
        ∙ neighbour_is d v t.there dir t.leads
        ∙ ap (λ p. neighbour_of p dir) (sym e)

  pub are_star : (v : Vertex) (own : ℕ) (later : Later) → InDomain d v → ArePlusNodes d ss v own later → All (AreAmong n) (whole_tets own later) → AreStar n own later
  are_star v own later inside p among all row =
      let e = stands all row v own inside p.node (among 0 [] (omega arith) 0 0 (omega arith)) in
      let first = stands_towards all row v own 1 later.first e p.first (among 0 [] (omega arith) 1 0 (omega arith)) in
      let second = stands_towards all row v own 2 later.second e p.second (among 1 [] (omega arith) 1 0 (omega arith)) in
      let third = stands_towards all row v own 3 later.third e p.third (among 2 [] (omega arith) 1 0 (omega arith)) in
      let fourth = stands_towards all row v own 4 later.fourth e p.fourth (among 0 [] (omega arith) 3 0 (omega arith)) in
      let fifth = stands_towards all row v own 5 later.fifth e p.fifth (among 1 [] (omega arith) 2 0 (omega arith)) in
      let sixth = stands_towards all row v own 6 later.sixth e p.sixth (among 0 [] (omega arith) 2 0 (omega arith)) in
      let seventh = stands_towards all row v own 7 later.seventh e p.seventh (among 2 [] (omega arith) 3 0 (omega arith)) in
      let o = place_at all own in
      λ i.
      (o ∷ first i ∷ sixth i ∷ fourth i ∷ [])
      ∷ (o ∷ second i ∷ fifth i ∷ sixth i ∷ [])
      ∷ (o ∷ third i ∷ fourth i ∷ seventh i ∷ [])
      ∷ (o ∷ third i ∷ seventh i ∷ fifth i ∷ [])
      ∷ (o ∷ fourth i ∷ sixth i ∷ seventh i ∷ [])
      ∷ (o ∷ fifth i ∷ seventh i ∷ sixth i ∷ [])
      ∷ []
