-- A vertex that was moved stands on a cut of an edge to a neighbour in the domain.
use Rattle.std.proofs.Common.{◌≡◌, ℕ, ◌-◌, ◌≤◌, sym, ◌∙◌, ap, subst, Bool, true, false, Option, Some, None}
use Rattle.std.specs.Prelude.{if◌then◌else◌}
use Rattle.definitions.specs.declared.Dims.{Dims}
use Rattle.definitions.specs.declared.Vertex.{Vertex}
use Rattle.definitions.specs.declared.Near.{Near}
use Rattle.definitions.specs.declared.Sign.{Sign}
use Rattle.definitions.specs.declared.Sign.TheVariants.{Minus, Zero, Plus}
use Rattle.definitions.specs.declared.State.TheVariants as state
use Rattle.definitions.specs.Lists.{least_by}
use Rattle.definitions.specs.Lattice.{InDomain, neighbour, key, step, directed}
use Rattle.definitions.specs.Values.{Field, value, sign_of}
use Rattle.definitions.specs.Cuts.{scale, cut_number}
use Rattle.definitions.specs.States.{Shares, is_up, direction_of, near_at, near_up, near_down, near_on, near_cuts, is_nearer, snapped, state_of}
use Rattle.definitions.specs.Places.{along, lattice_place, state_place}
use Rattle.lattice_laws.proofs.LaterNeighbours.{neighbour_leads}
use Rattle.lattice_laws.proofs.Vertices.{domain_out}
use Rattle.snap_laws.proofs.Nearest.{IfNear, both_some, nearest_has}
use Rattle.snap_laws.proofs.StatesAre.{as_given, number_small}
use Rattle.place_laws.specs.Inside.{StandsInside}
use Rattle.place_laws.proofs.Between.{leads_by, between, between_down, no_part_inside, vertex_inside}

-- the cut k of an edge of v to a neighbour
pub record IsCutAt (d : Dims) (v : Vertex) (edge k : ℕ) : Type 0 where
  pub within : k ≤ 4096
  pub to : Vertex
  pub leads : neighbour d v (direction_of edge) (is_up edge) ≡ Some to

module _ (f : Field) (s : Shares) (v : Vertex) where
  abbrev IsNear : Near → Type 0
  IsNear n = IsCutAt f.dims v n.edge n.k

  small_on : (edge : ℕ) (n : Near) (w : Vertex) (b : Bool) → (if b then near_up f s v edge w else near_down f s v edge w) ≡ Some n → (n.edge ≡ edge) × (n.k ≤ 4096)
  small_on edge n w true e =
      let r = both_some (λ k. near_at s edge k k (key f.dims v (direction_of edge))) (cut_number (value f v) (value f w)) n e in
      let g = as_given s edge r.0 r.0 (key f.dims v (direction_of edge)) n r.2 in
      (g.0, subst (λ m. m ≤ 4096) (sym g.1) (number_small (value f v) (value f w) r.0 r.1))
  small_on edge n w false e =
      let r = both_some (λ k. near_at s edge k (scale - k) (key f.dims w (direction_of edge))) (cut_number (value f w) (value f v)) n e in
      let g = as_given s edge r.0 (scale - r.0) (key f.dims w (direction_of edge)) n r.2 in
      (g.0, subst (λ m. m ≤ 4096) (sym g.1) (number_small (value f w) (value f v) r.0 r.1))

  near_is_cut : (edge : ℕ) (n : Near) → near_on f s v edge ≡ Some n → IsNear n
  unfolding near_on
  near_is_cut edge n e =
      let r = both_some (λ w. if is_up edge then near_up f s v edge w else near_down f s v edge w) (neighbour f.dims v (direction_of edge) (is_up edge)) n e in
      let g = small_on edge n r.0 (is_up edge) r.2 in
      record { within = g.1; to = r.0; leads = ap (λ m. neighbour f.dims v (direction_of m) (is_up m)) g.0 ∙ r.1 }

  -- a cut at v is inside
  cut_inside : (edge k : ℕ) → InDomain f.dims v → IsCutAt f.dims v edge k → StandsInside f.dims (state_place v (state.Zero edge k))
  cut_inside edge k inside c = go (is_up edge) c.leads
    where
      go : (b : Bool) → neighbour f.dims v (if b then edge else edge - 7) b ≡ Some c.to →
          StandsInside f.dims (if b then along (lattice_place v) (step edge) k else along (along (lattice_place v) (directed false (step (if b then edge else edge - 7))) scale) (step (if b then edge else edge - 7)) k)
      go true e =
          let l = neighbour_leads f.dims v c.to edge true e in
          between f.dims v c.to (step edge) k inside (domain_out f.dims c.to l.1) (leads_by v c.to (step edge) l.0) c.within
      go false e =
          let l = neighbour_leads f.dims v c.to (edge - 7) false e in
          between_down f.dims v c.to (step (edge - 7)) k inside (domain_out f.dims c.to l.1) (leads_by v c.to (directed false (step (edge - 7))) l.0) c.within

  snapped_inside : (g : Sign) (o : Option Near) → InDomain f.dims v → IfNear IsNear o → StandsInside f.dims (state_place v (snapped g o))
  snapped_inside Zero o inside h = no_part_inside f.dims v (step 0) inside
  snapped_inside Minus None inside h = vertex_inside f.dims v inside
  snapped_inside Plus None inside h = vertex_inside f.dims v inside
  snapped_inside Minus (Some n) inside h = cut_inside n.edge n.k inside h.0
  snapped_inside Plus (Some n) inside h = cut_inside n.edge n.k inside h.0

  pub state_inside : InDomain f.dims v → StandsInside f.dims (state_place v (state_of f s v))
  unfolding state_of near_cuts
  state_inside inside = snapped_inside (sign_of (value f v)) (least_by is_nearer (near_cuts f s v)) inside (nearest_has IsNear (near_on f s v) (λ edge m low high e. near_is_cut edge m e))
