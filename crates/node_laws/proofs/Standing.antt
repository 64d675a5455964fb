-- Where nodes stand, by the reasons for which they occur.
use Rattle.std.proofs.Common.{◌≡◌, ℕ, ◌+◌, ◌*◌, ◌/◌, ◌%◌, ◌<◌, true, false, List, length, Some, sym, ap, subst, ◌∙◌, arith, inl, inr}
use Rattle.definitions.specs.declared.Dims.{Dims}
use Rattle.definitions.specs.declared.Vertex.{Vertex}
use Rattle.definitions.specs.declared.State.{State}
use Rattle.definitions.specs.Lattice.{InDomain, id, direction, neighbour, vertices, vertex_at}
use Rattle.definitions.specs.Stencils.{is_minus}
use Rattle.lattice_laws.proofs.Directions.{direction_known}
use Rattle.lattice_laws.proofs.EdgeSteps.{step_to, direction_of_step}
use Rattle.lattice_laws.proofs.LaterNeighbours.{neighbour_led}
use Rattle.lattice_laws.proofs.Vertices.{domain_in, vertex_at-id}
use Rattle.node_laws.specs.Reasons.{Reason, plus, beside, crossed, sign}
use Rattle.node_laws.specs.Laws.{IsCrossed, KeysAreBelow, NodesStandInDomain, StandsInDomain}
use Rattle.node_laws.proofs.FoundNodes.{not_minus}
use Rattle.node_laws.proofs.NodesOfTheMesh.{nodes_have_reasons}

module _ (d : Dims) (ss : List State) (key : ℕ) where
  -- the key of a vertex, and of an edge from one
  of_vertex : (v : Vertex) → key ≡ 8 * id d v → (key / 8 ≡ id d v) × (key % 8 ≡ 0)
  of_vertex v e = (omega arith, omega arith)

  of_edge : (u : Vertex) (dir : ℕ) → dir < 8 → key ≡ 8 * id d u + dir → (key / 8 ≡ id d u) × (key % 8 ≡ dir)
  of_edge u dir lt e = (omega arith, omega arith)

  -- the key of a vertex or an edge in the domain is below the keys of a vertex more
  key_below : (v : Vertex) → InDomain d v → key / 8 ≡ id d v → key < 8 * length (vertices d)
  key_below v k e = let b = (vertex_at-id d v k).0 in omega arith

  here : (v : Vertex) → InDomain d v → key / 8 ≡ id d v → vertex_at d (key / 8) ≡ v
  here v k e = ap (vertex_at d) e ∙ (vertex_at-id d v k).1

  below_if : Reason d ss key → key < 8 * length (vertices d)
  below_if (plus v k e p) = key_below v k (of_vertex v e).0
  below_if (beside v w k l e m n p) = key_below v k (of_vertex v e).0
  below_if (crossed u w k l e n b o) = key_below u k (of_edge u (direction u w) (direction_known u w n b).1 e).0

  at_vertex : (v : Vertex) → InDomain d v → key ≡ 8 * id d v → is_minus (sign d ss v) ≡ false → StandsInDomain d ss key
  at_vertex v k e m =
      let q = of_vertex v e in
      let p = sym (here v k q.0) in
      record {
        vertex = subst (InDomain d) p k;
        edge = inl q.1;
        kept = λ z. subst (λ u. is_minus (sign d ss u) ≡ false) p m;
      }

  -- an edge is no vertex
  no_vertex : {X : Type 0} (n : ℕ) → 0 < n → key % 8 ≡ n → key % 8 ≡ 0 → X
  no_vertex n lt e z = absurd (omega arith)

  stands_if : Reason d ss key → StandsInDomain d ss key
  stands_if (plus v k e p) = at_vertex v k e (not_minus (sign d ss v) p)
  stands_if (beside v w k l e m n p) = at_vertex v k e m
  stands_if (crossed u w k l e n b o) =
      let dir = direction_known u w n b in
      let q = of_edge u (direction u w) dir.1 e in
      let p = sym (here u k q.0) in
      let s = step_to u w b n in
      let f : s.dir ≡ key % 8 = sym (direction_of_step s.dir u w s.low s.high s.leads) ∙ sym q.1 in
      let to : neighbour d u (key % 8) true ≡ Some w = subst (λ n. neighbour d u n true ≡ Some w) f (neighbour_led d u w s.dir true s.leads (domain_in d w l)) in
      record {
        vertex = subst (InDomain d) p k;
        edge = inr (w, subst (λ v. IsCrossed d ss v (key % 8) w) p (record { leads = to; within = l; opposite = o }));
        kept = no_vertex (direction u w) dir.0 q.1;
      }

pub keys_are_below : KeysAreBelow
keys_are_below d ss key padded h = below_if d ss key ((nodes_have_reasons d ss padded key).0 h)

pub nodes_stand_in_domain : NodesStandInDomain
nodes_stand_in_domain d ss key padded h = stands_if d ss key ((nodes_have_reasons d ss padded key).0 h)
