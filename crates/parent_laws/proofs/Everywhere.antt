-- What is said at vectors is said of vertices, or is what stands outside.
use Rattle.std.specs.Prelude.{ℕ, max, min, if◌then◌else◌, Bool, true, false}
use Rattle.std.proofs.Common.{◌≡◌, refl, ap, arith}
use Rattle.std.proofs.Math.IntN.{ℤ, pos, negsuc}
use lib.Signed.{◌<ℤ◌}
use borrow.Author.Differences.{below_in}
use Rattle.definitions.specs.declared.Dims.{Dims}
use Rattle.definitions.specs.declared.Vertex.{Vertex}
use Rattle.definitions.specs.Lattice.{InDomain, in_domain, vertex}
use Rattle.definitions.specs.Values.{Field}
use Rattle.lattice_laws.specs.Vectors.{Vector}
use Rattle.lattice_laws.specs.Kinds.{vector_of}
use Rattle.lattice_laws.proofs.Vertices.{domain_in, domain_out}
use Rattle.piece_laws.specs.Renaming.{AreCuts}
use Rattle.parent_laws.specs.Everywhere.{at_coordinates, at_vector, cut_on, number_on}

-- at a vertex in the domain
pub at_vertex : {X : Type 0} (d : Dims) (other : X) (g : Vertex → X) (v : Vertex) → InDomain d v → at_vector d other g (vector_of v) ≡ g v
at_vertex d other g v h = ap (λ b. if b then g v else other) (domain_in d v h)

-- what holds of what is said of each vertex, and of what stands outside, holds everywhere
pub everywhere : {X : Type 0} (P : X → Type 0) (d : Dims) (other : X) (g : Vertex → X) → P other → ((v : Vertex) → InDomain d v → P (g v)) → (u : Vector) → P (at_vector d other g u)
everywhere P d other g p h u = go u.x u.y u.z
  where
    inside : (v : Vertex) (b : Bool) → in_domain d v ≡ b → P (if b then g v else other)
    inside v true e = h v (domain_out d v e)
    inside v false e = p

    go : (x y z : ℤ) → P (at_coordinates d other g x y z)
    go (pos x) (pos y) (pos z) = inside (vertex z y x) (in_domain d (vertex z y x)) refl
    go (pos x) (pos y) (negsuc z) = p
    go (pos x) (negsuc y) z = p
    go (negsuc x) y z = p

-- cuts are inner everywhere
pub cuts_fit : (f : Field) → AreCuts (cut_on f)
cuts_fit f u w = go (number_on f u w)
  where
    go : (n : ℕ) → (pos 0 <ℤ pos (max 1 (min 4095 n))) × (pos (max 1 (min 4095 n)) <ℤ pos 4096)
    go n = (below_in _ _ (omega arith), below_in _ _ (omega arith))
