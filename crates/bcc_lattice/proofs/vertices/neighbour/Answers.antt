use Rattle.std.proofs.Common.{◌≡◌, ℕ, ℤ, pos, negsuc, ap, sym, ◌∙◌, ◌+ℤ◌, neg_ℤ, false, Option, Some, None, rules}
use Rattle.std.specs.Prelude.{if◌then◌else◌, option_and_then}
use Rattle.definitions.specs.declared.Dims.{Dims}
use Rattle.definitions.specs.declared.Vertex.{Vertex}
use Rattle.definitions.specs.Lattice.{in_domain, neighbour, moved, step, directed, vertex, vertex_of_ints}
use Rattle.lattice_laws.proofs.Vertices.{domain_out}
use Rattle.bcc_lattice.specs.Directions.{natural_of}
use Rattle.bcc_lattice.proofs.vertices.neighbour.Goals as goal

absent : (d : Dims) (w : Vertex) (o : Option Vertex) → o ≡ Some w → in_domain d w ≡ false → option_and_then (λ u. if in_domain d u then Some u else None) o ≡ None
absent d w o e f = ap (option_and_then (λ u. if in_domain d u then Some u else None)) e ∙ ap (λ b. if b then Some w else None) f

whole : (h y x : ℤ) (a b c : ℕ) → Some a ≡ natural_of h → Some b ≡ natural_of y → Some c ≡ natural_of x → vertex_of_ints h y x ≡ Some (vertex a b c)
whole (pos h) (pos y) (pos x) a b c e f g = cc
whole (pos h) (pos y) (negsuc x) a b c e f g = cc
whole (pos h) (negsuc y) x a b c e f g = cc
whole (negsuc h) y x a b c e f g = cc

pub returns-else-in_domain-clause-vertex : goal.returns-else-in_domain-clause-vertex
unfolding neighbour
returns-else-in_domain-clause-vertex c =
    let eh : Some c.in_ok-h.h ≡ natural_of (pos c.args.v.h +ℤ (if c.args.up then (step c.args.dir).h else neg_ℤ (step c.args.dir).h)) = search rules in
    let ey : Some c.in_ok-y.y ≡ natural_of (pos c.args.v.y +ℤ (if c.args.up then (step c.args.dir).y else neg_ℤ (step c.args.dir).y)) = search rules in
    let ex : Some c.in_ok-x.x ≡ natural_of (pos c.args.v.x +ℤ (if c.args.up then (step c.args.dir).x else neg_ℤ (step c.args.dir).x)) = search rules in
    sym (absent c.args.dims (vertex c.in_ok-h.h c.in_ok-y.y c.in_ok-x.x) (moved c.args.v (directed c.args.up (step c.args.dir))) (whole _ _ _ _ _ _ eh ey ex) (sym c.in_domain.ensures ∙ c.if-in_domain.false))

pub returns-then-in_domain-clause-domain : goal.returns-then-in_domain-clause-domain
returns-then-in_domain-clause-domain c = domain_out c.args.dims (vertex c.in_ok-h.h c.in_ok-y.y c.in_ok-x.x) (sym c.in_domain.ensures ∙ c.if-in_domain.true)
