-- The words of vertices.
use Rattle.std.proofs.Common.{◌≡◌, ℕ, ◌<◌, sym, ap, ◌∙◌, subst, arith}
use Rattle.definitions.specs.declared.Vertex.{Vertex}
use Rattle.definitions.specs.Lattice.{InDomain, id, vertex_at}
use Rattle.definitions.specs.States.{IsState, code, state_of}
use Rattle.definitions.specs.declared.State.{State}
use Rattle.snap_rule.specs.Codes.{state_of_code}
use Rattle.snap_rule.proofs.Codes.{decoded}
use Rattle.lattice_laws.proofs.Vertices.{vertex_at-id}
use Rattle.slab_core.proofs.Layers.{IsOfLayer, of_layer}
use Rattle.layer_cells.specs.Seats.{Subject}
use Rattle.layer_cells.specs.Rule.{wanted, vertex_words}

pub word_within : (a : Subject) (v : Vertex) (n : ℕ) → InDomain a.field.dims v → n ≡ id a.field.dims v → n < vertex_words a
word_within a v n inside is = let w = (vertex_at-id a.field.dims v inside).0 in omega arith

pub wanted_at : (a : Subject) (v : Vertex) (n : ℕ) → InDomain a.field.dims v → n ≡ id a.field.dims v → wanted a n ≡ code (state_of a.field a.shares v)
unfolding wanted
wanted_at a v n inside is = ap (λ (m : ℕ). code (state_of a.field a.shares (vertex_at a.field.dims m))) is ∙ ap (λ (u : Vertex). code (state_of a.field a.shares u)) (vertex_at-id a.field.dims v inside).1

pub code_wanted : (a : Subject) (v : Vertex) (n c : ℕ) → InDomain a.field.dims v → n ≡ id a.field.dims v → c ≡ code (state_of a.field a.shares v) → c ≡ wanted a n
code_wanted a v n c inside is e = e ∙ sym (wanted_at a v n inside is)

-- a vertex's id is in its layer
pub word_in_layer : (a : Subject) (v : Vertex) (n : ℕ) → InDomain a.field.dims v → n ≡ id a.field.dims v → IsOfLayer a.field.dims n v.h
word_in_layer a v n inside is =
    let k = vertex_at-id a.field.dims v inside in
    let e : vertex_at a.field.dims n ≡ v = ap (vertex_at a.field.dims) is ∙ k.1 in
    subst (λ (u : Vertex). IsOfLayer a.field.dims n u.h) e (of_layer a.field.dims n (omega (arith, k.0)))

-- a code is that of one state
pub same_codes : (s t : State) → IsState s → IsState t → code s ≡ code t → s ≡ t
same_codes s t p q e = sym (decoded s p).0 ∙ ap state_of_code e ∙ (decoded t q).0
