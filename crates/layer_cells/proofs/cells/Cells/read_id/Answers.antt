use Rattle.std.proofs.Common.{◌≡◌, ◌≤◌, ◌<◌, ◌+◌, ℕ, true, length, sym, ap, ◌∙◌, subst, arith}
use Rattle.definitions.specs.declared.Dims.{Dims}
use Rattle.definitions.specs.Lattice.{InDomain, id, vertices}
use Rattle.layer_cells.specs.Seats.{Subject, CellsValue, CellSeatValue}
use mathlib.Core.Option.{none}
use Rattle.atomic_table.specs.Table.{Me, step}
use Rattle.definitions.specs.declared.Vertex.{Vertex}
use Rattle.definitions.specs.Layout.{layer_len, layer_start}
use Rattle.definitions.specs.States.{code, state_of}
use Rattle.snap_laws.proofs.StatesAre.{states_are_states}
use Rattle.list_words.specs.Words.{has}
use Rattle.layer_cells.specs.declared.rule.View.{View}
use Rattle.layer_cells.specs.Rule.{subject, vertex_words, wanted, Reads}
use Rattle.layer_cells.proofs.Vertices.{same_codes, wanted_at, word_in_layer, word_within}
use Rattle.layer_cells.proofs.Steps.{reads_as}
use Rattle.layer_cells.proofs.cells.Cells.read_id.Goals as goal

pub load-code-requires : goal.load-code-requires
load-code-requires c =
    let of = ap (λ (s : CellSeatValue). s.of) c.seat.view_is ∙ c.requires.table ∙ sym c.self.view_is in
    let is = ap (λ (w : CellsValue). w.subject) c.self.view_is in
    let a : Subject = c.args.self.now.subject in
    let below : c.args.id < vertex_words a = word_within a c.args._v c.args.id c.requires.domain c.requires.id in
    let within : c.args.id < length (vertices c.self.inside.dims) = subst (λ (d : Dims). c.args.id < length (vertices d)) (ap (λ (b : Subject). b.field.dims) (sym is) ∙ c.self.invariant.0) below in
    let words = c.self.invariant.2 in
    (ap (λ (w : CellsValue). w.id) of, omega arith, reads_as _ _ _ _ c.seat.inside.seat.me (ap (λ (w : CellsValue). w.subject) of) c.seat.invariant.0)

read_word : (a : Subject) (v : Vertex) (n word : ℕ) (me new : Me ℕ View) (slots : ℕ) → InDomain a.field.dims v → n ≡ id a.field.dims v → subject me.0 ≡ a → has v.h me.0.seen ≡ true → Reads (step slots n 0 0 none) me word new → word ≡ code (state_of a.field a.shares v)
read_word a v n word me new slots inside is of known r =
    let l = word_in_layer a v n inside is in
    subst (λ (b : Subject). layer_start b.field.dims v.h ≤ n → n < layer_start b.field.dims v.h + layer_len b.field.dims v.h → word ≡ wanted b n) of (r.1 v.h known) l.from l.to ∙ wanted_at a v n inside is

pub unreachable-requires : goal.unreachable-requires
unreachable-requires c =
    let of = ap (λ (s : CellSeatValue). s.of.subject) c.seat.view_is ∙ ap (λ (w : CellsValue). w.subject) c.requires.table in
    let known = ap (λ (s : CellSeatValue). has c.args._v.h s.seen) c.seat.view_is ∙ c.requires.known in
    let a : Subject = c.args.self.now.subject in
    let word = read_word a c.args._v c.args.id c.load-code.result c.seat.inside.seat.me c.load-code.new.seat.me c.self.inside.table.shared.table_id.slots c.requires.domain c.requires.id of known c.load-code.ensures.2 in
    c.in_default.ensures (state_of a.field a.shares c.args._v) (states_are_states a.field a.shares c.args._v c.requires.domain) (sym word)

pub returns-clause-state : goal.returns-clause-state
returns-clause-state c =
    let of = ap (λ (s : CellSeatValue). s.of.subject) c.seat.view_is ∙ ap (λ (w : CellsValue). w.subject) c.requires.table in
    let known = ap (λ (s : CellSeatValue). has c.args._v.h s.seen) c.seat.view_is ∙ c.requires.known in
    let a : Subject = c.args.self.now.subject in
    let word = read_word a c.args._v c.args.id c.load-code.result c.seat.inside.seat.me c.load-code.new.seat.me c.self.inside.table.shared.table_id.slots c.requires.domain c.requires.id of known c.load-code.ensures.2 in
    let got = c.in-Some.ensures in
    same_codes c.in-Some.state (state_of a.field a.shares c.args._v) got.0 (states_are_states a.field a.shares c.args._v c.requires.domain) (got.1 ∙ word)
