use Rattle.std.proofs.Common.{◌≡◌, ◌<◌, ℕ, true, sym, ap, ◌∙◌, subst, length, map}
use Rattle.definitions.specs.declared.Dims.{Dims}
use Rattle.definitions.specs.Lattice.{IsDims, vertices}
use Rattle.definitions.specs.States.{code, state_of, states}
use Rattle.list_words.specs.Words.{has}
use Rattle.snap_rule.specs.Codes.{AreCodes, StateList}
use Rattle.snap_rule.proofs.Codes.{are_codes, states_decoded}
use Rattle.layer_cells.specs.declared.rule.View.{View}
use Rattle.layer_cells.specs.Seats.{Subject, CellsValue, CellSeatValue}
use Rattle.layer_cells.specs.Rule.{subject, layer_words, vertex_words}
use Rattle.layer_cells.proofs.Copies.{closes}
use Rattle.layer_cells.proofs.cells.Cells.close.Goals as goal
use Rattle.layer_cells.proofs.cells.Cells.close.Goals.{After-free}

abbrev own : After-free → Subject
own c = record { field = c.self.inside.table.shared.key.0.value; shares = c.self.inside.table.shared.key.1 }

words_are : (c : After-free) → c.taken-codes.result.items ≡ map (λ v. code (state_of (own c).field (own c).shares v)) (vertices (own c).field.dims)
words_are c =
    let v : View = c.seat.inside.seat.me.0 in
    let is : own c ≡ c.args.self.subject = ap (λ (w : CellsValue). w.subject) c.self.view_is in
    let all : (h : ℕ) → h < layer_words (own c) → has h v.seen ≡ true = λ h b. ap (λ (s : CellSeatValue). has h s.seen) c.seat.view_is ∙ c.requires.all h (subst (λ (a : Subject). h < layer_words a) is b) in
    let n : c.vertex_count.result ≡ vertex_words (own c) = c.vertex_count.ensures.count ∙ ap (λ (d : Dims). length (vertices d)) (sym c.self.invariant.0) in
    closes (own c) _ v _ _ c.taken-codes.result.items c.close_with-closed.ensures.values.2 all (c.taken-codes.ensures.len ∙ n) (λ k b. c.taken-codes.ensures.words k (subst (λ (m : ℕ). k < m) (sym n) b))

pub of_codes-states-requires : goal.of_codes-states-requires
of_codes-states-requires c =
    subst (λ (d : Dims). AreCodes d c.taken-codes.result.items) c.self.invariant.0 (are_codes (own c).field (own c).shares (subst IsDims (sym c.self.invariant.0) c.self.invariant.1) c.taken-codes.result.items (words_are c))

pub invariant_of-result : goal.invariant_of-result
invariant_of-result c =
    let b = (goal.at.invariant_of-result c).After-free in
    let of : subject c.seat.inside.seat.me.0 ≡ own b = ap (λ (s : CellSeatValue). s.of.subject) c.seat.view_is ∙ ap (λ (w : CellsValue). w.subject) (c.requires.table ∙ sym c.self.view_is) in
    let last : subject c.of-last.result.value.me.0 ≡ own b = ap (λ s. subject s.me.0) c.of-last.ensures ∙ of in
    let dims : c.of_codes-states.result.dims ≡ (own b).field.dims = ap (λ (s : StateList). s.dims) c.of_codes-states.ensures ∙ sym c.self.invariant.0 in
    let all : c.of_codes-states.result.states ≡ states (own b).field (own b).shares = ap (λ (s : StateList). s.states) c.of_codes-states.ensures ∙ states_decoded (own b).field (own b).shares c.taken-codes.result.items (words_are b) in
    (dims ∙ ap (λ (a : Subject). a.field.dims) (sym last), all ∙ ap (λ (a : Subject). states a.field a.shares) (sym last))
