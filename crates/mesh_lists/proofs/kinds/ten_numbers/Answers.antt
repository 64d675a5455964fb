use Rattle.std.proofs.Common.{◌≡◌, ◌<◌, ℕ, ◌∷◌, [], ◌∙◌, arith, length, subst, sym, rules}
use Rattle.std.specs.Prelude.{slice_index}
use Rattle.mesh_lists.proofs.PiecesOfKinds.{direction_below, own_number}
use Rattle.mesh_lists.proofs.kinds.ten_numbers.Goals as goal

pub returns : goal.returns
returns c = λ n ids p q r s.
    let ds = c.args.directions in
    let six : length c.args.directions ≡ 6 = search rules in
    let below : (k : ℕ) → k < 6 → slice_index c.args.directions k < 8 = λ k lt. direction_below c.args.directions k c.requires.small (subst (λ (m : ℕ). k < m) (sym six) lt) in
    λ i. own_number n (slice_index ids 0) c.args.a p i
    ∷ (c.number.ensures ∙ sym (p.number (slice_index ds 0) (below 0 (omega arith)))) i
    ∷ (c.number-2.ensures ∙ sym (p.number (slice_index ds 1) (below 1 (omega arith)))) i
    ∷ (c.number-3.ensures ∙ sym (p.number (slice_index ds 2) (below 2 (omega arith)))) i
    ∷ own_number n (slice_index ids 1) c.args.b q i
    ∷ (c.number-4.ensures ∙ sym (q.number (slice_index ds 3) (below 3 (omega arith)))) i
    ∷ (c.number-5.ensures ∙ sym (q.number (slice_index ds 4) (below 4 (omega arith)))) i
    ∷ own_number n (slice_index ids 2) c.args.c r i
    ∷ (c.number-6.ensures ∙ sym (r.number (slice_index ds 5) (below 5 (omega arith)))) i
    ∷ own_number n (slice_index ids 3) c.args.d s i
    ∷ []
