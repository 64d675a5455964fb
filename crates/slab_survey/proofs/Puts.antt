-- A seat that puts one vertex after another.
use Rattle.std.proofs.Common.{◌≡◌, ◌≢◌, ℕ, ◌+◌, ◌<◌, ◌≤◌, List, true, refl, sym, ap, ◌∙◌, subst, ⊎_elim, arith}
use Rattle.std.proofs.lemmas.Bool.{cases_eq, cases_lt}
use Rattle.list_words.specs.Words.{has, joined}
use Rattle.list_words.proofs.Lists.{has_kept, has_new}
use Rattle.layer_cells.specs.Seats.{CellSeatValue}
use Rattle.layer_cells.specs.Answers.{seat_put}
use Rattle.slab_survey.specs.Layers.{HasPut}

pub put_none : (a b : ℕ) (v : CellSeatValue) → b ≤ a → HasPut a b v v
put_none a b v le = record { rest = refl; kept = λ id e. e; ids = λ id lo hi. absurd (omega arith) }

pub put_one : (a b c n : ℕ) (v w x : CellSeatValue) → HasPut a b v w → x ≡ seat_put w n → n ≡ b → c ≡ b + 1 → HasPut a c v x
put_one a b c n v w x p e at end =
    let here : x.put ≡ joined n w.put = ap (λ (s : CellSeatValue). s.put) e in
    let more : (id : ℕ) → has id w.put ≡ true → has id x.put ≡ true = λ id k. ap (has id) here ∙ has_kept id n w.put k in
    record {
      rest = e ∙ ap (λ (s : CellSeatValue). record s { put = joined n w.put }) p.rest ∙ ap (λ (l : List ℕ). record v { put = l }) (sym here);
      kept = λ id k. more id (p.kept id k);
      ids = λ id lo hi. ⊎_elim
          (λ (s : id ≡ n). ap (has id) here ∙ subst (λ (m : ℕ). has m (joined n w.put) ≡ true) (sym s) (has_new n w.put))
          (λ (o : id ≢ n). more id (p.ids id lo (let ne = o in omega arith)))
          (cases_eq id n);
    }

pub put_both : (a b c d : ℕ) (v w x : CellSeatValue) → HasPut a b v w → HasPut c d w x → c ≡ b → HasPut a d v x
put_both a b c d v w x p q seam = record {
  rest = q.rest ∙ ap (λ (s : CellSeatValue). record s { put = x.put }) p.rest;
  kept = λ id k. q.kept id (p.kept id k);
  ids = λ id lo hi. ⊎_elim (λ (l : id < b). q.kept id (p.ids id lo l)) (λ (g : b ≤ id). q.ids id (omega arith) hi) (cases_lt id b);
}

pub put_same : (a b c d : ℕ) (v w : CellSeatValue) → a ≡ c → b ≡ d → HasPut a b v w → HasPut c d v w
put_same a b c d v w e f p = subst (λ (q : ℕ × ℕ). HasPut q.0 q.1 v w) (λ i. (e i, f i)) p
