-- The shares and the ledgers of workers.
use Rattle.std.proofs.Common.{◌≡◌, ℕ, ◌≤◌, List, [], ◌∷◌, ◌++◌, All, length, length-append, map, false, ap, ◌∙◌, subst, arith}
use Rattle.std.proofs.lemmas.List.{get_or_append_left, reverse-append}
use Rattle.std.proofs.Math.Seq.{get_or-append_seam}
use Rattle.definitions.specs.declared.Dims.{Dims}
use Rattle.definitions.specs.Lattice.{layers}
use Rattle.slab_claims.specs.Seats.{ClaimsValue, SeatValue}
use Rattle.layer_cells.specs.Seats.{CellsValue, CellSeatValue}
use Rattle.slab_survey.specs.Workers.{WorkerValue}
use Rattle.survey_workers.specs.Going.{ledgers_back, made_back, IsReady}

pub last_of_all : {X : Type 0} (P : X → Type 0) (xs : List X) (x : X) → All P (xs ++ x ∷ []) → P x
last_of_all P xs x all = subst P (get_or-append_seam xs x [] x) (all (length xs) x (let l = length-append xs (x ∷ []) in omega arith))

pub rest_of_all : {X : Type 0} (P : X → Type 0) (xs : List X) (x : X) → All P (xs ++ x ∷ []) → All P xs
rest_of_all P xs x all = λ k d lt. subst P (get_or_append_left xs (x ∷ []) d k lt) (all k d (let l = length-append xs (x ∷ []) in omega arith))

-- from the last worker on
pub ledgers_push : {L : Type 0} (ws : List (WorkerValue L)) (w : WorkerValue L) → ledgers_back (ws ++ w ∷ []) ≡ w.ledger ∷ ledgers_back ws
ledgers_push {L} ws w = ap (map (λ (v : WorkerValue L). v.ledger)) (reverse-append ws (w ∷ []))

pub made_push : {L : Type 0} (ws : List (WorkerValue L)) (w : WorkerValue L) → made_back (ws ++ w ∷ []) ≡ w.cells.made ∷ made_back ws
made_push {L} ws w = ap (map (λ (v : WorkerValue L). v.cells.made)) (reverse-append ws (w ∷ []))

pub is_ready : {L : Type 0} (d : Dims) (a : ClaimsValue) (b : CellsValue) (w : WorkerValue L) (c : SeatValue) (s : CellSeatValue) (room n : ℕ) → w.claims ≡ c → w.cells ≡ s → w.counts ≡ [] → room ≤ w.room → room ≡ layers d
    → c ≡ record { of = a; share = n; drawn = []; done = false } → s ≡ record { of = b; seen = []; down = []; put = []; made = [] } → IsReady d a b w
is_ready d a b w c s room n claims cells counts wide is claim cell =
    let e = claims ∙ claim in
    let f = cells ∙ cell in
    record {
      of = ap (λ (x : SeatValue). x.of) e;
      cells_of = ap (λ (x : CellSeatValue). x.of) f;
      not_done = ap (λ (x : SeatValue). x.done) e;
      none_drawn = ap (λ (x : SeatValue). x.drawn) e;
      none_made = ap (λ (x : CellSeatValue). x.made) f;
      no_counts = counts;
      room = omega arith;
    }
