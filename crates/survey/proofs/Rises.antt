-- How the ledgers rise together.
use Rattle.std.proofs.Common.{◌≡◌, ℕ, suc, ◌+◌, ◌-◌, ◌<◌, List, [], ◌∷◌, get_or, length, map, refl, sym, ap, ◌∙◌, subst, arith}
use Rattle.std.specs.Prelude.{reverse}
use Rattle.std.specs.List.{concat, sum_by}
use Rattle.std.proofs.lemmas.List.{get_or-map, get_or-reverse, length-map, length-reverse}
use Rattle.std.proofs.lemmas.List.Sums.{sum_by-append, sum_by-cons}
use Rattle.definitions.specs.declared.Dims.{Dims}
use Rattle.definitions.specs.Layout.{layer_len}
use Rattle.slab_survey.specs.Workers.{WorkerValue}
use Rattle.slab_survey.specs.Layers.{vertices_in}
use Rattle.survey_workers.specs.Going.{ledgers_back, made_back}
use Rattle.survey.specs.Rises.{Rise}

-- an element of what a list in reverse is mapped to
at_back : {L X : Type 0} (f : WorkerValue L → X) (ws : List (WorkerValue L)) (k : ℕ) (w : WorkerValue L) (e : X) → k < length ws → get_or (map f (reverse ws)) k e ≡ f (get_or ws (length ws - 1 - k) w)
at_back f ws k w e lt =
    let l = length-reverse ws in
    get_or-map f (reverse ws) k w e (omega arith) ∙ ap f (get_or-reverse ws k w lt)

pub rises : {L : Type 0} (count : L → ℕ) (d : Dims) (vs ws : List (WorkerValue L)) (before after : List L) (made : List ℕ) → ledgers_back vs ≡ before → after ≡ ledgers_back ws → made ≡ concat (made_back ws) → length ws ≡ length vs
    → ((i : ℕ) (w : WorkerValue L) → i < length vs → count (get_or ws i w).ledger ≡ count (get_or vs i w).ledger + vertices_in d (get_or ws i w).cells.made)
    → Rise count d before after made
rises {L} count d vs ws before after made first last whole same each = record {
  parts = made_back ws;
  whole = sym whole;
  workers = long_made ws ∙ same ∙ sym (long_ledgers vs) ∙ ap length first;
  ledgers = ap length last ∙ long_ledgers ws ∙ same ∙ sym (long_ledgers vs) ∙ ap length first;
  each = λ k l lt. subst (λ (b : List L). count (get_or after k l) ≡ count (get_or b k l) + vertices_in d (get_or (made_back ws) k [])) first (subst (λ (x : List L). count (get_or x k l) ≡ count (get_or (ledgers_back vs) k l) + vertices_in d (get_or (made_back ws) k [])) (sym last)
      (at vs ws k l same each (let e : length (ledgers_back vs) ≡ length before = ap length first in let o = long_ledgers vs in omega arith)));
}
  where
    long_ledgers : (us : List (WorkerValue L)) → length (ledgers_back us) ≡ length us
    long_ledgers us = length-map (reverse us) (λ (w : WorkerValue L). w.ledger) ∙ length-reverse us

    long_made : (us : List (WorkerValue L)) → length (made_back us) ≡ length us
    long_made us = length-map (reverse us) (λ (w : WorkerValue L). w.cells.made) ∙ length-reverse us

    at : (vs ws : List (WorkerValue L)) (k : ℕ) (l : L) → length ws ≡ length vs → ((i : ℕ) (w : WorkerValue L) → i < length vs → count (get_or ws i w).ledger ≡ count (get_or vs i w).ledger + vertices_in d (get_or ws i w).cells.made) → k < length vs
        → count (get_or (ledgers_back ws) k l) ≡ count (get_or (ledgers_back vs) k l) + vertices_in d (get_or (made_back ws) k [])
    at [] ws k l same each lt = absurd (omega arith)
    at (u ∷ us) ws k l same each lt =
        let n : ℕ = length (u ∷ us) - 1 - k in
        let e = each n u (omega arith) in
        let m : length ws - 1 - k ≡ length (u ∷ us) - 1 - k = omega arith in
        let x = at_back (λ (w : WorkerValue L). w.ledger) ws k u l (omega arith) ∙ ap (λ (j : ℕ). (get_or ws j u).ledger) m in
        let y = at_back (λ (w : WorkerValue L). w.ledger) (u ∷ us) k u l lt in
        let z = at_back (λ (w : WorkerValue L). w.cells.made) ws k u [] (omega arith) ∙ ap (λ (j : ℕ). (get_or ws j u).cells.made) m in
        ap count x ∙ e ∙ (λ i. count (sym y i) + vertices_in d (sym z i))

-- all together
pub together : {L : Type 0} (count : L → ℕ) (d : Dims) (before after : List L) (made : List ℕ) → Rise count d before after made → sum_by count after ≡ sum_by count before + vertices_in d made
together {L} count d before after made r = all before after r.parts r.workers r.ledgers r.each ∙ ap (λ (l : List ℕ). sum_by count before + vertices_in d l) r.whole
  where
    all : (bs xs : List L) (ps : List (List ℕ)) → length ps ≡ length bs → length xs ≡ length bs → ((k : ℕ) (l : L) → k < length bs → count (get_or xs k l) ≡ count (get_or bs k l) + vertices_in d (get_or ps k []))
        → sum_by count xs ≡ sum_by count bs + vertices_in d (concat ps)
    all [] [] [] e f each = refl
    all [] [] (p ∷ ps) e f each = absurd (omega arith)
    all [] (x ∷ xs) ps e f each = absurd (omega arith)
    all (b ∷ bs) [] ps e f each = absurd (omega arith)
    all (b ∷ bs) (x ∷ xs) [] e f each = absurd (omega arith)
    all (b ∷ bs) (x ∷ xs) (p ∷ ps) e f each =
        let h = all bs xs ps (omega arith) (omega arith) (λ k l lt. each (suc k) l (omega arith)) in
        let o = each 0 b (omega arith) in
        let m = sum_by-cons count x xs in
        let n = sum_by-cons count b bs in
        let s = sum_by-append (layer_len d) p (concat ps) in
        omega arith
