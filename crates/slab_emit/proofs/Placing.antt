-- Places that are filled one after another.
use Rattle.std.proofs.Common.{◌≡◌, ◌⊎◌, ℕ, ◌+◌, ◌<◌, arith, sym, ◌∙◌, ap, subst, inl, inr, List, [], ◌∷◌, ◌++◌, length, length-append, get_or, set, Option, Some, None, All}
use Rattle.std.specs.Option.{ForSome}
use Rattle.std.proofs.lemmas.List.{get_or-append-add, get_or-set_other, get_or-set_same, get_or_append_left, length-set}
use Rattle.std.specs.Prelude.{IfOk, Result}
use Rattle.std.proofs.lemmas.Bool.{cases_eq}
use Rattle.st_base.specs.declared.NoMemory.{NoMemory}
use Rattle.slab_emit.specs.declared.lines.Lines.{Lines}
use Rattle.slab_emit.specs.declared.part.Part.{Part}
use Rattle.slab_emit.specs.Parts.{AreParts, IsPart}
use Rattle.slab_emit.specs.Sources.{SourceValue}
use Rattle.slab_emit.specs.Workers.{FitPlaces, IsFilled}

-- what holds of what was made, if something was
abbrev Fit : Lines → SourceValue → ℕ → Option (Result Part NoMemory) → Type 0
Fit lines s j place = ForSome place (λ made. IfOk made (IsPart lines s j))

-- one more place is filled
pub fit_set : (lines : Lines) (s : SourceValue) (first at : ℕ) (p : Result Part NoMemory) (places : List (Option (Result Part NoMemory))) → at < length places → IfOk p (IsPart lines s (first + at)) → FitPlaces lines s first places → FitPlaces lines s first (set places at (Some p))
fit_set lines s first at p places lt h fit = λ k d below. elim (cases_eq k at) [
  | inl e ↦
      subst (Fit lines s (first + k)) (sym (ap (λ n. get_or (set places at (Some p)) n d) e ∙ get_or-set_same places at (Some p) d lt))
      (λ q is. subst (λ (r : Result Part NoMemory). IfOk r (IsPart lines s (first + k))) (some_same p q is) (subst (λ n. IfOk p (IsPart lines s (first + n))) (sym e) h))
  | inr ne ↦ subst (Fit lines s (first + k)) (sym (get_or-set_other places at k (Some p) d ne)) (fit k d (let l = length-set places at (Some p) in omega arith))
]
  where
    some_same : (p q : Result Part NoMemory) → Some p ≡ Some q → p ≡ q
    some_same p q e = cc

pub filled_here : (at : ℕ) (p : Result Part NoMemory) (places : List (Option (Result Part NoMemory))) → at < length places → IsFilled (set places at (Some p)) at
filled_here at p places lt = λ d below e. some_is_not p (sym (get_or-set_same places at (Some p) d lt) ∙ e)
  where
    some_is_not : (p : Result Part NoMemory) → Some p ≡ None → ⊥
    some_is_not p e = cc

-- those that were filled still are
pub filled_still : (at k : ℕ) (p : Result Part NoMemory) (places : List (Option (Result Part NoMemory))) → at < length places → IsFilled places k → IsFilled (set places at (Some p)) k
filled_still at k p places lt h = elim (cases_eq k at) [
  | inl e ↦ subst (IsFilled (set places at (Some p))) (sym e) (filled_here at p places lt)
  | inr ne ↦ λ d below e. h d (let l = length-set places at (Some p) in omega arith) (sym (get_or-set_other places at k (Some p) d ne) ∙ e)
]

pub no_parts : (lines : Lines) (s : SourceValue) (first : ℕ) → AreParts lines s first []
no_parts lines s first = record { each = λ k d lt. absurd (omega arith) }

-- one more part
pub parts_more : (lines : Lines) (s : SourceValue) (first : ℕ) (ps : List Part) (p : Part) → AreParts lines s first ps → IsPart lines s (first + length ps) p → AreParts lines s first (ps ++ p ∷ [])
parts_more lines s first ps p h is = record {
  each = λ k d lt. elim (before_or_last k (length ps) (let l = length-append ps (p ∷ []) in omega arith)) [
    | inl b ↦ subst (IsPart lines s (first + k)) (sym (get_or_append_left ps (p ∷ []) d k b)) (h.each k d b)
    | inr e ↦
        subst (IsPart lines s (first + k)) (sym (ap (λ n. get_or (ps ++ p ∷ []) n d) (e ∙ plus_none (length ps)) ∙ get_or-append-add ps (p ∷ []) 0 d))
        (subst (λ n. IsPart lines s (first + n) p) (sym e) is)
  ];
}
  where
    before_or_last : (k n : ℕ) → k < n + 1 → (k < n) ⊎ (k ≡ n)
    before_or_last k n lt = grind arith

    plus_none : (n : ℕ) → n ≡ n + 0
    plus_none n = omega arith

-- empty places
pub fit_none : (lines : Lines) (s : SourceValue) (first : ℕ) (places : List (Option (Result Part NoMemory))) → All (λ p. p ≡ None) places → FitPlaces lines s first places
fit_none lines s first places h = λ k d lt. subst (Fit lines s (first + k)) (sym (h k d lt)) (λ x e. cc)
