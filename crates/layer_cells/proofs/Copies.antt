-- The words that seats set are the codes of the states.
use Rattle.std.proofs.Common.{◌≡◌, ℕ, ◌+◌, ◌<◌, List, [], ◌∷◌, zero, suc, length, get_or, set, map, sym, true, ◌∙◌, subst, arith}
use Rattle.std.specs.Prelude.{slice_index}
use Rattle.std.proofs.lemmas.List.{get_or-set_same, get_or-set_other}
use mathlib.Core.Logic.{dite}
use mathlib.Core.Option.{some, some-ne-none, some-injective}
use lib.ListN.{get_elem?}
use native.Mathlib.Decide.{ℕ_discrete}
use Rattle.atomic_table.specs.Table.{Final, Seen}
use Rattle.definitions.specs.Lattice.{vertices}
use Rattle.definitions.specs.States.{code, state_of}
use Rattle.list_words.specs.Words.{has}
use Rattle.snap_rule.proofs.Places.{all_filled}
use Rattle.layer_cells.specs.declared.rule.View.{View}
use Rattle.layer_cells.specs.Seats.{Subject}
use Rattle.layer_cells.specs.Rule.{wanted, vertex_words, layer_words, KeepsRule}
use Rattle.layer_cells.proofs.Steps.{ends}

pub get_or_of : (l : List ℕ) (i a : ℕ) → get_elem? l i ≡ some a → get_or l i 0 ≡ a
get_or_of [] i a e = absurd (some-ne-none a (sym e))
get_or_of (x ∷ xs) zero a e = some-injective x a e
get_or_of (x ∷ xs) (suc i) a e = get_or_of xs i a e

-- one word more is copied
pub copied : (room words : List ℕ) (k n : ℕ) → k < length room → get_elem? words k ≡ some n → ((j : ℕ) → j < k → get_or room j 0 ≡ get_or words j 0)
    → (j : ℕ) → j < k + 1 → get_or (set room k n) j 0 ≡ get_or words j 0
copied room words k n inside at before j below = dite (ℕ_discrete j k)
    (λ same. subst (λ (z : ℕ). get_or (set room k n) z 0 ≡ get_or words z 0) (sym same) (get_or-set_same room k n 0 inside ∙ sym (get_or_of words k n at)))
    (λ other. get_or-set_other room k j n 0 other ∙ before j (let o = other in omega arith))

wanted_all : (a : Subject) (xs : List ℕ) → length xs ≡ vertex_words a → ((k : ℕ) → k < vertex_words a → get_or xs k 0 ≡ wanted a k) → xs ≡ map (λ v. code (state_of a.field a.shares v)) (vertices a.field.dims)
unfolding wanted
wanted_all a xs len each = all_filled a.field.dims (λ v. code (state_of a.field a.shares v)) xs len each

-- at the end the words are the codes of all vertices
pub closes : (a : Subject) (id : ℕ) (v : View) (words slots codes : List ℕ) → Final (Seen (KeepsRule a) id v) words slots → ((h : ℕ) → h < layer_words a → has h v.seen ≡ true)
    → length codes ≡ vertex_words a → ((k : ℕ) → k < vertex_words a → slice_index codes k ≡ slice_index words k)
    → codes ≡ map (λ v. code (state_of a.field a.shares v)) (vertices a.field.dims)
closes a id v words slots codes last all len same = let e = ends a id v words slots last all in wanted_all a codes len (λ k lt. same k lt ∙ e.1 k lt)
