-- The rule of the counter: what holds of its word and of all seats between any two steps, and what each step does to a seat.
use Rattle.std.specs.Prelude.{◌≡◌, ℕ, ◌+◌, ◌-◌, ◌^◌, ◌<◌, ◌≤◌, nat_lt, min, List, [], ◌∷◌, ◌++◌, flat_map, sum_by, All, true, false, ◌||◌, if◌then◌else◌}
use Rattle.atomic_table.specs.Table.{State, Step, Me}
use Rattle.slab_claims.specs.declared.rule.View.{View}
use Rattle.list_words.specs.Words.{EachOnce}

-- the numbers that all seats drew
abbrev pub all_drawn : List View → List ℕ
all_drawn views = flat_map (λ v. v.drawn) views

-- the share of a seat that is done
abbrev pub done_share : View → ℕ
done_share v = if v.done then v.share else 0

-- Of one seat: it is of this table, and done only where the number to be drawn next is past the slabs. One with no share was joined to another, and has nothing.
pub record Fits (slabs seats next : ℕ) (v : View) : Type 0 where
  pub of : 0 < v.share → (v.slabs ≡ slabs) × (v.seats ≡ seats)
  pub past : v.done ≡ true → slabs < next
  pub nothing : v.share ≡ 0 → v.drawn ≡ []

-- Of all seats: together they drew each number below `next` and the slabs, once; their shares add up; and `next` is past the slabs by no more than those who are done can have moved it.
pub record FitTogether (slabs seats next : ℕ) (views : List View) : Type 0 where
  pub once : EachOnce (min next slabs) (all_drawn views)
  pub shares : sum_by (λ v. v.share) views ≡ seats
  pub near : next ≤ slabs + sum_by done_share views
  pub each : All (Fits slabs seats next) views

-- The rule: the one word is the number to be drawn next. The limits keep it from wrapping.
pub record KeepsRule (slabs seats : ℕ) (s : State ℕ View) : Type 0 where
  pub next : ℕ
  pub word : s.words ≡ next ∷ []
  pub limits : (slabs < 2 ^ 32) × (seats < 2 ^ 32)
  pub fit : FitTogether slabs seats next s.views

-- the seat that the table begins with
abbrev pub first_view : ℕ → ℕ → View
first_view slabs seats = record { slabs = slabs; seats = seats; share = seats; drawn = []; done = false }

-- a seat after it drew n
abbrev pub after_draw : View → ℕ → View
after_draw v n = if nat_lt n v.slabs then record v { drawn = v.drawn ++ n ∷ [] } else record v { done = true }

-- a draw of n: it is above all that the seat drew before
abbrev pub Draws : Step ℕ → Me ℕ View → ℕ → Me ℕ View → Type 0
Draws s old n new = All (λ x. x < n) old.0.drawn × (new ≡ (after_draw old.0 n, old.1))

-- a seat that gave one share away, and the one that has it
abbrev pub one_less : View → View
one_less v = record v { share = v.share - 1 }

abbrev pub one_share : View → View
one_share v = record v { share = 1; drawn = [] }

-- two seats as one, and what is left of the other
abbrev pub joint : View → View → View
joint v w = record v { share = v.share + w.share; drawn = v.drawn ++ w.drawn; done = v.done || w.done }

abbrev pub spent : View
spent = record { slabs = 0; seats = 0; share = 0; drawn = []; done = false }
