-- What tests choose, and tests that agree.
use Rattle.std.proofs.Common.{◌≡◌, ℕ, Bool, true, false, if◌then◌else◌, true≢false, refl, sym}

-- the choice of a test
pub when_true : (b : Bool) (m n : ℕ) → b ≡ true → (if b then m else n) ≡ m
when_true true m n e = refl
when_true false m n e = absurd (true≢false (sym e))

pub when_false : (b : Bool) (m n : ℕ) → b ≡ false → (if b then m else n) ≡ n
when_false true m n e = absurd (true≢false e)
when_false false m n e = refl

-- two tests that imply each other
pub same_tests : (a b : Bool) → (a ≡ true → b ≡ true) → (b ≡ true → a ≡ true) → a ≡ b
same_tests true b f g = sym (f refl)
same_tests false true f g = g refl
same_tests false false f g = refl
