use Rattle.mesh_probe.proofs.SmallPlaces.{back}
use Rattle.mesh_probe.specs.Near.{Reaches}
use Rattle.std.proofs.Common.{◌≡◌, ℕ, ℤ, sym, subst, ◌+◌, ◌%◌, ◌≤◌, ◌⊎◌, inl, inr, arith}
use Rattle.mesh_probe.proofs.near.pair_start.Goals as goal

one_of_two : (a h at : ℕ) → a ≤ at → at ≤ a + 3 → at % 2 ≡ h % 2 → (at ≡ a + (a + h) % 2) ⊎ (at ≡ a + (a + h) % 2 + 2)
one_of_two a h at low high alike = elim (cases (a + (a + h) % 2) at) [ inl e ↦ inl e | inr lt ↦ inr (second lt) ]
  where
    cases : (m n : ℕ) → (n ≡ m) ⊎ ((n ≡ m) → ⊥)
    cases m n = grind arith

    second : ((at ≡ a + (a + h) % 2) → ⊥) → at ≡ a + (a + h) % 2 + 2
    second never = omega arith

pub returns-clause-start : goal.returns-clause-start
returns-clause-start c = λ at alike reach.
    let r = c.axis_start-first.ensures.start 1 at (omega arith) (subst (λ (t : ℤ). Reaches 1 at t) (sym (back c.args.q c.requires.small)) reach) in
    one_of_two c.axis_start-first.result c.args.h at r.0 (at_most _ _ r.1) alike
  where
    at_most : (at a : ℕ) → at ≤ a + 2 + 1 → at ≤ a + 3
    at_most at a h = omega arith
