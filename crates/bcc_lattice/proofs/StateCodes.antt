-- Codes tell states.
use Rattle.std.proofs.Common.{◌≡◌, ℕ, ◌+◌, ◌*◌, ◌≤◌, arith, refl, inl, inr}
use Rattle.definitions.specs.declared.State.TheVariants as state
use Rattle.definitions.specs.States.{IsState}
use Rattle.bcc_lattice.specs.Laws.{CodesTellStates}

edge_small : (edge k : ℕ) → IsState (state.Zero edge k) → edge ≤ 14
edge_small edge k (inl h) = let e = h.0 in omega arith
edge_small edge k (inr h) = h.1

pub codes_tell_states : CodesTellStates
codes_tell_states state.Minus state.Minus h g e = refl
codes_tell_states state.Plus state.Plus h g e = refl
codes_tell_states state.Minus state.Plus h g e = absurd (omega arith)
codes_tell_states state.Plus state.Minus h g e = absurd (omega arith)
codes_tell_states state.Minus (state.Zero edge k) h g e = absurd (omega arith)
codes_tell_states state.Plus (state.Zero edge k) h g e = absurd (omega arith)
codes_tell_states (state.Zero edge k) state.Minus h g e = absurd (omega arith)
codes_tell_states (state.Zero edge k) state.Plus h g e = absurd (omega arith)
codes_tell_states (state.Zero edge k) (state.Zero other m) h g e =
    let a = edge_small edge k h in
    let b = edge_small other m g in
    let same_edge : edge ≡ other = edges edge k other m a b e in
    let same_cut : k ≡ m = cuts edge k other m a b e in
    λ i. state.Zero (same_edge i) (same_cut i)
  where
    edges : (edge k other m : ℕ) → edge ≤ 14 → other ≤ 14 → 2 + 4 * edge + 64 * k ≡ 2 + 4 * other + 64 * m → edge ≡ other
    edges edge k other m a b e = omega arith

    cuts : (edge k other m : ℕ) → edge ≤ 14 → other ≤ 14 → 2 + 4 * edge + 64 * k ≡ 2 + 4 * other + 64 * m → k ≡ m
    cuts edge k other m a b e = omega arith
