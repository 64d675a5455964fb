-- Pairs are noted one after another.
use Rattle.std.proofs.Common.{◌≡◌, ◌≢◌, ◌⊎◌, inl, inr, ℕ, ◌+◌, ◌-◌, ◌<◌, ◌≤◌, Some, None, Option, List, sym, ap, ◌∙◌, subst, arith}
use Rattle.std.proofs.lemmas.Bool.{cases_lt}
use Rattle.face_neigh.specs.declared.side.Side.{Side}
use Rattle.face_neigh.specs.Sides.{key_of}
use Rattle.face_neigh.specs.Pairs.{noted, side_at, IsOther, NotesPair, NotesPairs}

module _ (old mid new : List (List (Option ℕ))) (sides : List Side) (k : ℕ) (pos : 1 ≤ k) (before : NotesPairs old mid sides k) (now : NotesPair mid new (side_at sides (k - 1)) (side_at sides k)) where
  next : k ≡ k - 1 + 1
  next = omega arith

  right_more : (p v : ℕ) → noted new p ≡ Some v → (noted old p ≡ Some v) ⊎ ((j : ℕ) × (j + 1 < k + 1) × IsOther (side_at sides j) (side_at sides (j + 1)) p v)
  right_more p v e =
      elim (now.right p v e) [
        | inl x ↦ elim (before.right p v x) [
          | inl y ↦ inl y
          | inr w ↦ (let lt : w.0 + 1 < k + 1 = (let h = w.1 in omega arith) in inr (w.0, lt, w.2))
        ]
        | inr y ↦ (let lt : k - 1 + 1 < k + 1 = omega arith in inr (k - 1, lt, subst (λ m. IsOther (side_at sides (k - 1)) (side_at sides m) p v) next y))
      ]

  both_more : (j : ℕ) → j + 1 < k + 1 → key_of (side_at sides j) ≡ key_of (side_at sides (j + 1)) → (noted new (side_at sides j).place ≢ None) × (noted new (side_at sides (j + 1)).place ≢ None)
  both_more j lt e =
      elim (cases_lt (j + 1) k) [
        | inl le ↦ (let b = before.both j le e in (now.kept (side_at sides j).place b.0, now.kept (side_at sides (j + 1)).place b.1))
        | inr ge ↦ last j (omega arith) (omega arith) e
      ]
    where
      last : (j : ℕ) → k - 1 ≡ j → k ≡ j + 1 → key_of (side_at sides j) ≡ key_of (side_at sides (j + 1)) → (noted new (side_at sides j).place ≢ None) × (noted new (side_at sides (j + 1)).place ≢ None)
      last j a b e =
          let same : key_of (side_at sides (k - 1)) ≡ key_of (side_at sides k) = ap (λ m. key_of (side_at sides m)) a ∙ (e ∙ ap (λ m. key_of (side_at sides m)) (sym b)) in
          let both = now.both same in
          (subst (λ m. noted new (side_at sides m).place ≢ None) a both.0, subst (λ m. noted new (side_at sides m).place ≢ None) b both.1)

  pub notes_more : NotesPairs old new sides (k + 1)
  notes_more = record { rows = λ t. now.rows t ∙ before.rows t; right = right_more; both = both_more }

pub notes_up_to : (old new : List (List (Option ℕ))) (sides : List Side) (m n : ℕ) → ((j : ℕ) → j + 1 < m → j + 1 < n) → ((j : ℕ) → j + 1 < n → j + 1 < m) → NotesPairs old new sides m → NotesPairs old new sides n
notes_up_to old new sides m n up down h = record {
  rows = h.rows;
  right = λ p v e. elim (h.right p v e) [ inl x ↦ inl x | inr w ↦ inr (w.0, up w.0 w.1, w.2) ];
  both = λ j lt e. h.both j (down j lt) e;
}
