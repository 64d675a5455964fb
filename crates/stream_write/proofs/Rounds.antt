-- The lines of all rounds are those of all slabs.
use Rattle.std.proofs.Common.{◌≡◌, ◌⊎◌, inl, inr, ℕ, zero, suc, ◌+◌, ◌-◌, ◌*◌, ◌<◌, ◌≤◌, List, ◌++◌, min, append-nil, arith, ap, sym, ◌∙◌}
use Rattle.std.specs.Prelude.{flat_map}
use Rattle.std.specs.Int.{div_ceil}
use Rattle.std.specs.List.{range_with_len}
use Rattle.std.proofs.lemmas.Grind.{div_ceil_times}
use Rattle.definitions.specs.Layout.{slabs}
use Rattle.slab_emit.specs.declared.Lines.{Lines}
use Rattle.slab_emit.specs.Sources.{SourceValue, slab_lines}
use Rattle.mesh_rounds.specs.Rounds.{all_lines}
use Rattle.mesh_rounds.proofs.AllRounds.{all_slabs, slabs_then}
use Rattle.slab_work.specs.Rounds.{lines_of_rounds}

over : (n k : ℕ) → 0 < k → n ≤ k * div_ceil n k
over n k some = turn n k (div_ceil n k) (div_ceil_times n k some).0
  where
    turn : (n k c : ℕ) → n ≤ c * k → n ≤ k * c
    turn n k c h = omega arith

-- what goes in parts of k, of which the last may be smaller
module _ {X : Type 0} (f : ℕ → List X) (k n : ℕ) where
  abbrev part : ℕ → List X
  part r = flat_map f (range_with_len (k * r) (min k (n - k * r)))

  grown : (a : ℕ) → flat_map f (range_with_len 0 (min a n)) ++ flat_map f (range_with_len a (min k (n - a))) ≡ flat_map f (range_with_len 0 (min (a + k) n))
  grown a = elim (either a n) [
    | inl le ↦ ap (λ b. flat_map f (range_with_len 0 b) ++ flat_map f (range_with_len a (min k (n - a)))) (low a n le) ∙ slabs_then f a (min k (n - a)) ∙ ap (λ b. flat_map f (range_with_len 0 b)) (sum a k n le)
    | inr gt ↦ ap (λ l. flat_map f (range_with_len 0 (min a n)) ++ flat_map f (range_with_len a l)) (none a k n gt) ∙ append-nil (flat_map f (range_with_len 0 (min a n))) ∙ ap (λ b. flat_map f (range_with_len 0 b)) (same a k n gt)
  ]
    where
      either : (a n : ℕ) → (a ≤ n) ⊎ (n < a)
      either a n = grind arith

      low : (a n : ℕ) → a ≤ n → min a n ≡ a
      low a n h = omega arith

      sum : (a k n : ℕ) → a ≤ n → a + min k (n - a) ≡ min (a + k) n
      sum a k n h = omega arith

      none : (a k n : ℕ) → n < a → min k (n - a) ≡ 0
      none a k n h = omega arith

      same : (a k n : ℕ) → n < a → min a n ≡ min (a + k) n
      same a k n h = omega arith

  parts_to : (m : ℕ) → flat_map part (range_with_len 0 m) ≡ flat_map f (range_with_len 0 (min (k * m) n))
  parts_to zero = ap (λ b. flat_map f (range_with_len 0 b)) (let e : 0 ≡ min (k * 0) n = omega arith in e)
  parts_to (suc m) =
      ap (λ l. flat_map part (range_with_len 0 l)) (let e : suc m ≡ m + 1 = omega arith in e)
      ∙ sym (slabs_then part m 1)
      ∙ (λ i. parts_to m i ++ append-nil (part m) i)
      ∙ grown (k * m)
      ∙ ap (λ b. flat_map f (range_with_len 0 (min b n))) (let e : k * m + k ≡ k * suc m = omega arith in e)

  pub all_parts : 0 < k → flat_map part (range_with_len 0 (div_ceil n k)) ≡ flat_map f (range_with_len 0 n)
  all_parts some = parts_to (div_ceil n k) ∙ ap (λ b. flat_map f (range_with_len 0 b)) (high (k * div_ceil n k) n (over n k some))
    where
      high : (a n : ℕ) → n ≤ a → min a n ≡ n
      high a n h = omega arith

pub all_rounds : (lines : Lines) (s : SourceValue) (workers : ℕ) → 1 ≤ workers → 0 < s.slab → lines_of_rounds lines s workers ≡ all_lines lines s
all_rounds lines s workers some slab = all_parts (slab_lines lines s) (4 * workers) (slabs s.field.dims s.slab) (omega arith) ∙ all_slabs lines s slab
