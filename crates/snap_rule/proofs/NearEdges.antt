-- Words of which each bit tells whether an edge has a near cut, and the least of those that were taken from one.
use Rattle.std.proofs.Common.{◌≡◌, ℕ, zero, suc, ◌+◌, ◌-◌, ◌*◌, ◌%◌, ◌^◌, ◌<◌, ◌≤◌, inl, inr, min, arith, refl, sym, ap, ◌∙◌, w32, Bool, true, false, Option, Some, None}
use Rattle.std.specs.Prelude.{bit_and, bit_or, filter_map, is_some}
use Rattle.std.specs.Int.{bit_at, bit_not, from_bool}
use Rattle.std.specs.List.{range_with_len}
use Rattle.std.proofs.lemmas.Bool.{cases_eq}
use Rattle.std.proofs.lemmas.Nat.{and_le_l}
use Rattle.std.proofs.lemmas.Nat.Bits.{bit_at-zero, bit_at_and, bit_at_set_same, bit_at_set_other, bit_at_clear_same, bit_at_clear_other}
use Rattle.definitions.specs.Lists.{least_by, lesser, with_one_more}
use Rattle.lattice_laws.proofs.Least.{least_by-range}
use Rattle.samples.proofs.SetBits.{not_both, where_is}

-- the place of an edge 1 + n in a list of the values on edges 1 to 14
pub place : (n : ℕ) → 1 + n - 1 ≡ n
place n = omega arith

-- ---- bits as booleans

is_set : (b : Bool) → from_bool b ≡ 1 → b ≡ true
is_set true h = refl
is_set false h = absurd (let e : ◌≡◌ {A = ℕ} 0 1 = h in omega arith)

none_there : {X : Type 0} (o : Option X) → from_bool (is_some o) ≡ 0 → o ≡ None
none_there None h = refl
none_there (Some x) h = absurd (let e : ◌≡◌ {A = ℕ} 1 0 = h in omega arith)

-- ---- a word of which the first n bits are told

pub record TellsBelow (f : ℕ → Bool) (word n : ℕ) : Type 0 where
  pub each : (k : ℕ) → k < n → bit_at word k ≡ from_bool (f k)
  pub none : (k : ℕ) → n ≤ k → bit_at word k ≡ 0

-- bit n is left as it is
pub with_none : (f : ℕ → Bool) (word n : ℕ) → f n ≡ false → TellsBelow f word n → TellsBelow f word (n + 1)
with_none f word n h t =
    record {
      each = λ k p. elim (where_is k n) [
        | inl below ↦ t.each k below
        | inr above ↦ (let e : k ≡ n = omega arith in t.none k above ∙ sym (ap (λ j. from_bool (f j)) e ∙ ap from_bool h))
      ];
      none = λ k p. t.none k (omega arith);
    }

-- bit n is set
pub with_one : (f : ℕ → Bool) (word n : ℕ) → n < 32 → f n ≡ true → TellsBelow f word n → TellsBelow f (bit_or word (1 * 2 ^ n % 2 ^ 32)) (n + 1)
with_one f word n fits h t =
    record {
      each = λ k p. elim (where_is k n) [
        | inl below ↦ bit_at_set_other w32 word n fits k (λ e. absurd (omega arith)) ∙ t.each k below
        | inr above ↦ (let e : k ≡ n = omega arith in ap (bit_at (bit_or word (1 * 2 ^ n % 2 ^ 32))) e ∙ bit_at_set_same w32 word n fits ∙ sym (ap (λ j. from_bool (f j)) e ∙ ap from_bool h))
      ];
      none = λ k p. bit_at_set_other w32 word n fits k (λ e. absurd (omega arith)) ∙ t.none k (omega arith);
    }

-- ---- a word without its lowest bit

abbrev pub without : ℕ → ℕ → ℕ
without word n = bit_and word (bit_not w32 (1 * 2 ^ n % 2 ^ 32))

pub less_without : (word n : ℕ) → n < 32 → bit_at word n ≡ 1 → without word n < word
less_without word n fits set = elim (cases_eq (without word n) word) [
  | inl same ↦ absurd (let both : bit_at (without word n) n ≡ bit_at word n = ap (λ x. bit_at x n) same in let gone = bit_at_clear_same w32 word n fits in omega arith)
  | inr other ↦ omega (arith, and_le_l word (bit_not w32 (1 * 2 ^ n % 2 ^ 32)))
]

still_none : (word n k : ℕ) → bit_at word k ≡ 0 → bit_at (without word n) k ≡ 0
still_none word n k h = bit_at_and word (bit_not w32 (1 * 2 ^ n % 2 ^ 32)) k ∙ ap (λ b. min b (bit_at (bit_not w32 (1 * 2 ^ n % 2 ^ 32)) k)) h ∙ nothing (bit_at (bit_not w32 (1 * 2 ^ n % 2 ^ 32)) k)
  where
    nothing : (x : ℕ) → min 0 x ≡ 0
    nothing x = omega arith

-- ---- the least so far

module _ {X : Type 0} (lt : X → X → Bool) (f : ℕ → Option X) where
  -- the least over the first m numbers from 1 on
  abbrev least_of : ℕ → Option X
  least_of m = least_by lt (filter_map f (range_with_len 1 m))

  skip : (m d n : ℕ) → n ≡ m + d → ((k : ℕ) → m ≤ k → k < n → f (1 + k) ≡ None) → least_of n ≡ least_of m
  skip m zero n e h = let same : n ≡ m = omega arith in ap least_of same
  skip m (suc d) n e h =
      let one : n ≡ suc (m + d) = omega arith in
      ap least_of one
      ∙ least_by-range lt f 1 (m + d)
      ∙ ap (with_one_more lt (least_of (m + d))) (h (m + d) (omega arith) (omega arith))
      ∙ skip m d (m + d) refl (λ k p q. h k p (omega arith))

  -- the bits of the numbers up to some place were taken, and the word tells of those from there to 14
  pub record IsLeastTaken (word : ℕ) (best : Option X) : Type 0 where
    pub place : ℕ
    pub within : place ≤ 14
    pub taken : (k : ℕ) → k < place → bit_at word k ≡ 0
    pub left : (k : ℕ) → place ≤ k → k < 14 → bit_at word k ≡ from_bool (is_some (f (1 + k)))
    pub none : (k : ℕ) → 14 ≤ k → bit_at word k ≡ 0
    pub least : best ≡ least_of place

  pub at_first : (word : ℕ) → TellsBelow (λ k. is_some (f (1 + k))) word 14 → IsLeastTaken word None
  unfolding least_by
  at_first word t =
      record {
        place = 0;
        within = omega arith;
        taken = λ k p. absurd (omega arith);
        left = λ k p q. t.each k q;
        none = t.none;
        least = refl;
      }

  pub at_last : (word : ℕ) (best : Option X) → word ≡ 0 → IsLeastTaken word best → best ≡ least_of 14
  at_last word best e t =
      t.least ∙ sym (skip t.place (14 - t.place) 14 (let w = t.within in omega arith) (λ k p q. none_there (f (1 + k)) (sym (t.left k p q) ∙ ap (λ w. bit_at w k) e ∙ bit_at-zero k)))

  module _ (word : ℕ) (best : Option X) (t : IsLeastTaken word best) (n : ℕ) (set : bit_at word n ≡ 1) where
    pub lies : n < 14
    lies = elim (where_is n 14) [
      | inl below ↦ below
      | inr above ↦ not_both (bit_at word n) (t.none n above) set
    ]

    behind : t.place ≤ n
    behind = elim (where_is n t.place) [
      | inl below ↦ not_both (bit_at word n) (t.taken n below) set
      | inr above ↦ above
    ]

    pub is_there : is_some (f (1 + n)) ≡ true
    is_there = is_set (is_some (f (1 + n))) (sym (t.left n behind lies) ∙ set)

    pub one_less : ((k : ℕ) → k < n → bit_at word k ≡ 0) → (x : X) → f (1 + n) ≡ Some x → IsLeastTaken (without word n) (Some (lesser lt best x))
    one_less lowest x here =
        record {
          place = suc n;
          within = let w = lies in omega arith;
          taken = λ k p. elim (where_is k n) [
            | inl below ↦ still_none word n k (lowest k below)
            | inr above ↦ (let e : k ≡ n = omega arith in ap (bit_at (without word n)) e ∙ bit_at_clear_same w32 word n fits)
          ];
          left = λ k p q. let b = behind in bit_at_clear_other w32 word n fits k (omega arith) (λ e. absurd (omega arith)) ∙ t.left k (omega arith) q;
          none = λ k p. still_none word n k (t.none k p);
          least =
              ap (λ o. Some (lesser lt o x)) (t.least ∙ sym (skip t.place (n - t.place) n (let b = behind in omega arith) (λ k p q. none_there (f (1 + k)) (sym (t.left k p (let w = lies in omega arith)) ∙ lowest k q))))
              ∙ ap (with_one_more lt (least_of n)) (sym here)
              ∙ sym (least_by-range lt f 1 n);
        }
      where
        fits : n < 32
        fits = let w = lies in omega arith
