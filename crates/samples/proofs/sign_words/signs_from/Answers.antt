use Rattle.std.proofs.Common.{◌≡◌, ℕ, ◌+◌, ◌-◌, ◌*◌, ◌/◌, ◌%◌, ◌<◌, ◌≤◌, ◌⊎◌, inl, inr, ap, ◌∙◌, arith, List, length, get_or, ℤ, pos}
use Rattle.std.specs.Int.{bit_at}
use Rattle.definitions.specs.declared.Sign.{Sign}
use Rattle.definitions.specs.declared.Sign.TheVariants.{Minus, Zero, Plus}
use Rattle.definitions.specs.Values.{sign_of}
use Rattle.samples.specs.declared.sign_words.SignWords.{SignWords}
use Rattle.samples.specs.SignWords.{AreWordsOf, none_told, word_of}
use Rattle.samples.proofs.sign_words.signs_from.Goals as goal

-- a bit of two words that were joined
told : (zs : List ℤ) (words : List SignWords) → AreWordsOf zs words → (n : ℕ) → n / 64 + 1 < length words → (s : Sign) (b : ℕ) →
    (bit_at (word_of s (get_or words (n / 64) none_told)) (n % 64 + b) ≡ 1) ⊎ ((64 ≤ n % 64 + b) × (bit_at (word_of s (get_or words (n / 64 + 1) none_told)) (n % 64 + b - 64) ≡ 1)) →
    sign_of (get_or zs (n + b) (pos 0)) ≡ s
told zs words are n room s b (inl low) =
    let at : n + b ≡ 64 * (n / 64) + (n % 64 + b) = omega arith in
    let first : n / 64 < length words = omega arith in
    ap (λ m. sign_of (get_or zs m (pos 0))) at ∙ are.each (n / 64) first s (n % 64 + b) low
told zs words are n room s b (inr high) =
    let beyond = high.0 in
    let at : n + b ≡ 64 * (n / 64 + 1) + (n % 64 + b - 64) = omega arith in
    ap (λ m. sign_of (get_or zs m (pos 0))) at ∙ are.each (n / 64 + 1) room s (n % 64 + b - 64) high.1

pub returns : goal.returns
returns c zs are Plus b h = told zs c.args.words.now are c.args.first c.requires Plus b (c.joined.ensures b h)
returns c zs are Zero b h = told zs c.args.words.now are c.args.first c.requires Zero b (c.joined-2.ensures b h)
returns c zs are Minus b h = told zs c.args.words.now are c.args.first c.requires Minus b (c.joined-3.ensures b h)
