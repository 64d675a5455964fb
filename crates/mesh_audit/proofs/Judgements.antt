-- From what was found about tetrahedra to the verdict on them.
use Rattle.std.proofs.Common.{◌≡◌, ℕ, ◌^◌, ◌<◌, List, length, true, not, Option, Some, None, refl, ◌∙◌, arith}
use Rattle.std.proofs.lemmas.List.Elements.{All-weaker}
use Rattle.std.specs.List.{All, position}
use Rattle.std.proofs.lemmas.Bool.{not-false}
use Rattle.definitions.specs.declared.Place.{Place}
use Rattle.definitions.specs.Soundness.{all_triangles}
use Rattle.formats.specs.declared.Verdict.{Verdict}
use Rattle.mesh_files.specs.Files.{AreTets, AreOf}
use Rattle.mesh_audit.specs.Triangles.{IsPlain}
use Rattle.mesh_files.specs.Verdicts.{found_or, is_positive}
use Rattle.mesh_audit.proofs.Positions.{all_fail}
use Rattle.mesh_audit.proofs.SortedTriangles.{all_plain}

pub positive_from_none : (places : List Place) (ts : List (List ℕ)) → position (λ t. not (is_positive places t)) ts ≡ None → All (λ t. is_positive places t ≡ true) ts
positive_from_none places ts h k d lt = not-false _ (all_fail (λ t. not (is_positive places t)) ts h k d lt)

pub plain_from_none : (places : List Place) (ts : List (List ℕ)) → length places < 2 ^ 30 → AreTets ts → AreOf (length places) ts → position (λ t. not (is_positive places t)) ts ≡ None → All IsPlain (all_triangles ts)
plain_from_none places ts few tets of h =
    all_plain places ts tets.four (positive_from_none places ts h)
    (All-weaker (All (λ n. n < length places)) (All (λ n. n < 2 ^ 32)) (λ t a k d lt. wider _ (a k d lt)) ts of)
  where
    wider : (n : ℕ) → n < length places → n < 2 ^ 32
    wider n h = omega arith

pub same_verdict : (o u p q : Option ℕ) (at bt : ℕ → Verdict) (s : Verdict) → o ≡ p → (o ≡ None → u ≡ q) → found_or o at (found_or u bt s) ≡ found_or p at (found_or q bt s)
same_verdict None u p q at bt s e f = (λ i. found_or (f refl i) bt s) ∙ (λ i. found_or (e i) at (found_or q bt s))
same_verdict (Some n) u p q at bt s e f = λ i. found_or (e i) at (found_or q bt s)
