-- Tetrahedra with the verdict that they are sound fit together.
use Rattle.std.proofs.Common.{◌≡◌, ℕ, ◌+◌, ◌^◌, ◌<◌, ◌≤◌, List, length, get_or, Bool, true, false, not, ltb, Option, Some, None, Result, Ok, Err, IfOk, refl, ap, subst, arith, ℤ, pos, negsuc, zero, suc, IsTrue}
use Rattle.std.specs.Prelude.{◌<ℤ◌}
use Rattle.std.proofs.lemmas.Int.{ints}
use Rattle.std.proofs.lemmas.Bool.{ltb-false}
use Rattle.std.specs.List.{All, AllPairs, position}
use Rattle.definitions.specs.declared.Place.{Place}
use Rattle.definitions.specs.Vectors.{det}
use Rattle.definitions.specs.Soundness.{IsPositive, corner_places, triangles_of, all_triangles, tets_at_triangle, same_nodes, boundary}
use Rattle.formats.specs.declared.Verdict.{Verdict}
use Rattle.formats.specs.declared.Verdict.TheVariants.{NotPositive, Crowded, Turned, Sound}
use Rattle.mesh_files.specs.Files.{Nodes, AreTets, AreOf}
use Rattle.mesh_audit.specs.FitTogether.{FitTogether, IsSoundVerdict}
use Rattle.mesh_files.specs.Verdicts.{verdict, found_or, is_positive, is_above_zero, is_crowded, is_turned, same_direction, tets_in_direction}
use Rattle.triangle_laws.specs.Boundary.{turned}
use Rattle.triangle_laws.proofs.Closing.{paired_boundaries_close}
use Rattle.mesh_audit.proofs.Directions.{direction_itself}
use Rattle.mesh_audit.proofs.PairedTriangles.{AreApart, are_paired, turned_from_nodes}
use Rattle.mesh_audit.proofs.FirstTets.{none_passes}
use Rattle.mesh_audit.proofs.Judgements.{plain_from_none, positive_from_none}
use Rattle.mesh_audit.proofs.Positions.{all_fail}
use Rattle.mesh_audit.proofs.Sums.{all_flat, two_pass}

above_zero : (n : ℤ) → is_above_zero n ≡ true → pos 0 <ℤ n
above_zero (pos zero) e = cc
above_zero (pos (suc n)) e = omega (arith, ints)
above_zero (negsuc n) e = cc

positive_is : (places : List Place) (t : List ℕ) → is_positive places t ≡ true → IsPositive places t
unfolding is_positive
positive_is places t h = above_zero (det (corner_places places t)) h

none_many : (ts : List (List ℕ)) → All (λ t. is_crowded ts t ≡ false) ts → All (λ t. tets_at_triangle ts t ≤ 2) (all_triangles ts)
unfolding is_crowded
none_many ts h = all_flat (λ t. tets_at_triangle ts t ≤ 2) triangles_of ts (λ k d lt. λ j e l. ltb-false _ _ (none_passes (λ t. ltb 2 (tets_at_triangle ts t)) (triangles_of (get_or ts k d)) (h k d lt) j e l))

none_turned : (ts : List (List ℕ)) → All (λ t. is_turned ts t ≡ false) ts → All (λ t. tets_in_direction ts t ≤ 1) (all_triangles ts)
unfolding is_turned
none_turned ts h = all_flat (λ t. tets_in_direction ts t ≤ 1) triangles_of ts (λ k d lt. λ j e l. ltb-false _ _ (none_passes (λ t. ltb 1 (tets_in_direction ts t)) (triangles_of (get_or ts k d)) (h k d lt) j e l))

pairs_oppose : (ts : List (List ℕ)) → AreApart ts → AllPairs (λ s t. IsTrue (same_nodes s t) → IsTrue (turned s t)) (all_triangles ts)
pairs_oppose ts h i j d before within = λ same.
    let s = get_or (all_triangles ts) i d in
    let t = get_or (all_triangles ts) j d in
    turned_from_nodes s t (h.plain i d (omega arith)) (h.plain j d within) same (by_test (same_direction s t) refl)
  where
    by_test : (b : Bool) → same_direction (get_or (all_triangles ts) i d) (get_or (all_triangles ts) j d) ≡ b → same_direction (get_or (all_triangles ts) i d) (get_or (all_triangles ts) j d) ≡ false
    by_test true e =
        let s = get_or (all_triangles ts) i d in
        let one : tets_in_direction ts s ≤ 1 = h.single i d (omega arith) in
        let itself : same_direction s s ≡ true = direction_itself s (ap length (h.plain i d (omega arith)).is) in
        let two : 2 ≤ tets_in_direction ts s = two_pass (same_direction s) (all_triangles ts) i j d before within itself e in
        absurd (too_many (tets_in_direction ts s) one two)
      where
        too_many : (n : ℕ) → n ≤ 1 → 2 ≤ n → ⊥
        too_many n p q = omega arith
    by_test false e = e

-- where the verdict is that they are sound, nothing was found
found_none : (o : Option ℕ) (at : ℕ → Verdict) (s v : Verdict) → ((n : ℕ) → IsSoundVerdict (at n) → ⊥) → v ≡ found_or o at s → IsSoundVerdict v → (o ≡ None) × (v ≡ s)
found_none None at s v never e h = (refl, e)
found_none (Some n) at s v never e h = absurd (never n (subst IsSoundVerdict e h))

pub sound_fits : (nodes : Nodes) (ts : List (List ℕ)) (v : Verdict) → length nodes.places < 2 ^ 30 → AreTets ts → AreOf (length nodes.places) ts → v ≡ verdict nodes ts → IsSoundVerdict v → FitTogether nodes.places ts
unfolding verdict
sound_fits nodes ts v few tets of e h =
    let after_crowded = found_or (position (is_turned ts) ts) (λ n. Turned (nodes.first + n)) (Sound (length nodes.places) (length ts) (length (boundary ts))) in
    let after_first = found_or (position (is_crowded ts) ts) (λ n. Crowded (nodes.first + n)) after_crowded in
    let a = found_none (position (λ t. not (is_positive nodes.places t)) ts) (λ n. NotPositive (nodes.first + n)) after_first v (λ n g. g) e h in
    let b = found_none (position (is_crowded ts) ts) (λ n. Crowded (nodes.first + n)) after_crowded v (λ n g. g) a.1 h in
    let c = found_none (position (is_turned ts) ts) (λ n. Turned (nodes.first + n)) (Sound (length nodes.places) (length ts) (length (boundary ts))) v (λ n g. g) b.1 h in
    let many = none_many ts (all_fail (is_crowded ts) ts b.0) in
    let apart : AreApart ts = record { plain = plain_from_none nodes.places ts few tets of a.0; few = many; single = none_turned ts (all_fail (is_turned ts) ts c.0) } in
    record {
      positive = λ k d lt. positive_is nodes.places (get_or ts k d) (positive_from_none nodes.places ts a.0 k d lt);
      at_most_two = many;
      opposite = pairs_oppose ts apart;
      closes = paired_boundaries_close ts (are_paired ts apart);
    }

-- what follows from what an answer is, where there is one
pub if_ok_weaker : {T E : Type 0} (r : Result T E) (P Q : T → Type 0) → ((x : T) → P x → Q x) → IfOk r P → IfOk r Q
if_ok_weaker (Ok x) P Q f h = f x h
if_ok_weaker (Err e) P Q f h = tt
