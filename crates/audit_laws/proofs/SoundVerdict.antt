-- Conforming tetrahedra are found sound, at places in any step.
use Rattle.std.proofs.Common.{◌≡◌, ℕ, zero, suc, ◌+◌, ◌^◌, ◌<◌, ◌≤◌, List, [], ◌∷◌, length, map, get_or, true, false, not, nat_lt, None, refl, ap, sym, subst, ◌∙◌, arith, ℤ, pos, negsuc, ◌*ℤ◌}
use Rattle.std.specs.Prelude.{◌<ℤ◌}
use Rattle.std.proofs.lemmas.Int.{ints}
use Rattle.std.proofs.lemmas.Bool.{le-ltb, not-false}
use Rattle.std.proofs.lemmas.List.{length-map}
use Rattle.std.proofs.lemmas.List.Elements.{All-nil, All-cons, All-weaker}
use Rattle.std.proofs.lemmas.List.Folds.{list_any_none}
use Rattle.std.specs.List.{All, position, flat_map, count_by}
use Rattle.list_words.proofs.Lists.{all_left, all_right}
use Rattle.definitions.specs.declared.Place.{Place}
use Rattle.definitions.specs.Places.{place}
use Rattle.definitions.specs.Vectors.{det, place_at}
use Rattle.definitions.specs.Soundness.{IsPositive, corner_places, triangles_of, all_triangles, tets_at_triangle, boundary}
use Rattle.formats.specs.declared.Verdict.TheVariants.{NotPositive, Crowded, Turned, Sound}
use Rattle.exact.specs.Polynomials.{Expression, variable, plus, times, negate}
use Rattle.exact.specs.Determinants.{det3_expression}
use Rattle.exact.proofs.Ring.{ring}
use Rattle.exact.proofs.IntegerOrder.{product_positive}
use Rattle.lattice_laws.proofs.Volumes.{det_by_rows}
use Rattle.triangle_laws.specs.Boundary.{turned}
use Rattle.triangle_laws.specs.Laws.{AreConforming}
use Rattle.triangle_laws.proofs.Partners.{triangles_are_shared, partners_are_turned}
use Rattle.mesh_files.specs.Verdicts.{is_above_zero, is_positive, is_crowded, is_turned, tets_in_direction, found_or, verdict}
use Rattle.mesh_audit.specs.Triangles.{IsPlain}
use Rattle.mesh_audit.proofs.FlatTets.{FourNodes, as_four}
use Rattle.mesh_audit.proofs.Positions.{position_none}
use Rattle.mesh_audit.proofs.SortedTriangles.{all_plain}
use Rattle.mesh_audit.proofs.PairedTriangles.{counted_by_direction}
use Rattle.audit_laws.specs.Laws.{scaled, ConformingAreSound}

abbrev times_place : ℤ → Place → Place
times_place s p = place (s *ℤ p.x) (s *ℤ p.y) (s *ℤ p.z)

-- the volume at places times s is s times s times s the volume
scaled_det : (s : ℤ) (a b c d : Place) → det (times_place s a ∷ times_place s b ∷ times_place s c ∷ times_place s d ∷ []) ≡ s *ℤ (s *ℤ (s *ℤ det (a ∷ b ∷ c ∷ d ∷ [])))
scaled_det s a b c d =
    det_by_rows (times_place s a) (times_place s b) (times_place s c) (times_place s d)
    ∙ ring (a.x ∷ a.y ∷ a.z ∷ b.x ∷ b.y ∷ b.z ∷ c.x ∷ c.y ∷ c.z ∷ d.x ∷ d.y ∷ d.z ∷ s ∷ [])
    (det3_expression (large 3 0) (large 4 1) (large 5 2) (large 6 0) (large 7 1) (large 8 2) (large 9 0) (large 10 1) (large 11 2))
    (times step (times step (times step (det3_expression (small 3 0) (small 4 1) (small 5 2) (small 6 0) (small 7 1) (small 8 2) (small 9 0) (small 10 1) (small 11 2)))))
    refl
    ∙ ap (λ t. s *ℤ (s *ℤ (s *ℤ t))) (sym (det_by_rows a b c d))
  where
    step : Expression
    step = variable 12

    small : ℕ → ℕ → Expression
    small m n = plus (variable m) (negate (variable n))

    large : ℕ → ℕ → Expression
    large m n = plus (times step (variable m)) (negate (times step (variable n)))

no_place : (step : ℕ) → scaled step (place (pos 0) (pos 0) (pos 0)) ≡ place (pos 0) (pos 0) (pos 0)
no_place step = let z : pos step *ℤ pos 0 ≡ pos 0 = omega (arith, ints) in λ i. place (z i) (z i) (z i)

scaled_place : (step : ℕ) (places : List Place) (n : ℕ) → place_at (map (scaled step) places) n ≡ scaled step (place_at places n)
scaled_place step places n =
    ap (λ (d : Place). get_or (map (scaled step) places) n d) (sym (no_place step))
    ∙ Rattle.std.proofs.Math.ListN.get_or-map (scaled step) places n (place (pos 0) (pos 0) (pos 0))

above_zero : (n : ℤ) → pos 0 <ℤ n → is_above_zero n ≡ true
above_zero (pos zero) h = absurd (omega (arith, ints))
above_zero (pos (suc n)) h = refl
above_zero (negsuc n) h = absurd (omega (arith, ints))

scaled_positive : (step : ℕ) (places : List Place) (t : List ℕ) → 1 ≤ step → length t ≡ 4 → IsPositive places t → not (is_positive (map (scaled step) places) t) ≡ false
unfolding is_positive
scaled_positive step places t some four positive = go (as_four t four)
  where
    go : FourNodes t → not (is_above_zero (det (corner_places (map (scaled step) places) t))) ≡ false
    go q =
        let s : pos 0 <ℤ pos step = omega (arith, ints) in
        let volume : pos 0 <ℤ det (place_at places q.a ∷ place_at places q.b ∷ place_at places q.c ∷ place_at places q.d ∷ []) = subst (λ (u : List ℕ). pos 0 <ℤ det (corner_places places u)) q.is positive in
        let whole = det (place_at places q.a ∷ place_at places q.b ∷ place_at places q.c ∷ place_at places q.d ∷ []) in
        let large : pos 0 <ℤ (pos step *ℤ (pos step *ℤ (pos step *ℤ whole))) = product_positive (pos step) (pos step *ℤ (pos step *ℤ whole)) s (product_positive (pos step) (pos step *ℤ whole) s (product_positive (pos step) whole s volume)) in
        let value : det (corner_places (map (scaled step) places) t) ≡ pos step *ℤ (pos step *ℤ (pos step *ℤ whole)) =
        ap (λ (u : List ℕ). det (corner_places (map (scaled step) places) u)) q.is
        ∙ (λ i. det (scaled_place step places q.a i ∷ scaled_place step places q.b i ∷ scaled_place step places q.c i ∷ scaled_place step places q.d i ∷ []))
        ∙ scaled_det (pos step) (place_at places q.a) (place_at places q.b) (place_at places q.c) (place_at places q.d) in
        ap not (ap is_above_zero value ∙ above_zero _ large)

each_list : {X Y : Type 0} (P : Y → Type 0) (g : X → List Y) (xs : List X) → All P (flat_map g xs) → All (λ x. All P (g x)) xs
each_list {X} P g [] h = All-nil {X = X} (λ x. All P (g x))
each_list P g (x ∷ xs) h = All-cons (λ y. All P (g y)) x xs (all_left P (g x) (flat_map g xs) h) (each_list P g xs (all_right P (g x) (flat_map g xs) h))

none_crowded : (ts : List (List ℕ)) → All (λ t. tets_at_triangle ts t ≤ 2) (all_triangles ts) → All (λ t. is_crowded ts t ≡ false) ts
unfolding is_crowded
none_crowded ts h k d lt =
    let t = get_or ts k d in
    list_any_none (λ u. nat_lt 2 (tets_at_triangle ts u)) (triangles_of t) (λ j e l. le-ltb 2 (tets_at_triangle ts (get_or (triangles_of t) j e)) (each_list (λ u. tets_at_triangle ts u ≤ 2) triangles_of ts h k d lt j e l))

none_turned : (ts : List (List ℕ)) → All (λ t. tets_in_direction ts t ≤ 1) (all_triangles ts) → All (λ t. is_turned ts t ≡ false) ts
unfolding is_turned
none_turned ts h k d lt =
    let t = get_or ts k d in
    list_any_none (λ u. nat_lt 1 (tets_in_direction ts u)) (triangles_of t) (λ j e l. le-ltb 1 (tets_in_direction ts (get_or (triangles_of t) j e)) (each_list (λ u. tets_in_direction ts u ≤ 1) triangles_of ts h k d lt j e l))

once : (places : List Place) (ts : List (List ℕ)) → AreConforming places ts → All IsPlain (all_triangles ts) → All (λ t. tets_in_direction ts t ≤ 1) (all_triangles ts)
once places ts h plain k d lt =
    let t = get_or (all_triangles ts) k d in
    single (tets_at_triangle ts t) (tets_in_direction ts t) (count_by (turned t) (all_triangles ts)) (counted_by_direction ts plain t (plain k d lt)) (partners_are_turned places ts h k d lt)
  where
    single : (n m l : ℕ) → n ≡ m + l → n ≡ 1 + l → m ≤ 1
    single n m l e f = omega arith

pub conforming_are_sound : ConformingAreSound
unfolding verdict
conforming_are_sound step first places ts some conforming of few =
    let moved = map (scaled step) places in
    let count : length moved ≡ length places = length-map places (scaled step) in
    let positive : All (λ t. not (is_positive moved t) ≡ false) ts = λ k d lt. scaled_positive step places (get_or ts k d) some (conforming.four k d lt) (conforming.positive k d lt) in
    let small : All (All (λ n. n < 2 ^ 32)) ts = All-weaker (All (λ n. n < length places)) (All (λ n. n < 2 ^ 32)) (λ t a k d lt. wider (get_or t k d) (a k d lt)) ts of in
    let plain : All IsPlain (all_triangles ts) = all_plain moved ts conforming.four (λ k d lt. not-false _ (positive k d lt)) small in
    let none_flat : position (λ t. not (is_positive moved t)) ts ≡ None = position_none (λ t. not (is_positive moved t)) ts [] (λ k lt. positive k [] lt) in
    let none_many : position (is_crowded ts) ts ≡ None = position_none (is_crowded ts) ts [] (λ k lt. none_crowded ts (triangles_are_shared places ts conforming) k [] lt) in
    let none_twice : position (is_turned ts) ts ≡ None = position_none (is_turned ts) ts [] (λ k lt. none_turned ts (once places ts conforming plain) k [] lt) in
    (λ i. found_or (none_flat i) (λ n. NotPositive (first + n))
    (found_or (none_many i) (λ n. Crowded (first + n))
    (found_or (none_twice i) (λ n. Turned (first + n))
    (Sound (count i) (length ts) (length (boundary ts))))))
  where
    wider : (n : ℕ) → n < length places → n < 2 ^ 32
    wider n h = omega arith
