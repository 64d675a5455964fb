-- The kept samples, row by row and in the order of the volume.
use Rattle.std.proofs.Common.{◌≡◌, ℕ, ◌+◌, ◌*◌, ◌/◌, ◌%◌, ◌<◌, ◌≤◌, ◌==◌, List, [], ◌++◌, flat_map, length, ℤ, Bool, true, false, if◌then◌else◌, ap, ◌∙◌, arith}
use Rattle.std.proofs.lemmas.Grind.{flat_map-append}
use Rattle.std.proofs.lemmas.List.FromFn.{length-map-range_with_len}
use Rattle.std.proofs.Math.Nat.{mul-le-mul_right}
use Rattle.std.specs.List.{range_with_len}
use Rattle.list_words.proofs.Ranges.{range_add}
use Rattle.formats.specs.Volumes.{kept_size}
use Rattle.mha_read.specs.RawRows.{kept_of_row, kept_at_row, kept_of_rows}
use Rattle.mha_read.proofs.Ranges.{flat_map_shift, flat_map_same, map_same, flat_map_none, in_blocks, every_step, row_in_plane, plane_of_row, kept_below, length_flat_map}

-- the kept samples in the order of the volume
abbrev pub kept_in_volume : (ℕ → ℤ) → ℕ → ℕ → ℕ → ℕ → List ℤ
kept_in_volume sample rx ry rz step =
    flat_map (λ k. flat_map (λ j. kept_of_row sample rx step ((k * step * ry + j * step) * rx)) (range_with_len 0 (kept_size step ry))) (range_with_len 0 (kept_size step rz))

-- the kept samples of a plane that is kept
abbrev kept_plane : (ℕ → ℤ) → ℕ → ℕ → ℕ → ℕ → List ℤ
kept_plane sample rx ry step z = flat_map (λ j. kept_of_row sample rx step ((z * ry + j * step) * rx)) (range_with_len 0 (kept_size step ry))

pub all_rows : (sample : ℕ → ℤ) (rx ry rz step : ℕ) → 0 < step → kept_of_rows sample rx ry step 0 (ry * rz) ≡ kept_in_volume sample rx ry rz step
unfolding kept_of_rows
all_rows sample rx ry rz step positive =
    in_blocks (λ q. kept_at_row sample rx ry step (q * rx) (0 + q)) ry rz
    ∙ flat_map_same (λ z. flat_map (λ y. kept_at_row sample rx ry step ((z * ry + y) * rx) (0 + (z * ry + y))) (range_with_len 0 ry)) (λ z. if z % step == 0 then kept_plane sample rx ry step z else []) 0 rz (λ z low high. plane z)
    ∙ every_step (λ z. kept_plane sample rx ry step z) step rz positive
  where
    same_row : (z y : ℕ) → y < ry → kept_at_row sample rx ry step ((z * ry + y) * rx) (0 + (z * ry + y)) ≡ (if z % step == 0 then (if y % step == 0 then kept_of_row sample rx step ((z * ry + y) * rx) else []) else [])
    same_row z y lt =
        let e : 0 + (z * ry + y) ≡ z * ry + y = omega arith in
        let p : (0 + (z * ry + y)) / ry ≡ z = ap (λ (n : ℕ). n / ry) e ∙ plane_of_row ry z y lt in
        let r : (0 + (z * ry + y)) % ry ≡ y = ap (λ (n : ℕ). n % ry) e ∙ row_in_plane ry z y lt in
        λ i. if p i % step == 0 then (if r i % step == 0 then kept_of_row sample rx step ((z * ry + y) * rx) else []) else []

    by_plane : (b : Bool) (z : ℕ) → flat_map (λ y. if b then (if y % step == 0 then kept_of_row sample rx step ((z * ry + y) * rx) else []) else []) (range_with_len 0 ry) ≡ (if b then kept_plane sample rx ry step z else [])
    by_plane true z = every_step (λ y. kept_of_row sample rx step ((z * ry + y) * rx)) step ry positive
    by_plane false z = flat_map_none 0 ry

    plane : (z : ℕ) → flat_map (λ y. kept_at_row sample rx ry step ((z * ry + y) * rx) (0 + (z * ry + y))) (range_with_len 0 ry) ≡ (if z % step == 0 then kept_plane sample rx ry step z else [])
    plane z =
        flat_map_same (λ y. kept_at_row sample rx ry step ((z * ry + y) * rx) (0 + (z * ry + y))) (λ y. if z % step == 0 then (if y % step == 0 then kept_of_row sample rx step ((z * ry + y) * rx) else []) else []) 0 ry (λ y low high. same_row z y (omega arith))
        ∙ by_plane (z % step == 0) z

-- a row by numbers that are the same
same_kept : (s t : ℕ → ℤ) (rx step f g : ℕ) → ((i : ℕ) → i < kept_size step rx → s (f + i * step) ≡ t (g + i * step)) → kept_of_row s rx step f ≡ kept_of_row t rx step g
same_kept s t rx step f g same = map_same (λ i. s (f + i * step)) (λ i. t (g + i * step)) 0 (kept_size step rx) (λ i low high. same i (omega arith))

same_at : (s t : ℕ → ℤ) (rx ry step f g q : ℕ) → ((i : ℕ) → i < kept_size step rx → s (f + i * step) ≡ t (g + i * step)) → kept_at_row s rx ry step f q ≡ kept_at_row t rx ry step g q
same_at s t rx ry step f g q same =
    let e : kept_of_row s rx step f ≡ kept_of_row t rx step g = same_kept s t rx step f g same in
    ap (λ (ks : List ℤ). if (q / ry) % step == 0 then (if (q % ry) % step == 0 then ks else []) else []) e

-- rows behind others
pub rows_behind : (s t : ℕ → ℤ) (rx ry step r m : ℕ) → 0 < step → ((n : ℕ) → n < m * rx → s (r * rx + n) ≡ t n) → kept_of_rows s rx ry step 0 (r + m) ≡ kept_of_rows s rx ry step 0 r ++ kept_of_rows t rx ry step r m
unfolding kept_of_rows
rows_behind s t rx ry step r m positive same =
    ap (λ (ks : List ℕ). flat_map (λ i. kept_at_row s rx ry step (i * rx) (0 + i)) ks) (range_add 0 r m)
    ∙ flat_map-append (λ i. kept_at_row s rx ry step (i * rx) (0 + i)) (range_with_len 0 r) (range_with_len (0 + r) m)
    ∙ ap (λ (ks : List ℤ). flat_map (λ i. kept_at_row s rx ry step (i * rx) (0 + i)) (range_with_len 0 r) ++ ks) behind
  where
    one : (q : ℕ) → q < m → kept_at_row s rx ry step ((r + q) * rx) (0 + (r + q)) ≡ kept_at_row t rx ry step (q * rx) (r + q)
    one q lt =
        let z : 0 + (r + q) ≡ r + q = omega arith in
        ap (λ (n : ℕ). kept_at_row s rx ry step ((r + q) * rx) n) z
        ∙ same_at s t rx ry step ((r + q) * rx) (q * rx) (r + q) (λ i small.
        let below : i * step < rx = kept_below step rx i positive small in
        let le : q + 1 ≤ m = omega arith in
        let row : (q + 1) * rx ≤ m * rx = mul-le-mul_right rx le in
        let e : (r + q) * rx + i * step ≡ r * rx + (q * rx + i * step) = omega arith in
        ap s e ∙ same (q * rx + i * step) (omega arith))

    behind : flat_map (λ i. kept_at_row s rx ry step (i * rx) (0 + i)) (range_with_len (0 + r) m) ≡ flat_map (λ i. kept_at_row t rx ry step (i * rx) (r + i)) (range_with_len 0 m)
    behind =
        let z : 0 + r ≡ r + 0 = omega arith in
        ap (λ (k : ℕ). flat_map (λ i. kept_at_row s rx ry step (i * rx) (0 + i)) (range_with_len k m)) z
        ∙ flat_map_shift (λ i. kept_at_row s rx ry step (i * rx) (0 + i)) r 0 m
        ∙ flat_map_same (λ q. kept_at_row s rx ry step ((r + q) * rx) (0 + (r + q))) (λ q. kept_at_row t rx ry step (q * rx) (r + q)) 0 m (λ q low high. one q (omega arith))

-- rows of numbers that are the same
pub same_rows : (s t : ℕ → ℤ) (rx ry step m : ℕ) → 0 < step → ((n : ℕ) → n < m * rx → s n ≡ t n) → kept_of_rows s rx ry step 0 m ≡ kept_of_rows t rx ry step 0 m
unfolding kept_of_rows
same_rows s t rx ry step m positive same =
    flat_map_same (λ i. kept_at_row s rx ry step (i * rx) (0 + i)) (λ i. kept_at_row t rx ry step (i * rx) (0 + i)) 0 m (λ q low high.
    same_at s t rx ry step (q * rx) (q * rx) (0 + q) (λ i small.
    let below : i * step < rx = kept_below step rx i positive small in
    let le : q + 1 ≤ m = omega arith in
    let row : (q + 1) * rx ≤ m * rx = mul-le-mul_right rx le in
    same (q * rx + i * step) (omega arith)))

-- how many are kept
pub kept_count : (sample : ℕ → ℤ) (rx ry rz step : ℕ) → length (kept_in_volume sample rx ry rz step) ≡ kept_size step rx * kept_size step ry * kept_size step rz
kept_count sample rx ry rz step =
    length_flat_map (λ k. flat_map (λ j. kept_of_row sample rx step ((k * step * ry + j * step) * rx)) (range_with_len 0 (kept_size step ry))) (kept_size step ry * kept_size step rx) 0 (kept_size step rz) (λ k.
    length_flat_map (λ j. kept_of_row sample rx step ((k * step * ry + j * step) * rx)) (kept_size step rx) 0 (kept_size step ry) (λ j.
    length-map-range_with_len (λ i. sample ((k * step * ry + j * step) * rx + i * step)) 0 (kept_size step rx)))
    ∙ omega arith
