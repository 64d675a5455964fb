-- Lists made over ranges of numbers.
use Rattle.std.proofs.Common.{◌≡◌, ℕ, ◌+◌, ◌*◌, ◌/◌, ◌%◌, ◌<◌, ◌≤◌, ◌==◌, zero, suc, List, [], ◌∷◌, ◌++◌, map, flat_map, length, ℤ, Bool, true, false, if◌then◌else◌, refl, ap, sym, ◌∙◌, arith, append-nil, length-append, nat_lt}
use Rattle.std.proofs.lemmas.Grind.{flat_map-append, div_ceil_times}
use Rattle.std.proofs.Math.Nat.{mul-le-mul_right, mul-suc, suc-mul, mul-zero, zero-mul, mod-eq_of_lt, div-eq_of_lt, add-mul-mod_self_right, add-mul-div_right, mod-lt}
use Rattle.std.proofs.lemmas.Nat.{div-add-mod'}
use Rattle.std.proofs.lemmas.Bool.{ltb-true, ltb-false}
use Rattle.std.specs.List.{range_with_len}
use Rattle.text_words.proofs.WordParts.{zero_is, some_is}
use Rattle.list_words.proofs.Ranges.{range_add}
use Rattle.formats.specs.Volumes.{kept_size}

range_next : (a n : ℕ) → range_with_len a (suc n) ≡ range_with_len a n ++ (a + n) ∷ []
range_next a n = let e : suc n ≡ n + 1 = omega arith in ap (range_with_len a) e ∙ range_add a n 1

pub flat_map_shift : (f : ℕ → List ℤ) (a b n : ℕ) → flat_map f (range_with_len (a + b) n) ≡ flat_map (λ q. f (a + q)) (range_with_len b n)
flat_map_shift f a b zero = refl
flat_map_shift f a b (suc n) =
    let e : a + b + 1 ≡ a + (b + 1) = omega arith in
    ap (λ (ks : List ℤ). f (a + b) ++ ks) (ap (λ (k : ℕ). flat_map f (range_with_len k n)) e ∙ flat_map_shift f a (b + 1) n)

pub flat_map_same : (f g : ℕ → List ℤ) (a n : ℕ) → ((q : ℕ) → a ≤ q → q < a + n → f q ≡ g q) → flat_map f (range_with_len a n) ≡ flat_map g (range_with_len a n)
flat_map_same f g a zero same = refl
flat_map_same f g a (suc n) same =
    let here : f a ≡ g a = same a (omega arith) (omega arith) in
    let rest : flat_map f (range_with_len (a + 1) n) ≡ flat_map g (range_with_len (a + 1) n) = flat_map_same f g (a + 1) n (λ q low high. same q (omega arith) (omega arith)) in
    λ i. here i ++ rest i

pub map_same : (f g : ℕ → ℤ) (a n : ℕ) → ((q : ℕ) → a ≤ q → q < a + n → f q ≡ g q) → map f (range_with_len a n) ≡ map g (range_with_len a n)
map_same f g a zero same = refl
map_same f g a (suc n) same =
    let here : f a ≡ g a = same a (omega arith) (omega arith) in
    let rest : map f (range_with_len (a + 1) n) ≡ map g (range_with_len (a + 1) n) = map_same f g (a + 1) n (λ q low high. same q (omega arith) (omega arith)) in
    λ i. here i ∷ rest i

abbrev pub nothing : ℕ → List ℤ
nothing q = []

pub flat_map_none : (a n : ℕ) → flat_map nothing (range_with_len a n) ≡ []
flat_map_none a zero = refl
flat_map_none a (suc n) = flat_map_none (a + 1) n

-- rows of a, b of them
pub in_blocks : (f : ℕ → List ℤ) (a b : ℕ) → flat_map f (range_with_len 0 (a * b)) ≡ flat_map (λ z. flat_map (λ y. f (z * a + y)) (range_with_len 0 a)) (range_with_len 0 b)
in_blocks f a zero = ap (λ (n : ℕ). flat_map f (range_with_len 0 n)) (mul-zero a)
in_blocks f a (suc b) =
    let n : a * suc b ≡ a * b + a = mul-suc a b in
    let s : 0 + a * b ≡ b * a + 0 = omega arith in
    let z : b ≡ 0 + b = omega arith in
    let rows : flat_map f (range_with_len (0 + a * b) a) ≡ flat_map (λ y. f (b * a + y)) (range_with_len 0 a) =
    ap (λ (k : ℕ). flat_map f (range_with_len k a)) s ∙ flat_map_shift f (b * a) 0 a in
    ap (λ (k : ℕ). flat_map f (range_with_len 0 k)) n
    ∙ ap (λ (ks : List ℕ). flat_map f ks) (range_add 0 (a * b) a)
    ∙ flat_map-append f (range_with_len 0 (a * b)) (range_with_len (0 + a * b) a)
    ∙ (λ i. in_blocks f a b i ++ rows i)
    ∙ sym (
    ap (λ (ks : List ℕ). flat_map (λ w. flat_map (λ y. f (w * a + y)) (range_with_len 0 a)) ks) (range_next 0 b)
    ∙ flat_map-append (λ w. flat_map (λ y. f (w * a + y)) (range_with_len 0 a)) (range_with_len 0 b) ((0 + b) ∷ [])
    ∙ ap (λ (ks : List ℤ). flat_map (λ w. flat_map (λ y. f (w * a + y)) (range_with_len 0 a)) (range_with_len 0 b) ++ ks)
    (append-nil (flat_map (λ y. f ((0 + b) * a + y)) (range_with_len 0 a)) ∙ ap (λ (w : ℕ). flat_map (λ y. f (w * a + y)) (range_with_len 0 a)) (sym z)))

-- a number of steps is known by what it covers
no_less : (s a b c : ℕ) → 0 < s → c ≤ a * s → b * s < c + s → b ≤ a
no_less s a b c positive low high = by_test (nat_lt a b) refl
  where
    by_test : (t : Bool) → nat_lt a b ≡ t → b ≤ a
    by_test true e =
        let lt : a + 1 ≤ b = omega (arith, ltb-true a b e) in
        let more : (a + 1) * s ≤ b * s = mul-le-mul_right s lt in
        absurd (omega arith)
    by_test false e = ltb-false a b e

same_steps : (s a b c : ℕ) → 0 < s → c ≤ a * s → a * s < c + s → c ≤ b * s → b * s < c + s → a ≡ b
same_steps s a b c positive la ha lb hb = omega (arith, no_less s a b c positive la hb, no_less s b a c positive lb ha)

pub kept_zero : (step : ℕ) → 0 < step → kept_size step 0 ≡ 0
kept_zero step positive =
    let bounds = div_ceil_times 0 step positive in
    same_steps step (kept_size step 0) 0 0 positive (omega arith) bounds.1 (omega (arith, zero-mul step)) (omega (arith, zero-mul step))

kept_exact : (step n : ℕ) → 0 < step → n % step ≡ 0 → kept_size step n * step ≡ n
kept_exact step n positive e =
    let k : kept_size step n ≡ n / step = omega arith in
    ap (λ (m : ℕ). m * step) k ∙ omega (arith, div-add-mod' n step)

kept_next : (step n : ℕ) → 0 < step → n % step ≡ 0 → kept_size step (suc n) ≡ suc (kept_size step n)
kept_next step n positive e =
    let bounds = div_ceil_times (suc n) step positive in
    let exact : kept_size step n * step ≡ n = kept_exact step n positive e in
    let more : suc (kept_size step n) * step ≡ kept_size step n * step + step = suc-mul (kept_size step n) step in
    same_steps step (kept_size step (suc n)) (suc (kept_size step n)) (suc n) positive bounds.0 bounds.1 (omega (arith, more, exact)) (omega (arith, more, exact))

kept_same : (step n : ℕ) → 0 < step → 0 < n % step → kept_size step (suc n) ≡ kept_size step n
kept_same step n positive some =
    let bounds = div_ceil_times (suc n) step positive in
    let old = div_ceil_times n step positive in
    let k : kept_size step n ≡ n / step + 1 = omega arith in
    let times : kept_size step n * step ≡ n / step * step + step = ap (λ (m : ℕ). m * step) k ∙ omega arith in
    let whole : n / step * step + n % step ≡ n = div-add-mod' n step in
    let less : n % step < step = mod-lt n positive in
    same_steps step (kept_size step (suc n)) (kept_size step n) (suc n) positive bounds.0 bounds.1 (omega (arith, times, whole, less)) (omega (arith, old.1))

-- every step-th of some rows
pub every_step : (g : ℕ → List ℤ) (step n : ℕ) → 0 < step → flat_map (λ y. if y % step == 0 then g y else []) (range_with_len 0 n) ≡ flat_map (λ j. g (j * step)) (range_with_len 0 (kept_size step n))
every_step g step zero positive = ap (λ (k : ℕ). flat_map (λ j. g (j * step)) (range_with_len 0 k)) (sym (kept_zero step positive))
every_step g step (suc n) positive = by_test (n % step == 0) refl (every_step g step n positive)
  where
    front : flat_map (λ y. if y % step == 0 then g y else []) (range_with_len 0 (suc n)) ≡ flat_map (λ y. if y % step == 0 then g y else []) (range_with_len 0 n) ++ ((if n % step == 0 then g n else []) ++ [])
    front =
        let z : 0 + n ≡ n = omega arith in
        ap (λ (ks : List ℕ). flat_map (λ y. if y % step == 0 then g y else []) ks) (range_next 0 n ∙ ap (λ (k : ℕ). range_with_len 0 n ++ k ∷ []) z)
        ∙ flat_map-append (λ y. if y % step == 0 then g y else []) (range_with_len 0 n) (n ∷ [])

    by_test : (b : Bool) → (n % step == 0) ≡ b → flat_map (λ y. if y % step == 0 then g y else []) (range_with_len 0 n) ≡ flat_map (λ j. g (j * step)) (range_with_len 0 (kept_size step n)) → flat_map (λ y. if y % step == 0 then g y else []) (range_with_len 0 (suc n)) ≡ flat_map (λ j. g (j * step)) (range_with_len 0 (kept_size step (suc n)))
    by_test true t more =
        let kept : ℕ = kept_size step n in
        let e : n % step ≡ 0 = zero_is (n % step) t in
        let z : 0 + kept_size step n ≡ kept_size step n = omega arith in
        front
        ∙ (λ i. more i ++ ((if t i then g n else []) ++ []))
        ∙ sym (
        ap (λ (k : ℕ). flat_map (λ j. g (j * step)) (range_with_len 0 k)) (kept_next step n positive e)
        ∙ ap (λ (ks : List ℕ). flat_map (λ j. g (j * step)) ks) (range_next 0 (kept_size step n) ∙ ap (λ (k : ℕ). range_with_len 0 (kept_size step n) ++ k ∷ []) z)
        ∙ flat_map-append (λ j. g (j * step)) (range_with_len 0 (kept_size step n)) (kept_size step n ∷ [])
        ∙ ap (λ (k : ℕ). flat_map (λ j. g (j * step)) (range_with_len 0 (kept_size step n)) ++ (g k ++ [])) (kept_exact step n positive e))
    by_test false t more =
        front
        ∙ (λ i. more i ++ ((if t i then g n else []) ++ []))
        ∙ append-nil (flat_map (λ j. g (j * step)) (range_with_len 0 (kept_size step n)))
        ∙ ap (λ (k : ℕ). flat_map (λ j. g (j * step)) (range_with_len 0 k)) (sym (kept_same step n positive (some_is (n % step) t)))

-- the row and the plane of a row's number
pub row_in_plane : (a z y : ℕ) → y < a → (z * a + y) % a ≡ y
row_in_plane a z y lt = let e : z * a + y ≡ y + z * a = omega arith in ap (λ (n : ℕ). n % a) e ∙ add-mul-mod_self_right y z a ∙ mod-eq_of_lt lt

pub plane_of_row : (a z y : ℕ) → y < a → (z * a + y) / a ≡ z
plane_of_row a z y lt =
    let e : z * a + y ≡ y + z * a = omega arith in
    let positive : 0 < a = omega arith in
    ap (λ (n : ℕ). n / a) e ∙ add-mul-div_right y z positive ∙ ap (λ (k : ℕ). k + z) (div-eq_of_lt lt) ∙ omega arith

-- a kept number stands within
pub kept_below : (step n i : ℕ) → 0 < step → i < kept_size step n → i * step < n
kept_below step n i positive lt =
    let bounds = div_ceil_times n step positive in
    let le : i + 1 ≤ kept_size step n = omega arith in
    let times : (i + 1) * step ≤ kept_size step n * step = mul-le-mul_right step le in
    omega (arith, times, bounds.1)

pub length_flat_map : (f : ℕ → List ℤ) (c a n : ℕ) → ((q : ℕ) → length (f q) ≡ c) → length (flat_map f (range_with_len a n)) ≡ n * c
length_flat_map f c a zero same = sym (zero-mul c)
length_flat_map f c a (suc n) same = length-append (f a) (flat_map f (range_with_len (a + 1) n)) ∙ omega (arith, same a, length_flat_map f c (a + 1) n same, suc-mul n c)
