-- The layers of slabs, and of their reaches.
use Rattle.std.proofs.Common.{◌≡◌, ℕ, ◌+◌, ◌-◌, ◌*◌, ◌/◌, ◌%◌, ◌<◌, ◌≤◌, min, true, arith}
use Rattle.std.proofs.lemmas.Grind.{div_ceil_times}
use Rattle.std.proofs.Math.Nat.{div-lt_iff_lt-mul, lt-mul-div-succ, mul-div-le, mul-le-mul_right}
use Rattle.definitions.specs.declared.Dims.{Dims}
use Rattle.definitions.specs.Lattice.{layers}
use Rattle.definitions.specs.Layout.{reach, reach_from, reach_to, slab_from, slab_to, slabs}
use Rattle.list_words.specs.Words.{has}
use Rattle.list_words.proofs.Lists.{has_range}
use Rattle.slab_survey.specs.Layers.{slab_layers}

-- a slab begins below the last layer
pub slab_begins : (d : Dims) (t j : ℕ) → 1 ≤ t → j < slabs d t → slab_from t j < layers d
slab_begins d t j some lt = begins (layers d) (2 * t) j (omega arith) lt
  where
    begins : (l m j : ℕ) → 0 < m → j < l / m + min 1 (l % m) → m * j < l
    begins l m j some lt =
        let c = (div_ceil_times l m some).1 in
        let p : (j + 1) * m ≤ (l / m + min 1 (l % m)) * m = mul-le-mul_right m (let q : j + 1 ≤ l / m + min 1 (l % m) = omega arith in q) in
        let e : (j + 1) * m ≡ m * j + m = omega arith in
        omega arith

pub slab_rises : (d : Dims) (t j : ℕ) → 1 ≤ t → j < slabs d t → slab_from t j ≤ slab_to d t j
slab_rises d t j some lt =
    let b = slab_begins d t j some lt in
    let e : 2 * t * (j + 1) ≡ 2 * t * j + 2 * t = omega arith in
    omega arith

-- a reach is of layers
pub reach_within : (d : Dims) (t j : ℕ) → 1 ≤ t → j < slabs d t → reach_from t j + (reach_to d t j - reach_from t j) ≤ layers d
reach_within d t j some lt = let b = slab_begins d t j some lt in within (slab_from t j) (slab_to d t j) (layers d) b
  where
    within : (f p l : ℕ) → f < l → f - 2 + (min (p + 2) l - (f - 2)) ≤ l
    within f p l lt = omega arith

-- each layer is one of a slab
pub slab_of : (d : Dims) (t h : ℕ) → 1 ≤ t → h < layers d → (h / (2 * t) < slabs d t) × (has h (slab_layers d t (h / (2 * t))) ≡ true)
slab_of d t h some below =
    let c = (div_ceil_times (layers d) (2 * t) (omega arith)).0 in
    let lo = mul-div-le h (2 * t) in
    let hi = lt-mul-div-succ h {b = 2 * t} (omega arith) in (
      (div-lt_iff_lt-mul (omega arith)).1 (omega arith),
      has_range h (slab_from t (h / (2 * t))) (slab_to d t (h / (2 * t)) - slab_from t (h / (2 * t))) lo (under (slab_from t (h / (2 * t))) (2 * t * (h / (2 * t) + 1)) (layers d) h lo hi below),
    )
  where
    under : (f p l h : ℕ) → f ≤ h → h < p → h < l → h < f + (min p l - f)
    under f p l h a b c = omega arith

-- and of its reach
pub reach_of : (d : Dims) (t h : ℕ) → 1 ≤ t → h < layers d → has h (reach d t (h / (2 * t))) ≡ true
reach_of d t h some below =
    let lo = mul-div-le h (2 * t) in
    let hi = lt-mul-div-succ h {b = 2 * t} (omega arith) in
    has_range h (reach_from t (h / (2 * t))) (reach_to d t (h / (2 * t)) - reach_from t (h / (2 * t))) (let f : slab_from t (h / (2 * t)) - 2 ≤ slab_from t (h / (2 * t)) = omega arith in omega arith) (under (slab_from t (h / (2 * t))) (2 * t * (h / (2 * t) + 1)) (layers d) h lo hi below)
  where
    under : (f p l h : ℕ) → f ≤ h → h < p → h < l → h < f - 2 + (min (min p l + 2) l - (f - 2))
    under f p l h a b c = omega arith
