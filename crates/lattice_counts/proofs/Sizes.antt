-- Within the limit of the sizes all numbers of vertices are small.
use Rattle.std.proofs.Common.{ℕ, ◌+◌, ◌-◌, ◌*◌, ◌^◌, ◌<◌, ◌≤◌, arith}
use Rattle.std.proofs.Math.Nat.{mul-le-mul, mul-le-mul_right, mul-le-mul_left}
use Rattle.definitions.specs.declared.Dims.{Dims}
use Rattle.definitions.specs.Lattice.{IsDims}
use Rattle.lattice_counts.specs.Counts.{even_len, odd_len}

-- a product of three numbers of at least 3 bounds each of them, and each two of them
pub three : (a b c : ℕ) → 3 ≤ a → 3 ≤ b → 3 ≤ c → a * b * c ≤ 2 ^ 26 → (a < 2 ^ 23) × (b < 2 ^ 23) × (c < 2 ^ 23) × (a * b < 2 ^ 25)
three a b c ha hb hc h =
    let ab : 9 ≤ a * b = mul-le-mul ha hb in
    let c9 : 9 * c ≤ a * b * c = mul-le-mul_right c ab in
    let ab3 : a * b * 3 ≤ a * b * c = mul-le-mul_left (a * b) hc in
    let a3 : a * 3 ≤ a * b = mul-le-mul_left a hb in
    let b3 : 3 * b ≤ a * b = mul-le-mul_right b ha in
    (omega arith, omega arith, omega arith, omega arith)

-- all vertices
pub in_all : (d : Dims) → IsDims d → (d.nz + 1) * (even_len d + odd_len d) + even_len d ≤ 2 ^ 27
in_all d is = total d.nx d.ny d.nz is.within
  where
    total : (x y z : ℕ) → (x + 2) * (y + 2) * (z + 2) ≤ 2 ^ 26 → (z + 1) * ((x + 2) * (y + 2) + (x + 1) * (y + 1)) + (x + 2) * (y + 2) ≤ 2 ^ 27
    total x y z h =
        let xy : (x + 1) * (y + 1) ≤ (x + 2) * (y + 2) = (let a : x + 1 ≤ x + 2 = omega arith in let b : y + 1 ≤ y + 2 = omega arith in mul-le-mul a b) in
        let both : (x + 2) * (y + 2) + (x + 1) * (y + 1) ≤ 2 * ((x + 2) * (y + 2)) = omega arith in
        let layers : (z + 1) * ((x + 2) * (y + 2) + (x + 1) * (y + 1)) ≤ (z + 1) * (2 * ((x + 2) * (y + 2))) = mul-le-mul_left (z + 1) both in
        omega arith

-- each size, and the product of two
pub nx_small : (d : Dims) → IsDims d → d.nx < 2 ^ 23
nx_small d is =
    let t = three (d.nx + 2) (d.ny + 2) (d.nz + 2) (let h = is.nx_positive in omega arith) (let h = is.ny_positive in omega arith) (let h = is.nz_positive in omega arith) is.within in
    let h = t.0 in omega arith

pub ny_small : (d : Dims) → IsDims d → d.ny < 2 ^ 23
ny_small d is =
    let t = three (d.nx + 2) (d.ny + 2) (d.nz + 2) (let h = is.nx_positive in omega arith) (let h = is.ny_positive in omega arith) (let h = is.nz_positive in omega arith) is.within in
    let h = t.1 in omega arith

pub nz_small : (d : Dims) → IsDims d → d.nz < 2 ^ 23
nz_small d is =
    let t = three (d.nx + 2) (d.ny + 2) (d.nz + 2) (let h = is.nx_positive in omega arith) (let h = is.ny_positive in omega arith) (let h = is.nz_positive in omega arith) is.within in
    let h = t.2 in omega arith

pub even_small : (d : Dims) → IsDims d → (d.nx + 2) * (d.ny + 2) < 2 ^ 25
even_small d is =
    let t = three (d.nx + 2) (d.ny + 2) (d.nz + 2) (let h = is.nx_positive in omega arith) (let h = is.ny_positive in omega arith) (let h = is.nz_positive in omega arith) is.within in
    t.3

pub odd_small : (d : Dims) → IsDims d → (d.nx + 1) * (d.ny + 1) < 2 ^ 25
odd_small d is =
    let a : d.nx + 1 ≤ d.nx + 2 = omega arith in
    let b : d.ny + 1 ≤ d.ny + 2 = omega arith in
    let m : (d.nx + 1) * (d.ny + 1) ≤ (d.nx + 2) * (d.ny + 2) = mul-le-mul a b in
    let e = even_small d is in
    omega arith

pub layer_small : (d : Dims) (o : ℕ) → IsDims d → (d.ny + 2 - o) * (d.nx + 2 - o) < 2 ^ 25
layer_small d o is =
    let a : d.ny + 2 - o ≤ d.ny + 2 = omega arith in
    let b : d.nx + 2 - o ≤ d.nx + 2 = omega arith in
    let m : (d.ny + 2 - o) * (d.nx + 2 - o) ≤ (d.ny + 2) * (d.nx + 2) = mul-le-mul a b in
    let e = even_small d is in
    chain ((d.ny + 2 - o) * (d.nx + 2 - o)) (d.nx + 2) (d.ny + 2) m e
  where
    chain : (p x y : ℕ) → p ≤ y * x → x * y < 2 ^ 25 → p < 2 ^ 25
    chain p x y m e = omega arith
