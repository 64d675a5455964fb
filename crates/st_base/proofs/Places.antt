-- Places in an image of samples, x fastest.
use Rattle.std.proofs.Common.{ℕ, ◌+◌, ◌*◌, ◌^◌, ◌<◌, ◌≤◌, arith}
use Rattle.std.proofs.Math.Nat.{mul-le-mul, mul-le-mul_right}
use Rattle.definitions.specs.declared.Dims.{Dims}
use Rattle.definitions.specs.Lattice.{IsDims}

-- the number of a row of samples
pub row_below : (ny nz j k : ℕ) → j < ny → k < nz → k * ny + j + 1 ≤ nz * ny
row_below ny nz j k hj hk =
    let whole : (k + 1) * ny ≤ nz * ny = mul-le-mul_right ny (let h : k + 1 ≤ nz = omega arith in h) in
    omega arith

-- a sample's number is below their count
pub place_below : (nx ny nz i j k : ℕ) → i < nx → j < ny → k < nz → (k * ny + j) * nx + i < nx * ny * nz
place_below nx ny nz i j k hi hj hk =
    let row : k * ny + j + 1 ≤ nz * ny = row_below ny nz j k hj hk in
    let whole : (k * ny + j + 1) * nx ≤ nz * ny * nx = mul-le-mul_right nx row in
    omega arith

-- within the limits there are at most 2^26 samples
pub count_within : (d : Dims) → IsDims d → d.nx * d.ny * d.nz ≤ 2 ^ 26
count_within d is =
    let x : d.nx ≤ d.nx + 2 = omega arith in
    let y : d.ny ≤ d.ny + 2 = omega arith in
    let z : d.nz ≤ d.nz + 2 = omega arith in
    let xy : d.nx * d.ny ≤ (d.nx + 2) * (d.ny + 2) = mul-le-mul x y in
    let xyz : d.nx * d.ny * d.nz ≤ (d.nx + 2) * (d.ny + 2) * (d.nz + 2) = mul-le-mul xy z in
    let within : (d.nx + 2) * (d.ny + 2) * (d.nz + 2) ≤ 2 ^ 26 = is.within in
    omega arith
