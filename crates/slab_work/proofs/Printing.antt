-- The places of a mesh can be printed.
use Rattle.std.proofs.Common.{◌≡◌, ℕ, ◌+◌, ◌*◌, ◌<◌, ◌≤◌, List, Option, Some, None, arith}
use Rattle.std.specs.Prelude.{unsigned_abs}
use Rattle.std.proofs.Math.IntN.{ℤ, pos, negsuc, ◌*ℤ◌}
use Rattle.std.proofs.Math.Nat.{mul-le-mul_left}
use Rattle.std.proofs.lemmas.Int.{ints, unsigned_abs-mul}
use Rattle.definitions.specs.declared.Dims.{Dims}
use Rattle.definitions.specs.declared.Place.{Place}
use Rattle.formats.specs.declared.Axis.{Axis}
use Rattle.formats.specs.declared.Frame.{Frame}
use Rattle.formats.specs.Frames.{IsFrame}
use Rattle.node_ele_write.specs.Printable.{IsPrintable, coordinate_limit}
use Rattle.place_laws.specs.Inside.{IsOnAxis, StandsInside}
use Rattle.slab_work.specs.Surveyed.{AreKept}

size_on_axis : (n : ℕ) (z : ℤ) → IsOnAxis n z → unsigned_abs z ≤ 8192 * (n + 1)
size_on_axis n (pos m) a = let high = a.high in omega (arith, ints, high)
size_on_axis n (negsuc m) a = let low = a.low in omega (arith, ints, low)

spread : (step n : ℕ) → step * (8192 * (n + 1)) ≡ 8192 * (step * n) + 8192 * step
spread step n = omega arith

on_axis : (step n : ℕ) (z : ℤ) → step ≤ 64 → step * n ≤ 8255 → IsOnAxis n z → unsigned_abs (pos step *ℤ z) < 8192 * 9000
on_axis step n z small kept a =
    let product = unsigned_abs-mul (pos step) z in
    let size = mul-le-mul_left {m = unsigned_abs z} {n = 8192 * (n + 1)} step (size_on_axis n z a) in
    omega (arith, product, size, spread step n, kept)

within_limit : (world : Option (List Axis)) (n : ℕ) → n < 8192 * 9000 → n < coordinate_limit world
within_limit (Some axes) n lt = lt
within_limit None n lt = omega arith

pub printable : (frame : Frame) (d : Dims) (p : Place) → IsFrame frame → AreKept frame.step d → StandsInside d p → IsPrintable frame p
printable frame d p is kept h =
    let step = frame.step in
    record {
      x = within_limit frame.world _ (on_axis step d.nx p.x is.step_high kept.nx h.x);
      y = within_limit frame.world _ (on_axis step d.ny p.y is.step_high kept.ny h.y);
      z = within_limit frame.world _ (on_axis step d.nz p.z is.step_high kept.nz h.z);
      axes = is.axes;
    }
