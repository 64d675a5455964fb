-- One byte in both orders.
use Rattle.std.proofs.Common.{◌≡◌, ℕ, List, Bool, true, false, arith}
use Rattle.std.specs.Prelude.{slice_index}
use Rattle.formats.specs.Samples.{unsigned_number}

pub one_byte : (big : Bool) (bytes : List ℕ) → slice_index bytes 0 ≡ unsigned_number big 1 bytes
one_byte true bytes = omega arith
one_byte false bytes = omega arith
