-- What reading the samples behind a head comes to.
use Rattle.std.specs.Prelude.{◌≡◌, ◌⊎◌, ◌<◌, ℕ, min, List, [], length, slice_index, Option, Some, Result, Ok, Err, true, false, ⊤}
use Rattle.definitions.specs.Lattice.{padded_product}
use Rattle.formats.specs.declared.Head.{Head}
use Rattle.formats.specs.declared.Limits.{Limits}
use Rattle.formats.specs.Volumes.{Volume, VolumeAnswer, Large, EndsEarly, Whole, is_too_large, kept_dims, wanted_bytes}
use Rattle.mha_read.specs.LinesRead.{Leaves}
use Rattle.mha_read.specs.declared.samples.Grid.{Grid}
use Rattle.mha_read.specs.declared.volumes.VolFault.{VolFault}
use Rattle.mha_read.specs.declared.volumes.VolFault.TheVariants.{TooLarge, Truncated, ReadFault, NoMemory}

-- what an answer says of the head alone
abbrev pub FollowsHead : Limits → Head → ℕ → Result Volume VolFault → Type 0
FollowsHead limits head step (Ok v) = (is_too_large limits head step ≡ false) × (v.dims ≡ kept_dims head step) × (v.step ≡ step) × (v.kind ≡ head.kind)
FollowsHead limits head step (Err (TooLarge padded)) = (is_too_large limits head step ≡ true) × (padded ≡ padded_product (kept_dims head step))
FollowsHead limits head step (Err (Truncated got wanted)) = (is_too_large limits head step ≡ false) × (wanted ≡ wanted_bytes head) × (got < wanted)
FollowsHead limits head step (Err ReadFault) = is_too_large limits head step ≡ false
FollowsHead limits head step (Err NoMemory) = is_too_large limits head step ≡ false

-- The answer is the one that the told rest of an input has, and so is what is left. A fault of reading comes before the last byte that is wanted, or where the rest ends before it.
abbrev pub VolumeTold : VolumeAnswer → ℕ → Result Volume VolFault → List ℕ → Option (List ℕ) → Type 0
VolumeTold answer wanted (Ok v) rest left = (answer ≡ Whole v) × Leaves rest wanted left
VolumeTold answer wanted (Err (TooLarge padded)) rest left = (answer ≡ Large padded) × (left ≡ Some rest)
VolumeTold answer wanted (Err (Truncated got all)) rest left = (answer ≡ EndsEarly got all) × (left ≡ Some [])
VolumeTold answer wanted (Err ReadFault) rest left = (n : ℕ) × Leaves rest n left × ((n < min wanted (length rest)) ⊎ ((n ≡ length rest) × (n < wanted)))
VolumeTold answer wanted (Err NoMemory) rest left = ⊤

-- how the samples behind a head stand
abbrev pub grid_in : Head → ℕ → Grid
grid_in head step = record { kind = head.kind; big = head.big; width = slice_index head.raw 0; height = slice_index head.raw 1; step = step }
