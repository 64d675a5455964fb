-- What the text of a volume reads as.
use Rattle.std.specs.Prelude.{◌≡◌, ℕ, List, [], ◌∷◌, length, Ok, Bool, false}
use Rattle.formats.specs.declared.Limits.{Limits}
use Rattle.formats.specs.Frames.{unit_axes}
use Rattle.formats.specs.Heads.{HeadAt, head_of}
use Rattle.formats.specs.Volumes.{Volume, Whole, is_too_large, volume_of, volume_answer}
use Rattle.mha_write.specs.Text.{plain_head}

-- the head that the text of a volume has: the kept sizes, the type, the least significant byte first, spacing 1 and offset 0
abbrev pub written_head : Volume → HeadAt
written_head v = record { head = record { raw = v.dims.nx ∷ v.dims.ny ∷ v.dims.nz ∷ []; kind = v.kind; big = false; axes = unit_axes }; len = length (plain_head v.dims v.kind) }

-- the volume with nothing left out
abbrev pub at_step_one : Volume → Volume
at_step_one v = record { dims = v.dims; step = 1; kind = v.kind; samples = v.samples }

-- A text begins with the head of the volume, behind it stands the volume, and reading it under limits that hold its sizes answers the volume.
pub record ReadsAs (text : List ℕ) (v : Volume) : Type 0 where
  pub head : (world : Bool) → head_of world text ≡ Ok (written_head v)
  pub volume : volume_of text (written_head v) 1 ≡ at_step_one v
  pub answer : (limits : Limits) → is_too_large limits (written_head v).head 1 ≡ false → volume_answer limits text (written_head v) 1 ≡ Whole (at_step_one v)
