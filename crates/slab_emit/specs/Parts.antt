-- Parts of the texts, slab by slab.
use Rattle.std.specs.Prelude.{◌≡◌, ℕ, ◌+◌, ◌<◌, List, length, slice_index_or}
use Rattle.std.specs.Option.{ForSome}
use Rattle.dihedral.specs.Fractions.{AreFractions}
use Rattle.slab_emit.specs.declared.lines.Lines.{Lines}
use Rattle.slab_emit.specs.declared.part.Part.{Part}
use Rattle.slab_emit.specs.Sources.{SourceValue, slab_extremes, slab_lines}

-- the part of slab j
pub record IsPart (lines : Lines) (s : SourceValue) (j : ℕ) (p : Part) : Type 0 where
  pub number : p.slab ≡ j
  pub text : p.text.items ≡ slab_lines lines s j
  pub extremes : p.extremes ≡ slab_extremes lines s j
  pub fractions : ForSome p.extremes AreFractions

-- those of slabs one after another, from one on
pub record AreParts (lines : Lines) (s : SourceValue) (first : ℕ) (ps : List Part) : Type 0 where
  pub each : (k : ℕ) (d : Part) → k < length ps → IsPart lines s (first + k) (slice_index_or ps k d)
