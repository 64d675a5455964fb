-- What is surveyed, as that from which lines are made.
use Rattle.std.specs.Prelude.{ℕ, ◌*◌, ◌≤◌}
use Rattle.definitions.specs.declared.Dims.{Dims}
use Rattle.definitions.specs.States.{states}
use Rattle.slab_emit.specs.Sources.{SourceValue}
use Rattle.survey.specs.Surveys.{SurveyValue}

abbrev pub surveyed : SurveyValue → SourceValue
surveyed s = record { field = s.subject.field; states = states s.subject.field s.subject.shares; slab = s.layout.slab }

-- the sizes with their step are those of an image within the limits
pub record AreKept (step : ℕ) (d : Dims) : Type 0 where
  pub nx : step * d.nx ≤ 8255
  pub ny : step * d.ny ≤ 8255
  pub nz : step * d.nz ≤ 8255
