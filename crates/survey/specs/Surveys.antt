-- What contracts see of a survey and of its trace.
use Rattle.std.specs.Prelude.{◌≡◌, ℕ, ◌+◌, ◌-◌, ◌*◌, ◌≤◌, List, length}
use Rattle.definitions.specs.Lattice.{layers}
use Rattle.definitions.specs.Layout.{slabs}
use Rattle.bcc_lattice.specs.declared.Layout.{Layout}
use Rattle.bcc_lattice.specs.Layouts.{IsLayout}
use Rattle.list_words.specs.Words.{EachOnce}
use Rattle.layer_cells.specs.Seats.{Subject}

-- whose states were made, the layers in slabs, the slabs in the order in which the workers' lists were joined, and the layers that the workers made
pub record SurveyValue : Type 0 where
  pub subject : Subject
  pub layout : Layout
  pub drawn : List ℕ
  pub made : List ℕ

-- The layout has the field's sizes, each slab was drawn once, and few layers were made more than once.
pub record IsSurvey (s : SurveyValue) : Type 0 where
  pub layout : IsLayout s.layout.dims s.layout.slab
  pub sizes : s.layout.dims ≡ s.subject.field.dims
  pub drawn : EachOnce (slabs s.layout.dims s.layout.slab) s.drawn
  pub few : length s.made ≤ layers s.layout.dims + 4 * (slabs s.layout.dims s.layout.slab - 1)
