-- The kinds that the code names, as kinds of the laws.
use Rattle.lattice_laws.specs.Kinds.{Kind, kind_146, kind_256, kind_347, kind_357, kind_467, kind_567}
use Rattle.moved_matrix.specs.declared.forms.Kind.{Kind as KindInCode}
use Rattle.moved_matrix.specs.declared.forms.Kind.TheVariants.{Of146, Of256, Of347, Of357, Of467, Of567}

abbrev pub as_kind : KindInCode → Kind
as_kind Of146 = kind_146
as_kind Of256 = kind_256
as_kind Of347 = kind_347
as_kind Of357 = kind_357
as_kind Of467 = kind_467
as_kind Of567 = kind_567
