use Rattle.std.proofs.Common.{◌≡◌, ◌+◌, ℕ}
use Rattle.std.specs.Option.{ForSome}
use Rattle.dihedral.specs.Fractions.{AreFractions}
use Rattle.slab_emit.specs.declared.Lines.{Lines}
use Rattle.slab_emit.specs.Parts.{AreParts}
use Rattle.slab_emit.specs.Sources.{AreMeasured, SourceValue}
use Rattle.mesh_rounds.specs.Rounds.{extremes_to}
use Rattle.mesh_rounds.proofs.folding.fold_parts.Given as goal

abbrev pub invariant-loop-number : goal.invariant-loop-number
invariant-loop-number l = record {
  fractions : ForSome l.all AreFractions;
  found : (lines : Lines) (s : SourceValue) (first : ℕ) → AreMeasured s → AreParts lines s first l.parts → l.fn.before ≡ extremes_to lines s first → l.all ≡ extremes_to lines s (first + l.number);
}
