-- The report of a mesh by its parts.
use Rattle.std.proofs.Common.{◌≡◌, ℕ, Option, length}
use Rattle.definitions.specs.declared.Extremes.{Extremes}
use Rattle.definitions.specs.Angles.{angles, extremes_of}
use Rattle.definitions.specs.Mesh.{Mesh}
use Rattle.mesh_texts.specs.Report.{mesh_extremes, report, report_text}

pub report_by : (m : Mesh) (nodes tets : ℕ) (e : Option Extremes) (first : ℕ) → nodes ≡ length m.places → tets ≡ length m.tets → e ≡ extremes_of (angles m) → report_text nodes tets e first ≡ report first m
unfolding mesh_extremes
report_by m nodes tets e first n t h = λ i. report_text (n i) (t i) (h i) first
