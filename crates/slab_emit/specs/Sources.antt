-- What contracts see of that from which lines are made, and the lines and the angles of its slabs.
use Rattle.std.specs.Prelude.{◌≡◌, ◌≤◌, ⊤, ℕ, List, [], All, Option, None}
use Rattle.bcc_lattice.specs.Layouts.{IsLayout}
use Rattle.definitions.specs.declared.Dims.{Dims}
use Rattle.definitions.specs.declared.State.{State}
use Rattle.definitions.specs.declared.Extreme.{Extreme}
use Rattle.definitions.specs.declared.Extremes.{Extremes}
use Rattle.definitions.specs.Angles.{extremes_of}
use Rattle.definitions.specs.Layout.{slab_from, slab_to}
use Rattle.definitions.specs.Mesh.{ArePadded}
use Rattle.definitions.specs.Values.{Field}
use Rattle.node_ele_write.specs.Printable.{IsPrintable}
use Rattle.mesh_lists.specs.Parts.{mesh_of}
use Rattle.vertex_numbers.specs.declared.LayerCount.{LayerCount}
use Rattle.vertex_numbers.specs.Counts.{layer_counts}
use Rattle.slab_texts.specs.Spans.{span_angles, span_node_lines, span_tet_lines}
use Rattle.slab_texts.specs.Texts.{IsMeasured}
use Rattle.slab_emit.specs.declared.lines.Lines.{Lines}
use Rattle.slab_emit.specs.declared.lines.Lines.TheVariants.{Nodes, Tets, Angles}

-- a field, states of all vertices, and the size of slabs
pub record SourceValue : Type 0 where
  pub field : Field
  pub states : List State
  pub slab : ℕ

-- all tetrahedra have angles that can be measured
abbrev pub AreMeasured : SourceValue → Type 0
AreMeasured s = All (IsMeasured (mesh_of s.field s.states).places) (mesh_of s.field s.states).tets

-- the sizes are those of the field, no vertex of the padding is Plus, the counts are those of the layers, and all angles can be measured
pub record FitSource (s : SourceValue) (dims : Dims) (counts : List LayerCount) : Type 0 where
  pub sizes : dims ≡ s.field.dims
  pub padded : ArePadded s.field.dims s.states
  pub offsets : counts ≡ layer_counts s.field.dims s.states
  pub layout : IsLayout s.field.dims s.slab
  pub measured : AreMeasured s

-- the lines of slab j
abbrev pub slab_lines : Lines → SourceValue → ℕ → List ℕ
slab_lines (Nodes frame first) s j = span_node_lines frame first s.field s.states (slab_from s.slab j) (slab_to s.field.dims s.slab j)
slab_lines (Tets first) s j = span_tet_lines first s.field.dims s.states (slab_from s.slab j) (slab_to s.field.dims s.slab j)
slab_lines Angles s j = []

-- the angles of slab j
abbrev pub slab_angles : SourceValue → ℕ → List Extreme
slab_angles s j = span_angles s.field s.states (slab_from s.slab j) (slab_to s.field.dims s.slab j)

-- their extremes, none with the lines of nodes
abbrev pub slab_extremes : Lines → SourceValue → ℕ → Option Extremes
slab_extremes (Nodes frame first) s j = None
slab_extremes (Tets first) s j = extremes_of (slab_angles s j)
slab_extremes Angles s j = extremes_of (slab_angles s j)

-- numbers begin at 0 or 1, and the nodes can be printed, where lines are asked for
abbrev pub CanPrint : Lines → SourceValue → Type 0
CanPrint (Nodes frame first) s = (first ≤ 1) × All (IsPrintable frame) (mesh_of s.field s.states).places
CanPrint (Tets first) s = first ≤ 1
CanPrint Angles s = ⊤
