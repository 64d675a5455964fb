-- What is proved of the lines and the angles of layers.
use Rattle.std.specs.Prelude.{◌≡◌, ◌<◌, ◌≤◌, ℕ, List, ◌++◌, All, map, flat_map}
use Rattle.std.specs.List.{range_with_len}
use Rattle.definitions.specs.declared.State.{State}
use Rattle.definitions.specs.Angles.{angles}
use Rattle.definitions.specs.Lattice.{layers}
use Rattle.definitions.specs.Layout.{slab_from, slab_to, slabs}
use Rattle.definitions.specs.Values.{Field}
use Rattle.dihedral.specs.Fractions.{IsAngle}
use Rattle.formats.specs.declared.Frame.{Frame}
use Rattle.mesh_texts.specs.Nodes.{nodes_of}
use Rattle.mesh_texts.specs.Lines.{ele_lines, node_lines, renumbered}
use Rattle.mesh_lists.specs.Parts.{mesh_of}
use Rattle.slab_texts.specs.Spans.{span_angles, span_node_lines, span_tet_lines, span_tets}
use Rattle.slab_texts.specs.Texts.{IsMeasured}

-- Lines and angles of layers, and of those that follow, are those of both.
pub record SpansJoin (f : Field) (ss : List State) : Type 0 where
  pub nodes : (frame : Frame) (first from mid to : ℕ) → from ≤ mid → mid ≤ to → span_node_lines frame first f ss from mid ++ span_node_lines frame first f ss mid to ≡ span_node_lines frame first f ss from to
  pub tets : (first from mid to : ℕ) → from ≤ mid → mid ≤ to → span_tet_lines first f.dims ss from mid ++ span_tet_lines first f.dims ss mid to ≡ span_tet_lines first f.dims ss from to
  pub angles : (from mid to : ℕ) → from ≤ mid → mid ≤ to → span_angles f ss from mid ++ span_angles f ss mid to ≡ span_angles f ss from to

-- Those of all layers are those of the mesh.
pub record SpansAreAll (f : Field) (ss : List State) : Type 0 where
  pub nodes : (frame : Frame) (first : ℕ) → span_node_lines frame first f ss 0 (layers f.dims) ≡ node_lines frame first (nodes_of f ss)
  pub tets : (first : ℕ) → span_tet_lines first f.dims ss 0 (layers f.dims) ≡ ele_lines first (map (renumbered first) (mesh_of f ss).tets)
  pub angles : span_angles f ss 0 (layers f.dims) ≡ angles (mesh_of f ss)

-- Those of each slab, one slab after another, are those of the mesh.
pub record SlabsJoin (f : Field) (ss : List State) (t : ℕ) : Type 0 where
  pub nodes : (frame : Frame) (first : ℕ) → flat_map (λ j. span_node_lines frame first f ss (slab_from t j) (slab_to f.dims t j)) (range_with_len 0 (slabs f.dims t)) ≡ node_lines frame first (nodes_of f ss)
  pub tets : (first : ℕ) → flat_map (λ j. span_tet_lines first f.dims ss (slab_from t j) (slab_to f.dims t j)) (range_with_len 0 (slabs f.dims t)) ≡ ele_lines first (map (renumbered first) (mesh_of f ss).tets)
  pub angles : flat_map (λ j. span_angles f ss (slab_from t j) (slab_to f.dims t j)) (range_with_len 0 (slabs f.dims t)) ≡ angles (mesh_of f ss)

-- Angles of tetrahedra that are measured are fractions; so extremes of layers fold to those of all.
abbrev pub AnglesAreFractions : Type 0
AnglesAreFractions = (f : Field) (ss : List State) (from to : ℕ) → All (IsMeasured (mesh_of f ss).places) (span_tets f.dims ss from to) → All IsAngle (span_angles f ss from to)

abbrev pub AllSpansJoin : Type 0
AllSpansJoin = (f : Field) (ss : List State) → SpansJoin f ss

abbrev pub AllSpansAreAll : Type 0
AllSpansAreAll = (f : Field) (ss : List State) → SpansAreAll f ss

abbrev pub AllSlabsJoin : Type 0
AllSlabsJoin = (f : Field) (ss : List State) (t : ℕ) → 0 < t → SlabsJoin f ss t
