-- The lines of all slabs, the files that they stand in, and what is found on the way.
use Rattle.std.specs.Prelude.{◌≡◌, ℕ, ◌+◌, ◌<◌, ◌≤◌, ◌^◌, List, [], ◌++◌, length, map, flat_map, codes, decimal, Option, None}
use Rattle.std.specs.List.{range_with_len}
use Rattle.std.specs.Option.{ForSome}
use Rattle.definitions.specs.declared.Extremes.{Extremes}
use Rattle.definitions.specs.Angles.{angles, extremes_of}
use Rattle.definitions.specs.Layout.{slabs}
use Rattle.dihedral.specs.Fractions.{AreFractions}
use Rattle.mesh_texts.specs.Files.{ele_text, node_text}
use Rattle.mesh_texts.specs.Nodes.{nodes_of}
use Rattle.mesh_texts.specs.Lines.{ele_lines, node_lines, renumbered}
use Rattle.mesh_lists.specs.Parts.{mesh_of}
use Rattle.slab_emit.specs.declared.Lines.{Lines}
use Rattle.slab_emit.specs.declared.Lines.TheVariants.{Nodes, Tets, Angles}
use Rattle.slab_emit.specs.declared.Part.{Part}
use Rattle.slab_emit.specs.Parts.{AreParts}
use Rattle.slab_emit.specs.Sources.{AreMeasured, SourceValue, slab_angles}
use Rattle.mesh_rounds.specs.declared.rounds.Reached.{Reached}

-- all lines
abbrev pub all_lines : Lines → SourceValue → List ℕ
all_lines (Nodes frame first) s = node_lines frame first (nodes_of s.field s.states)
all_lines (Tets first) s = ele_lines first (map (renumbered first) (mesh_of s.field s.states).tets)
all_lines Angles s = []

-- the first line of the file that they stand in: how many there are, and what they have
abbrev pub first_line : Lines → SourceValue → List ℕ
first_line (Nodes frame first) s = decimal (length (mesh_of s.field s.states).places) ++ codes " 3 0 1\n"
first_line (Tets first) s = decimal (length (mesh_of s.field s.states).tets) ++ codes " 4 0\n"
first_line Angles s = []

-- its text
abbrev pub file_text : Lines → SourceValue → List ℕ
file_text (Nodes frame first) s = node_text frame first (nodes_of s.field s.states)
file_text (Tets first) s = ele_text first (mesh_of s.field s.states).tets
file_text Angles s = []

-- the extremes of the first slabs
abbrev pub extremes_to : Lines → SourceValue → ℕ → Option Extremes
extremes_to (Nodes frame first) s n = None
extremes_to (Tets first) s n = extremes_of (flat_map (slab_angles s) (range_with_len 0 n))
extremes_to Angles s n = extremes_of (flat_map (slab_angles s) (range_with_len 0 n))

-- those of all
abbrev pub all_extremes : Lines → SourceValue → Option Extremes
all_extremes (Nodes frame first) s = None
all_extremes (Tets first) s = extremes_of (angles (mesh_of s.field s.states))
all_extremes Angles s = extremes_of (angles (mesh_of s.field s.states))

-- the text of parts
abbrev pub text_of : List Part → List ℕ
text_of ps = flat_map (λ p. p.text.items) ps

-- some slabs are done
pub record IsReached (lines : Lines) (s : SourceValue) (r : Reached) : Type 0 where
  pub within : r.first ≤ slabs s.field.dims s.slab
  pub small : slabs s.field.dims s.slab ≤ 2 ^ 23
  pub measured : AreMeasured s
  pub found : r.found ≡ extremes_to lines s r.first
  pub fractions : ForSome r.found AreFractions

-- these are the parts of the slabs behind them, at least one, and then those are done too
pub record IsRound (lines : Lines) (s : SourceValue) (before after : Reached) (ps : List Part) : Type 0 where
  pub parts : AreParts lines s before.first ps
  pub first : after.first ≡ before.first + length ps
  pub some : 0 < length ps
  pub reached : IsReached lines s after
