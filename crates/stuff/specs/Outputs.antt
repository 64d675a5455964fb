-- What a command writes, and the names of the files that it opens.
use Rattle.std.specs.Prelude.{◌≡◌, ℕ, Bool, true, false, nat_lt, map, List, [], ◌++◌, codes, slice_index_or, Option, Some, None, option_and_then, IfSome, length, if◌then◌else◌, pos}
use Rattle.std.specs.Option.{option_map_or}
use Rattle.formats.specs.declared.Axis.{Axis}
use Rattle.formats.specs.declared.Frame.{Frame}
use Rattle.formats.specs.declared.Port.{Port}
use Rattle.formats.specs.declared.Port.TheVariants.{Node, Ele, Report, Trouble, Face, Neigh}
use Rattle.formats.specs.declared.Status.{Status}
use Rattle.formats.specs.declared.Status.TheVariants.{Done, TooManyTets}
use Rattle.adjacency.specs.Laws.{AreMutual, EndsAtBoundary}
use Rattle.adjacency.specs.Neighbours.{neighbours}
use Rattle.adjacency.specs.Texts.{face_text, neigh_text}
use Rattle.angle_laws.specs.Bounds.{BoundsAngles}
use Rattle.definitions.specs.Values.{Field, field_of}
use Rattle.definitions.specs.Lattice.{dims}
use Rattle.definitions.specs.Mesh.{mesh}
use Rattle.definitions.specs.Soundness.{IsSound, boundary}
use Rattle.definitions.specs.States.{Shares}
use Rattle.phantom.specs.Phantom.{phantom_volume, phantom_samples}
use Rattle.formats.specs.Volumes.{Volume}
use Rattle.formats.specs.Texts.{sign_line}
use Rattle.mesh_texts.specs.Files.{node_text, ele_text}
use Rattle.mesh_texts.specs.Nodes.{mesh_nodes}
use Rattle.mesh_texts.specs.Report.{mesh_extremes, report}
use Rattle.command_line.specs.Grammar.{Command, Meshing, meshing_of, CountSigns, MakeDemo, AuditFiles, ProbePoint}
use Rattle.definitions.specs.declared.Place.{Place}
use Rattle.formats.specs.declared.Verdict.{Verdict}
use Rattle.formats.specs.declared.Verdict.TheVariants.{Sound}
use Rattle.mesh_files.specs.Files.{Nodes}
use Rattle.mesh_files.specs.Verdicts.{verdict}
use Rattle.mesh_probe.specs.ProbeTexts.{probe_text}
use Rattle.file_audit.specs.Status.{node_name, ele_name, sound_line, AreRead}
use Rattle.stuff.specs.Ports.{mesh_files}
use Rattle.stuff.specs.Inputs.{Settings, settings_of, input_names, outcome_for, outcome_of, told_input}

-- the names of the files of a mesh
abbrev pub mesh_name : List ℕ → Port → List ℕ
mesh_name output Node = output ++ codes ".node"
mesh_name output Ele = output ++ codes ".ele"
mesh_name output Face = output ++ codes ".face"
mesh_name output Neigh = output ++ codes ".neigh"
mesh_name output p = []

-- the frame in which the nodes of a volume with these axes are printed
abbrev pub frame_of : Bool → ℕ → List Axis → Frame
frame_of world step axes = record { step = step; world = if world then Some axes else None }

-- the texts of the mesh of a field, in a frame and numbered from `first`
abbrev pub mesh_text : Frame → ℕ → Field → Shares → Port → List ℕ
mesh_text frame first f s Node = node_text frame first (mesh_nodes f s)
mesh_text frame first f s Ele = ele_text first (mesh f s).tets
mesh_text frame first f s Report = report first (mesh f s)
mesh_text frame first f s Face = face_text first (boundary (mesh f s).tets)
mesh_text frame first f s Neigh = neigh_text first (neighbours (mesh f s).tets)
mesh_text frame first f s Trouble = []

-- what the number of a mesh's tetrahedra comes to: with its faces and neighbours there may not be too many
abbrev pub mesh_status : Bool → ℕ → Status
mesh_status true tets = if nat_lt 33554432 tets then TooManyTets tets else Done
mesh_status false tets = Done

-- the text of the signs of a field
abbrev pub signs_text : Field → Port → List ℕ
signs_text f Report = sign_line f
signs_text f p = []

-- the shares that a command has where none are set
abbrev pub usual_shares : Shares
usual_shares = record { long = 1023; short = 1687 }

-- the text of a demo of a field: its signs, and what is told of its mesh
abbrev pub demo_text : Field → Port → List ℕ
demo_text f Report = sign_line f ++ report 0 (mesh f usual_shares)
demo_text f p = []

-- the files that a command writes, in order, and what they are called
abbrev pub files_of : Command → List Port
files_of c = option_map_or (λ (m : Meshing). mesh_files m.faces) (meshing_of c) []

abbrev pub file_name : List (List ℕ) → Command → Port → List ℕ
file_name words c p = option_map_or (λ (m : Meshing). mesh_name (slice_index_or words m.output []) p) (meshing_of c) []

-- the names of the files that it opens to write, in order
abbrev pub output_names : List (List ℕ) → Command → List (List ℕ)
output_names words c = map (file_name words c) (files_of c)

-- all files that it opens, in order
abbrev pub all_names : List (List ℕ) → Command → List (List ℕ)
all_names words c = input_names words c ++ output_names words c

-- the texts of what a mesh is made of
abbrev pub meshing_text : List Axis → Field → Port → Meshing → List ℕ
meshing_text axes f p m = mesh_text (frame_of m.world m.step axes) m.numbering f m.shares p

-- the text of a point in the mesh of a field
abbrev pub point_text : Field → Shares → Place → Port → List ℕ
point_text f s point Report = probe_text f s point
point_text f s point p = []

-- what it writes of a field, and of the axes of its volume
abbrev pub text_of : Command → List Axis → Field → Port → List ℕ
text_of (CountSigns input level below step) axes f p = signs_text f p
text_of (MakeDemo size seed plan) axes f p = demo_text f p
text_of (ProbePoint input level below step shares point) axes f p = point_text f shares point p
text_of c axes f p = option_map_or (meshing_text axes f p) (meshing_of c) []

-- the mesh that it makes of a field, if it makes one, is sound
abbrev pub IsSoundFor : Command → Field → Type 0
IsSoundFor (MakeDemo size seed plan) f = IsSound f usual_shares
IsSoundFor (ProbePoint input level below step shares point) f = IsSound f shares
IsSoundFor c f = IfSome (meshing_of c) (λ (m : Meshing). IsSound f m.shares)

-- the least and the greatest angle that its report tells bound all angles of that mesh, and are two of them
abbrev pub IsBoundedFor : Command → Field → Type 0
IsBoundedFor (MakeDemo size seed plan) f = BoundsAngles (mesh_extremes (mesh f usual_shares)) (mesh f usual_shares)
IsBoundedFor c f = IfSome (meshing_of c) (λ (m : Meshing). BoundsAngles (mesh_extremes (mesh f m.shares)) (mesh f m.shares))

-- tetrahedra of that mesh are neighbours of each other, across one triangle, and there is none exactly across a boundary triangle
abbrev pub AreJoinedFor : Command → Field → Type 0
AreJoinedFor c f = IfSome (meshing_of c) (λ (m : Meshing). AreMutual (mesh f m.shares).tets × EndsAtBoundary (mesh f m.shares).tets)

-- the field of a volume
abbrev pub field_from : Settings → Volume → Field
field_from s v = field_of v.dims v.samples s.twice s.below

-- the volume that a command is about: one that a told input holds, or one that is made from a size and a seed
abbrev pub volume_in : Settings → Option (List ℕ) → Option Volume
volume_in s told = option_and_then (λ input. (outcome_of s.world s.step input).volume) told

abbrev pub volume_of : Option (List ℕ) → Command → Option Volume
volume_of told (MakeDemo size seed plan) = Some (phantom_volume size seed)
volume_of told c = volume_in (settings_of c) told

-- what its mesh comes to
abbrev pub made_status : Command → Field → Status
made_status c f = option_map_or (λ (m : Meshing). mesh_status m.faces (length (mesh f m.shares).tets)) (meshing_of c) Done

abbrev pub status_made : Command → Status → Option Volume → Status
status_made c Done (Some v) = made_status c (field_from (settings_of c) v)
status_made c status volume = status

-- the status of a told input, where nothing fails and memory is there
abbrev pub status_of_input : Command → List ℕ → Status
status_of_input c text = status_made c (outcome_for c text).status (outcome_for c text).volume

-- the axes of a told input
abbrev pub axes_in : Settings → Option (List ℕ) → List Axis
axes_in s told = option_map_or (λ input. (outcome_of s.world s.step input).axes) told []

-- those of the input that a command names
abbrev pub axes_for : (List ℕ → Option (List ℕ)) → List (List ℕ) → Command → List Axis
axes_for held words c = axes_in (settings_of c) (told_input held words c)

-- The volume is there, and the text is what the command writes of it to a port.
pub record IsTextOf (told : Option (List ℕ)) (c : Command) (p : Port) (text : List ℕ) : Type 0 where
  pub volume : Volume
  pub volume_is : volume_of told c ≡ Some volume
  pub text_is : text ≡ text_of c (axes_in (settings_of c) told) (field_from (settings_of c) volume) p

-- what is told of the finished files that an audit names
abbrev pub nodes_told : (List ℕ → Option (List ℕ)) → List (List ℕ) → ℕ → Option (List ℕ)
nodes_told held words input = held (node_name (slice_index_or words input []))

abbrev pub tets_told : (List ℕ → Option (List ℕ)) → List (List ℕ) → ℕ → Option (List ℕ)
tets_told held words input = held (ele_name (slice_index_or words input []))

abbrev pub verdict_line : Verdict → Port → List ℕ
verdict_line (Sound nodes tets boundary) Report = sound_line nodes tets boundary
verdict_line v p = []

-- The files are told, and the text is what an audit writes of their nodes and tetrahedra to a port.
pub record IsAuditText (node ele : Option (List ℕ)) (p : Port) (text : List ℕ) : Type 0 where
  pub nodes : Nodes
  pub tets : List (List ℕ)
  pub are_read : AreRead node ele nodes tets
  pub text_is : text ≡ verdict_line (verdict nodes tets) p

-- the same of what the desk holds under the names of the command's files
abbrev pub IsTextFor : (List ℕ → Option (List ℕ)) → List (List ℕ) → Command → Port → List ℕ → Type 0
IsTextFor held words (AuditFiles input) = IsAuditText (nodes_told held words input) (tets_told held words input)
IsTextFor held words c = IsTextOf (told_input held words c) c

-- the field of a demo
abbrev pub demo_field : ℕ → ℕ → Field
demo_field size seed = field_of (dims size size size) (phantom_samples size seed) (pos 399) false
