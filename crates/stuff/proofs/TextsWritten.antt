-- The texts of a field are those of the volume that a told input holds.
use Rattle.std.proofs.Common.{◌≡◌, ℕ, List, [], ◌∷◌, Option, Some, None, true, false, refl, ap, sym, ◌∙◌, subst}
use Rattle.std.specs.Prelude.{slice_index_or, map, Ok}
use Rattle.std.specs.Option.{option_map_or}
use Rattle.formats.specs.declared.Axis.{Axis}
use Rattle.formats.specs.declared.Frame.{Frame}
use Rattle.formats.specs.declared.Port.{Port}
use Rattle.formats.specs.declared.Status.{Status}
use Rattle.formats.specs.Volumes.{Volume}
use Rattle.definitions.specs.Values.{Field}
use Rattle.command_line.specs.Grammar.{Command as Meaning, Meshing, meshing_of, CountSigns, MakeMesh, MakeDemo, AuditFiles, ProbePoint, StreamMesh}
use Rattle.command_line.specs.declared.Plan.{Plan}
use Rattle.command_words.specs.Commands.{meaning_of, source_of, level_of, below_of, step_of, world_of, mesh_of, probe_of}
use Rattle.command_words.specs.declared.MeshSettings.{MeshSettings}
use Rattle.command_words.specs.declared.ProbeSettings.{ProbeSettings}
use Rattle.command_words.specs.declared.Source.TheVariants.{File, Phantom, Finished}
use Rattle.phantom.specs.Phantom.{phantom_volume}
use Rattle.command_words.specs.declared.Command.{Command}
use Rattle.command_words.specs.declared.Command.TheVariants.{Count, Mesh, Demo, Audit, Probe, Stream}
use Rattle.st_base.specs.Desk.{PortState, IsTold}
use Rattle.stuff.specs.declared.input.Scan.{Scan}
use Rattle.stuff.specs.Inputs.{Settings, settings_of, input_names, told_input, outcome_of}
use Rattle.stuff.specs.Traces.{IsFieldOf}
use Rattle.stuff.specs.Outputs.{axes_in, frame_of, volume_of, files_of, file_name, output_names, mesh_name, mesh_text, meshing_text, point_text, signs_text, demo_text, demo_field, text_of, field_from, volume_in, IsTextFor, IsTextOf}
use Rattle.stuff.specs.Ports.{PortsEnd, mesh_files}
use Rattle.stuff.specs.Writing.{IsThis}
use Rattle.stuff.specs.Ends.{ReadsField}
use Rattle.stuff.proofs.PortEnds.{ends_along}

-- what a command says of its volume
pub settings_said : (c : Command) (s : Settings) → s ≡ record { twice = level_of c; below = below_of c; step = step_of c; world = world_of c } → s ≡ settings_of (meaning_of c)
settings_said (Count input level below step) s e = e
settings_said (Mesh input output level below step shares plan numbering world faces) s e = e
settings_said (Demo size seed plan) s e = e
settings_said (Audit input) s e = e
settings_said (Probe input level below step shares at) s e = e
settings_said (Stream input output level below step shares plan numbering world) s e = e

-- a command whose volume is from a file
pub record ReadsFile (words : List (List ℕ)) (c : Meaning) (name : List ℕ) : Type 0 where
  pub names : input_names words c ≡ name ∷ []
  pub told : (held : List ℕ → Option (List ℕ)) → told_input held words c ≡ held name
  pub no_demo : (size seed : ℕ) (plan : Plan) → c ≡ MakeDemo size seed plan → ⊥
  pub no_audit : (input : ℕ) → c ≡ AuditFiles input → ⊥
  pub text : (held : List ℕ → Option (List ℕ)) (p : Port) (text : List ℕ) → IsTextFor held words c p text → IsTextOf (told_input held words c) c p text

file_is : (input n : ℕ) → File input ≡ File n → input ≡ n
file_is input n e = cc

word_is : (words : List (List ℕ)) (input n : ℕ) (name : List ℕ) → File input ≡ File n → name ≡ slice_index_or words n [] → slice_index_or words input [] ≡ name
word_is words input n name e is = ap (λ (k : ℕ). slice_index_or words k []) (file_is input n e) ∙ sym is

pub reads_file : (words : List (List ℕ)) (c : Command) (n : ℕ) (name : List ℕ) → source_of c ≡ File n → name ≡ slice_index_or words n [] → ReadsFile words (meaning_of c) name
reads_file words (Count input level below step) n name e is =
    let same = word_is words input n name e is in
    record { names = ap (λ (t : List ℕ). t ∷ []) same; told = λ held. ap held same; no_demo = λ size seed plan d. cc; no_audit = λ k d. cc; text = λ held p text t. t }
reads_file words (Mesh input output level below step shares plan numbering world faces) n name e is =
    let same = word_is words input n name e is in
    record { names = ap (λ (t : List ℕ). t ∷ []) same; told = λ held. ap held same; no_demo = λ size seed plan d. cc; no_audit = λ k d. cc; text = λ held p text t. t }
reads_file words (Demo size seed plan) n name e is = cc
reads_file words (Audit input) n name e is = cc
reads_file words (Probe input level below step shares at) n name e is =
    let same = word_is words input n name e is in
    record { names = ap (λ (t : List ℕ). t ∷ []) same; told = λ held. ap held same; no_demo = λ size seed plan d. cc; no_audit = λ k d. cc; text = λ held p text t. t }
reads_file words (Stream input output level below step shares plan numbering world) n name e is =
    let same = word_is words input n name e is in
    record { names = ap (λ (t : List ℕ). t ∷ []) same; told = λ held. ap held same; no_demo = λ size seed plan d. cc; no_audit = λ k d. cc; text = λ held p text t. t }

-- a command whose volume is made
pub makes_volume : (c : Command) (size seed : ℕ) → source_of c ≡ Phantom size seed → (plan : Plan) × (meaning_of c ≡ MakeDemo size seed plan)
makes_volume (Count input level below step) size seed e = cc
makes_volume (Mesh input output level below step shares plan numbering world faces) size seed e = cc
makes_volume (Demo n s plan) size seed e =
    let m : n ≡ size = cc in
    let t : s ≡ seed = cc in
    (plan, λ i. MakeDemo (m i) (t i) plan)
makes_volume (Audit input) size seed e = cc
makes_volume (Probe input level below step shares at) size seed e = cc
makes_volume (Stream input output level below step shares plan numbering world) size seed e = cc

-- a command that judges finished files
pub audits_files : (c : Command) (n : ℕ) → source_of c ≡ Finished n → meaning_of c ≡ AuditFiles n
audits_files (Count input level below step) n e = cc
audits_files (Mesh input output level below step shares plan numbering world faces) n e = cc
audits_files (Demo size seed plan) n e = cc
audits_files (Audit input) n e = let same : input ≡ n = cc in ap AuditFiles same
audits_files (Probe input level below step shares at) n e = cc
audits_files (Stream input output level below step shares plan numbering world) n e = cc

-- what it asks for
abbrev pub meshing : Command → ℕ → MeshSettings → Meshing
meshing c input m = record {
  input = input;
  output = m.output;
  level = level_of c;
  below = below_of c;
  step = step_of c;
  shares = m.shares;
  plan = m.plan;
  numbering = m.numbering;
  world = m.world;
  faces = m.faces;
}

pub is_mesh : (c : Command) (m : MeshSettings) → mesh_of c ≡ Some m → (input : ℕ) × (meshing_of (meaning_of c) ≡ Some (meshing c input m)) × (world_of c ≡ m.world)
is_mesh (Count input level below step) m e = cc
is_mesh (Mesh input output level below step shares plan numbering world faces) m e =
    let same : record { output = output; shares = shares; plan = plan; numbering = numbering; world = world; faces = faces; streamed = false } ≡ m = cc in
    (input, ap (λ (x : MeshSettings). Some (meshing (Mesh input output level below step shares plan numbering world faces) input x)) same, ap (λ (x : MeshSettings). x.world) same)
is_mesh (Demo size seed plan) m e = cc
is_mesh (Audit input) m e = cc
is_mesh (Probe input level below step shares at) m e = cc
is_mesh (Stream input output level below step shares plan numbering world) m e =
    let same : record { output = output; shares = shares; plan = plan; numbering = numbering; world = world; faces = false; streamed = true } ≡ m = cc in
    (input, ap (λ (x : MeshSettings). Some (meshing (Stream input output level below step shares plan numbering world) input x)) same, ap (λ (x : MeshSettings). x.world) same)

pub is_probe : (c : Command) (p : ProbeSettings) → probe_of c ≡ Some p → (input : ℕ) × (meaning_of c ≡ ProbePoint input (level_of c) (below_of c) (step_of c) p.shares p.at)
is_probe (Count input level below step) p e = cc
is_probe (Mesh input output level below step shares plan numbering world faces) p e = cc
is_probe (Demo size seed plan) p e = cc
is_probe (Audit input) p e = cc
is_probe (Probe input level below step shares at) p e =
    let same : record { shares = shares; at = at } ≡ p = cc in
    (input, ap (λ (x : ProbeSettings). ProbePoint input level below step x.shares x.at) same)
is_probe (Stream input output level below step shares plan numbering world) p e = cc

pub is_count : (c : Command) (n : ℕ) → source_of c ≡ File n → mesh_of c ≡ None → probe_of c ≡ None → (input : ℕ) × (meaning_of c ≡ CountSigns input (level_of c) (below_of c) (step_of c))
is_count (Count input level below step) n s e f = (input, refl)
is_count (Mesh input output level below step shares plan numbering world faces) n s e f = cc
is_count (Demo size seed plan) n s e f = cc
is_count (Audit input) n s e f = cc
is_count (Probe input level below step shares at) n s e f = cc
is_count (Stream input output level below step shares plan numbering world) n s e f = cc

-- what a command writes that makes a mesh
same_meshing : (a b : Meshing) → Some a ≡ Some b → a ≡ b
same_meshing a b e = cc

text_of_meshing : (c : Meaning) (m : Meshing) → meshing_of c ≡ Some m → (axes : List Axis) (f : Field) (p : Port) → text_of c axes f p ≡ meshing_text axes f p m
text_of_meshing (CountSigns input level below step) m e axes f p = cc
text_of_meshing (MakeMesh n) m e axes f p = ap (meshing_text axes f p) (same_meshing n m e)
text_of_meshing (MakeDemo size seed plan) m e axes f p = cc
text_of_meshing (AuditFiles input) m e axes f p = cc
text_of_meshing (ProbePoint input level below step shares point) m e axes f p = cc
text_of_meshing (StreamMesh n) m e axes f p = ap (meshing_text axes f p) (same_meshing n m e)

-- the volume of a command that is no demo is from a told input
pub is_told_volume : (c : Meaning) (told : Option (List ℕ)) (volume : Volume) → ((size seed : ℕ) (plan : Plan) → c ≡ MakeDemo size seed plan → ⊥) → volume_of told c ≡ Some volume → volume_in (settings_of c) told ≡ Some volume
is_told_volume (CountSigns input level below step) told volume no_demo e = e
is_told_volume (MakeMesh m) told volume no_demo e = e
is_told_volume (MakeDemo size seed plan) told volume no_demo e = absurd (no_demo size seed plan refl)
is_told_volume (AuditFiles input) told volume no_demo e = e
is_told_volume (ProbePoint input level below step shares point) told volume no_demo e = e
is_told_volume (StreamMesh m) told volume no_demo e = e

-- what was read is the volume and the axes of the text
volume_from : (s : Settings) (told : Option (List ℕ)) (v : Volume) → volume_in s told ≡ Some v → (input : List ℕ) × (told ≡ Some input) × ((outcome_of s.world s.step input).volume ≡ Some v)
volume_from s None v e = cc
volume_from s (Some input) v e = (input, refl, e)

same_field : (s : Settings) (scan : Scan) (text : List ℕ) (left : Option (List ℕ)) (volume : Volume) → ReadsField (Ok scan) s text left → (outcome_of s.world s.step text).volume ≡ Some volume → scan.field ≡ field_from s volume
same_field s scan text left volume r e =
    let same : Some r.0 ≡ Some volume = sym r.2.0 ∙ e in
    let v : r.0 ≡ volume = cc in
    r.1 ∙ ap (field_from s) v

module _ (c : Meaning) (s : Settings) (scan : Scan) (told left : Option (List ℕ)) (e : s ≡ settings_of c) (reads : (text : List ℕ) → told ≡ Some text → ReadsField (Ok scan) s text left) (no_demo : (size seed : ℕ) (plan : Plan) → c ≡ MakeDemo size seed plan → ⊥) (volume : Volume) (is : volume_of told c ≡ Some volume) where
  told_volume : volume_in (settings_of c) told ≡ Some volume
  told_volume = is_told_volume c told volume no_demo is

  -- the field that was read is that of the volume
  pub field_is : scan.field ≡ field_from (settings_of c) volume
  field_is =
      let v = volume_from (settings_of c) told volume told_volume in
      same_field (settings_of c) scan v.0 left volume (subst (λ (x : Settings). ReadsField (Ok scan) x v.0 left) e (reads v.0 v.1)) v.2

  axes_are : scan.axes ≡ axes_in (settings_of c) told
  axes_are =
      let v = volume_from (settings_of c) told volume told_volume in
      let r = subst (λ (x : Settings). ReadsField (Ok scan) x v.0 left) e (reads v.0 v.1) in
      sym r.2.1 ∙ sym (ap (axes_in (settings_of c)) v.1)

  text_is : (p : Port) (text : List ℕ) → text ≡ text_of c (axes_in (settings_of c) told) (field_from (settings_of c) volume) p → text ≡ text_of c scan.axes scan.field p
  text_is p text t = t ∙ (λ i. text_of c (sym axes_are i) (sym field_is i) p)

module _ {D : Type 0} (ports : D → Port → PortState) (status : Status) (words : List (List ℕ)) (told left : Option (List ℕ)) (s : Settings) (scan : Scan) (c : Meaning) (e : s ≡ settings_of c)
    (reads : (text : List ℕ) → told ≡ Some text → ReadsField (Ok scan) s text left) (no_demo : (size seed : ℕ) (plan : Plan) → c ≡ MakeDemo size seed plan → ⊥) (old mid new : D) (same : (p : Port) → ports mid p ≡ ports old p) where
  -- the text of the command is that of what was read
  text_read : (p : Port) (text : List ℕ) → IsTextOf told c p text → text ≡ text_of c scan.axes scan.field p
  text_read p text t = text_is c s scan told left e reads no_demo t.volume t.volume_is p text t.text_is

  pub signs_written : (i : ℕ) (l : _) (b : _) (n : ℕ) → c ≡ CountSigns i l b n → PortsEnd ports status [] (λ p. []) (λ p text. text ≡ signs_text scan.field p) mid new → PortsEnd ports status (files_of c) (file_name words c) (IsTextOf told c) old new
  signs_written i l b n is h =
      subst (λ (m : Meaning). PortsEnd ports status (files_of m) (file_name words m) (IsTextOf told c) old new) (sym is)
      (ends_along ports status [] (λ p. []) (λ p text. text ≡ signs_text scan.field p) (IsTextOf told c) mid old new (λ p text t. text_read p text t ∙ ap (λ (m : Meaning). text_of m scan.axes scan.field p) is) same h)

  pub point_written : (i : ℕ) (l : _) (b : _) (n : ℕ) (shares : _) (point : _) → c ≡ ProbePoint i l b n shares point → PortsEnd ports status [] (λ p. []) (λ p text. text ≡ point_text scan.field shares point p) mid new
      → PortsEnd ports status (files_of c) (file_name words c) (IsTextOf told c) old new
  point_written i l b n shares point is h =
      subst (λ (m : Meaning). PortsEnd ports status (files_of m) (file_name words m) (IsTextOf told c) old new) (sym is)
      (ends_along ports status [] (λ p. []) (λ p text. text ≡ point_text scan.field shares point p) (IsTextOf told c) mid old new (λ p text t. text_read p text t ∙ ap (λ (m : Meaning). text_of m scan.axes scan.field p) is) same h)

  pub mesh_written : (m : Meshing) (output : List ℕ) (frame : Frame) → meshing_of c ≡ Some m → output ≡ slice_index_or words m.output [] → frame ≡ frame_of m.world m.step scan.axes
      → PortsEnd ports status (mesh_files m.faces) (mesh_name output) (IsThis (mesh_text frame m.numbering scan.field m.shares)) mid new → PortsEnd ports status (files_of c) (file_name words c) (IsTextOf told c) old new
  mesh_written m output frame is out at h =
      subst (λ (x : Option Meshing). PortsEnd ports status (option_map_or (λ (n : Meshing). mesh_files n.faces) x []) (λ p. option_map_or (λ (n : Meshing). mesh_name (slice_index_or words n.output []) p) x []) (IsTextOf told c) old new) (sym is)
      (subst (λ (x : List ℕ). PortsEnd ports status (mesh_files m.faces) (mesh_name x) (IsTextOf told c) old new) out
      (ends_along ports status (mesh_files m.faces) (mesh_name output) (IsThis (mesh_text frame m.numbering scan.field m.shares)) (IsTextOf told c) mid old new
      (λ p text t. text_read p text t ∙ text_of_meshing c m is scan.axes scan.field p ∙ ap (λ (x : Frame). mesh_text x m.numbering scan.field m.shares p) (sym at)) same h))

-- the files that a mesh opens
pub names_are : (words : List (List ℕ)) (c : Meaning) (m : Meshing) (output : List ℕ) → meshing_of c ≡ Some m → output ≡ slice_index_or words m.output [] → map (mesh_name output) (mesh_files m.faces) ≡ output_names words c
names_are words c m output is out =
    ap (λ (x : List ℕ). map (mesh_name x) (mesh_files m.faces)) out
    ∙ ap (λ (x : Option Meshing). map (λ p. option_map_or (λ (n : Meshing). mesh_name (slice_index_or words n.output []) p) x []) (option_map_or (λ (n : Meshing). mesh_files n.faces) x [])) (sym is)

-- what is told of the input that was opened is what is held under its name
told_is : (s : Settings) (told left : Option (List ℕ)) (v : Volume) → IsTold told left → volume_in s told ≡ Some v → told ≡ left
told_is s told left v h e =
    let r = volume_from s told v e in
    let l : left ≡ Some r.0 = rw r.1 at h in
    r.1 ∙ sym l

module _ (held : List ℕ → Option (List ℕ)) (words : List (List ℕ)) (name : List ℕ) (left : Option (List ℕ)) (c : Meaning) (file : ReadsFile words c name) (told : IsTold (held name) left) where
  same_told : (v : Volume) → volume_of (told_input held words c) c ≡ Some v → told_input held words c ≡ left
  same_told v e = told_is (settings_of c) (told_input held words c) left v (subst (λ (o : Option (List ℕ)). IsTold o left) (sym (file.told held)) told) (is_told_volume c (told_input held words c) v file.no_demo e)

  pub field_told_along : (f : Field) → IsFieldOf (told_input held words c) c f → IsFieldOf left c f
  field_told_along f t = subst (λ (o : Option (List ℕ)). IsFieldOf o c f) (same_told t.volume t.volume_is) t

  pub told_along : (p : Port) (text : List ℕ) → IsTextFor held words c p text → IsTextOf left c p text
  told_along p text t = let u = file.text held p text t in subst (λ (o : Option (List ℕ)). IsTextOf o c p text) (same_told u.volume u.volume_is) u

-- what a demo writes
module _ {D : Type 0} (ports : D → Port → PortState) (status : Status) (words : List (List ℕ)) (held : List ℕ → Option (List ℕ)) (old new : D) where
  demo_text_is : (size seed : ℕ) (plan : Plan) (p : Port) (text : List ℕ) → IsTextOf None (MakeDemo size seed plan) p text → text ≡ demo_text (demo_field size seed) p
  demo_text_is size seed plan p text t =
      let v : t.volume ≡ phantom_volume size seed = same_volume t.volume (phantom_volume size seed) (sym t.volume_is) in
      t.text_is ∙ ap (λ (x : Volume). demo_text (field_from (settings_of (MakeDemo size seed plan)) x) p) v
    where
      same_volume : (a b : Volume) → Some a ≡ Some b → a ≡ b
      same_volume a b e = cc

  pub demo_written : (c : Meaning) (size seed : ℕ) (plan : Plan) → c ≡ MakeDemo size seed plan → PortsEnd ports status [] (λ p. []) (λ p text. text ≡ demo_text (demo_field size seed) p) old new → PortsEnd ports status (files_of c) (file_name words c) (IsTextFor held words c) old new
  demo_written c size seed plan is h =
      subst (λ (m : Meaning). PortsEnd ports status (files_of m) (file_name words m) (IsTextFor held words m) old new) (sym is)
      (ends_along ports status [] (λ p. []) (λ p text. text ≡ demo_text (demo_field size seed) p) (IsTextFor held words (MakeDemo size seed plan)) old old new (demo_text_is size seed plan) (λ p. refl) h)
