-- The files that a mesh comes to are found sound.
use Rattle.std.proofs.Common.{◌≡◌, zero, suc, ℕ, ℤ, pos, ◌+◌, ◌*◌, ◌/◌, ◌%◌, ◌<◌, ◌≤◌, min, List, [], ◌∷◌, Option, Some, None, Bool, true, false, refl, ap, sym, ◌∙◌, subst, arith}
use Rattle.std.specs.Prelude.{Result, Ok, Err, if◌then◌else◌, slice_index_or, nat_lt, ◌||◌, unsigned_abs, IfSome}
use Rattle.std.specs.List.{AllZip, list_any, slice_index}
use Rattle.std.proofs.Math.Nat.{div-add-mod}
use Rattle.std.proofs.lemmas.Bool.Decides.{nat_tests}
use Rattle.definitions.specs.declared.Dims.{Dims}
use Rattle.definitions.specs.Values.{Field}
use Rattle.definitions.specs.States.{IsShares}
use Rattle.formats.specs.declared.Axis.{Axis}
use Rattle.formats.specs.declared.Head.{Head}
use Rattle.formats.specs.declared.HeadFault.{HeadFault}
use Rattle.formats.specs.Heads.{HeadAt, head_of}
use Rattle.formats.specs.Volumes.{Volume, VolumeAnswer, Large, EndsEarly, Whole, is_too_large, kept_size, kept_dims, second_limits, volume_answer}
use Rattle.mesh_texts.specs.Files.{node_text}
use Rattle.mesh_texts.specs.Nodes.{mesh_nodes}
use Rattle.command_line.specs.declared.Name.{Name}
use Rattle.command_line.specs.declared.Name.TheVariants.{Long, Short, Step, First}
use Rattle.command_line.specs.declared.Verb.{Verb}
use Rattle.command_line.specs.declared.Verb.TheVariants.{Count, Mesh, Demo, Audit, Probe, Stream}
use Rattle.command_line.specs.Grammar.{Command, Meshing, CountSigns, MakeMesh, MakeDemo, AuditFiles, ProbePoint, StreamMesh, Reads, ReadsSetting, Setting, Value, Number, Point, IsNumber, IsNumeric, command_of, meshing_of, meshing_with, number_in, number_or, value_of}
use Rattle.command_words.proofs.NamedWords.{number_of}
use Rattle.command_words.proofs.Settled.{said_in}
use Rattle.audit_laws.specs.Laws.{FitsFiles, index_frame}
use Rattle.file_audit.specs.Status.{audit_status, node_name, ele_name}
use Rattle.file_audit.proofs.MeshesDone.{meshes_are_done}
use Rattle.stuff.specs.Inputs.{meshing_settings, outcome_of, outcome_of_head, outcome_of_volume, told_input}
use Rattle.stuff.specs.Outputs.{axes_for, field_from, frame_of, meshing_text, volume_in}
use Rattle.stuff.specs.Traces.{IsFieldFor}
use Rattle.meshed.specs.declared.answer.Answer.{Answer}
use Rattle.meshed.specs.declared.answer.File.{File}
use Rattle.meshed.specs.Answers.{AreShort, AuditsAsSound, Makes}
use Rattle.meshed.specs.Files.{held_in}
use Rattle.meshed.proofs.FilesHeld.{HoldsMesh, holds_mesh}

-- the number that a name is set to, or its default, is within the name's limits
said_between : (n : Name) (low high default : ℕ) (ws : List (List ℕ)) (ss : List Setting) → ((text : List ℕ) (value : ℤ) → IsNumeric n text value → IsNumber low high text value) → low ≤ default → default ≤ high → AllZip ReadsSetting ws ss
    → (low ≤ number_or ss n default) × (number_or ss n default ≤ high)
said_between n low high default ws ss limits l h zip = go (value_of ss n) refl
  where
    go : (o : Option Value) → value_of ss n ≡ o → (low ≤ unsigned_abs (number_in (value_of ss n) (pos default))) × (unsigned_abs (number_in (value_of ss n) (pos default)) ≤ high)
    go None e = rw e (l, h)
    go (Some (Point p)) e = rw e (l, h)
    go (Some (Number v)) e =
        let s = said_in ws ss n (Number v) zip e in
        let w = limits s.text v (number_of n s.text v s.value_is) in
        rw (e, w.4) (w.1, w.2)

-- what the words say of a mesh is within the limits
record IsWithin (m : Meshing) : Type 0 where
  shares : IsShares m.shares
  low : 1 ≤ m.step
  high : m.step ≤ 64
  first : m.numbering ≤ 1

within_settings : (ws : List (List ℕ)) (ss : List Setting) → AllZip ReadsSetting ws ss → IsWithin (meshing_with ss)
within_settings ws ss zip =
    let step = said_between Step 1 64 1 ws ss (λ text value h. h) (omega arith) (omega arith) zip in
    record {
      shares = record {
        long = (said_between Long 0 1023 1023 ws ss (λ text value h. h) (omega arith) (omega arith) zip).1;
        short = (said_between Short 0 2047 1687 ws ss (λ text value h. h) (omega arith) (omega arith) zip).1;
      };
      low = step.0;
      high = step.1;
      first = (said_between First 0 1 0 ws ss (λ text value h. h) (omega arith) (omega arith) zip).1;
    }

within_command : (v : Verb) (ws : List (List ℕ)) (ss : List Setting) → AllZip ReadsSetting ws ss → IfSome (meshing_of (command_of v ss)) IsWithin
within_command Count ws ss zip = tt
within_command Mesh ws ss zip = within_settings ws ss zip
within_command Demo ws ss zip = tt
within_command Audit ws ss zip = tt
within_command Probe ws ss zip = tt
within_command Stream ws ss zip = within_settings ws ss zip

within_words : (words : List (List ℕ)) (c : Command) → Reads words c → IfSome (meshing_of c) IsWithin
within_words words c r = subst (λ (d : Command). IfSome (meshing_of d) IsWithin) (sym r.command_is) (within_command r.verb r.named r.settings r.named_are)

-- the sizes that are kept of an image within the limits
not_above : (m n : ℕ) → nat_lt m n ≡ false → n ≤ m
not_above m n e = grind (arith, nat_tests)

left_false : (a b : Bool) → (a || b) ≡ false → a ≡ false
left_false true b e = cc
left_false false b e = refl

right_false : (a b : Bool) → (a || b) ≡ false → b ≡ false
right_false true b e = cc
right_false false b e = e

none_above : (limit : ℕ) (raw : List ℕ) → list_any (λ n. nat_lt limit n) raw ≡ false → (i : ℕ) → slice_index raw i ≤ limit
none_above limit [] e zero = omega arith
none_above limit [] e (suc i) = omega arith
none_above limit (n ∷ more) e zero = not_above limit n (left_false _ _ e)
none_above limit (n ∷ more) e (suc i) = none_above limit more (right_false _ _ e) i

times_one : (step m : ℕ) → m ≡ 1 → step * m ≡ step
times_one step m e = rw e (omega arith)

with_rest : (step q r n : ℕ) → step ≤ 64 → step * q + r ≡ n → n ≤ 8192 → step * q + step * min 1 r ≤ 8255
with_rest step q zero n high e le = omega (arith, e, le)
with_rest step q (suc r) n high e le = omega (arith, e, le, times_one step (min 1 (suc r)) (omega arith))

distributes : (a b c : ℕ) → a * (b + c) ≡ a * b + a * c
distributes a b c = omega arith

kept_axis : (step n : ℕ) → step ≤ 64 → n ≤ 8192 → step * kept_size step n < 1048576
kept_axis step n high le =
    let bound : step * kept_size step n ≤ 8255 = rw (distributes step (n / step) (min 1 (n % step))) (with_rest step (n / step) (n % step) n high (div-add-mod n step) le) in
    omega (arith, bound)

fits_head : (step : ℕ) (head : Head) (d : Dims) → 1 ≤ step → step ≤ 64 → is_too_large second_limits head step ≡ false → d ≡ kept_dims head step → FitsFiles step d
fits_head step head d low high small e =
    let none = none_above 8192 head.raw (left_false _ _ small) in
    subst (λ (x : Dims). FitsFiles step x) (sym e)
    (record {
      one = low;
      small = omega (arith, high);
      x = kept_axis step (slice_index head.raw 0) high (none 0);
      y = kept_axis step (slice_index head.raw 1) high (none 1);
      z = kept_axis step (slice_index head.raw 2) high (none 2);
    })

-- the volume of an input that is accepted
whole_is : (large early : Bool) (padded got wanted : ℕ) (w v : Volume) → (if large then Large padded else if early then EndsEarly got wanted else Whole w) ≡ Whole v → (large ≡ false) × (v ≡ w)
whole_is true early padded got wanted w v e = cc
whole_is false true padded got wanted w v e = cc
whole_is false false padded got wanted w v e = (refl, cc)

volume_behind : (text : List ℕ) (h : HeadAt) (answer : VolumeAnswer) (v : Volume) → (outcome_of_volume text h answer).volume ≡ Some v → answer ≡ Whole v
volume_behind text h (Large padded) v e = cc
volume_behind text h (EndsEarly got wanted) v e = cc
volume_behind text h (Whole w) v e = cc

volume_found : (world : Bool) (step : ℕ) (text : List ℕ) (v : Volume) → (outcome_of world step text).volume ≡ Some v → (h : HeadAt) × (volume_answer second_limits text h step ≡ Whole v)
unfolding outcome_of
volume_found world step text v e = go (head_of world text) e
  where
    go : (r : Result HeadAt HeadFault) → (outcome_of_head step text r).volume ≡ Some v → (h : HeadAt) × (volume_answer second_limits text h step ≡ Whole v)
    go (Err fault) e = cc
    go (Ok h) e = (h, volume_behind text h (volume_answer second_limits text h step) v e)

fits_field : (m : Meshing) (told : Option (List ℕ)) (v : Volume) (f : Field) → IsWithin m → volume_in (meshing_settings m) told ≡ Some v → f ≡ field_from (meshing_settings m) v → FitsFiles m.step f.dims
fits_field m None v f w e is = cc
fits_field m (Some text) v f w e is =
    let x = volume_found m.world m.step text v e in
    let y = whole_is _ _ _ _ _ _ v x.1 in
    fits_head m.step x.0.head f.dims w.low w.high y.0 (ap (λ (g : Field). g.dims) is ∙ ap (λ (u : Volume). u.dims) y.1)

-- the files of a mesh in index units
of_mesh : (words : List (List ℕ)) (m : Meshing) (f : Field) (axes : List Axis) (files : List File) → IsWithin m → m.world ≡ false → FitsFiles m.step f.dims → HoldsMesh files (slice_index_or words m.output []) (λ p. meshing_text axes f p m) → AreShort files → AuditsAsSound words m files
of_mesh words m f axes files w flat fits h short =
    let output = slice_index_or words m.output [] in
    let in_index : node_text (frame_of m.world m.step axes) m.numbering (mesh_nodes f m.shares) ≡ node_text (index_frame m.step) m.numbering (mesh_nodes f m.shares) =
    ap (λ (b : Bool). node_text (frame_of b m.step axes) m.numbering (mesh_nodes f m.shares)) flat in
    let nodes : held_in files (node_name output) ≡ Some (node_text (index_frame m.step) m.numbering (mesh_nodes f m.shares)) = h.nodes ∙ ap Some in_index in
    ap (λ (o : Option (List ℕ)). audit_status o (held_in files (ele_name output))) nodes
    ∙ ap (λ (o : Option (List ℕ)). audit_status (Some (node_text (index_frame m.step) m.numbering (mesh_nodes f m.shares))) o) h.tets
    ∙ meshes_are_done f m.shares m.step m.numbering w.shares fits w.first (short (node_name output) _ nodes) (short (ele_name output) _ h.tets)

-- the same of the answer to a command that makes one
made_sound : (words : List (List ℕ)) (n m : Meshing) (told : Option (List ℕ)) (v : Volume) (f : Field) (axes : List Axis) (files : List File) → IsWithin n → n ≡ m → m.world ≡ false → volume_in (meshing_settings n) told ≡ Some v → f ≡ field_from (meshing_settings n) v
    → HoldsMesh files (slice_index_or words n.output []) (λ p. meshing_text axes f p n) → AreShort files → AuditsAsSound words m files
made_sound words n m told v f axes files w same flat e is h short =
    subst (λ (x : Meshing). AuditsAsSound words x files) same (of_mesh words n f axes files w (ap (λ (x : Meshing). x.world) same ∙ flat) (fits_field n told v f w e is) h short)

pub found_sound : (words : List (List ℕ)) (held : List ℕ → Option (List ℕ)) (c : Command) (m : Meshing) (f : Field) (answer : Answer) → Reads words c → meshing_of c ≡ Some m → m.world ≡ false → IsFieldFor held words c f → Makes held words c f answer → AreShort answer.files.items → AuditsAsSound words m answer.files.items
found_sound words held (CountSigns input level below step) m f answer r e flat field made short = cc
found_sound words held (MakeMesh n) m f answer r e flat field made short =
    let same : n ≡ m = cc in
    made_sound words n m (told_input held words (MakeMesh n)) field.volume f (axes_for held words (MakeMesh n)) answer.files.items (within_words words (MakeMesh n) r) same flat field.volume_is field.field_is
    (holds_mesh answer.files.items n.faces (slice_index_or words n.output []) _ made.files) short
found_sound words held (MakeDemo size seed plan) m f answer r e flat field made short = cc
found_sound words held (AuditFiles input) m f answer r e flat field made short = cc
found_sound words held (ProbePoint input level below step shares point) m f answer r e flat field made short = cc
found_sound words held (StreamMesh n) m f answer r e flat field made short =
    let same : n ≡ m = cc in
    made_sound words n m (told_input held words (StreamMesh n)) field.volume f (axes_for held words (StreamMesh n)) answer.files.items (within_words words (StreamMesh n) r) same flat field.volume_is field.field_is
    (holds_mesh answer.files.items n.faces (slice_index_or words n.output []) _ made.files) short
