-- The trace that is kept, along a command.
use Rattle.std.proofs.Common.{false, true, ◌≡◌, ℕ, List, Option, Some, None, sym, ◌∙◌, ap, subst}
use Rattle.std.specs.Prelude.{Ok}
use Rattle.definitions.specs.Values.{Field}
use Rattle.definitions.specs.States.{Shares}
use Rattle.formats.specs.declared.Status.{Status}
use Rattle.formats.specs.declared.Status.TheVariants.{Done, BadWords, BadHeader, Unsupported, TooLarge, Truncated, ReadFault, WriteFault, NoMemory, TooManyTets, BadMesh, NotSound}
use Rattle.phantom.specs.Phantom.{phantom_volume}
use Rattle.command_line.specs.declared.Plan.{Plan}
use Rattle.command_line.specs.Grammar.{Command, Meshing, meshing_of, CountSigns, MakeMesh, MakeDemo, AuditFiles, ProbePoint, StreamMesh}
use Rattle.command_words.specs.declared.Command.{Command as Found}
use Rattle.command_words.specs.declared.Command.TheVariants as found
use Rattle.command_words.specs.declared.MeshSettings.{MeshSettings}
use Rattle.command_words.specs.Commands.{meaning_of, mesh_of, plan_with}
use Rattle.survey.specs.Surveys.{IsSurvey, SurveyValue}
use Rattle.stuff.specs.declared.input.Scan.{Scan}
use Rattle.stuff.specs.Inputs.{Settings, settings_of}
use Rattle.stuff.specs.Outputs.{demo_field, field_from, usual_shares}
use Rattle.stuff.specs.Ends.{IsRefusal, ReadsField}
use Rattle.stuff.specs.Traces.{IsFieldOf, IsTraceOf, KeepsTrace, TraceEnds, Traces, TracesMesh}
use Rattle.stuff.proofs.TextsWritten.{field_is}

-- what is kept of a survey
pub kept : (status : Status) (f : Field) (s : Shares) (slab : ℕ) (t : SurveyValue) (trace : Option SurveyValue) → IsTraceOf f s slab t → KeepsTrace status t trace → TracesMesh status f s slab trace
kept Done f s slab t trace h e = (t, e, h)
kept (BadWords place) f s slab t trace h e = e
kept (BadHeader fault) f s slab t trace h e = e
kept (Unsupported key) f s slab t trace h e = e
kept (TooLarge padded) f s slab t trace h e = e
kept (Truncated got wanted) f s slab t trace h e = e
kept ReadFault f s slab t trace h e = e
kept (WriteFault port) f s slab t trace h e = e
kept NoMemory f s slab t trace h e = e
kept (TooManyTets tets) f s slab t trace h e = e
kept (BadMesh file why) f s slab t trace h e = e
kept (NotSound verdict) f s slab t trace h e = e

-- nothing is kept of a refusal
none_kept : (status : Status) (f : Field) (s : Shares) (slab : ℕ) (trace : Option SurveyValue) → IsRefusal status → trace ≡ None → TracesMesh status f s slab trace
none_kept Done f s slab trace r e = absurd r
none_kept (BadWords place) f s slab trace r e = absurd r
none_kept (BadHeader fault) f s slab trace r e = e
none_kept (Unsupported key) f s slab trace r e = e
none_kept (TooLarge padded) f s slab trace r e = e
none_kept (Truncated got wanted) f s slab trace r e = e
none_kept ReadFault f s slab trace r e = e
none_kept (WriteFault port) f s slab trace r e = absurd r
none_kept NoMemory f s slab trace r e = e
none_kept (TooManyTets tets) f s slab trace r e = e
none_kept (BadMesh file why) f s slab trace r e = e
none_kept (NotSound verdict) f s slab trace r e = e

refusal_traces : (status : Status) (c : Command) (f : Field) (trace : Option SurveyValue) → IsRefusal status → trace ≡ None → Traces status c f trace
refusal_traces status (CountSigns input level below step) f trace r e = e
refusal_traces status (MakeMesh m) f trace r e = none_kept status f m.shares m.plan.slab trace r e
refusal_traces status (MakeDemo size seed plan) f trace r e = none_kept status f usual_shares plan.slab trace r e
refusal_traces status (AuditFiles input) f trace r e = e
refusal_traces status (ProbePoint input level below step shares point) f trace r e = none_kept status f shares 4 trace r e
refusal_traces status (StreamMesh m) f trace r e = none_kept status f m.shares m.plan.slab trace r e

pub refused : (status : Status) (c : Command) (told : Option (List ℕ)) (any : Field) (trace : Option SurveyValue) → IsRefusal status → trace ≡ None → TraceEnds status c (IsFieldOf told c) trace
refused status c told any trace r e = record { there = (any, refusal_traces status c any trace r e); is = λ f h. refusal_traces status c f trace r e }

-- of a command that makes a mesh
traces_meshing : (status : Status) (c : Command) (m : Meshing) (f : Field) (trace : Option SurveyValue) → meshing_of c ≡ Some m → TracesMesh status f m.shares m.plan.slab trace → Traces status c f trace
traces_meshing status (CountSigns input level below step) m f trace e h = cc
traces_meshing status (MakeMesh n) m f trace e h = let same : m ≡ n = cc in subst (λ (x : Meshing). TracesMesh status f x.shares x.plan.slab trace) same h
traces_meshing status (MakeDemo size seed plan) m f trace e h = cc
traces_meshing status (AuditFiles input) m f trace e h = cc
traces_meshing status (ProbePoint input level below step shares point) m f trace e h = cc
traces_meshing status (StreamMesh n) m f trace e h = let same : m ≡ n = cc in subst (λ (x : Meshing). TracesMesh status f x.shares x.plan.slab trace) same h

-- of the field that was read
module _ (status : Status) (c : Command) (s : Settings) (scan : Scan) (told left : Option (List ℕ)) (trace : Option SurveyValue) (e : s ≡ settings_of c) (reads : (text : List ℕ) → told ≡ Some text → ReadsField (Ok scan) s text left) (no_demo : (size seed : ℕ) (plan : Plan) → c ≡ MakeDemo size seed plan → ⊥) where
  traced : Traces status c scan.field trace → TraceEnds status c (IsFieldOf told c) trace
  traced h = record { there = (scan.field, h); is = λ x t. subst (λ (y : Field). Traces status c y trace) (field_is c s scan told left e reads no_demo t.volume t.volume_is ∙ sym t.field_is) h }

  pub meshed : (m : Meshing) (slab : ℕ) → meshing_of c ≡ Some m → slab ≡ m.plan.slab → TracesMesh status scan.field m.shares slab trace → TraceEnds status c (IsFieldOf told c) trace
  meshed m slab is at h = traced (traces_meshing status c m scan.field trace is (subst (λ (x : ℕ). TracesMesh status scan.field m.shares x trace) at h))

  pub probed : (i : ℕ) (l : _) (b : _) (n : ℕ) (shares : Shares) (point : _) → c ≡ ProbePoint i l b n shares point → TracesMesh status scan.field shares 4 trace → TraceEnds status c (IsFieldOf told c) trace
  probed i l b n shares point is h = traced (subst (λ (m : Command). Traces status m scan.field trace) (sym is) h)

-- of a command that makes none
untraced : (status : Status) (c : Command) (told : Option (List ℕ)) (any : Field) (trace : Option SurveyValue) → ((f : Field) → Traces status c f trace) → TraceEnds status c (IsFieldOf told c) trace
untraced status c told any trace h = record { there = (any, h any); is = λ f t. h f }

pub counted : (status : Status) (c : Command) (told : Option (List ℕ)) (any : Field) (trace : Option SurveyValue) (i : ℕ) (l : _) (b : _) (n : ℕ) → c ≡ CountSigns i l b n → trace ≡ None → TraceEnds status c (IsFieldOf told c) trace
counted status c told any trace i l b n is e = untraced status c told any trace (λ f. subst (λ (m : Command). Traces status m f trace) (sym is) e)

pub audited : (status : Status) (c : Command) (told : Option (List ℕ)) (any : Field) (trace : Option SurveyValue) (i : ℕ) → c ≡ AuditFiles i → trace ≡ None → TraceEnds status c (IsFieldOf told c) trace
audited status c told any trace i is e = untraced status c told any trace (λ f. subst (λ (m : Command). Traces status m f trace) (sym is) e)

-- of a demo
pub demo_traced : (status : Status) (c : Command) (told : Option (List ℕ)) (trace : Option SurveyValue) (size seed : ℕ) (plan : Plan) (slab : ℕ) → c ≡ MakeDemo size seed plan → slab ≡ plan.slab → TracesMesh status (demo_field size seed) usual_shares slab trace → TraceEnds status c (IsFieldOf told c) trace
demo_traced status c told trace size seed plan slab is at h =
    subst (λ (m : Command). TraceEnds status m (IsFieldOf told m) trace) (sym is)
    (let k = subst (λ (x : ℕ). TracesMesh status (demo_field size seed) usual_shares x trace) at h in
    record {
      there = (demo_field size seed, k);
      is = λ f t.
          let v : phantom_volume size seed ≡ t.volume = (let q = t.volume_is in cc) in
          subst (λ (y : Field). TracesMesh status y usual_shares plan.slab trace) (ap (field_from (settings_of (MakeDemo size seed plan))) v ∙ sym t.field_is) k;
    })

-- a command that reads a file, by what is told of that file
pub along : (status : Status) (c : Command) (told left : Option (List ℕ)) (trace : Option SurveyValue) → ((f : Field) → IsFieldOf told c f → IsFieldOf left c f) → TraceEnds status c (IsFieldOf left c) trace → TraceEnds status c (IsFieldOf told c) trace
along status c told left trace h e = record { there = e.there; is = λ f t. e.is f (h f t) }

-- the plan of a mesh and of a demo
pub plan_of_mesh : (c : Found) (m : MeshSettings) → mesh_of c ≡ Some m → (plan_with c).slab ≡ m.plan.slab
plan_of_mesh (found.Count input level below step) m e = cc
plan_of_mesh (found.Mesh input output level below step shares plan numbering world faces) m e =
    let same : record { output = output; shares = shares; plan = plan; numbering = numbering; world = world; faces = faces; streamed = false } ≡ m = cc in
    ap (λ (x : MeshSettings). x.plan.slab) same
plan_of_mesh (found.Demo size seed plan) m e = cc
plan_of_mesh (found.Audit input) m e = cc
plan_of_mesh (found.Probe input level below step shares at) m e = cc
plan_of_mesh (found.Stream input output level below step shares plan numbering world) m e =
    let same : record { output = output; shares = shares; plan = plan; numbering = numbering; world = world; faces = false; streamed = true } ≡ m = cc in
    ap (λ (x : MeshSettings). x.plan.slab) same

pub plan_of_demo : (c : Found) (size seed : ℕ) (plan : Plan) → meaning_of c ≡ MakeDemo size seed plan → (plan_with c).slab ≡ plan.slab
plan_of_demo (found.Count input level below step) size seed plan e = cc
plan_of_demo (found.Mesh input output level below step shares p numbering world faces) size seed plan e = cc
plan_of_demo (found.Demo n k p) size seed plan e = let same : p ≡ plan = cc in ap (λ (x : Plan). x.slab) same
plan_of_demo (found.Audit input) size seed plan e = cc
plan_of_demo (found.Probe input level below step shares at) size seed plan e = cc
plan_of_demo (found.Stream input output level below step shares p numbering world) size seed plan e = cc

-- what a survey's trace is of
pub trace_of : (f : Field) (s : Shares) (slab : ℕ) (v t : SurveyValue) → t ≡ v → v.subject ≡ record { field = f; shares = s } → v.layout ≡ record { dims = f.dims; slab = slab } → IsSurvey v → IsTraceOf f s slab t
trace_of f s slab v t e h k is = subst (λ (x : SurveyValue). IsTraceOf f s slab x) (sym e) (record { subject = h; layout = k; survey = is })

-- some field
pub any_field : Field
any_field = demo_field 1 0
