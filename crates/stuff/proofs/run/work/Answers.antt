use Rattle.std.proofs.Common.{[], ◌≡◌, ◌∙◌, ℕ, List, Option, refl, inl, inr, ap, sym, subst, arith}
use Rattle.std.specs.Prelude.{Err, length, map, slice_index_or}
use Rattle.definitions.specs.Mesh.{mesh}
use Rattle.command_line.specs.Grammar.{Command as Meaning, Meshing}
use Rattle.command_line.specs.declared.Plan.{Plan}
use Rattle.command_words.specs.Commands.{meaning_of, level_of, below_of, step_of}
use Rattle.std.specs.Option.{option_map_or}
use Rattle.formats.specs.declared.Status.TheVariants.{Done}
use Rattle.st_base.specs.Desk.{InputState}
use Rattle.file_audit.specs.Status.{GrowsAlong}
use Rattle.stuff.specs.Inputs.{Settings, settings_of, outcome_of}
use Rattle.stuff.specs.Outputs.{frame_of, files_of, file_name, made_status, mesh_name, mesh_status, IsTextOf}
use Rattle.stuff.specs.Ports.{mesh_files}
use Rattle.stuff.specs.Ends.{RefusesInput, HoldsInput}
use Rattle.stuff.proofs.InputEndings.{accepts_field, field_comes_to, mesh_ends, refusal_ends, refusal_reads, whole_ends}
use Rattle.stuff.proofs.PortEnds.{untouched}
use Rattle.stuff.proofs.TextsWritten.{is_count, is_mesh, is_probe, meshing, names_are, reads_file, settings_said, signs_written, point_written, mesh_written}
use Rattle.stuff.proofs.Traced.{any_field, counted, meshed, plan_of_mesh, probed, refused}
use Rattle.stuff.proofs.run.work.Goals as goal

-- ---- the input is refused

pub returns-in-Err-clause-input : goal.returns-in-Err-clause-input
returns-in-Err-clause-input g c =
    let said = settings_said c.args.command.now (record { twice = c.level.result; below = c.below.result; step = c.step-step.result; world = c.world-world.result }) (λ j. record { twice = c.level.ensures j; below = c.below.ensures j; step = c.step-step.ensures j; world = c.world-world.ensures j }) in
    refusal_ends c.in-Err.status (HoldsInput (g.D.Desk.input c.args.desk.now).left (meaning_of c.args.command.now)) (g.D.Desk.input c.read_field.new.desk) c.in-Err.ensures.refusal
    (λ e. omega (arith, c.in-Err.ensures.fault (ap Err e), c.requires.no_input_fault))
    (λ ne. omega (arith, c.in-Err.ensures.none (λ e. ne (let s : c.in-Err.status ≡ _ = cc in s)), c.requires.no_input_fault))
    (λ d text p. subst (λ (x : Settings). RefusesInput c.in-Err.status (outcome_of x.world x.step text) text (g.D.Desk.input c.read_field.new.desk).left) (said ∙ sym (ap settings_of p.1)) (c.in-Err.ensures.told text p.0))

pub returns-in-Err-clause-ports : goal.returns-in-Err-clause-ports
returns-in-Err-clause-ports g c =
    untouched g.D.Desk.ports c.in-Err.status (files_of (meaning_of c.args.command.now)) (file_name c.args.words.now (meaning_of c.args.command.now)) (IsTextOf (g.D.Desk.input c.args.desk.now).left (meaning_of c.args.command.now))
    c.args.desk.now c.read_field.new.desk (refusal_reads c.in-Err.status (files_of (meaning_of c.args.command.now)) c.in-Err.ensures.refusal) (λ p t. c.in-Err.ensures.apart.ports p)
    c.requires.no_fault

pub returns-in-Err-clause-trace : goal.returns-in-Err-clause-trace
returns-in-Err-clause-trace g c = refused c.in-Err.status (meaning_of c.args.command.now) (g.D.Desk.input c.args.desk.now).left any_field c.args.trace.now c.in-Err.ensures.refusal c.requires.no_trace

pub returns-in-Err-clause-accepted : goal.returns-in-Err-clause-accepted
returns-in-Err-clause-accepted g c = λ d text h. inl (λ p t. c.in-Err.ensures.apart.ports p)

-- ---- a mesh

pub returns-in-Some-clause-input : goal.returns-in-Some-clause-input
returns-in-Some-clause-input g c =
    let said = settings_said c.args.command.now (record { twice = c.level.result; below = c.below.result; step = c.step-step.result; world = c.world-world.result }) (λ j. record { twice = c.level.ensures j; below = c.below.ensures j; step = c.step-step.ensures j; world = c.world-world.ensures j }) in
    let kind = is_mesh c.args.command.now c.in-Some.mesh (sym c.mesh.ensures ∙ c.in-Some.is) in
    mesh_ends c.in-Some.mesh.faces (length (mesh c.in-Ok.scan.field c.in-Some.mesh.shares).tets) c.mesh_field.result (HoldsInput (g.D.Desk.input c.args.desk.now).left (meaning_of c.args.command.now)) (g.D.Desk.input c.mesh_field.new.desk) c.mesh_field.ensures.kind
    (record {
      faults = ap (λ (i : InputState). i.faults) c.mesh_field.ensures.input ∙ (c.in-Ok.ensures.none (λ e. cc) ∙ c.requires.no_input_fault);
      told = λ d text h. accepts_field (record { twice = c.level.result; below = c.below.result; step = c.step-step.result; world = c.world-world.result }) d c.in-Ok.scan text (said ∙ sym (ap settings_of h.1)) (g.D.Desk.input c.read_field.new.desk) (g.D.Desk.input c.mesh_field.new.desk) c.mesh_field.ensures.input (c.in-Ok.ensures.told text h.0);
    })
    (λ d text h. field_comes_to (record { twice = c.level.result; below = c.below.result; step = c.step-step.result; world = c.world-world.result }) d c.in-Ok.scan text (said ∙ sym (ap settings_of h.1)) (g.D.Desk.input c.read_field.new.desk).left (c.in-Ok.ensures.told text h.0) ∙ ap (λ (x : Meaning). made_status x c.in-Ok.scan.field) h.1
    ∙ ap (λ (x : Option Meshing). option_map_or (λ (m : Meshing). mesh_status m.faces (length (mesh c.in-Ok.scan.field m.shares).tets)) x Done) kind.1)

pub returns-in-Some-clause-ports : goal.returns-in-Some-clause-ports
returns-in-Some-clause-ports g c =
    let said = settings_said c.args.command.now (record { twice = c.level.result; below = c.below.result; step = c.step-step.result; world = c.world-world.result }) (λ j. record { twice = c.level.ensures j; below = c.below.ensures j; step = c.step-step.ensures j; world = c.world-world.ensures j }) in
    let file = reads_file c.args.words.now c.args.command.now c.requires.file.0 (slice_index_or c.args.words.now c.requires.file.0 []) c.requires.file.1 refl in
    let kind = is_mesh c.args.command.now c.in-Some.mesh (sym c.mesh.ensures ∙ c.in-Some.is) in
    mesh_written g.D.Desk.ports c.mesh_field.result c.args.words.now (g.D.Desk.input c.args.desk.now).left (g.D.Desk.input c.read_field.new.desk).left (record { twice = c.level.result; below = c.below.result; step = c.step-step.result; world = c.world-world.result })
    c.in-Ok.scan (meaning_of c.args.command.now) said c.in-Ok.ensures.told file.no_demo c.args.desk.now c.read_field.new.desk c.mesh_field.new.desk c.in-Ok.ensures.apart.ports
    (meshing c.args.command.now kind.0 c.in-Some.mesh) c.word-output.result.now c.frame_of-frame.result
    kind.1 c.word-output.ensures
    (c.frame_of-frame.ensures.frame ∙ (λ j. frame_of ((c.world-world.ensures ∙ kind.2) j) (c.step-step.ensures j) c.in-Ok.scan.axes)) c.mesh_field.ensures.ends

pub returns-in-Some-clause-trace : goal.returns-in-Some-clause-trace
returns-in-Some-clause-trace g c =
    let said = settings_said c.args.command.now (record { twice = c.level.result; below = c.below.result; step = c.step-step.result; world = c.world-world.result }) (λ j. record { twice = c.level.ensures j; below = c.below.ensures j; step = c.step-step.ensures j; world = c.world-world.ensures j }) in
    let file = reads_file c.args.words.now c.args.command.now c.requires.file.0 (slice_index_or c.args.words.now c.requires.file.0 []) c.requires.file.1 refl in
    let kind = is_mesh c.args.command.now c.in-Some.mesh (sym c.mesh.ensures ∙ c.in-Some.is) in
    meshed c.mesh_field.result (meaning_of c.args.command.now) (record { twice = c.level.result; below = c.below.result; step = c.step-step.result; world = c.world-world.result }) c.in-Ok.scan (g.D.Desk.input c.args.desk.now).left (g.D.Desk.input c.read_field.new.desk).left c.mesh_field.new.trace said c.in-Ok.ensures.told file.no_demo
    (meshing c.args.command.now kind.0 c.in-Some.mesh) c.plan-plan.result.slab kind.1
    (ap (λ (x : Plan). x.slab) c.plan-plan.ensures ∙ plan_of_mesh c.args.command.now c.in-Some.mesh (sym c.mesh.ensures ∙ c.in-Some.is)) c.mesh_field.ensures.trace

pub returns-in-Some-clause-accepted : goal.returns-in-Some-clause-accepted
returns-in-Some-clause-accepted g c = λ d text h.
    let said = settings_said c.args.command.now (record { twice = c.level.result; below = c.below.result; step = c.step-step.result; world = c.world-world.result }) (λ j. record { twice = c.level.ensures j; below = c.below.ensures j; step = c.step-step.ensures j; world = c.world-world.ensures j }) in
    inr (accepts_field (record { twice = c.level.result; below = c.below.result; step = c.step-step.result; world = c.world-world.result }) d c.in-Ok.scan text (said ∙ sym (ap settings_of h.1)) (g.D.Desk.input c.read_field.new.desk) (g.D.Desk.input c.mesh_field.new.desk) c.mesh_field.ensures.input (c.in-Ok.ensures.told text h.0))

pub returns-in-Some-clause-tries : goal.returns-in-Some-clause-tries
returns-in-Some-clause-tries g c =
    let kind = is_mesh c.args.command.now c.in-Some.mesh (sym c.mesh.ensures ∙ c.in-Some.is) in
    let names = names_are c.args.words.now (meaning_of c.args.command.now) (meshing c.args.command.now kind.0 c.in-Some.mesh) c.word-output.result.now kind.1 c.word-output.ensures in
    subst (λ (ns : List (List ℕ)). GrowsAlong ns (g.D.Desk.tried c.args.desk.now) (g.D.Desk.tried c.mesh_field.new.desk)) names
    (subst (λ (t : Option (List (List ℕ))). GrowsAlong (map (mesh_name c.word-output.result.now) (mesh_files c.in-Some.mesh.faces)) t (g.D.Desk.tried c.mesh_field.new.desk)) c.in-Ok.ensures.apart.tried c.mesh_field.ensures.tries)

-- ---- a point

pub returns-in-Some-probe-clause-input : goal.returns-in-Some-probe-clause-input
returns-in-Some-probe-clause-input g c =
    let said = settings_said c.args.command.now (record { twice = c.level.result; below = c.below.result; step = c.step-step.result; world = c.world-world.result }) (λ j. record { twice = c.level.ensures j; below = c.below.ensures j; step = c.step-step.ensures j; world = c.world-world.ensures j }) in
    let kind = is_probe c.args.command.now c.in-Some-probe.probe (sym c.probe.ensures ∙ c.in-Some-probe.is) in
    whole_ends c.write_point.result (HoldsInput (g.D.Desk.input c.args.desk.now).left (meaning_of c.args.command.now)) (g.D.Desk.input c.write_point.new.desk) c.write_point.ensures.kind
    (record {
      faults = ap (λ (i : InputState). i.faults) c.write_point.ensures.apart.input ∙ (c.in-Ok.ensures.none (λ e. cc) ∙ c.requires.no_input_fault);
      told = λ d text h. accepts_field (record { twice = c.level.result; below = c.below.result; step = c.step-step.result; world = c.world-world.result }) d c.in-Ok.scan text (said ∙ sym (ap settings_of h.1)) (g.D.Desk.input c.read_field.new.desk) (g.D.Desk.input c.write_point.new.desk) c.write_point.ensures.apart.input (c.in-Ok.ensures.told text h.0);
    })
    (λ d text h. field_comes_to (record { twice = c.level.result; below = c.below.result; step = c.step-step.result; world = c.world-world.result }) d c.in-Ok.scan text (said ∙ sym (ap settings_of h.1)) (g.D.Desk.input c.read_field.new.desk).left (c.in-Ok.ensures.told text h.0) ∙ ap (λ (x : Meaning). made_status x c.in-Ok.scan.field) (h.1 ∙ kind.1))

pub returns-in-Some-probe-clause-ports : goal.returns-in-Some-probe-clause-ports
returns-in-Some-probe-clause-ports g c =
    let said = settings_said c.args.command.now (record { twice = c.level.result; below = c.below.result; step = c.step-step.result; world = c.world-world.result }) (λ j. record { twice = c.level.ensures j; below = c.below.ensures j; step = c.step-step.ensures j; world = c.world-world.ensures j }) in
    let file = reads_file c.args.words.now c.args.command.now c.requires.file.0 (slice_index_or c.args.words.now c.requires.file.0 []) c.requires.file.1 refl in
    let kind = is_probe c.args.command.now c.in-Some-probe.probe (sym c.probe.ensures ∙ c.in-Some-probe.is) in
    point_written g.D.Desk.ports c.write_point.result c.args.words.now (g.D.Desk.input c.args.desk.now).left (g.D.Desk.input c.read_field.new.desk).left (record { twice = c.level.result; below = c.below.result; step = c.step-step.result; world = c.world-world.result })
    c.in-Ok.scan (meaning_of c.args.command.now) said c.in-Ok.ensures.told file.no_demo c.args.desk.now c.read_field.new.desk c.write_point.new.desk c.in-Ok.ensures.apart.ports
    kind.0 (level_of c.args.command.now) (below_of c.args.command.now) (step_of c.args.command.now) c.in-Some-probe.probe.shares c.in-Some-probe.probe.at kind.1 (c.write_point.ensures.ends (λ p. []))

pub returns-in-Some-probe-clause-trace : goal.returns-in-Some-probe-clause-trace
returns-in-Some-probe-clause-trace g c =
    let said = settings_said c.args.command.now (record { twice = c.level.result; below = c.below.result; step = c.step-step.result; world = c.world-world.result }) (λ j. record { twice = c.level.ensures j; below = c.below.ensures j; step = c.step-step.ensures j; world = c.world-world.ensures j }) in
    let file = reads_file c.args.words.now c.args.command.now c.requires.file.0 (slice_index_or c.args.words.now c.requires.file.0 []) c.requires.file.1 refl in
    let kind = is_probe c.args.command.now c.in-Some-probe.probe (sym c.probe.ensures ∙ c.in-Some-probe.is) in
    probed c.write_point.result (meaning_of c.args.command.now) (record { twice = c.level.result; below = c.below.result; step = c.step-step.result; world = c.world-world.result }) c.in-Ok.scan (g.D.Desk.input c.args.desk.now).left (g.D.Desk.input c.read_field.new.desk).left c.write_point.new.trace said c.in-Ok.ensures.told file.no_demo
    kind.0 (level_of c.args.command.now) (below_of c.args.command.now) (step_of c.args.command.now) c.in-Some-probe.probe.shares c.in-Some-probe.probe.at kind.1 c.write_point.ensures.trace

pub returns-in-Some-probe-clause-accepted : goal.returns-in-Some-probe-clause-accepted
returns-in-Some-probe-clause-accepted g c = λ d text h.
    let said = settings_said c.args.command.now (record { twice = c.level.result; below = c.below.result; step = c.step-step.result; world = c.world-world.result }) (λ j. record { twice = c.level.ensures j; below = c.below.ensures j; step = c.step-step.ensures j; world = c.world-world.ensures j }) in
    inr (accepts_field (record { twice = c.level.result; below = c.below.result; step = c.step-step.result; world = c.world-world.result }) d c.in-Ok.scan text (said ∙ sym (ap settings_of h.1)) (g.D.Desk.input c.read_field.new.desk) (g.D.Desk.input c.write_point.new.desk) c.write_point.ensures.apart.input (c.in-Ok.ensures.told text h.0))

-- ---- signs

pub returns-clause-input : goal.returns-clause-input
returns-clause-input g c =
    let said = settings_said c.args.command.now (record { twice = c.level.result; below = c.below.result; step = c.step-step.result; world = c.world-world.result }) (λ j. record { twice = c.level.ensures j; below = c.below.ensures j; step = c.step-step.ensures j; world = c.world-world.ensures j }) in
    let kind = is_count c.args.command.now c.requires.file.0 c.requires.file.1 (sym c.mesh.ensures ∙ c.in-None.is) (sym c.probe.ensures ∙ c.in-None-probe.is) in
    whole_ends c.write_signs.result (HoldsInput (g.D.Desk.input c.args.desk.now).left (meaning_of c.args.command.now)) (g.D.Desk.input c.write_signs.new.desk) c.write_signs.ensures.kind
    (record {
      faults = ap (λ (i : InputState). i.faults) c.write_signs.ensures.apart.input ∙ (c.in-Ok.ensures.none (λ e. cc) ∙ c.requires.no_input_fault);
      told = λ d text h. accepts_field (record { twice = c.level.result; below = c.below.result; step = c.step-step.result; world = c.world-world.result }) d c.in-Ok.scan text (said ∙ sym (ap settings_of h.1)) (g.D.Desk.input c.read_field.new.desk) (g.D.Desk.input c.write_signs.new.desk) c.write_signs.ensures.apart.input (c.in-Ok.ensures.told text h.0);
    })
    (λ d text h. field_comes_to (record { twice = c.level.result; below = c.below.result; step = c.step-step.result; world = c.world-world.result }) d c.in-Ok.scan text (said ∙ sym (ap settings_of h.1)) (g.D.Desk.input c.read_field.new.desk).left (c.in-Ok.ensures.told text h.0) ∙ ap (λ (x : Meaning). made_status x c.in-Ok.scan.field) (h.1 ∙ kind.1))

pub returns-clause-ports : goal.returns-clause-ports
returns-clause-ports g c =
    let said = settings_said c.args.command.now (record { twice = c.level.result; below = c.below.result; step = c.step-step.result; world = c.world-world.result }) (λ j. record { twice = c.level.ensures j; below = c.below.ensures j; step = c.step-step.ensures j; world = c.world-world.ensures j }) in
    let file = reads_file c.args.words.now c.args.command.now c.requires.file.0 (slice_index_or c.args.words.now c.requires.file.0 []) c.requires.file.1 refl in
    let kind = is_count c.args.command.now c.requires.file.0 c.requires.file.1 (sym c.mesh.ensures ∙ c.in-None.is) (sym c.probe.ensures ∙ c.in-None-probe.is) in
    signs_written g.D.Desk.ports c.write_signs.result c.args.words.now (g.D.Desk.input c.args.desk.now).left (g.D.Desk.input c.read_field.new.desk).left (record { twice = c.level.result; below = c.below.result; step = c.step-step.result; world = c.world-world.result })
    c.in-Ok.scan (meaning_of c.args.command.now) said c.in-Ok.ensures.told file.no_demo c.args.desk.now c.read_field.new.desk c.write_signs.new.desk c.in-Ok.ensures.apart.ports
    kind.0 (level_of c.args.command.now) (below_of c.args.command.now) (step_of c.args.command.now) kind.1 (c.write_signs.ensures.ends (λ p. []))

pub returns-clause-trace : goal.returns-clause-trace
returns-clause-trace g c =
    let kind = is_count c.args.command.now c.requires.file.0 c.requires.file.1 (sym c.mesh.ensures ∙ c.in-None.is) (sym c.probe.ensures ∙ c.in-None-probe.is) in
    counted c.write_signs.result (meaning_of c.args.command.now) (g.D.Desk.input c.args.desk.now).left any_field c.args.trace.now kind.0 (level_of c.args.command.now) (below_of c.args.command.now) (step_of c.args.command.now) kind.1 c.requires.no_trace

pub returns-clause-accepted : goal.returns-clause-accepted
returns-clause-accepted g c = λ d text h.
    let said = settings_said c.args.command.now (record { twice = c.level.result; below = c.below.result; step = c.step-step.result; world = c.world-world.result }) (λ j. record { twice = c.level.ensures j; below = c.below.ensures j; step = c.step-step.ensures j; world = c.world-world.ensures j }) in
    inr (accepts_field (record { twice = c.level.result; below = c.below.result; step = c.step-step.result; world = c.world-world.result }) d c.in-Ok.scan text (said ∙ sym (ap settings_of h.1)) (g.D.Desk.input c.read_field.new.desk) (g.D.Desk.input c.write_signs.new.desk) c.write_signs.ensures.apart.input (c.in-Ok.ensures.told text h.0))
