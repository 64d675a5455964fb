use Rattle.std.proofs.Common.{rules, ◌≡◌, ◌+◌, ◌≤◌, ◌^◌, ℕ, List, arith, refl, length, subst, sym, ap, ◌∙◌}
use Rattle.std.specs.Prelude.{flat_map}
use Rattle.std.specs.List.{range_with_len}
use Rattle.std.proofs.KnownBytes.{Appends-trans}
use Rattle.std.specs.Io.KnownBytes.{Appends}
use Rattle.definitions.specs.Layout.{slabs}
use Rattle.node_ele_write.proofs.Pieces.{on_err}
use Rattle.slab_emit.specs.declared.Part.{Part}
use Rattle.slab_emit.specs.Parts.{AreParts}
use Rattle.slab_emit.specs.Sources.{slab_lines}
use Rattle.st_base.proofs.Frames.{same_port, then_port}
use Rattle.mesh_rounds.specs.Rounds.{extremes_to, text_of}
use Rattle.mesh_rounds.proofs.AllRounds.{all_slabs, at_end, broke, found_all, none_reached, parts_text, slabs_then, stopped}
use Rattle.mesh_rounds.proofs.lines.put_lines.Goals as goal

pub loop-reached-init : goal.loop-reached-init
loop-reached-init g c = record {
  text = search rules;
  reached = none_reached c.args.lines c.args.source.now (subst (λ n. n ≤ 2 ^ 23) c.slabs-slabs.ensures.slabs c.slabs-slabs.ensures.small) c.slabs-slabs.ensures.measured;
  crew = omega arith;
  faults = refl;
  is_open = c.requires.is_open;
  name = refl;
  apart = same_port _ _ _ _ _ _;
}

pub returns-in_default-clause-puts : goal.returns-in_default-clause-puts
returns-in_default-clause-puts g c = record {
  all = tt;
  part = stopped c.args.lines c.args.source.now c.loop-reached.reached.first (g.D.Desk.ports c.args.desk.now c.args.port).text (g.D.Desk.ports c.loop-reached.desk c.args.port).text c.slabs-slabs.ensures.size c.loop-reached.invariant.reached.within c.loop-reached.invariant.text;
  fault = search rules;
  none = search rules;
  later = search rules;
  is_open = c.loop-reached.invariant.is_open;
  name = c.loop-reached.invariant.name;
  apart = c.loop-reached.invariant.apart;
}

pub returns-in_err-put_parts-clause-puts : goal.returns-in_err-put_parts-clause-puts
returns-in_err-put_parts-clause-puts g c =
    let n = slabs c.args.source.now.field.dims c.args.source.now.slab in
    let parts = c.in-Ok.parts.items in
    let round = c.in-Ok.ensures.round in
    let i = c.loop-reached.invariant in
    let e = c.put_parts.ensures.puts in
    let same = c.deref.ensures.value in
    let le : c.loop-reached.reached.first + length parts ≤ n = subst (λ m. m ≤ n) round.first round.reached.within in
    record {
      all = search rules;
      part =
          on_err c.from_residual.result
          (broke c.args.lines c.args.source.now c.loop-reached.reached.first c.deref.result.now (g.D.Desk.ports c.args.desk.now c.args.port).text (g.D.Desk.ports c.loop-reached.desk c.args.port).text (g.D.Desk.ports c.put_parts.new.desk c.args.port).text c.slabs-slabs.ensures.size (subst (λ (ps : List Part). c.loop-reached.reached.first + length ps ≤ n) (sym same) le)
          (subst (AreParts c.args.lines c.args.source.now c.loop-reached.reached.first) (sym same) round.parts) i.text c.in_err-put_parts.ensures.puts.part);
      fault = search rules;
      none = search rules;
      later = search rules;
      is_open = e.is_open;
      name = e.name ∙ i.name;
      apart = then_port i.apart e.apart;
    }

pub loop-reached-preserved : goal.loop-reached-preserved
loop-reached-preserved g c =
    let i = c.loop-reached.invariant in
    let e = c.in_ok-put_parts.ensures.puts in
    let round = c.in-Ok.ensures.round in
    let m = c.loop-reached.reached.first in
    let parts = c.in-Ok.parts.items in
    let lines = slab_lines c.args.lines c.args.source.now in
    let text : text_of c.deref.result.now ≡ flat_map lines (range_with_len m (length parts)) = ap text_of c.deref.ensures.value ∙ parts_text c.args.lines c.args.source.now m parts round.parts in
    record {
      text =
          subst (λ (t : List ℕ). Appends (g.D.Desk.ports c.args.desk.now c.args.port).text (g.D.Desk.ports c.put_parts.new.desk c.args.port).text t)
          (slabs_then lines m (length parts) ∙ ap (λ k. flat_map lines (range_with_len 0 k)) (sym round.first))
          (Appends-trans (g.D.Desk.ports c.args.desk.now c.args.port).text (g.D.Desk.ports c.loop-reached.desk c.args.port).text (g.D.Desk.ports c.put_parts.new.desk c.args.port).text (flat_map lines (range_with_len 0 m)) (flat_map lines (range_with_len m (length parts))) i.text
          (subst (λ (t : List ℕ). Appends (g.D.Desk.ports c.loop-reached.desk c.args.port).text (g.D.Desk.ports c.put_parts.new.desk c.args.port).text t) text e.all));
      reached = round.reached;
      crew = omega arith;
      faults = search rules;
      is_open = e.is_open;
      name = e.name ∙ i.name;
      apart = then_port i.apart e.apart;
    }

pub returns-clause-puts : goal.returns-clause-puts
returns-clause-puts g c =
    let s = c.args.source.now in
    let i = c.loop-reached.invariant in
    let end : c.loop-reached.reached.first ≡ slabs s.field.dims s.slab = at_end c.loop-reached.reached.first _ (slabs s.field.dims s.slab) i.reached.within c.slabs-slabs.ensures.slabs c.loop-reached-test.false in
    record {
      all =
          subst (λ (t : List ℕ). Appends (g.D.Desk.ports c.args.desk.now c.args.port).text (g.D.Desk.ports c.loop-reached.desk c.args.port).text t)
          (ap (λ k. flat_map (slab_lines c.args.lines s) (range_with_len 0 k)) end ∙ all_slabs c.args.lines s c.slabs-slabs.ensures.size) i.text;
      part = tt;
      fault = search rules;
      none = search rules;
      later = search rules;
      is_open = i.is_open;
      name = i.name;
      apart = i.apart;
    }

pub returns-clause-found : goal.returns-clause-found
returns-clause-found g c =
    let s = c.args.source.now in
    let end : c.loop-reached.reached.first ≡ slabs s.field.dims s.slab = at_end c.loop-reached.reached.first _ (slabs s.field.dims s.slab) c.loop-reached.invariant.reached.within c.slabs-slabs.ensures.slabs c.loop-reached-test.false in
    found_all c.args.lines s c.loop-reached.reached.found c.slabs-slabs.ensures.size (c.loop-reached.invariant.reached.found ∙ ap (extremes_to c.args.lines s) end)
