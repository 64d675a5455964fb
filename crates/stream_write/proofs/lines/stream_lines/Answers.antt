use Rattle.std.proofs.Common.{rules, ◌≡◌, ◌≤◌, ◌^◌, ℕ, List, arith, ap, subst, sym, ◌∙◌}
use Rattle.std.specs.Io.KnownBytes.{Appends}
use Rattle.definitions.specs.Layout.{slabs}
use Rattle.node_ele_write.proofs.Pieces.{on_err}
use Rattle.slab_emit.specs.declared.Part.{Part}
use Rattle.st_base.proofs.Frames.{then_port}
use Rattle.st_base.specs.Desk.{AppendsPart}
use Rattle.mesh_rounds.specs.Rounds.{extremes_to, text_of}
use Rattle.mesh_rounds.proofs.AllRounds.{at_end, found_all, none_reached}
use Rattle.stream_write.proofs.Pending.{broken, ended, went}
use Rattle.stream_write.proofs.Rounds.{all_rounds}
use Rattle.stream_write.proofs.lines.stream_lines.Goals as goal

pub next_round-requires-clause-reached : goal.next_round-requires-clause-reached
next_round-requires-clause-reached g c κs within = none_reached c.args.lines c.args.source.now (subst (λ n. n ≤ 2 ^ 23) c.slabs-slabs.ensures.slabs c.slabs-slabs.ensures.small) c.slabs-slabs.ensures.measured

pub returns-in_err-next-clause-puts : goal.returns-in_err-next-clause-puts
returns-in_err-next-clause-puts g c =
    let i = c.loop-reached.invariant in
    let e = c.write_beside.ensures.puts in
    let part = subst (λ (ps : List Part). AppendsPart (g.D.Desk.ports c.loop-reached.desk c.args.port).text (g.D.Desk.ports c.write_beside.new.desk c.args.port).text (text_of ps)) c.deref.ensures.value c.in_err-next.ensures.puts.part in
    record {
      all = search rules;
      part =
          on_err c.from_residual.result
          (broken c.args.lines c.args.source.now (g.D.Desk.ports c.args.desk.now c.args.port).text (g.D.Desk.ports c.loop-reached.desk c.args.port).text (g.D.Desk.ports c.write_beside.new.desk c.args.port).text c.loop-reached.parts.items c.loop-reached.reached c.slabs-slabs.ensures.size i.reached.within i.pending part);
      fault = search rules;
      none = search rules;
      later = search rules;
      is_open = e.is_open;
      name = e.name ∙ i.name;
      apart = then_port i.apart e.apart;
    }

pub loop-reached-preserved : goal.loop-reached-preserved
loop-reached-preserved g c =
    let i = c.loop-reached.invariant in
    let e = c.in_ok-next.ensures.puts in
    let round = c.in_ok-next.ensures.round in
    let all = subst (λ (ps : List Part). Appends (g.D.Desk.ports c.loop-reached.desk c.args.port).text (g.D.Desk.ports c.write_beside.new.desk c.args.port).text (text_of ps)) c.deref.ensures.value e.all in
    record {
      pending = went c.args.lines c.args.source.now (g.D.Desk.ports c.args.desk.now c.args.port).text (g.D.Desk.ports c.loop-reached.desk c.args.port).text (g.D.Desk.ports c.write_beside.new.desk c.args.port).text c.loop-reached.parts.items c.in_ok-next.next.items c.loop-reached.reached c.write_beside.new.reached i.pending all round.parts round.first;
      reached = round.reached;
      crew = omega arith;
      faults = search rules;
      is_open = e.is_open;
      name = e.name ∙ i.name;
      apart = then_port i.apart e.apart;
    }

pub returns-in_err-put_parts-clause-puts : goal.returns-in_err-put_parts-clause-puts
returns-in_err-put_parts-clause-puts g c =
    let i = c.loop-reached.invariant in
    let e = c.put_parts.ensures.puts in
    let part = subst (λ (ps : List Part). AppendsPart (g.D.Desk.ports c.loop-reached.desk c.args.port).text (g.D.Desk.ports c.put_parts.new.desk c.args.port).text (text_of ps)) c.deref-2.ensures.value c.in_err-put_parts.ensures.puts.part in
    record {
      all = search rules;
      part =
          on_err c.from_residual-in_err-put_parts.result
          (broken c.args.lines c.args.source.now (g.D.Desk.ports c.args.desk.now c.args.port).text (g.D.Desk.ports c.loop-reached.desk c.args.port).text (g.D.Desk.ports c.put_parts.new.desk c.args.port).text c.loop-reached.parts.items c.loop-reached.reached c.slabs-slabs.ensures.size i.reached.within i.pending part);
      fault = search rules;
      none = search rules;
      later = search rules;
      is_open = e.is_open;
      name = e.name ∙ i.name;
      apart = then_port i.apart e.apart;
    }

pub returns-clause-puts : goal.returns-clause-puts
returns-clause-puts g c =
    let s = c.args.source.now in
    let i = c.loop-reached.invariant in
    let e = c.in_ok-put_parts.ensures.puts in
    let end : c.loop-reached.reached.first ≡ slabs s.field.dims s.slab = at_end c.loop-reached.reached.first _ (slabs s.field.dims s.slab) i.reached.within c.slabs-slabs.ensures.slabs c.loop-reached-test.false in
    let all = subst (λ (ps : List Part). Appends (g.D.Desk.ports c.loop-reached.desk c.args.port).text (g.D.Desk.ports c.put_parts.new.desk c.args.port).text (text_of ps)) c.deref-2.ensures.value e.all in
    record {
      all = ended c.args.lines s (g.D.Desk.ports c.args.desk.now c.args.port).text (g.D.Desk.ports c.loop-reached.desk c.args.port).text (g.D.Desk.ports c.put_parts.new.desk c.args.port).text c.loop-reached.parts.items c.loop-reached.reached c.slabs-slabs.ensures.size end i.pending all;
      part = tt;
      fault = search rules;
      none = search rules;
      later = search rules;
      is_open = e.is_open;
      name = e.name ∙ i.name;
      apart = then_port i.apart e.apart;
    }

pub returns-clause-rounds : goal.returns-clause-rounds
returns-clause-rounds g c =
    let s = c.args.source.now in
    let end : c.loop-reached.reached.first ≡ slabs s.field.dims s.slab = at_end c.loop-reached.reached.first _ (slabs s.field.dims s.slab) c.loop-reached.invariant.reached.within c.slabs-slabs.ensures.slabs c.loop-reached-test.false in
    let all = subst (λ (ps : List Part). Appends (g.D.Desk.ports c.loop-reached.desk c.args.port).text (g.D.Desk.ports c.put_parts.new.desk c.args.port).text (text_of ps)) c.deref-2.ensures.value c.in_ok-put_parts.ensures.puts.all in
    subst (λ (t : List ℕ). Appends (g.D.Desk.ports c.args.desk.now c.args.port).text (g.D.Desk.ports c.put_parts.new.desk c.args.port).text t) (sym (all_rounds c.args.lines s c.args.workers c.requires.low c.slabs-slabs.ensures.size))
    (ended c.args.lines s (g.D.Desk.ports c.args.desk.now c.args.port).text (g.D.Desk.ports c.loop-reached.desk c.args.port).text (g.D.Desk.ports c.put_parts.new.desk c.args.port).text c.loop-reached.parts.items c.loop-reached.reached c.slabs-slabs.ensures.size end c.loop-reached.invariant.pending all)

pub returns-clause-found : goal.returns-clause-found
returns-clause-found g c =
    let s = c.args.source.now in
    let end : c.loop-reached.reached.first ≡ slabs s.field.dims s.slab = at_end c.loop-reached.reached.first _ (slabs s.field.dims s.slab) c.loop-reached.invariant.reached.within c.slabs-slabs.ensures.slabs c.loop-reached-test.false in
    found_all c.args.lines s c.loop-reached.reached.found c.slabs-slabs.ensures.size (c.loop-reached.invariant.reached.found ∙ ap (extremes_to c.args.lines s) end)
