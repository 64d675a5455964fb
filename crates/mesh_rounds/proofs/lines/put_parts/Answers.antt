use Rattle.std.proofs.Common.{rules, ℕ, List, take, get_or, subst, ap, ◌∙◌}
use Rattle.std.proofs.KnownBytes.{Appends-trans}
use Rattle.std.specs.Io.KnownBytes.{Appends}
use Rattle.st_base.proofs.Frames.{then_port}
use Rattle.mesh_rounds.specs.Rounds.{text_of}
use Rattle.mesh_rounds.proofs.AllRounds.{part_broke, text_more}
use Rattle.st_base.specs.Desk.{AppendsPart}
use Rattle.slab_emit.specs.declared.Part.{Part}
use Rattle.mesh_rounds.proofs.lines.put_parts.Goals as goal

pub returns-in-Err-clause-puts : goal.returns-in-Err-clause-puts
returns-in-Err-clause-puts g c =
    let i = c.loop-n.invariant in
    let e = c.in-Err.ensures in
    let part = subst (λ (t : List ℕ). AppendsPart (g.D.Desk.ports c.loop-n.desk c.args.port).text (g.D.Desk.ports c.put_all.new.desk c.args.port).text t) (c.deref.ensures.value ∙ ap (λ (p : Part). p.text.items) c.index-parts-n.is) e.part in
    record {
      all = tt;
      part = part_broke (g.D.Desk.ports c.args.desk.now c.args.port).text (g.D.Desk.ports c.loop-n.desk c.args.port).text (g.D.Desk.ports c.put_all.new.desk c.args.port).text c.args.parts.now c.loop-n.n c.index-parts-n.result c.loop-n-test.true i.text part;
      fault = search rules;
      none = search rules;
      later = search rules;
      is_open = e.is_open;
      name = e.name ∙ i.name;
      apart = then_port i.apart e.apart;
    }

pub loop-n-preserved : goal.loop-n-preserved
loop-n-preserved g c =
    let i = c.loop-n.invariant in
    let n = c.loop-n.n in
    let e = c.in-Ok.ensures in
    record {
      text =
          subst (λ (t : List ℕ). Appends (g.D.Desk.ports c.args.desk.now c.args.port).text (g.D.Desk.ports c.put_all.new.desk c.args.port).text t) (text_more c.args.parts.now n c.index-parts-n.result c.loop-n-test.true)
          (Appends-trans (g.D.Desk.ports c.args.desk.now c.args.port).text (g.D.Desk.ports c.loop-n.desk c.args.port).text (g.D.Desk.ports c.put_all.new.desk c.args.port).text (text_of (take n c.args.parts.now)) (get_or c.args.parts.now n c.index-parts-n.result).text.items i.text
          (subst (λ (t : List ℕ). Appends (g.D.Desk.ports c.loop-n.desk c.args.port).text (g.D.Desk.ports c.put_all.new.desk c.args.port).text t) (c.deref.ensures.value ∙ ap (λ (p : Part). p.text.items) c.index-parts-n.is) e.all));
      faults = search rules;
      is_open = e.is_open;
      name = e.name ∙ i.name;
      apart = then_port i.apart e.apart;
    }
