use Rattle.std.proofs.Common.{rules, ◌≡◌, ◌+◌, ◌-◌, ◌*◌, ◌<◌, ◌≤◌, ℕ, All, ap, arith, length, min, subst, sym, ◌∙◌}
use Rattle.std.specs.Option.{ForSome}
use Rattle.definitions.specs.Layout.{slabs}
use Rattle.dihedral.specs.Fractions.{AreFractions}
use Rattle.slab_emit.specs.Parts.{AreParts}
use Rattle.mesh_rounds.specs.Rounds.{IsReached, extremes_to}
use Rattle.mesh_rounds.proofs.rounds.next_round.Goals as goal

within : (first n k s : ℕ) → first < s → n ≡ min k (s - first) → first + n ≤ s
within first n k s h e = omega arith

positive : (first n w s : ℕ) → first < s → 1 ≤ w → n ≡ min (4 * w) (s - first) → 0 < n
positive first n w s h a e = omega arith

pub fold_parts-reached-requires-clause-parts : goal.fold_parts-reached-requires-clause-parts
fold_parts-reached-requires-clause-parts g c = subst (All (λ p. ForSome p.extremes AreFractions)) (sym c.deref.ensures.value) (λ k d lt. (c.in-Ok.ensures.parts.each k d lt).fractions)

pub returns-clause-round : goal.returns-clause-round
returns-clause-round g c =
    let s = c.args.source.now in
    let ps = c.in-Ok.parts.items in
    let first = c.args.reached.now.first in
    let same = c.deref.ensures.value in
    let old = c.requires.reached in
    let len : c.len.result ≡ length ps = search rules in
    let reached : IsReached c.args.lines s (record { first = first + c.len.result; found = c.fold_parts-reached.result }) = record {
      within = subst (λ n. first + n ≤ slabs s.field.dims s.slab) (sym len) (within first (length ps) (4 * c.args.crew.now) (slabs s.field.dims s.slab) c.requires.first c.in-Ok.ensures.len);
      small = old.small;
      measured = old.measured;
      found =
          subst (λ n. c.fold_parts-reached.result ≡ extremes_to c.args.lines s (first + n)) (ap length same ∙ sym len)
          (c.fold_parts-reached.ensures.found c.args.lines s first old.measured (subst (AreParts c.args.lines s first) (sym same) c.in-Ok.ensures.parts) old.found);
      fractions = c.fold_parts-reached.ensures.fractions;
    } in
    record {
      parts = c.in-Ok.ensures.parts;
      first = ap (λ n. first + n) len;
      some = positive first (length ps) c.args.crew.now (slabs s.field.dims s.slab) c.requires.first c.requires.crew c.in-Ok.ensures.len;
      reached = reached;
    }
