use Rattle.std.proofs.Common.{refl, ◌≡◌, ◌+◌, ◌∷◌, [], arith, length, length-append, get_or, subst, sym, ap, ◌∙◌, Option, Some, rules}
use Rattle.std.specs.Option.{ForSome}
use Rattle.std.specs.Prelude.{IfOk, Ok, Result}
use Rattle.st_base.specs.declared.NoMemory.{NoMemory}
use Rattle.std.proofs.lemmas.List.{get_or-set_other, length-set}
use Rattle.slab_emit.specs.declared.part.Part.{Part}
use Rattle.slab_emit.specs.Parts.{AreParts, IsPart}
use Rattle.slab_emit.proofs.Placing.{no_parts, parts_more}
use Rattle.slab_emit.proofs.round.collect.Goals as goal

pub loop-n-init : goal.loop-n-init
loop-n-init c = record {
  len = refl;
  long = ap length c.in-Ok.ensures.items;
  room = search rules;
  filled = λ k le. c.requires.filled k;
  rest = λ lines s first fit k d low lt. fit k d lt;
  parts = λ lines s first fit. subst (AreParts lines s first) (sym c.in-Ok.ensures.items) (no_parts lines s first);
}

pub loop-n-preserved : goal.loop-n-preserved
loop-n-preserved c =
    let i = c.loop-n.invariant in
    let n = c.loop-n.n in
    let items = c.push_reserved.ensures.items in
    let long : length c.push_reserved.new.self.items ≡ length c.loop-n.parts.items + 1 = ap length items ∙ length-append c.loop-n.parts.items (c.in-Some-Ok.part ∷ []) in
    let was = i.long in
    let size = length-set c.loop-n.places n c.take.new.self in
    let same = i.len in
    let test = c.loop-n-test.true in
    record {
      len = size ∙ i.len;
      long = omega arith;
      room = (let r = i.room in let p = c.push_reserved.ensures.capacity in omega arith);
      filled = λ k low d lt e. (i.filled k (omega arith) d (omega arith) (sym (get_or-set_other c.loop-n.places n k c.take.new.self d (λ e. absurd (omega arith))) ∙ e));
      rest = λ lines s first fit k d low lt.
          subst (λ (q : Option (Result Part NoMemory)). ForSome q (λ made. IfOk made (IsPart lines s (first + k)))) (sym (get_or-set_other c.loop-n.places n k c.take.new.self d (λ e. absurd (omega arith)))) (i.rest lines s first fit k d (omega arith) (omega arith));
      parts = λ lines s first fit.
          (let made = c.in-Some-Ok.field-0 in
          let value : get_or c.loop-n.places n c.index-places-n.result ≡ Some made = sym c.take.ensures.value ∙ c.in-Some-Ok.is in
          let ok : made ≡ Ok c.in-Some-Ok.part = cc in
          let part : IsPart lines s (first + n) c.in-Some-Ok.part = subst (λ (r : Result Part NoMemory). IfOk r (IsPart lines s (first + n))) ok (i.rest lines s first fit n c.index-places-n.result (omega arith) (omega arith) made value) in
          subst (AreParts lines s first) (sym items)
          (parts_more lines s first c.loop-n.parts.items c.in-Some-Ok.part (i.parts lines s first fit) (subst (λ m. IsPart lines s (first + m) c.in-Some-Ok.part) (sym was) part)));
    }
