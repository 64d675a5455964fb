use Rattle.std.proofs.Common.{◌≡◌, ◌++◌, Result, Ok, Err, subst}
use Rattle.std.specs.Prelude.{flat_map, IsPermutation, OnOk}
use Rattle.std.proofs.lemmas.List.Sorted.{IsPermutation-trans}
use Rattle.face_neigh.proofs.gather.gather.Goals as goal

on_ok : {X Y : Type 0} (r : Result X Y) (P Q : Type 0) → (P → Q) → OnOk r P → OnOk r Q
on_ok (Ok x) P Q f p = f p
on_ok (Err e) P Q f p = p

pub returns : goal.returns
returns c =
    let first : IsPermutation c.args.sides.now.items (flat_map (λ g. g.items) c.in_ok-groups.groups.items) = subst (λ l. IsPermutation l (flat_map (λ g. g.items) c.in_ok-groups.groups.items)) c.deref.ensures.value c.in_ok-groups.ensures in
    let left : c.clear.new.self.items ++ flat_map (λ g. g.items) c.deref-2.result.now ≡ flat_map (λ g. g.items) c.in_ok-groups.groups.items = (λ j. c.clear.ensures.items j ++ flat_map (λ g. g.items) (c.deref-2.ensures.value j)) in
    on_ok c.join.result _ _ (λ p. IsPermutation-trans _ _ _ first (subst (λ l. IsPermutation l c.join.new.sides.items) left p)) c.join.ensures
