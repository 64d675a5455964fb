use Rattle.std.proofs.Common.{◌≡◌, List, ℕ, ◌++◌, ◌*◌, length, ap, ◌∙◌, get_or, [], refl}
use Rattle.std.proofs.lemmas.List.Elements.{All-from_get_or, All-nil, All-same}
use Rattle.definitions.specs.Soundness.{triangles_of}
use Rattle.face_neigh.specs.Sides.{IsSmall, sides, sides_from}
use Rattle.face_neigh.proofs.SideLists.{sides_more}
use Rattle.face_neigh.proofs.sides.in_order.Goals as goal

pub loop-number-init : goal.loop-number-init
unfolding sides
loop-number-init c = (c.in-Ok.ensures.items, All-same IsSmall _ [] c.in-Ok.ensures.items (All-nil IsSmall))

pub loop-number-preserved : goal.loop-number-preserved
loop-number-preserved c =
    let four = All-from_get_or (λ (t : List ℕ). length t ≡ 4) c.args.tets.now [] c.told-tets in (
      c.in_ok-push_four.ensures.sides
          ∙ (ap (λ t. t ++ sides_from (4 * c.loop-number.number) (triangles_of (get_or c.args.tets.now c.loop-number.number []))) c.loop-number.invariant.0
          ∙ sides_more c.args.tets.now c.loop-number.number (get_or c.args.tets.now c.loop-number.number []) four c.loop-number-test.true refl),
      c.in_ok-push_four.ensures.small c.loop-number.invariant.1,
    )
