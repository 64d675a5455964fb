use Rattle.std.proofs.Common.{◌≡◌, List, Result, Ok, Err, IfOk, ◌<◌, ◌/◌, length, subst}
use Rattle.std.proofs.lemmas.List.Elements.{All-same}
use Rattle.std.proofs.lemmas.Result.{IfOk-weaker}
use Rattle.adjacency.specs.Neighbours.{neighbours}
use Rattle.face_neigh.specs.declared.side.Side.{Side}
use Rattle.face_neigh.specs.Pairs.{none_noted, NotesPairs}
use Rattle.face_neigh.proofs.Places.{fit_of}
use Rattle.face_neigh.proofs.Sorted.{places_below}
use Rattle.face_neigh.proofs.Partners.{answers_noted}
use Rattle.face_neigh.proofs.across.neighbours.Goals as goal

both : {X Y : Type 0} (r : Result X Y) (P Q : X → Type 0) → IfOk r P → IfOk r Q → IfOk r (λ x. P x × Q x)
both (Ok x) P Q p q = (p, q)
both (Err e) P Q p q = p

pub noted_pairs-requires : goal.noted_pairs-requires
noted_pairs-requires c =
    let below = places_below c.args.tets.now (fit_of c.args.tets.now c.told-tets c.requires.differ c.requires.by_two) c.in_ok-sides.sides.items c.in_ok-sides.ensures.permutation in
    All-same (λ (s : Side). s.place / 4 < length c.args.tets.now) c.deref.result.now c.in_ok-sides.sides.items c.deref.ensures.value below

pub returns-clause-neighbours : goal.returns-clause-neighbours
returns-clause-neighbours c =
    let tets = c.args.tets.now in
    let fit = fit_of c.args.tets.now c.told-tets c.requires.differ c.requires.by_two in
    IfOk-weaker c.noted_pairs.result _ (λ found. found.items ≡ neighbours c.args.tets.now)
    (λ found h. answers_noted tets fit c.in_ok-sides.sides.items found.items c.in_ok-sides.ensures.permutation c.in_ok-sides.ensures.small c.in_ok-sides.ensures.sorted h.0
    (subst (λ (s : List Side). NotesPairs (none_noted (length c.args.tets.now)) found.items s (length s)) c.deref.ensures.value h.1))
    (both c.noted_pairs.result _ _ c.noted_pairs.ensures.length c.noted_pairs.ensures.pairs)
