use Rattle.std.proofs.Common.{[], ◌≡◌, ◌++◌, ◌∷◌, ◌<◌, ◌≤◌, ℕ, ap, sym, subst, ◌∙◌, get_or, length, map}
use Rattle.std.specs.Prelude.{slice_index}
use Rattle.std.proofs.lemmas.List.{get_or-take, take_all}
use Rattle.stencils.specs.Cases.{listed}
use Rattle.mesh_lists.proofs.Pieces.{pieces_more}
use Rattle.mesh_lists.proofs.kinds.push_case.Goals as goal

pub loop-n-preserved : goal.loop-n-preserved
loop-n-preserved c =
    let ten = c.args.numbers.now in
    let case = c.args.case.now in
    let n = c.loop-n.n in
    let lt : n < length (listed case) = subst (λ (m : ℕ). n < m) (sym c.requires.count) c.loop-n-test.true in
    let piece : c.at_places.result ≡ map (λ k. slice_index ten k) (get_or (listed case) n []) = c.at_places.ensures ∙ ap (map (λ k. slice_index ten k)) (sym (get_or-take case.len case.of n [] c.loop-n-test.true)) in
    pieces_more (map (λ k. slice_index ten k)) (listed case) n [] c.args.tets.now.items c.loop-n.tets.items c.push.new.list.items lt c.loop-n.invariant (c.in_ok-push.ensures ∙ ap (λ t. c.loop-n.tets.items ++ t ∷ []) piece)

pub returns : goal.returns
returns c =
    let case = c.args.case.now in
    c.loop-n.invariant
    ∙ ap (λ ps. c.args.tets.now.items ++ map (map (λ k. slice_index c.args.numbers.now k)) ps) (take_all c.loop-n.n (listed case) (subst (λ (m : ℕ). m ≤ c.loop-n.n) (sym c.requires.count) c.loop-n-test.false))
