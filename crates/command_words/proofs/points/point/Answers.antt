use Rattle.std.proofs.Common.{◌∙◌, ◌++◌, ◌∷◌, ℕ, List, Option, sym, ap, subst, IfSome}
use Rattle.definitions.specs.declared.Place.{Place}
use Rattle.command_line.specs.Grammar.{IsPoint}
use Rattle.command_words.proofs.Commas.{no_second, point_found, point_is}
use Rattle.command_words.proofs.points.point.Goals as goal

pub returns-in_err-y-clause-found : goal.returns-in_err-y-clause-found
returns-in_err-y-clause-found c = λ p h.
    absurd (no_second c.args.text.now c.in_ok-x.x.now c.in_ok-x.rest.now p c.in_ok-x.ensures.parts c.in_ok-x.ensures.first c.in_err-y.ensures.none h)

pub returns-clause-text : goal.returns-clause-text
returns-clause-text c =
    subst (λ (o : Option Place). IfSome o (λ p. IsPoint c.args.text.now p)) (sym c.place_of.ensures)
    (point_is c.args.text.now c.in_ok-x.x.now c.in_ok-y.y.now c.in_ok-y.z.now c.coordinate.result c.coordinate-2.result c.coordinate-3.result
    (c.in_ok-x.ensures.parts ∙ ap (λ (u : List ℕ). c.in_ok-x.x.now ++ (44 ∷ u)) c.in_ok-y.ensures.parts) c.coordinate.ensures.text c.coordinate-2.ensures.text c.coordinate-3.ensures.text)

pub returns-clause-found : goal.returns-clause-found
returns-clause-found c = λ p h.
    c.place_of.ensures ∙ point_found c.args.text.now c.in_ok-x.x.now c.in_ok-y.y.now c.in_ok-y.z.now c.coordinate.result c.coordinate-2.result c.coordinate-3.result p
    (c.in_ok-x.ensures.parts ∙ ap (λ (u : List ℕ). c.in_ok-x.x.now ++ (44 ∷ u)) c.in_ok-y.ensures.parts) c.in_ok-x.ensures.first c.in_ok-y.ensures.first
    c.coordinate.ensures.found c.coordinate-2.ensures.found c.coordinate-3.ensures.found h
