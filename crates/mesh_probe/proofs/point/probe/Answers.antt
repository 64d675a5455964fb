use Rattle.std.proofs.Common.{Option, None, Some}
use Rattle.std.specs.Prelude.{IfSome, MatchOption}
use Rattle.definitions.specs.States.{IsShares}
use Rattle.mesh_probe.proofs.Clear.{match_map}
use Rattle.mesh_probe.proofs.FirstHold.{is_hold, is_outside}
use Rattle.mesh_probe.proofs.HeldOnce.{is_only}
use Rattle.mesh_probe.proofs.point.probe.Goals as goal

pub returns-clause-hold : goal.returns-clause-hold
returns-clause-hold g c =
    let is : IsShares c.args.shares = search (c.well_formed) in
    match_map c.first_found.result _ _ _ _ (is_outside c.args.field.now c.args.shares is c.args.point) (is_hold c.args.field.now c.args.shares is c.args.point) c.first_found.ensures.found

if_some : {X : Type 0} (o : Option X) (N : Type 0) (P Q : X → Type 0) → ((x : X) → P x → Q x) → MatchOption o N P → IfSome o Q
if_some None N P Q f h = tt
if_some (Some x) N P Q f h = f x h

pub returns-clause-only : goal.returns-clause-only
returns-clause-only g c =
    let is : IsShares c.args.shares = search (c.well_formed) in
    let f = c.args.field.now in
    if_some c.first_found.result _ _ _ (λ hold h. is_only f c.args.shares is c.args.point hold (is_hold f c.args.shares is c.args.point hold h)) c.first_found.ensures.found
