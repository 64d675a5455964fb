use Rattle.std.proofs.Common.{rules, ◌≡◌, [], length}
use Rattle.sound_laws.proofs.Meeting.{tets_meet}
use Rattle.conform_laws.proofs.same_weights.Goals as goal

pub returns : goal.returns
returns c =
    let four : length c.args.wa ≡ 4 = search rules in
    let four_more : length c.args.wb ≡ 4 = search rules in
    tets_meet c.args.field.now c.args.shares (search (c.well_formed)) c.args.a [] c.requires.a c.args.b [] c.requires.b c.args.wa c.args.wb four four_more c.requires.sums c.requires.places
