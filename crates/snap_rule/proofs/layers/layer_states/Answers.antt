use Rattle.std.proofs.Common.{◌∙◌}
use Rattle.definitions.specs.States.{code, state_of}
use Rattle.snap_rule.proofs.Places.{layer_filled}
use Rattle.snap_rule.proofs.layers.layer_states.Goals as goal

pub returns-clause-codes : goal.returns-clause-codes
returns-clause-codes g c =
    layer_filled c.args.field.now.dims c.args.h (λ v. code (state_of c.args.field.now c.args.shares v)) c.write_layer-end.new.out c.write_layer-end.ensures.sizes c.requires.layer
    (c.write_layer-end.auto.out ∙ c.requires.len) c.write_layer-end.ensures.layer
