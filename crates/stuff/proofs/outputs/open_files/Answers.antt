use Rattle.std.proofs.Common.{ap, ◌∙◌}
use Rattle.stuff.specs.Writing.{names_of, ports_of}
use Rattle.stuff.proofs.outputs.open_files.Goals as goal

pub returns-in-Ok-clause-reaches : goal.returns-in-Ok-clause-reaches
returns-in-Ok-clause-reaches g c = λ texts.
    c.open_each.ensures.reaches c.args.output.now c.args.faces texts (ap ports_of c.deref.ensures.value ∙ c.in-Ok.ensures.ports) (ap names_of c.deref.ensures.value ∙ c.in-Ok.ensures.names)
