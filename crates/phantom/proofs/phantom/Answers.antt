use Rattle.std.proofs.Common.{sym, subst}
use Rattle.definitions.specs.Lattice.{dims}
use Rattle.formats.specs.Volumes.{IsVolume}
use Rattle.st_base.specs.Samples.{Samples}
use Rattle.phantom.proofs.Sizes.{phantom_is_volume}
use Rattle.phantom.proofs.phantom.Goals as goal

pub new-requires : goal.new-requires
new-requires c =
    let n = c.args.n in
    subst (λ (s : Samples). IsVolume (record { dims = dims n n n; step = 1; kind = s.kind; samples = s.numbers })) (λ i. record { kind = sym c.in-Ok.ensures.kind i; numbers = sym c.in-Ok.ensures.numbers i }) (phantom_is_volume n c.args.seed c.requires.positive c.requires.size)
