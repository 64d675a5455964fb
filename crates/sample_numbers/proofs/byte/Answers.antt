use Rattle.sample_numbers.proofs.OneByte.{one_byte}
use Rattle.sample_numbers.proofs.byte.Goals as goal

pub returns : goal.returns
returns c = λ big. one_byte big c.args.bytes.now
