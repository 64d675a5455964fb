use Rattle.std.proofs.Common.{length}
use Rattle.meshed.proofs.desk.+hold.Given as goal

abbrev pub decreases-hold : goal.decreases-hold
decreases-hold l = length l.files.now
