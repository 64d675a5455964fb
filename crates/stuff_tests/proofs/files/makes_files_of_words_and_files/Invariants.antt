use Rattle.std.proofs.Common.{length}
use Rattle.stuff_tests.proofs.files.makes_files_of_words_and_files.Given as goal

abbrev pub decreases-loop-rest : goal.decreases-loop-rest
decreases-loop-rest g l = length l.rest
