use Rattle.command_words.proofs.Places.{one_command, one_place}
use Rattle.command_words.proofs.read.words_read_once.Goals as goal

pub returns-clause-command : goal.returns-clause-command
returns-clause-command c = one_command

pub returns-clause-place : goal.returns-clause-place
returns-clause-place c = one_place
