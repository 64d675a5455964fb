use Rattle.mha_read.proofs.HeadAnswers.{judged_answers, lines_answer}
use Rattle.mha_read.proofs.reading.read_head.Goals as goal

pub returns-in-Ok-clause-told : goal.returns-in-Ok-clause-told
returns-in-Ok-clause-told g c = λ text e. judged_answers c.args.world text c.in-Ok.pairs _ c.judge.result c.judge.ensures.value c.judge.ensures.kind (c.in-Ok.ensures.told text e)

pub returns-in-Err-clause-told : goal.returns-in-Err-clause-told
returns-in-Err-clause-told g c = λ text e. lines_answer c.args.world text _ c.in-Err.fault (c.in-Err.ensures.told text e)
