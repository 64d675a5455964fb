use Rattle.command_words.proofs.settings.read_value.Goals as goal

pub returns-in_err-level-in-Level-clause-number : goal.returns-in_err-level-in-Level-clause-number
returns-in_err-level-in-Level-clause-number c = rw c.in-Level.is (λ value h. let e = c.in_err-level-in-Level.ensures.found value h in cc)

pub returns-in_ok-level-in-Level-clause-number : goal.returns-in_ok-level-in-Level-clause-number
returns-in_ok-level-in-Level-clause-number c = rw c.in-Level.is (λ value h. let e = c.in_ok-level-in-Level.ensures.found value h in cc)

pub returns-in_err-is_world-in-Units-clause-number : goal.returns-in_err-is_world-in-Units-clause-number
returns-in_err-is_world-in-Units-clause-number c = rw c.in-Units.is (λ value h. let e = c.in_err-is_world-in-Units.ensures.found value h in cc)

pub returns-in_err-point-in-At-clause-point : goal.returns-in_err-point-in-At-clause-point
returns-in_err-point-in-At-clause-point c = rw c.in-At.is (λ p h. let e = c.in_err-point-in-At.ensures.found p h in cc)

pub returns-in_ok-point-in-At-clause-point : goal.returns-in_ok-point-in-At-clause-point
returns-in_ok-point-in-At-clause-point c = rw c.in-At.is (λ p h. let e = c.in_ok-point-in-At.ensures.found p h in cc)
