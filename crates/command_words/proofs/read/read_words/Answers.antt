use Rattle.std.proofs.Common.{ℕ, ◌+◌, drop, sym, subst, arith, ◌∙◌}
use Rattle.command_line.specs.Grammar.{IsBadPlace}
use Rattle.command_words.specs.Commands.{IsBadName}
use Rattle.command_words.specs.Settings.{IsTaken, IsStop}
use Rattle.command_words.proofs.Places.{no_verb, bad_name_place, opened, stop_place}
use Rattle.command_words.proofs.Meanings.{no_command, reads_all}
use Rattle.command_words.proofs.Limits.{point_within, point_seen, long_within, short_within, size_within, step_within, step_seen, plan_within, plan_is_seen, numbering_within, numbering_seen, source_seen, output_seen}
use Rattle.command_words.proofs.read.read_words.Goals as goal

pub returns-in_default-clause-place : goal.returns-in_default-clause-place
returns-in_default-clause-place c = no_verb c.args.words.now c.in_default.ensures.none

pub returns-in-Some-bad_name-clause-place : goal.returns-in-Some-bad_name-clause-place
returns-in-Some-bad_name-clause-place c =
    bad_name_place c.args.words.now c.in-Some.verb c.in-Some-bad_name.place c.in-Some.ensures.text
    (subst (λ (n : ℕ). IsBadName c.args.words.now n c.in-Some-bad_name.place) c.file_count-files.ensures c.in-Some-bad_name.ensures.bad)

pub returns-in-Err-clause-place : goal.returns-in-Err-clause-place
returns-in-Err-clause-place c =
    stop_place c.args.words.now c.in-Some.verb c.in-Err.place
    (opened c.args.words.now c.in-Some.verb c.in-Some.ensures.text (λ k lt. c.in_default-bad_name.ensures.none k (omega arith)))
    (subst (λ (n : ℕ). IsStop c.in-Some.verb c.args.words.now (n + 1) c.in-Err.place) c.file_count-files.ensures c.in-Err.ensures.place)

pub returns-in-None-clause-place : goal.returns-in-None-clause-place
returns-in-None-clause-place c =
    subst (λ (n : ℕ). IsBadPlace c.args.words.now n) (sym c.len.ensures)
    (no_command c.args.words.now c.in-Some.verb c.in-Ok.seen
    (opened c.args.words.now c.in-Some.verb c.in-Some.ensures.text (λ k lt. c.in_default-bad_name.ensures.none k (omega arith)))
    (subst (λ (n : ℕ). IsTaken c.in-Some.verb (drop (n + 1) c.args.words.now) c.in-Ok.seen) c.file_count-files.ensures c.in-Ok.ensures.all)
    (sym c.command_by.ensures ∙ c.in-None.is))

pub command_by-requires-clause-long : goal.command_by-requires-clause-long
command_by-requires-clause-long c = long_within c.in-Some.verb (drop (c.file_count-files.result + 1) c.args.words.now) c.in-Ok.seen c.in-Ok.ensures.all

pub command_by-requires-clause-short : goal.command_by-requires-clause-short
command_by-requires-clause-short c = short_within c.in-Some.verb (drop (c.file_count-files.result + 1) c.args.words.now) c.in-Ok.seen c.in-Ok.ensures.all

pub returns-in-Some-command_by-clause-command : goal.returns-in-Some-command_by-clause-command
returns-in-Some-command_by-clause-command c =
    reads_all c.args.words.now c.in-Some.verb c.in-Ok.seen c.in-Some-command_by.command
    (opened c.args.words.now c.in-Some.verb c.in-Some.ensures.text (λ k lt. c.in_default-bad_name.ensures.none k (omega arith)))
    (subst (λ (n : ℕ). IsTaken c.in-Some.verb (drop (n + 1) c.args.words.now) c.in-Ok.seen) c.file_count-files.ensures c.in-Ok.ensures.all)
    (sym c.command_by.ensures ∙ c.in-Some-command_by.is)

pub returns-in-Some-command_by-clause-source : goal.returns-in-Some-command_by-clause-source
returns-in-Some-command_by-clause-source c =
    source_seen c.in-Some.verb c.args.words.now c.in-Ok.seen c.in-Some-command_by.command
    (opened c.args.words.now c.in-Some.verb c.in-Some.ensures.text (λ k lt. c.in_default-bad_name.ensures.none k (omega arith)))
    (sym c.command_by.ensures ∙ c.in-Some-command_by.is)
    (size_within c.in-Some.verb (drop (c.file_count-files.result + 1) c.args.words.now) c.in-Ok.seen c.in-Ok.ensures.all)

pub returns-in-Some-command_by-clause-output : goal.returns-in-Some-command_by-clause-output
returns-in-Some-command_by-clause-output c =
    output_seen c.in-Some.verb c.args.words.now c.in-Ok.seen c.in-Some-command_by.command
    (opened c.args.words.now c.in-Some.verb c.in-Some.ensures.text (λ k lt. c.in_default-bad_name.ensures.none k (omega arith)))
    (sym c.command_by.ensures ∙ c.in-Some-command_by.is)

pub returns-in-Some-command_by-clause-step : goal.returns-in-Some-command_by-clause-step
returns-in-Some-command_by-clause-step c =
    step_seen c.in-Some.verb c.in-Ok.seen c.in-Some-command_by.command (sym c.command_by.ensures ∙ c.in-Some-command_by.is)
    (step_within c.in-Some.verb (drop (c.file_count-files.result + 1) c.args.words.now) c.in-Ok.seen c.in-Ok.ensures.all)

pub returns-in-Some-command_by-clause-plan : goal.returns-in-Some-command_by-clause-plan
returns-in-Some-command_by-clause-plan c =
    plan_is_seen c.in-Some.verb c.in-Ok.seen c.in-Some-command_by.command (sym c.command_by.ensures ∙ c.in-Some-command_by.is)
    (plan_within c.in-Some.verb (drop (c.file_count-files.result + 1) c.args.words.now) c.in-Ok.seen c.in-Ok.ensures.all)

pub returns-in-Some-command_by-clause-numbering : goal.returns-in-Some-command_by-clause-numbering
returns-in-Some-command_by-clause-numbering c =
    numbering_seen c.in-Some.verb c.in-Ok.seen c.in-Some-command_by.command (sym c.command_by.ensures ∙ c.in-Some-command_by.is)
    (numbering_within c.in-Some.verb (drop (c.file_count-files.result + 1) c.args.words.now) c.in-Ok.seen c.in-Ok.ensures.all)

pub returns-in-Some-command_by-clause-point : goal.returns-in-Some-command_by-clause-point
returns-in-Some-command_by-clause-point c =
    point_seen c.in-Some.verb c.in-Ok.seen c.in-Some-command_by.command (sym c.command_by.ensures ∙ c.in-Some-command_by.is)
    (point_within c.in-Some.verb (drop (c.file_count-files.result + 1) c.args.words.now) c.in-Ok.seen c.in-Ok.ensures.all)
