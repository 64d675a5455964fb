use Rattle.std.proofs.Common.{arith, subst, List, ℕ}
use Rattle.command_words.specs.Settings.{IsTakenAs, IsStuck}
use Rattle.command_words.proofs.Settled.{from_none, from_next, from_stop, from_all}
use Rattle.command_words.proofs.settings.read_settings.Goals as goal

pub loop-i-init : goal.loop-i-init
loop-i-init c = from_none c.args.verb c.args.words.now c.args.start c.new-seen.result c.new-seen.ensures

pub returns-in-None-clause-place : goal.returns-in-None-clause-place
returns-in-None-clause-place c =
    from_stop c.args.verb c.args.words.now c.args.start c.loop-i.i c.loop-i.seen (omega arith) (omega arith) c.loop-i.invariant
    (subst (λ (w : List ℕ). IsStuck c.args.verb c.loop-i.seen w) c.word.ensures c.in-None.ensures.stuck)

pub loop-i-preserved : goal.loop-i-preserved
loop-i-preserved c =
    from_next c.args.verb c.args.words.now c.args.start c.loop-i.i c.loop-i.seen c.in-Some.next (omega arith) (omega arith) c.loop-i.invariant
    (subst (λ (w : List ℕ). IsTakenAs c.args.verb c.loop-i.seen w c.in-Some.next) c.word.ensures c.in-Some.ensures.taken)

pub returns-clause-all : goal.returns-clause-all
returns-clause-all c = from_all c.args.verb c.args.words.now c.args.start c.loop-i.i c.loop-i.seen (omega arith) c.loop-i.invariant
