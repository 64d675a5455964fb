use Rattle.std.proofs.Common.{◌∙◌, sym, ap, is_some}
use Rattle.command_words.specs.Settings.{setting_of, held, is_known}
use Rattle.command_words.proofs.Settled.{said_first, unset_none}
use Rattle.command_words.proofs.settings.Seen.take.Goals as goal

pub returns-in_err-setting-clause-stuck : goal.returns-in_err-setting-clause-stuck
returns-in_err-setting-clause-stuck c = rw c.from_residual.ensures (λ s reads known none. let e = c.in_err-setting.ensures.found s reads in cc)

pub returns-clause-taken : goal.returns-clause-taken
returns-clause-taken c =
    let s = setting_of c.in_ok-setting.setting in
    let first = unset_none (held c.args.self.now s.name) (sym (c.if-is_set.ensures ∙ ap (λ n. is_some (held c.args.self.now n)) c.name-name.ensures)) in
    record {
      setting = s;
      word_reads = c.in_ok-setting.ensures.reads;
      known = ap (is_known c.args.verb) (sym c.name-name.ensures) ∙ sym c.if-not-is_known.ensures;
      first = first;
      next_held = λ n. c.with.ensures n ∙ said_first c.args.self.now s n first;
    }
