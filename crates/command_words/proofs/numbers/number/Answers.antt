use Rattle.std.proofs.Common.{◌≡◌, ◌∙◌, ap, sym, decimal, Ok}
use Rattle.std.proofs.lemmas.Fmt.{parse-decimal}
use Rattle.command_words.proofs.Decimals.{decimal_is_text}
use Rattle.command_words.proofs.TextEnds.{unlike}
use Rattle.command_words.proofs.numbers.number.Goals as goal

pub returns-in_default-clause-found : goal.returns-in_default-clause-found
returns-in_default-clause-found c = λ n h e. absurd (c.in_default.ensures.cases.0 (rw e (decimal_is_text n h)))

pub returns-in_default-parse-clause-found : goal.returns-in_default-parse-clause-found
returns-in_default-parse-clause-found c = λ n h e.
    let r : c.parse.result ≡ Ok n = parse-decimal 64 n c.in-Ok.digits.now c.parse.result h h (c.in-Ok.ensures.cases.0 ∙ e) c.parse.ensures.value.0 in
    cc (r, c.in_default-parse.is)

pub returns-then-is_printed-clause-found : goal.returns-then-is_printed-clause-found
returns-then-is_printed-clause-found c = λ n h e.
    let r : c.parse.result ≡ Ok n = parse-decimal 64 n c.in-Ok.digits.now c.parse.result h h (c.in-Ok.ensures.cases.0 ∙ e) c.parse.ensures.value.0 in
    cc (r, c.in-Ok-parse.is)

pub returns-else-is_printed-clause-found : goal.returns-else-is_printed-clause-found
returns-else-is_printed-clause-found c = λ n h e.
    let r : c.parse.result ≡ Ok n = parse-decimal 64 n c.in-Ok.digits.now c.parse.result h h (c.in-Ok.ensures.cases.0 ∙ e) c.parse.ensures.value.0 in
    let same : c.in-Ok-parse.n ≡ n = cc (r, c.in-Ok-parse.is) in
    unlike (decimal c.in-Ok-parse.n) c.args.text.now (sym c.if-is_printed.ensures) (ap decimal same ∙ sym e)
