use Rattle.std.proofs.Common.{Some, sym, ◌∙◌, ap}
use Rattle.desk_mem.specs.Meanings.{mem_held}
use Rattle.meshed.proofs.Holding.{held_front, on_ok}
use Rattle.meshed.proofs.desk.+hold.Goals as goal

pub returns-in_ok-hold-in-len1-up-clause-held : goal.returns-in_ok-hold-in-len1-up-clause-held
returns-in_ok-hold-in-len1-up-clause-held κ c =
    on_ok c.put_input.result
    (λ here. held_front c.args.files.now c.first-item.result (mem_held c.hold.new.desk) (mem_held c.put_input.new.self) c.in-len1-up.len_at_least c.first-item.is c.in_ok-hold-in-len1-up.ensures.held
    (ap (mem_held c.put_input.new.self) (sym c.deref.ensures.value) ∙ (here ∙ ap Some c.deref-in-len1-up.ensures.value)) (λ n ne. c.put_input.ensures.others n (λ e. ne (e ∙ c.deref.ensures.value))))
    c.put_input.ensures.held
