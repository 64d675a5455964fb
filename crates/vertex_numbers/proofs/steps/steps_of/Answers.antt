use Rattle.std.proofs.Common.{◌+◌, subst, sym}
use Rattle.vertex_numbers.specs.Steps.{LeadsBy}
use Rattle.vertex_numbers.proofs.StepIds.{second_leads, seventh_leads}
use Rattle.vertex_numbers.proofs.steps.steps_of.Goals as goal

pub returns : goal.returns
returns c =
    let d = c.args.dims in
    let h = c.args.h in
    let y = c.args.y in
    let third = c.third_step-third in
    record {
      second = subst (LeadsBy d h y 2) (sym c.columns.ensures.columns) (second_leads d h y);
      third = third.ensures.third;
      fifth = subst (λ n. LeadsBy d h y 5 (third.result + n)) (sym c.columns-2.ensures.columns) third.ensures.fifth;
      seventh = subst (LeadsBy d h y 7) (λ i. sym c.layer_len.ensures.len i + sym c.layer_len-2.ensures.len i) (seventh_leads d h y);
    }
