use Rattle.std.proofs.Common.{◌≤◌, ◌^◌, ◌∙◌, ℕ, arith}
use Rattle.samples.specs.Stars.{star_of_runs}
use Rattle.samples.proofs.Stars.{read_sum}
use Rattle.samples.proofs.field.Field.centre_star.Goals as goal

below : {n : ℕ} → n ≤ 2 ^ 35 → n ≤ 2 ^ 37
below h = omega arith

pub returns-clause-star : goal.returns-clause-star
returns-clause-star c =
    let y = c.two_pairs-y.ensures.pairs ∙ (λ t. record { low = record { low = (read_sum c.two.result (below c.two.ensures.small) ∙ c.two.ensures.sum) t; high = (read_sum c.two-2.result (below c.two-2.ensures.small) ∙ c.two-2.ensures.sum) t }; high = record { low = (read_sum c.two-3.result (below c.two-3.ensures.small) ∙ c.two-3.ensures.sum) t; high = (read_sum c.two-4.result (below c.two-4.ensures.small) ∙ c.two-4.ensures.sum) t } }) in
    let z = c.two_pairs-z.ensures.pairs ∙ (λ t. record { low = record { low = (read_sum c.two-5.result (below c.two-5.ensures.small) ∙ c.two-5.ensures.sum) t; high = (read_sum c.two-6.result (below c.two-6.ensures.small) ∙ c.two-6.ensures.sum) t }; high = record { low = (read_sum c.two-7.result (below c.two-7.ensures.small) ∙ c.two-7.ensures.sum) t; high = (read_sum c.two-8.result (below c.two-8.ensures.small) ∙ c.two-8.ensures.sum) t } }) in
    c.star_of_runs.ensures.star
    ∙ (λ t. star_of_runs (c.run-a.ensures.run t) (c.run-b.ensures.run t) (c.run-c.ensures.run t) (c.run-d.ensures.run t) (y t) (z t))
