use Rattle.std.proofs.Common.{ℕ, ◌+◌, ◌≤◌, ◌+ℤ◌, ℤ, arith, sym, subst, ◌∙◌, unsigned_abs}
use Rattle.std.proofs.lemmas.Int.{ints}
use Rattle.determinants.proofs.SignedProducts.{normal_product, size_of_sum, three_back}
use Rattle.determinants.proofs.vectors.dot.Goals as goal

pub overflow_add-result : goal.overflow_add-result
overflow_add-result c = let x = normal_product _ c.args.p.x c.args.q.x c.requires.p.x c.requires.q.x c.times.ensures in let y = normal_product _ c.args.p.y c.args.q.y c.requires.p.y c.requires.q.y c.times-2.ensures in omega (arith, ints)

pub overflow_add-result-2 : goal.overflow_add-result-2
overflow_add-result-2 c = let x = normal_product _ c.args.p.x c.args.q.x c.requires.p.x c.requires.q.x c.times.ensures in let y = normal_product _ c.args.p.y c.args.q.y c.requires.p.y c.requires.q.y c.times-2.ensures in let z = normal_product _ c.args.p.z c.args.q.z c.requires.p.z c.requires.q.z c.times-3.ensures in omega (arith, ints)

pub returns-clause-value : goal.returns-clause-value
returns-clause-value c =
    let x = normal_product _ c.args.p.x c.args.q.x c.requires.p.x c.requires.q.x c.times.ensures in
    let y = normal_product _ c.args.p.y c.args.q.y c.requires.p.y c.requires.q.y c.times-2.ensures in
    let z = normal_product _ c.args.p.z c.args.q.z c.requires.p.z c.requires.q.z c.times-3.ensures in
    three_back c.times.result c.times-2.result c.times-3.result x.size y.size z.size ∙ (λ i. (x.value i +ℤ y.value i) +ℤ z.value i)

pub returns-clause-small : goal.returns-clause-small
returns-clause-small c =
    let x = normal_product _ c.args.p.x c.args.q.x c.requires.p.x c.requires.q.x c.times.ensures in
    let y = normal_product _ c.args.p.y c.args.q.y c.requires.p.y c.requires.q.y c.times-2.ensures in
    let z = normal_product _ c.args.p.z c.args.q.z c.requires.p.z c.requires.q.z c.times-3.ensures in
    let sum = three_back c.times.result c.times-2.result c.times-3.result x.size y.size z.size in
    let two = size_of_sum c.times.result c.times-2.result _ _ x.size y.size in
    let three = size_of_sum (c.times.result +ℤ c.times-2.result) c.times-3.result _ _ two z.size in
    subst (λ (t : ℤ). unsigned_abs t ≤ 288230376151711744) (sym sum) (small (unsigned_abs ((c.times.result +ℤ c.times-2.result) +ℤ c.times-3.result)) three)
  where
    small : (n : ℕ) → n ≤ 91138533320294464 + 91138533320294464 + 91138533320294464 → n ≤ 288230376151711744
    small n h = omega arith
