use Rattle.std.proofs.Common.{◌+ℤ◌, ◌*ℤ◌, ◌-ℤ◌, ◌+◌, ◌^◌, ◌≤◌, ◌∙◌, sym, arith, ℤ, subst, unsigned_abs}
use Rattle.mesh_audit.proofs.WideNumbers.{back_64, back_128, sized_sum}
use Rattle.mesh_audit.proofs.volumes.determinant.Goals as goal

pub returns-clause-value : goal.returns-clause-value
returns-clause-value c =
    let x = back_128 c.term-x.result (omega (arith, c.term-x.ensures.small)) in
    let y = back_128 c.term-y.result (omega (arith, c.term-y.ensures.small)) in
    let z = back_128 c.term-z.result (omega (arith, c.term-z.ensures.small)) in
    let two : unsigned_abs c.sum.result ≤ 2 ^ 103 + 2 ^ 103 = sized_sum c.term-x.result c.term-y.result c.sum.result (2 ^ 103) (2 ^ 103) c.term-x.ensures.small c.term-y.ensures.small x y c.sum.ensures.small in
    let s = back_128 c.sum.result (omega arith) in
    let three : unsigned_abs c.sum-2.result ≤ 2 ^ 103 + 2 ^ 103 + 2 ^ 103 = sized_sum c.sum.result c.term-z.result c.sum-2.result (2 ^ 103 + 2 ^ 103) (2 ^ 103) two c.term-z.ensures.small s z c.sum-2.ensures.small in
    let t = back_128 c.sum-2.result (omega arith) in
    let m = back_128 c.minor.result (omega (arith, c.minor.ensures.small)) in
    let m2 = back_128 c.minor-2.result (omega (arith, c.minor-2.ensures.small)) in
    let m3 = back_128 c.minor-3.result (omega (arith, c.minor-3.ensures.small)) in
    let ax = back_64 c.args.a.x c.requires.a.x in
    let ay = back_64 c.args.a.y c.requires.a.y in
    let az = back_64 c.args.a.z c.requires.a.z in
    let bx = back_64 c.args.b.x c.requires.b.x in
    let by = back_64 c.args.b.y c.requires.b.y in
    let bz = back_64 c.args.b.z c.requires.b.z in
    let cx = back_64 c.args.c.x c.requires.c.x in
    let cy = back_64 c.args.c.y c.requires.c.y in
    let cz = back_64 c.args.c.z c.requires.c.z in
    t
    ∙ c.sum-2.ensures.value
    ∙ (λ i. s i +ℤ z i)
    ∙ (λ i. c.sum.ensures.value i +ℤ c.term-z.ensures.value i)
    ∙ (λ i. (x i +ℤ y i) +ℤ (az i *ℤ m3 i))
    ∙ (λ i. (c.term-x.ensures.value i +ℤ c.term-y.ensures.value i) +ℤ (c.args.a.z *ℤ c.minor-3.ensures.value i))
    ∙ (λ i. ((ax i *ℤ m i) +ℤ (ay i *ℤ m2 i)) +ℤ (c.args.a.z *ℤ ((bx i *ℤ cy i) -ℤ (by i *ℤ cx i))))
    ∙ (λ i. ((c.args.a.x *ℤ c.minor.ensures.value i) +ℤ (c.args.a.y *ℤ c.minor-2.ensures.value i)) +ℤ (c.args.a.z *ℤ ((c.args.b.x *ℤ c.args.c.y) -ℤ (c.args.b.y *ℤ c.args.c.x))))
    ∙ (λ i. ((c.args.a.x *ℤ ((by i *ℤ cz i) -ℤ (bz i *ℤ cy i))) +ℤ (c.args.a.y *ℤ ((bz i *ℤ cx i) -ℤ (bx i *ℤ cz i)))) +ℤ (c.args.a.z *ℤ ((c.args.b.x *ℤ c.args.c.y) -ℤ (c.args.b.y *ℤ c.args.c.x))))

pub returns-clause-small : goal.returns-clause-small
returns-clause-small c =
    let x = back_128 c.term-x.result (omega (arith, c.term-x.ensures.small)) in
    let y = back_128 c.term-y.result (omega (arith, c.term-y.ensures.small)) in
    let z = back_128 c.term-z.result (omega (arith, c.term-z.ensures.small)) in
    let two : unsigned_abs c.sum.result ≤ 2 ^ 103 + 2 ^ 103 = sized_sum c.term-x.result c.term-y.result c.sum.result (2 ^ 103) (2 ^ 103) c.term-x.ensures.small c.term-y.ensures.small x y c.sum.ensures.small in
    let s = back_128 c.sum.result (omega arith) in
    let three : unsigned_abs c.sum-2.result ≤ 2 ^ 103 + 2 ^ 103 + 2 ^ 103 = sized_sum c.sum.result c.term-z.result c.sum-2.result (2 ^ 103 + 2 ^ 103) (2 ^ 103) two c.term-z.ensures.small s z c.sum-2.ensures.small in
    let t = back_128 c.sum-2.result (omega arith) in
    subst (λ (n : ℤ). unsigned_abs n ≤ 2 ^ 105) (sym t) (omega arith)
