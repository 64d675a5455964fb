use Rattle.std.proofs.Common.{◌≡◌, ◌+◌, ◌-◌, ◌*◌, ◌/◌, ◌%◌, ◌<◌, ◌≤◌, ℕ, sym, subst}
use Rattle.definitions.specs.declared.Dims.{Dims}
use Rattle.lattice_counts.specs.Counts.{StandsInLayer, even_len, odd_len}
use Rattle.lattice_counts.proofs.Places.{in_even, in_odd}
use Rattle.bcc_lattice.proofs.vertices.layer_place.Goals as goal

-- a fact on the sizes of an even and an odd layer is one on what the call answers
by_sizes : (d : Dims) (P : ℕ → ℕ → Type 0) (e o : ℕ) → e ≡ even_len d → o ≡ odd_len d → P (even_len d) (odd_len d) → P e o
by_sizes d P e o p q k = subst (λ m. P m o) (sym p) (subst (P (even_len d)) (sym q) k)

pub returns-then-rest-even : goal.returns-then-rest-even
returns-then-rest-even c =
    let n = c.args.id in
    by_sizes c.args.dims (λ e o. n % (e + o) < e → StandsInLayer c.args.dims n (2 * (n / (e + o))) (n % (e + o))) c.layer_pair-even.result.even c.layer_pair-even.result.odd
    c.layer_pair-even.ensures.even c.layer_pair-even.ensures.odd (in_even c.args.dims c.requires.sizes n c.requires.id) c.if-rest-even.true

pub returns-else-rest-even : goal.returns-else-rest-even
returns-else-rest-even c =
    let n = c.args.id in
    by_sizes c.args.dims (λ e o. e ≤ n % (e + o) → StandsInLayer c.args.dims n (2 * (n / (e + o)) + 1) (n % (e + o) - e)) c.layer_pair-even.result.even c.layer_pair-even.result.odd
    c.layer_pair-even.ensures.even c.layer_pair-even.ensures.odd (in_odd c.args.dims c.requires.sizes n c.requires.id) c.if-rest-even.false
