-- Two tetrahedra with volumes above zero that have a triangle in one direction hold a common point, with a weight of the fourth node of the second.
use Rattle.std.proofs.Common.{◌≡◌, ℕ, ◌+◌, ◌≤◌, [], ◌∷◌, refl, sym, ◌∙◌, arith}
use Rattle.std.proofs.Math.IntN.{ℤ, pos, ◌+ℤ◌, ◌*ℤ◌, neg_ℤ, nat_abs}
use Rattle.std.proofs.lemmas.Int.{ints}
use lib.Signed.{◌<ℤ◌}
use Rattle.exact.specs.Polynomials.{variable, plus, times, negate}
use Rattle.exact.proofs.Ring.{ring}
use Rattle.triangle_laws.specs.Overlap.{volume_of, Overlap}
use Rattle.triangle_laws.specs.Laws.{SharedTrianglesOverlap}
use Rattle.triangle_laws.proofs.Volumes.{five_points, five_points_x, five_points_y, five_points_z}

size_of_shifted : (α : ℤ) (n : ℕ) → nat_abs α ≤ n → pos (nat_abs (pos n +ℤ α)) ≡ pos n +ℤ α
size_of_shifted α n h = omega (arith, ints)

one_coordinate : (D E α β γ a b c d e n : ℤ) → D *ℤ e +ℤ α *ℤ a +ℤ neg_ℤ (β *ℤ b) +ℤ γ *ℤ c ≡ E *ℤ d
    → n *ℤ a +ℤ n *ℤ b +ℤ n *ℤ c +ℤ E *ℤ d ≡ (n +ℤ α) *ℤ a +ℤ (n +ℤ neg_ℤ β) *ℤ b +ℤ (n +ℤ γ) *ℤ c +ℤ D *ℤ e
one_coordinate D E α β γ a b c d e n h = (λ i. n *ℤ a +ℤ n *ℤ b +ℤ n *ℤ c +ℤ sym h i) ∙ ring (D ∷ α ∷ β ∷ γ ∷ a ∷ b ∷ c ∷ e ∷ n ∷ [])
    (plus (plus (plus (times (variable 8) (variable 4)) (times (variable 8) (variable 5))) (times (variable 8) (variable 6))) (plus (plus (plus (times (variable 0) (variable 7)) (times (variable 1) (variable 4))) (negate (times (variable 2) (variable 5)))) (times (variable 3) (variable 6))))
    (plus (plus (plus (times (plus (variable 8) (variable 1)) (variable 4)) (times (plus (variable 8) (negate (variable 2))) (variable 5))) (times (plus (variable 8) (variable 3)) (variable 6))) (times (variable 0) (variable 7))) refl

size_of_positive : (a : ℤ) → pos 0 <ℤ a → pos (nat_abs a) ≡ a
size_of_positive a h = omega (arith, ints)

pub shared_triangles_overlap : SharedTrianglesOverlap
shared_triangles_overlap a b c d e h i = go (volume_of a b c d) (volume_of a b c e) (volume_of b c d e) (volume_of a c d e) (volume_of a b d e) (five_points a b c d e) (five_points_x a b c d e) (five_points_y a b c d e) (five_points_z a b c d e) h i
  where
    go : (D E α β γ : ℤ) → D +ℤ α +ℤ neg_ℤ β +ℤ γ ≡ E → D *ℤ e.x +ℤ α *ℤ a.x +ℤ neg_ℤ (β *ℤ b.x) +ℤ γ *ℤ c.x ≡ E *ℤ d.x → D *ℤ e.y +ℤ α *ℤ a.y +ℤ neg_ℤ (β *ℤ b.y) +ℤ γ *ℤ c.y ≡ E *ℤ d.y → D *ℤ e.z +ℤ α *ℤ a.z +ℤ neg_ℤ (β *ℤ b.z) +ℤ γ *ℤ c.z ≡ E *ℤ d.z → pos 0 <ℤ D → pos 0 <ℤ E → Overlap a b c d e
    go D E α β γ s sx sy sz hd he =
        let n = nat_abs α + nat_abs β + nat_abs γ in
        let ea = size_of_shifted α n (omega arith) in
        let eb = size_of_shifted (neg_ℤ β) n (omega (arith, ints)) in
        let ec = size_of_shifted γ n (omega arith) in
        let ed = size_of_positive D hd in
        let ee = size_of_positive E he in
        record {
          n = n;
          top = nat_abs E;
          x = nat_abs (pos n +ℤ α);
          y = nat_abs (pos n +ℤ neg_ℤ β);
          z = nat_abs (pos n +ℤ γ);
          last = nat_abs D;
          above = omega (arith, ints);
          sums = omega (arith, ints);
          at_x = (λ t. pos n *ℤ a.x +ℤ pos n *ℤ b.x +ℤ pos n *ℤ c.x +ℤ ee t *ℤ d.x) ∙ one_coordinate D E α β γ a.x b.x c.x d.x e.x (pos n) sx ∙ (λ t. sym ea t *ℤ a.x +ℤ sym eb t *ℤ b.x +ℤ sym ec t *ℤ c.x +ℤ sym ed t *ℤ e.x);
          at_y = (λ t. pos n *ℤ a.y +ℤ pos n *ℤ b.y +ℤ pos n *ℤ c.y +ℤ ee t *ℤ d.y) ∙ one_coordinate D E α β γ a.y b.y c.y d.y e.y (pos n) sy ∙ (λ t. sym ea t *ℤ a.y +ℤ sym eb t *ℤ b.y +ℤ sym ec t *ℤ c.y +ℤ sym ed t *ℤ e.y);
          at_z = (λ t. pos n *ℤ a.z +ℤ pos n *ℤ b.z +ℤ pos n *ℤ c.z +ℤ ee t *ℤ d.z) ∙ one_coordinate D E α β γ a.z b.z c.z d.z e.z (pos n) sz ∙ (λ t. sym ea t *ℤ a.z +ℤ sym eb t *ℤ b.z +ℤ sym ec t *ℤ c.z +ℤ sym ed t *ℤ e.z);
        }
