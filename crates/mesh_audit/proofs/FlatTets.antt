-- A tetrahedron with a node twice has no volume, so a positive one has four nodes.
use Rattle.std.proofs.Common.{◌≡◌, ◌≢◌, ℕ, ◌^◌, ◌<◌, List, [], ◌∷◌, length, true, false, refl, sym, ap, ◌∙◌, subst, arith, ℤ, pos}
use Rattle.std.specs.List.{All}
use Rattle.std.proofs.lemmas.List.Elements.{All-nil, All-cons}
use Rattle.definitions.specs.declared.Place.{Place}
use Rattle.definitions.specs.Vectors.{det_of, minus, place_at}
use Rattle.definitions.specs.Soundness.{triangles_of}
use Rattle.exact.specs.Polynomials.{Expression, constant}
use Rattle.exact.proofs.Ring.{ring}
use Rattle.exact.specs.Coordinates.{Coordinates, difference, dot_expression, cross_expression, first, second, third}
use Rattle.mesh_files.specs.Verdicts.{is_positive, is_above_zero}
use Rattle.mesh_audit.specs.Triangles.{AreDistinct, IsPlain}

abbrev triple_expression : Coordinates → Coordinates → Coordinates → Expression
triple_expression p q r = dot_expression p (cross_expression q r)

abbrev values : Place → Place → Place → List ℤ
values p q r = p.x ∷ p.y ∷ p.z ∷ q.x ∷ q.y ∷ q.z ∷ r.x ∷ r.y ∷ r.z ∷ []

no_first : (p u w : Place) → det_of (minus p p) u w ≡ pos 0
no_first p u w = ring (values p u w) (triple_expression (difference first first) second third) (constant (pos 0)) refl

no_second : (p u w : Place) → det_of u (minus p p) w ≡ pos 0
no_second p u w = ring (values p u w) (triple_expression second (difference first first) third) (constant (pos 0)) refl

no_third : (p u w : Place) → det_of u w (minus p p) ≡ pos 0
no_third p u w = ring (values p u w) (triple_expression second third (difference first first)) (constant (pos 0)) refl

same_first : (u w : Place) → det_of u u w ≡ pos 0
same_first u w = ring (values u w w) (triple_expression first first second) (constant (pos 0)) refl

same_ends : (u w : Place) → det_of u w u ≡ pos 0
same_ends u w = ring (values u w w) (triple_expression first second first) (constant (pos 0)) refl

same_last : (u w : Place) → det_of w u u ≡ pos 0
same_last u w = ring (values u w w) (triple_expression second first first) (constant (pos 0)) refl

not_above : (n : ℤ) → n ≡ pos 0 → is_above_zero n ≡ true → ⊥
not_above n e h = let f : false ≡ true = sym (ap is_above_zero e) ∙ h in cc

pub record AreFour (a b c d : ℕ) : Type 0 where
  pub ab : a ≢ b
  pub ac : a ≢ c
  pub ad : a ≢ d
  pub bc : b ≢ c
  pub bd : b ≢ d
  pub cd : c ≢ d

pub four_nodes : (places : List Place) (a b c d : ℕ) → is_positive places (a ∷ b ∷ c ∷ d ∷ []) ≡ true → AreFour a b c d
unfolding is_positive
four_nodes places a b c d h = record {
  ab = λ e. not_above _ ((λ i. volume a (sym e i) c d) ∙ no_first (place_at places a) (minus (place_at places c) (place_at places a)) (minus (place_at places d) (place_at places a))) h;
  ac = λ e. not_above _ ((λ i. volume a b (sym e i) d) ∙ no_second (place_at places a) (minus (place_at places b) (place_at places a)) (minus (place_at places d) (place_at places a))) h;
  ad = λ e. not_above _ ((λ i. volume a b c (sym e i)) ∙ no_third (place_at places a) (minus (place_at places b) (place_at places a)) (minus (place_at places c) (place_at places a))) h;
  bc = λ e. not_above _ ((λ i. volume a b (sym e i) d) ∙ same_first (minus (place_at places b) (place_at places a)) (minus (place_at places d) (place_at places a))) h;
  bd = λ e. not_above _ ((λ i. volume a b c (sym e i)) ∙ same_ends (minus (place_at places b) (place_at places a)) (minus (place_at places c) (place_at places a))) h;
  cd = λ e. not_above _ ((λ i. volume a b c (sym e i)) ∙ same_last (minus (place_at places c) (place_at places a)) (minus (place_at places b) (place_at places a))) h;
}
  where
    volume : ℕ → ℕ → ℕ → ℕ → ℤ
    volume k l m n = det_of (minus (place_at places l) (place_at places k)) (minus (place_at places m) (place_at places k)) (minus (place_at places n) (place_at places k))

pub record FourNodes (t : List ℕ) : Type 0 where
  pub a : ℕ
  pub b : ℕ
  pub c : ℕ
  pub d : ℕ
  pub is : t ≡ a ∷ b ∷ c ∷ d ∷ []

pub as_four : (t : List ℕ) → length t ≡ 4 → FourNodes t
as_four [] h = absurd (omega arith)
as_four (a ∷ []) h = absurd (omega arith)
as_four (a ∷ b ∷ []) h = absurd (omega arith)
as_four (a ∷ b ∷ c ∷ []) h = absurd (omega arith)
as_four (a ∷ b ∷ c ∷ d ∷ []) h = record { a = a; b = b; c = c; d = d; is = refl }
as_four (a ∷ b ∷ c ∷ d ∷ e ∷ t) h = absurd (omega arith)

plain : (a b c : ℕ) → a < 2 ^ 32 → b < 2 ^ 32 → c < 2 ^ 32 → AreDistinct a b c → IsPlain (a ∷ b ∷ c ∷ [])
plain a b c p q r d = record { a = a; b = b; c = c; is = refl; distinct = d; a_fits = p; b_fits = q; c_fits = r }

all_four : {X : Type 0} (P : X → Type 0) (w x y z : X) → P w → P x → P y → P z → All P (w ∷ x ∷ y ∷ z ∷ [])
all_four P w x y z p q r s = All-cons P w (x ∷ y ∷ z ∷ []) p (All-cons P x (y ∷ z ∷ []) q (All-cons P y (z ∷ []) r (All-cons P z [] s (All-nil P))))

plain_at : (places : List Place) (a b c d : ℕ) → is_positive places (a ∷ b ∷ c ∷ d ∷ []) ≡ true → All (λ n. n < 2 ^ 32) (a ∷ b ∷ c ∷ d ∷ []) → All IsPlain (triangles_of (a ∷ b ∷ c ∷ d ∷ []))
plain_at places a b c d h fits =
    let f = four_nodes places a b c d h in
    let p : a < 2 ^ 32 = fits 0 0 (omega arith) in
    let q : b < 2 ^ 32 = fits 1 0 (omega arith) in
    let r : c < 2 ^ 32 = fits 2 0 (omega arith) in
    let s : d < 2 ^ 32 = fits 3 0 (omega arith) in
    all_four IsPlain (a ∷ c ∷ b ∷ []) (a ∷ b ∷ d ∷ []) (a ∷ d ∷ c ∷ []) (b ∷ c ∷ d ∷ [])
    (plain a c b p r q (record { ab = f.ac; ac = f.ab; bc = λ e. f.bc (sym e) }))
    (plain a b d p q s (record { ab = f.ab; ac = f.ad; bc = f.bd }))
    (plain a d c p s r (record { ab = f.ad; ac = f.ac; bc = λ e. f.cd (sym e) }))
    (plain b c d q r s (record { ab = f.bc; ac = f.bd; bc = f.cd }))

-- the triangles of a positive tetrahedron have three different nodes each
pub plain_triangles : (places : List Place) (t : List ℕ) → length t ≡ 4 → is_positive places t ≡ true → All (λ n. n < 2 ^ 32) t → All IsPlain (triangles_of t)
plain_triangles places t four h fits =
    let f = as_four t four in
    subst (λ s. All IsPlain (triangles_of s)) (sym f.is)
    (plain_at places f.a f.b f.c f.d (ap (is_positive places) (sym f.is) ∙ h) (subst (λ s. All (λ n. n < 2 ^ 32) s) f.is fits))
