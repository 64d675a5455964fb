-- Where no vertex around is Plus there are no pieces, and at a Minus vertex no nodes.
use Rattle.std.proofs.Common.{◌≡◌, ◌+◌, ◌-◌, ◌*◌, ◌==◌, Bool, true, false, cond, not, ◌||◌, List, [], ◌∷◌, length, map, Option, Some, None, if◌then◌else◌, refl, sym, ap, ◌∙◌}
use Rattle.std.specs.Prelude.{count_by}
use Rattle.std.proofs.lemmas.Bool.{not-true, or_parts}
use Rattle.definitions.specs.declared.Dims.{Dims}
use Rattle.definitions.specs.declared.Vertex.{Vertex}
use Rattle.definitions.specs.declared.State.{State}
use Rattle.definitions.specs.declared.Sign.{Sign}
use Rattle.definitions.specs.declared.Sign.TheVariants.{Minus, Zero, Plus}
use Rattle.definitions.specs.Stencils.{is_plus, is_minus}
use Rattle.definitions.specs.States.{sign_of_state}
use Rattle.vertex_numbers.specs.Around.{crosses, has_plus_there, is_node, is_plus_there, nodes_of, pieces_with, pieces_up, signs_towards}
use Rattle.vertex_numbers.specs.Bits.{bits}
use Rattle.vertex_numbers.proofs.Seven.{seven_of}

no_pieces_with : (s : Sign) (a b c : Option Sign) → is_plus s ≡ false → is_plus_there a ≡ false → is_plus_there b ≡ false → is_plus_there c ≡ false → pieces_with s a b c ≡ 0
no_pieces_with s None b c e f g h = refl
no_pieces_with s (Some x) None c e f g h = refl
no_pieces_with s (Some x) (Some y) None e f g h = refl
no_pieces_with s (Some x) (Some y) (Some z) e f g h =
    λ i. let plus = 0 + cond (e i) 1 0 + cond (f i) 1 0 + cond (g i) 1 0 + cond (h i) 1 0 in if plus == 0 then 0 else 1 + (plus - 1) * count_by is_minus (s ∷ x ∷ y ∷ z ∷ [])

not_crossed : (o : Option Sign) → is_plus_there o ≡ false → crosses Minus o ≡ false
not_crossed None h = refl
not_crossed (Some Minus) h = refl
not_crossed (Some Zero) h = refl
not_crossed (Some Plus) h = cc

module _ (a b c d e f g : Option Sign) (none : has_plus_there (a ∷ b ∷ c ∷ d ∷ e ∷ f ∷ g ∷ []) ≡ false) where
  abbrev p : Option Sign → Bool
  p = is_plus_there

  first : (p a ≡ false) × ((p b || (p c || (p d || (p e || (p f || (p g || false)))))) ≡ false)
  first = or_parts (p a) (p b || (p c || (p d || (p e || (p f || (p g || false)))))) none

  second : (p b ≡ false) × ((p c || (p d || (p e || (p f || (p g || false))))) ≡ false)
  second = or_parts (p b) (p c || (p d || (p e || (p f || (p g || false))))) first.1

  third : (p c ≡ false) × ((p d || (p e || (p f || (p g || false)))) ≡ false)
  third = or_parts (p c) (p d || (p e || (p f || (p g || false)))) second.1

  fourth : (p d ≡ false) × ((p e || (p f || (p g || false))) ≡ false)
  fourth = or_parts (p d) (p e || (p f || (p g || false))) third.1

  fifth : (p e ≡ false) × ((p f || (p g || false)) ≡ false)
  fifth = or_parts (p e) (p f || (p g || false)) fourth.1

  sixth : (p f ≡ false) × ((p g || false) ≡ false)
  sixth = or_parts (p f) (p g || false) fifth.1

  seventh : p g ≡ false
  seventh = (or_parts (p g) false sixth.1).0

  six_without : (s : Sign) → is_plus s ≡ false → pieces_up s (a ∷ b ∷ c ∷ d ∷ e ∷ f ∷ g ∷ []) ≡ 0
  six_without s n =
      λ i. no_pieces_with s a d f n first.0 fourth.0 sixth.0 i + no_pieces_with s b e f n second.0 fifth.0 sixth.0 i + no_pieces_with s c d g n third.0 fourth.0 seventh i
      + no_pieces_with s c e g n third.0 fifth.0 seventh i + no_pieces_with s d f g n fourth.0 sixth.0 seventh i + no_pieces_with s e f g n fifth.0 sixth.0 seventh i

  none_crossed : bits (false ∷ map (crosses Minus) (a ∷ b ∷ c ∷ d ∷ e ∷ f ∷ g ∷ [])) ≡ 0
  none_crossed =
      λ i. bits (false ∷ not_crossed a first.0 i ∷ not_crossed b second.0 i ∷ not_crossed c third.0 i ∷ not_crossed d fourth.0 i ∷ not_crossed e fifth.0 i ∷ not_crossed f sixth.0 i ∷ not_crossed g seventh i ∷ [])

-- nothing is Plus
none_plus : (b c : Bool) → not (b || c) ≡ true → (b ≡ false) × (c ≡ false)
none_plus b c h = or_parts b c (not-true (b || c) h)

-- without a Plus vertex there are no pieces
pub no_pieces : (s : Sign) (up : List (Option Sign)) → length up ≡ 7 → not (is_plus s || has_plus_there up) ≡ true → pieces_up s up ≡ 0
no_pieces s up len h =
    let e = seven_of None up len in
    let n = none_plus (is_plus s) (has_plus_there up) h in
    ap (pieces_up s) e ∙ six_without _ _ _ _ _ _ _ (ap has_plus_there (sym e) ∙ n.1) s n.0

-- and a Minus vertex has no nodes
pub no_nodes : (d : Dims) (t : Vertex → State) (v : Vertex) (own : Sign) (up : List (Option Sign)) → own ≡ sign_of_state (t v) → up ≡ signs_towards d t v true → own ≡ Minus →
    not (is_plus own || has_plus_there up) ≡ true → bits (nodes_of d t v) ≡ 0
no_nodes d t v own up p q m h =
    let s : sign_of_state (t v) ≡ Minus = sym p ∙ m in
    (λ i. bits (is_node (s i) (has_plus_there (signs_towards d t v true) || has_plus_there (signs_towards d t v false)) ∷ map (crosses (s i)) (signs_towards d t v true)))
    ∙ none_crossed _ _ _ _ _ _ _ (ap has_plus_there (sym q) ∙ (none_plus (is_plus own) (has_plus_there up) h).1)
