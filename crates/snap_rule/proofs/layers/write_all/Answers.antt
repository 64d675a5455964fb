use Rattle.std.proofs.Common.{◌≡◌, ℕ, ◌+◌, ◌*◌, ◌/◌, ◌%◌, ◌<◌, ◌≤◌, length, get_or, ap, sym, ◌∙◌, arith, subst, zero-add}
use Rattle.definitions.specs.Lattice.{vertices, vertex_at, layers}
use Rattle.definitions.specs.Layout.{layer_len}
use Rattle.definitions.specs.States.{code, state_of}
use Rattle.lattice_counts.specs.Counts.{below_layer, even_len, odd_len}
use Rattle.lattice_counts.proofs.Ranks.{below_grows, all_length}
use Rattle.lattice_counts.proofs.Places.{layer_within, vertex_at_place}
use Rattle.snap_rule.proofs.Places.{part_more, all_filled}
use Rattle.snap_rule.proofs.layers.write_all.Goals as goal

none_below : (e o : ℕ) → 0 ≡ 0 / 2 * (e + o) + 0 % 2 * e
none_below e o = omega arith

pub loop-h-init : goal.loop-h-init
loop-h-init c =
    let z = none_below (even_len c.args.field.now.dims) (odd_len c.args.field.now.dims) in
    (z, λ k h. absurd (let h' : k < 0 = subst (λ n. k < n) (sym z) h in omega arith))

pub write_layer-at-requires-clause-room : goal.write_layer-at-requires-clause-room
write_layer-at-requires-clause-room c =
    let t : c.loop-h.h < layers c.args.field.now.dims = let e = c.layers-h-end.ensures.layers ∙ ap layers c.dims.ensures.value in let t = c.loop-h-test.true in omega arith in
    let w = layer_within c.args.field.now.dims c.loop-h.h t in
    let i = c.loop-h.invariant.0 in
    let same = c.loop-h.auto.out in
    fits c.loop-h.at (below_layer c.args.field.now.dims c.loop-h.h) (layer_len c.args.field.now.dims c.loop-h.h) (length (vertices c.args.field.now.dims)) (length c.loop-h.out) i w (same ∙ c.requires)
  where
    fits : (a b l v n : ℕ) → a ≡ b → b + l ≤ v → n ≡ v → a + l ≤ n
    fits a b l v n e w f = omega arith

pub loop-h-preserved : goal.loop-h-preserved
loop-h-preserved c =
    let d = c.args.field.now.dims in
    let t : c.loop-h.h < layers d = let e = c.layers-h-end.ensures.layers ∙ ap layers c.dims.ensures.value in let t = c.loop-h-test.true in omega arith in
    let g = below_grows d c.loop-h.h in (
      c.write_layer-at.ensures.end ∙ ap (λ m. m + layer_len d c.loop-h.h) c.loop-h.invariant.0 ∙ sym g,
      λ k h. ap (λ m. get_or c.write_layer-at.new.out m 0) (sym (zero-add k)) ∙ part_more (λ q. code (state_of c.args.field.now c.args.shares (vertex_at d q))) c.loop-h.out c.write_layer-at.new.out 0 (below_layer d c.loop-h.h) c.loop-h.at (layer_len d c.loop-h.h)
          (c.loop-h.invariant.0 ∙ sym (zero-add (below_layer d c.loop-h.h)))
          (λ i lt. ap (λ m. get_or c.loop-h.out m 0) (zero-add i) ∙ c.loop-h.invariant.1 i lt)
          c.write_layer-at.ensures.below
          (λ p lt. c.write_layer-at.ensures.layer p lt ∙ ap (λ v. code (state_of c.args.field.now c.args.shares v)) (sym (vertex_at_place d c.loop-h.h c.write_layer-at.ensures.sizes t p lt)))
          k (subst (λ m. k < m) g h),
    )

pub returns : goal.returns
returns c =
    let d = c.args.field.now.dims in
    let h : c.loop-h.h ≡ layers d = let e = c.layers-h-end.ensures.layers ∙ ap layers c.dims.ensures.value in omega arith in
    all_filled d (λ v. code (state_of c.args.field.now c.args.shares v)) c.loop-h.out (c.loop-h.auto.out ∙ c.requires)
    (λ k lt. c.loop-h.invariant.1 k (subst (λ n. k < n) (all_length d ∙ ap (below_layer d) (sym h)) lt))
