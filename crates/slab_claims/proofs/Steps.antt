-- Each step keeps the rule.
use Rattle.std.proofs.Common.{◌≡◌, ℕ, ◌+◌, ◌-◌, ◌%◌, ◌^◌, ◌<◌, ◌≤◌, ◌==◌, nat_lt, min, List, [], ◌∷◌, ◌++◌, set, get_or, All, sum_by, Bool, true, false, ◌||◌, if◌then◌else◌, true≢false, refl, sym, ap, ◌∙◌, subst, arith, slice_index}
use Rattle.std.proofs.lemmas.Bool.Decides.{nat_tests}
use Rattle.std.proofs.lemmas.List.Sums.{sum_by_push, sum_by-le-sum_by, get_or-le-sum_by}
use Rattle.std.proofs.lemmas.List.Elements.{All-set, All-push, All-weaker, All-from_get_or}
use mathlib.Core.Option.{some}
use lib.ListN.{get_elem?}
use Rattle.atomic_table.specs.Table.{Me, Step, keeps, Allows, Splits, Joins, Final, Seen}
use Rattle.atomic_table.proofs.Lists.{set_else}
use Rattle.slab_claims.specs.declared.rule.View.{View}
use Rattle.list_words.specs.Words.{times, EachOnce}
use Rattle.list_words.proofs.Lists.{times_append}
use Rattle.slab_claims.specs.Rule.{all_drawn, done_share, Fits, FitTogether, KeepsRule, after_draw, Draws, one_less, one_share, joint, spent}
use Rattle.slab_claims.proofs.Totals.{All-at, sum_by-set_at, times-push, times-flat_map-set, times-flat_map_push, times-flat_map_none, times-le-flat_map}

drawn-set : (x : ℕ) (views : List View) (id : ℕ) (v w : View) → get_elem? views id ≡ some v → times x (all_drawn (set views id w)) + times x v.drawn ≡ times x (all_drawn views) + times x w.drawn
drawn-set x views id v w at = times-flat_map-set (λ (u : View). u.drawn) x views id v w at

share-set : (views : List View) (id : ℕ) (v w : View) → get_elem? views id ≡ some v → sum_by (λ u. u.share) (set views id w) + v.share ≡ sum_by (λ u. u.share) views + w.share
share-set views id v w at = sum_by-set_at (λ (u : View). u.share) views id v w at

done_share-set : (views : List View) (id : ℕ) (v w : View) → get_elem? views id ≡ some v → sum_by done_share (set views id w) + done_share v ≡ sum_by done_share views + done_share w
done_share-set views id v w at = sum_by-set_at done_share views id v w at

done_share-le : (v : View) → done_share v ≤ v.share
done_share-le v = by_done v.done v.share
  where
    by_done : (b : Bool) (n : ℕ) → (if b then n else 0) ≤ n
    by_done true n = omega arith
    by_done false n = omega arith

-- those who are done have a part of the seats
near_seats : (slabs seats next : ℕ) (views : List View) → FitTogether slabs seats next views → next ≤ slabs + seats
near_seats slabs seats next views fit =
    let few = sum_by-le-sum_by done_share (λ v. v.share) views done_share-le in
    let all = fit.shares in
    let near = fit.near in
    omega arith

later : (slabs seats next : ℕ) (v : View) → Fits slabs seats next v → Fits slabs seats (next + 1) v
later slabs seats next v f = record { of = f.of; past = λ d. let p = f.past d in omega arith; nothing = f.nothing }

-- one more number where it is below the slabs
once_more : (x next slabs : ℕ) → next < slabs → (if nat_lt x (min (next + 1) slabs) then 1 else 0) ≡ (if nat_lt x (min next slabs) then 1 else 0) + (if next == x then 1 else 0)
once_more x next slabs lt = grind (arith, nat_tests)

-- the two parts of a seat's share are done or not together
split_shares : (v : View) → 0 < v.share → done_share (one_less v) + done_share (one_share v) ≡ done_share v
split_shares v some_share = by_done v.done v.share some_share
  where
    by_done : (b : Bool) (n : ℕ) → 0 < n → (if b then (n - 1) else 0) + (if b then 1 else 0) ≡ (if b then n else 0)
    by_done true n h = omega arith
    by_done false n h = omega arith

-- a seat that takes in another is done where either was
join_shares : (v w : View) → done_share v + done_share w ≤ done_share (joint v w)
join_shares v w = by_done v.done w.done v.share w.share
  where
    by_done : (a b : Bool) (m n : ℕ) → (if a then m else 0) + (if b then n else 0) ≤ (if a || b then m + n else 0)
    by_done true true m n = omega arith
    by_done true false m n = omega arith
    by_done false true m n = omega arith
    by_done false false m n = omega arith

either_done : (a b : Bool) (P : Type 0) → (a ≡ true → P) → (b ≡ true → P) → (a || b) ≡ true → P
either_done true b P p q e = p refl
either_done false b P p q e = q e

-- what is left of a seat that was joined fits any table
spent_fits : (slabs seats next : ℕ) → Fits slabs seats next spent
spent_fits slabs seats next = record { of = λ z. absurd (omega arith); past = λ d. absurd (true≢false (sym d)); nothing = λ _. refl }

-- of one seat among all
module _ (slabs seats next : ℕ) (views : List View) (id : ℕ) (v : View) (fit : FitTogether slabs seats next views) (at : get_elem? views id ≡ some v) where
  mine : Fits slabs seats next v
  mine = All-at (Fits slabs seats next) views id v at fit.each

  all_later : All (Fits slabs seats (next + 1)) views
  all_later = All-weaker (Fits slabs seats next) (Fits slabs seats (next + 1)) (later slabs seats next) views fit.each

  -- a number that the seat drew is below the next one
  below_next : All (λ x. x < next) v.drawn
  below_next k d in_list =
      let x = get_or v.drawn k d in
      let one = get_or-le-sum_by (λ y. if y == x then 1 else 0) v.drawn k d in_list in
      let part = times-le-flat_map (λ (u : View). u.drawn) x views id v at in
      let all = fit.once x in
      grind (arith, nat_tests)

  draw_below : 0 < v.share → v.done ≡ false → next < slabs → FitTogether slabs seats (next + 1) (set views id (record v { drawn = v.drawn ++ next ∷ [] }))
  draw_below some_share not_done lt =
      let w : View = record v { drawn = v.drawn ++ next ∷ [] } in
      record {
        once = λ x.
            let t = drawn-set x views id v w at in
            let p = times-push x v.drawn next in
            let o = fit.once x in
            let m = once_more x next slabs lt in
            omega arith;
        shares = let t = share-set views id v w at in let s = fit.shares in omega arith;
        near = let t = done_share-set views id v w at in let n = fit.near in omega arith;
        each = All-set (Fits slabs seats (next + 1)) views id w (record { of = mine.of; past = λ d. absurd (true≢false (sym d ∙ not_done)); nothing = λ z. absurd (omega arith) }) all_later;
      }

  draw_past : 0 < v.share → v.done ≡ false → slabs ≤ next → FitTogether slabs seats (next + 1) (set views id (record v { done = true }))
  draw_past some_share not_done le =
      let w : View = record v { done = true } in
      record {
        once = λ x.
            let t = drawn-set x views id v w at in
            let m : min (next + 1) slabs ≡ min next slabs = omega arith in
            let same : times x (all_drawn (set views id w)) ≡ times x (all_drawn views) = omega arith in
            same ∙ fit.once x ∙ ap (λ (n : ℕ). if nat_lt x n then 1 else 0) (sym m);
        shares = let t = share-set views id v w at in let s = fit.shares in omega arith;
        near =
            let t = done_share-set views id v w at in
            let none : done_share v ≡ 0 = ap (λ (b : Bool). if b then v.share else 0) not_done in
            let n = fit.near in
            omega arith;
        each = All-set (Fits slabs seats (next + 1)) views id w (record { of = mine.of; past = λ d. omega arith; nothing = λ z. absurd (omega arith) }) all_later;
      }

  draw_fits : 0 < v.share → v.done ≡ false → FitTogether slabs seats (next + 1) (set views id (after_draw v next))
  draw_fits some_share not_done = by_test (nat_lt next v.slabs) refl (mine.of some_share).0 (draw_below some_share not_done) (draw_past some_share not_done)
    where
      by_test : (b : Bool) → nat_lt next v.slabs ≡ b → v.slabs ≡ slabs
          → (next < slabs → FitTogether slabs seats (next + 1) (set views id (record v { drawn = v.drawn ++ next ∷ [] })))
          → (slabs ≤ next → FitTogether slabs seats (next + 1) (set views id (record v { done = true })))
          → FitTogether slabs seats (next + 1) (set views id (if b then record v { drawn = v.drawn ++ next ∷ [] } else record v { done = true }))
      by_test true is same below past = let l : next < v.slabs = grind (arith, nat_tests) in below (omega arith)
      by_test false is same below past = let l : v.slabs ≤ next = grind (arith, nat_tests) in past (omega arith)

  split_fits : 2 ≤ v.share → FitTogether slabs seats next (set views id (one_less v) ++ one_share v ∷ [])
  split_fits two =
      let l = one_less v in
      let r = one_share v in
      let of = mine.of (omega arith) in
      record {
        once = λ x.
            let p = times-flat_map_push (λ (u : View). u.drawn) x (set views id l) r in
            let t = drawn-set x views id v l at in
            let same : times x (all_drawn (set views id l ++ r ∷ [])) ≡ times x (all_drawn views) = omega arith in
            same ∙ fit.once x;
        shares =
            let p = sum_by_push (λ (u : View). u.share) (set views id l) r in
            let t = share-set views id v l at in
            let s = fit.shares in
            omega arith;
        near =
            let p = sum_by_push done_share (set views id l) r in
            let t = done_share-set views id v l at in
            let d = split_shares v (omega arith) in
            let n = fit.near in
            omega arith;
        each = All-push (Fits slabs seats next) (set views id l) r
            (All-set (Fits slabs seats next) views id l (record { of = λ _. of; past = mine.past; nothing = λ z. absurd (omega arith) }) fit.each)
            (record { of = λ _. of; past = mine.past; nothing = λ z. absurd (omega arith) });
      }

  join_fits : (other : ℕ) (w : View) → 0 < v.share → get_elem? views other ≡ some w → get_elem? (set views id (joint v w)) other ≡ some w → FitTogether slabs seats next (set (set views id (joint v w)) other spent)
  join_fits other w some_share there still =
      let b = joint v w in
      let half = set views id b in
      let theirs = All-at (Fits slabs seats next) views other w there fit.each in
      let of = mine.of some_share in
      record {
        once = λ x.
            let a = drawn-set x half other w spent still in
            let t = drawn-set x views id v b at in
            let m = times_append x v.drawn w.drawn in
            let same : times x (all_drawn (set half other spent)) ≡ times x (all_drawn views) = omega arith in
            same ∙ fit.once x;
        shares = let a = share-set half other w spent still in let t = share-set views id v b at in let s = fit.shares in omega arith;
        near =
            let a = done_share-set half other w spent still in
            let t = done_share-set views id v b at in
            let d = join_shares v w in
            let n = fit.near in
            omega arith;
        each = All-set (Fits slabs seats next) half other spent (spent_fits slabs seats next)
            (All-set (Fits slabs seats next) views id b (record { of = λ _. of; past = either_done v.done w.done _ mine.past theirs.past; nothing = λ z. absurd (omega arith) }) fit.each);
      }

  -- where the seat has all shares, no other has drawn anything
  alone : v.share ≡ seats → (x : ℕ) → times x (all_drawn views) ≡ times x v.drawn
  alone whole x =
      let others = set views id spent in
      let all = All-set (Fits slabs seats next) views id spent (spent_fits slabs seats next) fit.each in
      let s = share-set views id v spent at in
      let shares = fit.shares in
      let nothing : All (λ (u : View). u.drawn ≡ []) others = All-from_get_or (λ (u : View). u.drawn ≡ []) others spent (λ i lt. let part = get_or-le-sum_by (λ (u : View). u.share) others i spent lt in (all i spent lt).nothing (omega arith)) in
      let none = times-flat_map_none (λ (u : View). u.drawn) x others nothing in
      let t = drawn-set x views id v spent at in
      omega arith

  drew_each : 0 < v.share → v.share ≡ seats → v.done ≡ true → EachOnce v.slabs v.drawn
  drew_each some_share whole done x =
      let past : slabs < next = mine.past done in
      let of = (mine.of some_share).0 in
      let m : min next slabs ≡ v.slabs = omega arith in
      sym (alone whole x) ∙ fit.once x ∙ ap (λ (n : ℕ). if nat_lt x n then 1 else 0) m

draws_alone : (slabs seats slots id : ℕ) (v : View) (st : Step ℕ) → 0 < v.share → v.done ≡ false → Allows (KeepsRule slabs seats) slots id (v, []) 0 (λ n. (n + 1) % 2 ^ 64) (Draws st (v, []))
draws_alone slabs seats slots id v st some_share not_done s kept homes at fits =
    let next : ℕ = kept.next in
    let found : slice_index s.words 0 ≡ next = ap (λ (l : List ℕ). slice_index l 0) kept.word in
    let few = near_seats slabs seats next s.views kept.fit in
    let slabs_small = kept.limits.0 in
    let seats_small = kept.limits.1 in
    let up : (slice_index s.words 0 + 1) % 2 ^ 64 ≡ next + 1 = omega arith in
    let word : set s.words 0 ((slice_index s.words 0 + 1) % 2 ^ 64) ≡ (next + 1) ∷ [] = ap (λ (n : ℕ). set s.words 0 n) up ∙ ap (λ (l : List ℕ). set l 0 (next + 1)) kept.word in
    let fit = draw_fits slabs seats next s.views id v kept.fit at some_share not_done in (
      after_draw v (slice_index s.words 0),
      keeps,
      tt,
      record { next = next + 1; word = word; limits = kept.limits; fit = subst (λ (n : ℕ). FitTogether slabs seats (next + 1) (set s.views id (after_draw v n))) (sym found) fit },
      (subst (λ (n : ℕ). All (λ x. x < n) v.drawn) (sym found) (below_next slabs seats next s.views id v kept.fit at), refl),
    )

-- a draw, by a seat that holds no slot
pub draws : (slabs seats slots id : ℕ) (me : Me ℕ View) (st : Step ℕ) → me.1 ≡ [] → 0 < me.0.share → me.0.done ≡ false → Allows (KeepsRule slabs seats) slots id me 0 (λ n. (n + 1) % 2 ^ 64) (Draws st me)
draws slabs seats slots id me st none_held some_share not_done =
    subst (λ (held : List (ℕ × ℕ)). Allows (KeepsRule slabs seats) slots id (me.0, held) 0 (λ n. (n + 1) % 2 ^ 64) (Draws st (me.0, held))) (sym none_held) (draws_alone slabs seats slots id me.0 st some_share not_done)

pub splits : (slabs seats id : ℕ) (v : View) → 2 ≤ v.share → Splits (KeepsRule slabs seats) id v (one_less v) (one_share v)
splits slabs seats id v two s kept at = record { next = kept.next; word = kept.word; limits = kept.limits; fit = split_fits slabs seats kept.next s.views id v kept.fit at two }

pub joins : (slabs seats id other : ℕ) (v w : View) → 0 < v.share → Joins (KeepsRule slabs seats) id v other w (joint v w) spent
joins slabs seats id other v w some_share s kept at apart still =
    let there : get_elem? s.views other ≡ some w = sym (set_else s.views id other (joint v w) apart) ∙ still in
    record { next = kept.next; word = kept.word; limits = kept.limits; fit = join_fits slabs seats kept.next s.views id v kept.fit at other w some_share there still }

-- at the end the one seat that is left drew each number once
pub ends : (slabs seats id : ℕ) (v : View) (words values : List ℕ) → Final (Seen (KeepsRule slabs seats) id v) words values → 0 < v.share → v.share ≡ seats → v.done ≡ true → EachOnce v.slabs v.drawn
ends slabs seats id v words values last some_share whole done =
    let kept = last.1.0 in drew_each slabs seats kept.next last.0.views id v kept.fit last.1.1 some_share whole done
