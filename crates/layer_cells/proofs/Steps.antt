-- Each step keeps the rule.
use Rattle.std.proofs.Common.{◌≡◌, ◌≢◌, ◌⊎◌, inl, inr, ℕ, zero, suc, ◌+◌, ◌-◌, ◌<◌, ◌≤◌, ◌==◌, eqb, eq-eqb, List, [], ◌∷◌, length, set, replicate, Bool, true, false, if◌then◌else◌, true≢false, refl, sym, ap, ◌∙◌, subst, ⊎_elim, arith}
use Rattle.std.specs.Prelude.{slice_index}
use Rattle.std.proofs.lemmas.List.{get_or-replicate, get_or-set_same, get_or-set_other, set-get_or, length-set, length-replicate}
use Rattle.std.proofs.lemmas.Bool.{or_cases, false_from_ne_true, or_left, or_right}
use mathlib.Core.Logic.{dite}
use native.Mathlib.Decide.{ℕ_discrete}
use mathlib.Core.Option.{some, none, some-ne-none, some-injective}
use lib.ListN.{get_elem?}
use prog.Atomic.{either}
use Rattle.atomic_table.specs.Table.{Me, step, keeps, opening, Allows, Splits, Joins, Final, Seen}
use Rattle.atomic_table.proofs.Lists.{at_set, at_snoc, set_again, exchanged}
use Rattle.definitions.specs.Lattice.{vertex_at}
use Rattle.definitions.specs.Layout.{layer_ids, layer_len, layer_start}
use Rattle.list_words.specs.Words.{has, joined, without}
use Rattle.list_words.proofs.Lists.{has_among, has_append, has_joined, has_kept, has_new, has_one, has_range}
use Rattle.slab_core.proofs.Layers.{id_in_all, of_layer}
use Rattle.layer_cells.specs.declared.rule.View.{View}
use Rattle.layer_cells.specs.Seats.{Subject}
use Rattle.layer_cells.specs.Rule.{wanted, vertex_words, layer_words, flag, has_layer, IsWhole, subject, Fits, KeepsWords, KeepsRule, first_view, after_look, Looks, Puts, after_raise, Raises, Reads, knows_alike, joint, spent}

off : false ≡ true → ⊥
off e = true≢false (sym e)

-- what a step on the words leaves of what views know
record Later (a : Subject) (words words' : List ℕ) : Type 0 where
  set_stays : (id : ℕ) → id < vertex_words a → slice_index words id ≡ wanted a id → slice_index words' id ≡ wanted a id
  flag_stays : (h : ℕ) → h < layer_words a → flag a words h ≢ 0 → flag a words' h ≢ 0

fits_later : (a : Subject) (words words' : List ℕ) (v : View) → Later a words words' → Fits a words v → Fits a words' v
fits_later a words words' v l f = record {
  of = f.of;
  seen = λ h e. let s = f.seen h e in (s.0, l.flag_stays h s.0 s.1);
  put = λ id e. let s = f.put id e in (s.0, l.set_stays id s.0 s.1);
  made = f.made;
}

keep : (a : Subject) (words words' : List ℕ) (views : List View) (id : ℕ) (w : View) → KeepsWords a words views → length words' ≡ length words → Later a words words'
    → ((k : ℕ) → k < vertex_words a → (slice_index words' k ≡ 0) ⊎ (slice_index words' k ≡ wanted a k))
    → ((h : ℕ) → h < layer_words a → flag a words' h ≢ 0 → IsWhole a words' h)
    → Fits a words' w → KeepsWords a words' (set views id w)
keep a words words' views id w k size l codes flags fits = record {
  size = size ∙ k.size;
  codes = codes;
  flags = flags;
  each = λ j u e. ⊎_elim
      (λ (t : (j ≡ id) × (w ≡ u)). subst (λ (z : View). Fits a words' z) t.1 fits)
      (λ (t : (j ≢ id) × (get_elem? views j ≡ some u)). fits_later a words words' u l (k.each j u t.1))
      (at_set views id j w u e);
}

same_words : (a : Subject) (words : List ℕ) → Later a words words
same_words a words = record { set_stays = λ id h e. e; flag_stays = λ h b e. e }

-- a step that changes the view alone
pub keep_words : (a : Subject) (words : List ℕ) (views : List View) (id : ℕ) (w : View) → KeepsWords a words views → Fits a words w → KeepsWords a words (set views id w)
keep_words a words views id w k fits = keep a words words views id w k refl (same_words a words) k.codes k.flags fits

look_fits : (a : Subject) (words : List ℕ) (v : View) (h : ℕ) → h < layer_words a → Fits a words v → Fits a words (after_look v h (flag a words h))
look_fits a words v h below f = by_test (flag a words h == 0) refl
  where
    by_test : (b : Bool) → (flag a words h == 0) ≡ b → Fits a words (if b then record v { down = joined h v.down } else record v { seen = joined h v.seen; down = without h v.down })
    by_test true is = record { of = f.of; seen = f.seen; put = f.put; made = f.made }
    by_test false is =
        let up : flag a words h ≢ 0 = λ (z : flag a words h ≡ 0). true≢false (sym (eq-eqb (flag a words h) 0 z) ∙ is) in
        record {
          of = f.of;
          seen = λ k e. ⊎_elim (λ (s : k ≡ h). subst (λ (j : ℕ). (j < layer_words a) × (flag a words j ≢ 0)) (sym s) (below, up)) (λ (s : has k v.seen ≡ true). f.seen k s) (has_joined k h v.seen e);
          put = f.put;
          made = λ k e. has_kept k h v.seen (f.made k e);
        }

pub looks : (slots id i h : ℕ) (v : View) → h < layer_words (subject v) → i ≡ vertex_words (subject v) + h → Allows (KeepsRule (subject v)) slots id (v, []) i (λ n. n) (Looks (step slots i 0 0 none) (v, []))
looks slots id i h v below at_flag s kept homes at small =
    let a = subject v in
    let n = slice_index s.words i in
    let f = kept.each id v at in
    let here : h ≡ i - vertex_words (subject v) = omega arith in
    let found : n ≡ flag a s.words h = ap (λ (j : ℕ). slice_index s.words j) at_flag in
    let fits : Fits a s.words (after_look v (i - vertex_words (subject v)) n) = subst (λ (p : ℕ × ℕ). Fits a s.words (after_look v p.0 p.1)) (λ t. (here t, sym found t)) (look_fits a s.words v h below f) in
    let k = keep_words a s.words s.views id (after_look v (i - vertex_words (subject v)) n) kept fits in (
      after_look v (i - vertex_words (subject v)) n,
      keeps,
      tt,
      subst (λ (l : List ℕ). KeepsWords a l (set s.views id (after_look v (i - vertex_words (subject v)) n))) (sym (set-get_or s.words i 0)) k,
      (refl, λ z. subst (λ (j : ℕ). has j v.seen ≡ false) here (false_from_ne_true (has h v.seen) (λ e. (f.seen h e).1 (sym found ∙ z)))),
    )

pub reads : (slots id i : ℕ) (v : View) → Allows (KeepsRule (subject v)) slots id (v, []) i (λ n. n) (Reads (step slots i 0 0 none) (v, []))
reads slots id i v s kept homes at small =
    let a = subject v in
    let f = kept.each id v at in
    let k = keep_words a s.words s.views id v kept f in (
      v,
      keeps,
      tt,
      subst (λ (l : List ℕ). KeepsWords a l (set s.views id v)) (sym (set-get_or s.words i 0)) k,
      (refl, λ h e lo hi. let up = f.seen h e in kept.flags h up.0 up.1 i lo hi),
    )

put_later : (a : Subject) (words : List ℕ) (i : ℕ) → i < length words → i < vertex_words a → Later a words (set words i (wanted a i))
put_later a words i inside below = record {
  set_stays = λ id b e. dite (ℕ_discrete id i)
      (λ same. subst (λ (j : ℕ). slice_index (set words i (wanted a i)) j ≡ wanted a j) (sym same) (get_or-set_same words i (wanted a i) 0 inside))
      (λ other. get_or-set_other words i id (wanted a i) 0 other ∙ e);
  flag_stays = λ h b up e. up (sym (get_or-set_other words i (vertex_words a + h) (wanted a i) 0 (λ z. absurd (omega arith))) ∙ e);
}

put_keeps : (a : Subject) (words : List ℕ) (views : List View) (id i : ℕ) (v : View) → KeepsWords a words views → get_elem? views id ≡ some v → i < vertex_words a
    → KeepsWords a (set words i (wanted a i)) (set views id ((record v { put = joined i v.put })))
put_keeps a words views id i v k at below =
    let size = k.size in
    let inside : i < length words = omega arith in
    let words' = set words i (wanted a i) in
    let l = put_later a words i inside below in
    let here : slice_index words' i ≡ wanted a i = get_or-set_same words i (wanted a i) 0 inside in
    let f = fits_later a words words' v l (k.each id v at) in
    keep a words words' views id ((record v { put = joined i v.put })) k (length-set words i (wanted a i)) l
    (λ j b. dite (ℕ_discrete j i)
    (λ same. inr (subst (λ (z : ℕ). slice_index words' z ≡ wanted a z) (sym same) here))
    (λ other. subst (λ (z : ℕ). (z ≡ 0) ⊎ (z ≡ wanted a j)) (sym (get_or-set_other words i j (wanted a i) 0 other)) (k.codes j b)))
    (λ h b up. let was : flag a words h ≢ 0 = λ z. up (get_or-set_other words i (vertex_words a + h) (wanted a i) 0 (λ y. absurd (omega arith)) ∙ z) in
    λ j lo hi. l.set_stays j (id_in_all a.field.dims h j b hi) (k.flags h b was j lo hi))
    (record {
      of = f.of;
      seen = f.seen;
      put = λ j e. ⊎_elim (λ (same : j ≡ i). subst (λ (z : ℕ). (z < vertex_words a) × (slice_index words' z ≡ wanted a z)) (sym same) (below, here)) (λ (old : has j v.put ≡ true). f.put j old) (has_joined j i v.put e);
      made = f.made;
    })

-- whoever set it, the word is the definition's afterwards
put_word : (a : Subject) (n i : ℕ) → (n ≡ 0) ⊎ (n ≡ wanted a i) → either (eqb n 0) (wanted a i) n ≡ wanted a i
put_word a n i was = exchanged n 0 (wanted a i) (λ (x : ℕ). x ≡ wanted a i) (λ _. refl) (λ ne. ⊎_elim (λ (z : n ≡ 0). absurd (ne z)) (λ (e : n ≡ wanted a i). e) was)

pub puts : (slots id i : ℕ) (v : View) → i < vertex_words (subject v) → Allows (KeepsRule (subject v)) slots id (v, []) i (λ n. either (n == 0) (wanted (subject v) i) n) (Puts (step slots i 0 (wanted (subject v) i) none) (v, []))
puts slots id i v below s kept homes at small =
    let a = subject v in
    let e = put_word a (slice_index s.words i) i (kept.codes i below) in (
      (record v { put = joined i v.put }),
      keeps,
      tt,
      subst (λ (n : ℕ). KeepsWords a (set s.words i n) (set s.views id ((record v { put = joined i v.put })))) (sym e) (put_keeps a s.words s.views id i v kept at below),
      refl,
    )

raise_keeps : (a : Subject) (words : List ℕ) (views : List View) (id i h : ℕ) (v : View) → KeepsWords a words views → get_elem? views id ≡ some v → h < layer_words a → i ≡ vertex_words a + h → has_layer a h v.put ≡ true
    → KeepsWords a (set words i 1) (set views id (after_raise v h))
raise_keeps a words views id i h v k at below at_flag whole =
    let d = a.field.dims in
    let size = k.size in
    let inside : i < length words = omega arith in
    let words' = set words i 1 in
    let here : slice_index words' i ≡ 1 = get_or-set_same words i 1 0 inside in
    let flag_here : flag a words' h ≡ 1 = ap (λ (j : ℕ). slice_index words' j) (sym at_flag) ∙ here in
    let up_here : flag a words' h ≢ 0 = λ (z : flag a words' h ≡ 0). absurd (omega arith) in
    let l : Later a words words' = record {
      set_stays = λ j b e. get_or-set_other words i j 1 0 (λ z. absurd (omega arith)) ∙ e;
      flag_stays = λ j b up. dite (ℕ_discrete j h) (λ same. subst (λ (z : ℕ). flag a words' z ≢ 0) (sym same) up_here)
          (λ other. λ z. up (sym (get_or-set_other words i (vertex_words a + j) 1 0 (λ y. absurd (other (omega arith)))) ∙ z));
    } in
    let f0 = k.each id v at in
    let f = fits_later a words words' v l f0 in
    keep a words words' views id (after_raise v h) k (length-set words i 1) l
    (λ j b. subst (λ (z : ℕ). (z ≡ 0) ⊎ (z ≡ wanted a j)) (sym (get_or-set_other words i j 1 0 (λ y. absurd (omega arith)))) (k.codes j b))
    (λ j b up m lo hi. dite (ℕ_discrete j h)
    (λ same. (f.put m (has_among m (layer_ids d h) v.put whole (has_range m (layer_start d h) (layer_len d h) (subst (λ (z : ℕ). layer_start d z ≤ m) same lo) (subst (λ (z : ℕ). m < layer_start d z + layer_len d z) same hi)))).1)
    (λ other. let was : flag a words j ≢ 0 = λ z. up (get_or-set_other words i (vertex_words a + j) 1 0 (λ y. absurd (other (omega arith))) ∙ z) in
    l.set_stays m (id_in_all d j m b hi) (k.flags j b was m lo hi)))
    (record {
      of = f.of;
      seen = λ j e. ⊎_elim (λ (s : j ≡ h). subst (λ (z : ℕ). (z < layer_words a) × (flag a words' z ≢ 0)) (sym s) (below, up_here)) (λ (s : has j v.seen ≡ true). f.seen j s) (has_joined j h v.seen e);
      put = f.put;
      made = λ j e. ⊎_elim
          (λ (old : has j v.made ≡ true). has_kept j h v.seen (f.made j old))
          (λ (new : has j (h ∷ []) ≡ true). subst (λ (z : ℕ). has z (joined h v.seen) ≡ true) (sym (has_one j h new)) (has_new h v.seen))
          (or_cases (has j v.made) (has j (h ∷ [])) (sym (has_append j v.made (h ∷ [])) ∙ e));
    })

pub raises : (slots id i h : ℕ) (v : View) → h < layer_words (subject v) → i ≡ vertex_words (subject v) + h → has_layer (subject v) h v.put ≡ true → Allows (KeepsRule (subject v)) slots id (v, []) i (λ _. 1) (λ _. Raises (step slots i 1 0 none) (v, []) 1)
raises slots id i h v below at_flag whole s kept homes at small =
    let a = subject v in
    let here : h ≡ i - vertex_words (subject v) = omega arith in (
      after_raise v (i - vertex_words (subject v)),
      keeps,
      tt,
      subst (λ (j : ℕ). KeepsWords a (set s.words i 1) (set s.views id (after_raise v j))) here (raise_keeps a s.words s.views id i h v kept at below at_flag whole),
      refl,
    )

pub splits : (id : ℕ) (v : View) → Splits (KeepsRule (subject v)) id v v (knows_alike v)
splits id v s kept at =
    let a = subject v in
    let f = kept.each id v at in
    let r = knows_alike v in
    record {
      size = kept.size;
      codes = kept.codes;
      flags = kept.flags;
      each = λ j u e. ⊎_elim
          (λ was. kept.each j u (subst (λ (l : List View). get_elem? l j ≡ some u) (set_again s.views id v at) was))
          (λ (same : r ≡ u). subst (λ (z : View). Fits a s.words z) same (record { of = f.of; seen = f.seen; put = λ _ e. absurd (off e); made = λ _ e. absurd (off e) }))
          (at_snoc (set s.views id v) r u j e);
    }

pub joins : (id other : ℕ) (v w : View) → Joins (KeepsRule (subject v)) id v other w (joint v w) spent
joins id other v w s kept at apart there =
    let a = subject v in
    let b = joint v w in
    let f = kept.each id v at in
    let g = ⊎_elim (λ (t : (other ≡ id) × (b ≡ w)). absurd (apart t.0)) (λ (t : (other ≢ id) × (get_elem? s.views other ≡ some w)). kept.each other w t.1) (at_set s.views id other b w there) in
    let k = keep_words a s.words s.views id b kept (record {
      of = f.of;
      seen = λ h e. ⊎_elim (λ (x : has h v.seen ≡ true). f.seen h x) (λ (x : has h w.seen ≡ true). g.seen h x) (or_cases (has h v.seen) (has h w.seen) (sym (has_append h v.seen w.seen) ∙ e));
      put = f.put;
      made = λ h e. has_append h v.seen w.seen ∙ ⊎_elim (λ (x : has h v.made ≡ true). or_left (has h v.seen) (has h w.seen) (f.made h x)) (λ (x : has h w.made ≡ true). or_right (has h v.seen) (has h w.seen) (g.made h x)) (or_cases (has h v.made) (has h w.made) (sym (has_append h v.made w.made) ∙ e));
    }) in
    keep_words a s.words (set s.views id b) other spent k (record { of = λ e. absurd (off e); seen = λ _ e. absurd (off e); put = λ _ e. absurd (off e); made = λ _ e. absurd (off e) })

pub ends : (a : Subject) (id : ℕ) (v : View) (ws xs : List ℕ) → Final (Seen (KeepsRule a) id v) ws xs → ((h : ℕ) → h < layer_words a → has h v.seen ≡ true)
    → (length ws ≡ vertex_words a + layer_words a) × ((i : ℕ) → i < vertex_words a → slice_index ws i ≡ wanted a i)
ends a id v ws xs last all =
    let s = last.0 in
    let kept : KeepsWords a s.words s.views = last.1.0 in
    let f = kept.each id v last.1.1 in
    let same : s.words ≡ ws = last.2 in (
      ap length (sym same) ∙ kept.size,
      λ i below.
          let l = of_layer a.field.dims i below in
          let up = f.seen (vertex_at a.field.dims i).h (all (vertex_at a.field.dims i).h l.layer) in
          ap (λ (z : List ℕ). slice_index z i) (sym same) ∙ kept.flags (vertex_at a.field.dims i).h up.0 up.1 i l.from l.to,
    )

pub begins : (a : Subject) (n : ℕ) → n ≡ vertex_words a + layer_words a → KeepsRule a (opening (replicate n 0) [] (first_view a))
begins a n is = record {
  size = length-replicate n 0 ∙ is;
  codes = λ id b. inl (get_or-replicate n id 0 0 (omega arith));
  flags = λ h b up. absurd (up (get_or-replicate n (vertex_words a + h) 0 0 (omega arith)));
  each = one;
}
  where
    one : (k : ℕ) (v : View) → get_elem? (first_view a ∷ []) k ≡ some v → Fits a (replicate n 0) v
    one zero v e = subst (λ (z : View). Fits a (replicate n 0) z) (some-injective _ _ e) (record { of = λ _. refl; seen = λ _ e. absurd (off e); put = λ _ e. absurd (off e); made = λ _ e. absurd (off e) })
    one (suc k) v e = absurd (some-ne-none v (sym e))

-- the steps at a seat that holds no slot, of a table about a
pub looks_as : (a : Subject) (slots id i h : ℕ) (me : Me ℕ View) → subject me.0 ≡ a → me.1 ≡ [] → h < layer_words a → i ≡ vertex_words a + h → Allows (KeepsRule a) slots id me i (λ n. n) (Looks (step slots i 0 0 none) me)
looks_as a slots id i h me is free below at_flag =
    subst (λ (held : List (ℕ × ℕ)). Allows (KeepsRule a) slots id (me.0, held) i (λ n. n) (Looks (step slots i 0 0 none) (me.0, held))) (sym free)
    (subst (λ (b : Subject). h < layer_words b → i ≡ vertex_words b + h → Allows (KeepsRule b) slots id (me.0, []) i (λ n. n) (Looks (step slots i 0 0 none) (me.0, []))) is (looks slots id i h me.0) below at_flag)

pub reads_as : (a : Subject) (slots id i : ℕ) (me : Me ℕ View) → subject me.0 ≡ a → me.1 ≡ [] → Allows (KeepsRule a) slots id me i (λ n. n) (Reads (step slots i 0 0 none) me)
reads_as a slots id i me is free =
    subst (λ (held : List (ℕ × ℕ)). Allows (KeepsRule a) slots id (me.0, held) i (λ n. n) (Reads (step slots i 0 0 none) (me.0, held))) (sym free)
    (subst (λ (b : Subject). Allows (KeepsRule b) slots id (me.0, []) i (λ n. n) (Reads (step slots i 0 0 none) (me.0, []))) is (reads slots id i me.0))

pub puts_as : (a : Subject) (slots id i c : ℕ) (me : Me ℕ View) → subject me.0 ≡ a → me.1 ≡ [] → i < vertex_words a → c ≡ wanted a i → Allows (KeepsRule a) slots id me i (λ n. either (n == 0) c n) (Puts (step slots i 0 c none) me)
puts_as a slots id i c me is free below right =
    subst (λ (held : List (ℕ × ℕ)). Allows (KeepsRule a) slots id (me.0, held) i (λ n. either (n == 0) c n) (Puts (step slots i 0 c none) (me.0, held))) (sym free)
    (subst (λ (x : ℕ). Allows (KeepsRule a) slots id (me.0, []) i (λ n. either (n == 0) x n) (Puts (step slots i 0 x none) (me.0, []))) (sym right)
    (subst (λ (b : Subject). i < vertex_words b → Allows (KeepsRule b) slots id (me.0, []) i (λ n. either (n == 0) (wanted b i) n) (Puts (step slots i 0 (wanted b i) none) (me.0, []))) is (puts slots id i me.0) below))

pub raises_as : (a : Subject) (slots id i h : ℕ) (me : Me ℕ View) → subject me.0 ≡ a → me.1 ≡ [] → h < layer_words a → i ≡ vertex_words a + h → has_layer a h me.0.put ≡ true → Allows (KeepsRule a) slots id me i (λ _. 1) (λ _. Raises (step slots i 1 0 none) me 1)
raises_as a slots id i h me is free below at_flag whole =
    subst (λ (held : List (ℕ × ℕ)). Allows (KeepsRule a) slots id (me.0, held) i (λ _. 1) (λ _. Raises (step slots i 1 0 none) (me.0, held) 1)) (sym free)
    (subst (λ (b : Subject). h < layer_words b → i ≡ vertex_words b + h → has_layer b h me.0.put ≡ true → Allows (KeepsRule b) slots id (me.0, []) i (λ _. 1) (λ _. Raises (step slots i 1 0 none) (me.0, []) 1)) is (raises slots id i h me.0) below at_flag whole)

pub splits_as : (a : Subject) (id : ℕ) (v : View) → subject v ≡ a → Splits (KeepsRule a) id v v (knows_alike v)
splits_as a id v is = subst (λ (b : Subject). Splits (KeepsRule b) id v v (knows_alike v)) is (splits id v)

pub joins_as : (a : Subject) (id other : ℕ) (v w : View) → subject v ≡ a → Joins (KeepsRule a) id v other w (joint v w) spent
joins_as a id other v w is = subst (λ (b : Subject). Joins (KeepsRule b) id v other w (joint v w) spent) is (joins id other v w)
