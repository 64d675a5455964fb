-- Each event that is allowed keeps the invariant.
use Rattle.std.proofs.Common.{◌≡◌, ◌≢◌, ◌⊎◌, inl, inr, ℕ, ◌+◌, ◌-◌, ◌<◌, ◌≤◌, ◌==◌, min, List, [], ◌∷◌, ◌++◌, length, get_or, set, Bool, true, false, not, ◌||◌, ◌&&◌, if◌then◌else◌, refl, sym, ap, ◌∙◌, subst, ⊎_elim, arith}
use Rattle.std.specs.Prelude.{slice_index, slice_index_or, nat_lt, nat_le}
use Rattle.std.specs.List.{list_any}
use Rattle.std.proofs.lemmas.Bool.Decides.{nat_tests}
use Rattle.std.proofs.lemmas.List.{get_or-set_same, get_or-set_other, length-set, map_push}
use Rattle.std.proofs.lemmas.List.Elements.{All-push}
use Rattle.std.proofs.lemmas.Bool.{and_parts, not-true, both_ways, false_from_ne_true, cases_eq}
use Rattle.definitions.specs.Lattice.{vertices, vertex_at, layers}
use Rattle.definitions.specs.Layout.{layer_start, layer_len, layer_ids, reach, reach_from, reach_to, is_in_reach}
use Rattle.list_words.specs.Words.{has, has_all, times, joined, without, once_below}
use Rattle.list_words.proofs.Tests.{when_true, when_false}
use Rattle.list_words.proofs.Lists.{has_more, has_pushed, has_joined, has_kept, has_new, has_without, has_among, has_range, times_append, times_new, times_other, times_one, times_none, same_part}
use Rattle.slab_core.specs.declared.event.Event.{Event}
use Rattle.slab_core.specs.declared.event.Event.TheVariants.{Claim, Look, Put, Raise, Read, Finish, Quit}
use Rattle.slab_core.specs.States.{WorkerState, CoreState}
use Rattle.slab_core.specs.Steps.{worker, is_up, slab_count, layer_of, reaches, slabs_done, reach_words, is_there, has_put_layer, may_finish, allowed, looked, raised, words_put, after}
use Rattle.slab_core.specs.Sound.{HasWanted, IsMade, IsSoundWorker, IsSound}
use Rattle.slab_core.proofs.Layers.{of_layer, in_run, id_in_all}
use Rattle.slab_core.proofs.Workers.{IsLive, live, sound_worker, reaches_more, slab_begins, drawn_below, step_sound, quiet}

below_of : (a b : ℕ) → nat_lt a b ≡ true → a < b
below_of a b e = grind (arith, nat_tests)

-- ---- what is shared stays

look_fits : (s : CoreState) (k : WorkerState) (h : ℕ) (ws : List WorkerState) → h < layers s.dims → IsSoundWorker s k → (b : Bool) → is_up s h ≡ b → IsSoundWorker (record s { workers = ws }) (looked h b k)
look_fits s k h ws below f true up = record {
  out = f.out;
  put = f.put;
  seen = λ g e. ⊎_elim (λ (same : g ≡ h). subst (λ (j : ℕ). (j < layers s.dims) × (is_up s j ≡ true)) (sym same) (below, up)) (λ (old : has g k.seen ≡ true). f.seen g old) (has_joined g h k.seen e);
  down = λ g e.
      let d = has_without g h k.down e in
      false_from_ne_true (has g (joined h k.seen)) (λ t. ⊎_elim (λ (same : g ≡ h). d.0 same) (λ (old : has g k.seen ≡ true). both_ways (has g k.seen) (f.down g d.1) old) (has_joined g h k.seen t));
  made = λ g e. let m = f.made g e in record {
    seen = has_kept g h k.seen m.seen;
    not_down = false_from_ne_true (has g (without h k.down)) (λ t. both_ways (has g k.down) m.not_down (has_without g h k.down t).1);
    once = m.once;
    reached = m.reached;
  };
  got = f.got;
  done = f.done;
  done_once = f.done_once;
  gone = f.gone;
}
look_fits s k h ws below f false down = record {
  out = f.out;
  put = f.put;
  seen = f.seen;
  down = λ g e. ⊎_elim (λ (same : g ≡ h). false_from_ne_true (has g k.seen) (λ t. unseen g same t)) (λ (old : has g k.down ≡ true). f.down g old) (has_joined g h k.down e);
  made = λ g e. let m = f.made g e in record {
    seen = m.seen;
    not_down = false_from_ne_true (has g (joined h k.down)) (λ t. ⊎_elim (λ (same : g ≡ h). unseen g same m.seen) (λ (old : has g k.down ≡ true). both_ways (has g k.down) m.not_down old) (has_joined g h k.down t));
    once = m.once;
    reached = m.reached;
  };
  got = f.got;
  done = f.done;
  done_once = f.done_once;
  gone = f.gone;
}
  where
    unseen : (g : ℕ) → g ≡ h → has g k.seen ≡ true → ⊥
    unseen g same t = both_ways (is_up s h) down (subst (λ (j : ℕ). is_up s j ≡ true) same (f.seen g t).1)

look_stays : (h : ℕ) (b : Bool) (k : WorkerState) → ((looked h b k).drawn ≡ k.drawn) × ((looked h b k).out ≡ k.out)
look_stays h true k = (refl, refl)
look_stays h false k = (refl, refl)

pub look_keeps : (w h : ℕ) (s : CoreState) → IsSound s → allowed (Look w h) s ≡ true → IsSound (after (Look w h) s)
look_keeps w h s k a =
    let b = and_parts (is_there s w) (nat_lt h (layers s.dims)) a in
    let l = live s w b.0 in
    let u = looked h (is_up s h) (worker s w) in
    let st = look_stays h (is_up s h) (worker s w) in
    step_sound s w u s.next s.words s.flags k l.within (quiet s w u k st.0 st.1) (look_fits s (worker s w) h (set s.workers w u) (below_of h (layers s.dims) b.1) (sound_worker s w k l.within) (is_up s h) refl)

pub read_keeps : (w id : ℕ) (s : CoreState) → IsSound s → allowed (Read w id) s ≡ true → IsSound (after (Read w id) s)
read_keeps w id s k a =
    let c = and_parts (is_there s w && nat_lt id (length (vertices s.dims))) (has (layer_of s id) (worker s w).seen) a in
    let b = and_parts (is_there s w) (nat_lt id (length (vertices s.dims))) c.0 in
    let l = live s w b.0 in
    let f = sound_worker s w k l.within in
    let o = of_layer s.dims id (below_of id (length (vertices s.dims)) b.1) in
    let up = (f.seen (layer_of s id) c.1).1 in
    let right : HasWanted s id = k.flags (layer_of s id) o.layer up id o.from o.to in
    let pair : ℕ × ℕ = (id, slice_index s.words id) in
    let u : WorkerState = record (worker s w) { got = (worker s w).got ++ pair ∷ [] } in
    step_sound s w u s.next s.words s.flags k l.within (quiet s w u k refl refl) (record {
      out = f.out;
      put = f.put;
      seen = f.seen;
      down = f.down;
      made = λ h e. let m = f.made h e in record { seen = m.seen; not_down = m.not_down; once = m.once; reached = m.reached };
      got = All-push (λ (p : ℕ × ℕ). p.1 ≡ slice_index s.wanted p.0) (worker s w).got pair f.got right;
      done = f.done;
      done_once = f.done_once;
      gone = f.gone;
    })

pub quit_keeps : (w : ℕ) (s : CoreState) → IsSound s → allowed (Quit w) s ≡ true → IsSound (after (Quit w) s)
quit_keeps w s k a =
    let c = and_parts (is_there s w && (worker s w).out) (has_all (worker s w).drawn (slabs_done (worker s w))) a in
    let b = and_parts (is_there s w) (worker s w).out c.0 in
    let l = live s w b.0 in
    let f = sound_worker s w k l.within in
    let u : WorkerState = record (worker s w) { gone = true } in
    step_sound s w u s.next s.words s.flags k l.within (quiet s w u k refl refl) (record {
      out = f.out;
      put = f.put;
      seen = f.seen;
      down = f.down;
      made = λ h e. let m = f.made h e in record { seen = m.seen; not_down = m.not_down; once = m.once; reached = m.reached };
      got = f.got;
      done = f.done;
      done_once = f.done_once;
      gone = λ _. (b.1, c.1);
    })

-- the words of a reach all layers of which a worker saw up are those wanted
reach_right : (s : CoreState) (k : WorkerState) (j : ℕ) → IsSound s → IsSoundWorker s k → j < slab_count s → has_all (reach s.dims s.slab j) k.seen ≡ true → reach_words s s.words j ≡ reach_words s s.wanted j
reach_right s k j sound f slab known = same_part (layer_start s.dims (reach_from s.slab j)) (layer_start s.dims (reach_to s.dims s.slab j) - layer_start s.dims (reach_from s.slab j)) s.words s.wanted (sound.shaped.words ∙ sym sound.shaped.wanted) each
  where
    each : (i : ℕ) → layer_start s.dims (reach_from s.slab j) ≤ i → i < layer_start s.dims (reach_from s.slab j) + (layer_start s.dims (reach_to s.dims s.slab j) - layer_start s.dims (reach_from s.slab j)) → get_or s.words i 0 ≡ get_or s.wanted i 0
    each i from to =
        let top : reach_to s.dims s.slab j ≤ layers s.dims = omega arith in
        let some = slab_begins s j sound slab in
        let r = in_run s.dims (reach_from s.slab j) (reach_to s.dims s.slab j) i (omega arith) top from (omega arith) in
        let o = of_layer s.dims i r.0 in
        let there = has_range (vertex_at s.dims i).h (reach_from s.slab j) (reach_to s.dims s.slab j - reach_from s.slab j) r.1 (omega arith) in
        let up = f.seen (vertex_at s.dims i).h (has_among (vertex_at s.dims i).h (reach s.dims s.slab j) k.seen known there) in
        sound.flags (vertex_at s.dims i).h o.layer up.1 i o.from o.to

pub finish_keeps : (w j : ℕ) (s : CoreState) → IsSound s → allowed (Finish w j) s ≡ true → IsSound (after (Finish w j) s)
finish_keeps w j s k a =
    let b = and_parts (is_there s w) (may_finish s (worker s w) j) a in
    let c = and_parts (has j (worker s w).drawn && not (has j (slabs_done (worker s w)))) (has_all (reach s.dims s.slab j) (worker s w).seen) b.1 in
    let d = and_parts (has j (worker s w).drawn) (not (has j (slabs_done (worker s w)))) c.0 in
    let l = live s w b.0 in
    let f = sound_worker s w k l.within in
    let new = not-true (has j (slabs_done (worker s w))) d.1 in
    let right = reach_right s (worker s w) j k f (drawn_below s w j k l.within d.0) c.1 in
    let entry : ℕ × List ℕ = (j, reach_words s s.words j) in
    let u : WorkerState = record (worker s w) { done = (worker s w).done ++ entry ∷ [] } in
    let longer : slabs_done u ≡ slabs_done (worker s w) ++ j ∷ [] = map_push (λ (p : ℕ × List ℕ). p.0) (worker s w).done entry in
    step_sound s w u s.next s.words s.flags k l.within (quiet s w u k refl refl) (record {
      out = f.out;
      put = f.put;
      seen = f.seen;
      down = f.down;
      made = λ h e. let m = f.made h e in record { seen = m.seen; not_down = m.not_down; once = m.once; reached = m.reached };
      got = f.got;
      done = All-push (λ (p : ℕ × List ℕ). p.1 ≡ reach_words s s.wanted p.0) (worker s w).done entry f.done right;
      done_once = λ i e. by_slab i (cases_eq i j) (has_pushed i j (slabs_done (worker s w)) (subst (λ (x : List ℕ). has i x ≡ true) longer e)) longer d.0 new f;
      gone = λ g. absurd (both_ways (worker s w).gone l.stays g);
    })
  where
    by_slab : (i : ℕ) → (i ≡ j) ⊎ (i ≢ j) → (i ≡ j) ⊎ (has i (slabs_done (worker s w)) ≡ true) → {ds : List ℕ} → ds ≡ slabs_done (worker s w) ++ j ∷ [] → has j (worker s w).drawn ≡ true → has j (slabs_done (worker s w)) ≡ false
        → IsSoundWorker s (worker s w) → (has i (worker s w).drawn ≡ true) × (times i ds ≡ 1)
    by_slab i (inl same) p longer drawn new f = (subst (λ (z : ℕ). has z (worker s w).drawn ≡ true) (sym same) drawn, ap (times i) longer ∙ subst (λ (z : ℕ). times z (slabs_done (worker s w) ++ j ∷ []) ≡ 1) (sym same) (times_new j (slabs_done (worker s w)) new))
    by_slab i (inr other) (inl same) longer drawn new f = absurd (other same)
    by_slab i (inr other) (inr old) longer drawn new f = let d = f.done_once i old in (d.0, ap (times i) longer ∙ times_other i j (slabs_done (worker s w)) other ∙ d.1)

-- ---- the next number is drawn

one_more : (x n m : ℕ) → n < m → once_below x (min (n + 1) m) ≡ once_below x (min n m) + times x (n ∷ [])
one_more x n m lt =
    let a : min n m ≡ n = omega arith in
    let b : min (n + 1) m ≡ n + 1 = omega arith in
    ap (once_below x) b ∙ ⊎_elim
    (λ (same : x ≡ n). let t = times_one x in let e : times x (n ∷ []) ≡ 1 = ap (λ (z : ℕ). times x (z ∷ [])) (sym same) ∙ t in let p : once_below x (n + 1) ≡ 1 = when_true (nat_lt x (n + 1)) 1 0 (grind (arith, nat_tests)) in let q : once_below x n ≡ 0 = when_false (nat_lt x n) 1 0 (grind (arith, nat_tests)) in let r = ap (once_below x) a in omega arith)
    (λ (other : x ≢ n). let e = times_none x n other in let p : once_below x (n + 1) ≡ once_below x n = grind (arith, nat_tests) in let r = ap (once_below x) a in omega arith)
    (cases_eq x n)

claim_slab : (w : ℕ) (s : CoreState) → IsSound s → IsLive s w → s.next < slab_count s
    → IsSound (record s { next = s.next + 1; workers = set s.workers w (record (worker s w) { drawn = (worker s w).drawn ++ s.next ∷ [] }) })
claim_slab w s k l lt =
    let f = sound_worker s w k l.within in
    let u : WorkerState = record (worker s w) { drawn = (worker s w).drawn ++ s.next ∷ [] } in
    step_sound s w u (s.next + 1) s.words s.flags k l.within
    (record {
      rises = omega arith;
      words_len = refl;
      flags_len = refl;
      stay = record { words_stay = λ id lt e. e; flags_stay = λ h e. e };
      drawn = λ x. let t = times_append x (worker s w).drawn (s.next ∷ []) in let o = one_more x s.next (slab_count s) lt in omega arith;
      near = inl (omega arith);
      codes = k.words;
      whole = k.flags;
    })
    (record {
      out = λ o. let p = f.out o in omega arith;
      put = f.put;
      seen = f.seen;
      down = f.down;
      made = λ h e. let m = f.made h e in record { seen = m.seen; not_down = m.not_down; once = m.once; reached = reaches_more s (worker s w) s.next h m.reached };
      got = f.got;
      done = f.done;
      done_once = λ j e. let o = f.done_once j e in (has_more j (worker s w).drawn (s.next ∷ []) o.0, o.1);
      gone = λ g. absurd (both_ways (worker s w).gone l.stays g);
    })

claim_none : (w : ℕ) (s : CoreState) → IsSound s → IsLive s w → (worker s w).out ≡ false → slab_count s ≤ s.next
    → IsSound (record s { next = s.next + 1; workers = set s.workers w (record (worker s w) { out = true }) })
claim_none w s k l inside le =
    let f = sound_worker s w k l.within in
    let u : WorkerState = record (worker s w) { out = true } in
    step_sound s w u (s.next + 1) s.words s.flags k l.within
    (record {
      rises = omega arith;
      words_len = refl;
      flags_len = refl;
      stay = record { words_stay = λ id lt e. e; flags_stay = λ h e. e };
      drawn = λ x. let a : min s.next (slab_count s) ≡ min (s.next + 1) (slab_count s) = omega arith in ap (λ (n : ℕ). times x (worker s w).drawn + once_below x n) a;
      near = inr (let z = when_false (worker s w).out 1 0 inside in omega arith);
      codes = k.words;
      whole = k.flags;
    })
    (record {
      out = λ _. omega arith;
      put = f.put;
      seen = f.seen;
      down = f.down;
      made = λ h e. let m = f.made h e in record { seen = m.seen; not_down = m.not_down; once = m.once; reached = m.reached };
      got = f.got;
      done = f.done;
      done_once = f.done_once;
      gone = λ g. absurd (both_ways (worker s w).gone l.stays g);
    })

pub claim_keeps : (w : ℕ) (s : CoreState) → IsSound s → allowed (Claim w) s ≡ true → IsSound (after (Claim w) s)
claim_keeps w s k a =
    let c = and_parts (is_there s w) (not (worker s w).out) a in
    by_test (nat_lt s.next (slab_count s)) refl (live s w c.0) (not-true (worker s w).out c.1)
  where
    by_test : (b : Bool) → nat_lt s.next (slab_count s) ≡ b → IsLive s w → (worker s w).out ≡ false
        → IsSound (record s { next = s.next + 1; workers = set s.workers w (if b then record (worker s w) { drawn = (worker s w).drawn ++ s.next ∷ [] } else record (worker s w) { out = true }) })
    by_test true is l inside = claim_slab w s k l (below_of s.next (slab_count s) is)
    by_test false is l inside = claim_none w s k l inside (grind (arith, nat_tests))

-- ---- a word is put

-- what a put leaves: the wanted word there, and each other word
record Puts (s : CoreState) (id : ℕ) (words : List ℕ) : Type 0 where
  len : length words ≡ length s.words
  here : slice_index words id ≡ slice_index s.wanted id
  others : (j : ℕ) → j ≢ id → slice_index words j ≡ slice_index s.words j

puts : (s : CoreState) (id : ℕ) → id < length s.words → (slice_index s.words id ≡ 0) ⊎ HasWanted s id → Puts s id (words_put s id)
puts s id lt c = by_test (slice_index s.words id == 0) refl
  where
    by_test : (b : Bool) → (slice_index s.words id == 0) ≡ b → Puts s id (if b then set s.words id (slice_index s.wanted id) else s.words)
    by_test true e = record {
      len = length-set s.words id (slice_index s.wanted id);
      here = get_or-set_same s.words id (slice_index s.wanted id) 0 lt;
      others = λ j ne. get_or-set_other s.words id j (slice_index s.wanted id) 0 ne;
    }
    by_test false e = record {
      len = refl;
      here = ⊎_elim (λ (z : slice_index s.words id ≡ 0). absurd (not_zero (slice_index s.words id) z e)) (λ (r : HasWanted s id). r) c;
      others = λ j ne. refl;
    }
      where
        not_zero : (n : ℕ) → n ≡ 0 → (n == 0) ≡ false → ⊥
        not_zero n z f = grind (arith, nat_tests)

pub put_keeps : (w id : ℕ) (s : CoreState) → IsSound s → allowed (Put w id) s ≡ true → IsSound (after (Put w id) s)
put_keeps w id s k a =
    let b = and_parts (is_there s w) (nat_lt id (length (vertices s.dims))) a in
    let l = live s w b.0 in
    let f = sound_worker s w k l.within in
    let below = below_of id (length (vertices s.dims)) b.1 in
    let size = k.shaped.words in
    let p = puts s id (let lt : id < length s.words = omega arith in lt) (k.words id below) in
    let u : WorkerState = record (worker s w) { put = joined id (worker s w).put } in
    let stays : (j : ℕ) → j < length (vertices s.dims) → HasWanted s j → slice_index (words_put s id) j ≡ slice_index s.wanted j = λ j lt e. kept p j e in
    step_sound s w u s.next (words_put s id) s.flags k l.within
    (record {
      rises = omega arith;
      words_len = p.len;
      flags_len = refl;
      stay = record { words_stay = stays; flags_stay = λ h e. e };
      drawn = λ x. refl;
      near = inr (omega arith);
      codes = λ j lt. ⊎_elim
          (λ (same : j ≡ id). inr (subst (λ (z : ℕ). slice_index (words_put s id) z ≡ slice_index s.wanted z) (sym same) p.here))
          (λ (other : j ≢ id). subst (λ (z : ℕ). (z ≡ 0) ⊎ (z ≡ slice_index s.wanted j)) (sym (p.others j other)) (k.words j lt))
          (cases_eq j id);
      whole = λ h lt up j from to. stays j (id_in_all s.dims h j lt to) (k.flags h lt up j from to);
    })
    (record {
      out = f.out;
      put = λ i m. ⊎_elim
          (λ (same : i ≡ id). subst (λ (z : ℕ). (z < length (vertices s.dims)) × (slice_index (words_put s id) z ≡ slice_index s.wanted z)) (sym same) (below, p.here))
          (λ (old : has i (worker s w).put ≡ true). let o = f.put i old in (o.0, stays i o.0 o.1))
          (has_joined i id (worker s w).put m);
      seen = f.seen;
      down = f.down;
      made = λ h e. let m = f.made h e in record { seen = m.seen; not_down = m.not_down; once = m.once; reached = m.reached };
      got = f.got;
      done = f.done;
      done_once = f.done_once;
      gone = f.gone;
    })
  where
    kept : Puts s id (words_put s id) → (j : ℕ) → HasWanted s j → slice_index (words_put s id) j ≡ slice_index s.wanted j
    kept p j e = ⊎_elim
        (λ (same : j ≡ id). subst (λ (z : ℕ). slice_index (words_put s id) z ≡ slice_index s.wanted z) (sym same) p.here)
        (λ (other : j ≢ id). p.others j other ∙ e)
        (cases_eq j id)

-- ---- a flag is raised

raise_fits : (s : CoreState) (k : WorkerState) (h : ℕ) (flags : List Bool) (ws : List WorkerState) → h < layers s.dims → slice_index_or flags h false ≡ true → ((g : ℕ) → is_up s g ≡ true → slice_index_or flags g false ≡ true)
    → has h k.down ≡ true → reaches s k h ≡ true → IsSoundWorker s k → IsSoundWorker (record s { flags = flags; workers = ws }) (raised h k)
raise_fits s k h flags ws below here stays low reached f = record {
  out = f.out;
  put = f.put;
  seen = λ g e. ⊎_elim
      (λ (same : g ≡ h). subst (λ (z : ℕ). (z < layers s.dims) × (slice_index_or flags z false ≡ true)) (sym same) (below, here))
      (λ (old : has g k.seen ≡ true). let u = f.seen g old in (u.0, stays g u.1))
      (has_joined g h k.seen e);
  down = λ g e.
      let d = has_without g h k.down e in
      false_from_ne_true (has g (joined h k.seen)) (λ t. ⊎_elim (λ (same : g ≡ h). d.0 same) (λ (old : has g k.seen ≡ true). both_ways (has g k.seen) (f.down g d.1) old) (has_joined g h k.seen t));
  made = λ g e. by_layer g (cases_eq g h) (has_pushed g h k.made e);
  got = f.got;
  done = f.done;
  done_once = f.done_once;
  gone = f.gone;
}
  where
    by_layer : (g : ℕ) → (g ≡ h) ⊎ (g ≢ h) → (g ≡ h) ⊎ (has g k.made ≡ true) → IsMade (record s { flags = flags; workers = ws }) (raised h k) g
    by_layer g (inl same) p = subst (λ (z : ℕ). IsMade (record s { flags = flags; workers = ws }) (raised h k) z) (sym same) (record {
      seen = has_new h k.seen;
      not_down = false_from_ne_true (has h (without h k.down)) (λ t. (has_without h h k.down t).0 refl);
      once = times_new h k.made (false_from_ne_true (has h k.made) (λ m. both_ways (has h k.seen) (f.down h low) (f.made h m).seen));
      reached = reached;
    })
    by_layer g (inr other) (inl same) = absurd (other same)
    by_layer g (inr other) (inr old) = let m = f.made g old in record {
      seen = has_kept g h k.seen m.seen;
      not_down = false_from_ne_true (has g (without h k.down)) (λ t. both_ways (has g k.down) m.not_down (has_without g h k.down t).1);
      once = times_other g h k.made other ∙ m.once;
      reached = m.reached;
    }

-- a layer in the reach of a drawn slab is a layer
pub reached_layer : (s : CoreState) (h : ℕ) (js : List ℕ) → list_any (λ j. is_in_reach s.dims s.slab j h) js ≡ true → h < layers s.dims
reached_layer s h [] e = absurd (both_ways true (sym e) refl)
reached_layer s h (j ∷ js) e = by_test (is_in_reach s.dims s.slab j h) refl e (reached_layer s h js)
  where
    by_test : (b : Bool) → is_in_reach s.dims s.slab j h ≡ b → (b || list_any (λ i. is_in_reach s.dims s.slab i h) js) ≡ true → (list_any (λ i. is_in_reach s.dims s.slab i h) js ≡ true → h < layers s.dims) → h < layers s.dims
    by_test true is e rest = let lt : h < reach_to s.dims s.slab j = below_of h (reach_to s.dims s.slab j) (and_parts (nat_le (reach_from s.slab j) h) (nat_lt h (reach_to s.dims s.slab j)) is).1 in omega arith
    by_test false is e rest = rest e

pub raise_keeps : (w h : ℕ) (s : CoreState) → IsSound s → allowed (Raise w h) s ≡ true → IsSound (after (Raise w h) s)
raise_keeps w h s k a =
    let d = and_parts (is_there s w && has h (worker s w).down && reaches s (worker s w) h) (has_put_layer s (worker s w) h) a in
    let c = and_parts (is_there s w && has h (worker s w).down) (reaches s (worker s w) h) d.0 in
    let b = and_parts (is_there s w) (has h (worker s w).down) c.0 in
    let l = live s w b.0 in
    let f = sound_worker s w k l.within in
    let below = reached_layer s h (worker s w).drawn c.1 in
    let size = k.shaped.flags in
    let inside : h < length s.flags = omega arith in
    let here = get_or-set_same s.flags h true false inside in
    let u = raised h (worker s w) in
    step_sound s w u s.next s.words (set s.flags h true) k l.within
    (record {
      rises = omega arith;
      words_len = refl;
      flags_len = length-set s.flags h true;
      stay = record { words_stay = λ id lt e. e; flags_stay = stays here };
      drawn = λ x. refl;
      near = inr (omega arith);
      codes = k.words;
      whole = λ g lt up i from to. ⊎_elim
          (λ (same : g ≡ h). (f.put i (has_among i (layer_ids s.dims h) (worker s w).put d.1 (has_range i (layer_start s.dims h) (layer_len s.dims h) (subst (λ (z : ℕ). layer_start s.dims z ≤ i) same from) (subst (λ (z : ℕ). i < layer_start s.dims z + layer_len s.dims z) same to)))).1)
          (λ (other : g ≢ h). k.flags g lt (sym (get_or-set_other s.flags h g true false other) ∙ up) i from to)
          (cases_eq g h);
    })
    (raise_fits s (worker s w) h (set s.flags h true) (set s.workers w u) below here (stays here) b.1 c.1 f)
  where
    stays : slice_index_or (set s.flags h true) h false ≡ true → (j : ℕ) → is_up s j ≡ true → slice_index_or (set s.flags h true) j false ≡ true
    stays here j e = ⊎_elim
        (λ (same : j ≡ h). subst (λ (z : ℕ). slice_index_or (set s.flags h true) z false ≡ true) (sym same) here)
        (λ (other : j ≢ h). get_or-set_other s.flags h j true false other ∙ e)
        (cases_eq j h)

-- each event that is allowed keeps the invariant
pub keeps : (e : Event) (s : CoreState) → IsSound s → allowed e s ≡ true → IsSound (after e s)
keeps (Claim w) s = claim_keeps w s
keeps (Look w h) s = look_keeps w h s
keeps (Put w id) s = put_keeps w id s
keeps (Raise w h) s = raise_keeps w h s
keeps (Read w id) s = read_keeps w id s
keeps (Finish w j) s = finish_keeps w j s
keeps (Quit w) s = quit_keeps w s
