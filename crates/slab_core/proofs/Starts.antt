-- The invariant holds before any event.
use Rattle.std.proofs.Common.{◌≡◌, inl, ℕ, zero, suc, ◌≤◌, List, length, replicate, false, true≢false, refl, sym, ap, ◌∙◌, arith, min}
use Rattle.std.specs.Prelude.{flat_map, nat_lt}
use Rattle.std.proofs.lemmas.Bool.Decides.{nat_tests}
use Rattle.std.proofs.lemmas.List.{length-replicate, get_or-replicate}
use Rattle.std.proofs.lemmas.List.Elements.{All-replicate}
use Rattle.definitions.specs.declared.Dims.{Dims}
use Rattle.definitions.specs.Lattice.{vertices, layers}
use Rattle.bcc_lattice.specs.Layouts.{IsLayout}
use Rattle.list_words.specs.Words.{times, once_below}
use Rattle.list_words.proofs.Tests.{when_false}
use Rattle.slab_core.specs.States.{WorkerState, new_worker, new_core}
use Rattle.slab_core.specs.Steps.{slab_count}
use Rattle.slab_core.specs.Sound.{IsSoundWorker, IsSound}

pub starts : (d : Dims) (slab : ℕ) (wanted : List ℕ) (workers : ℕ) → IsLayout d slab → length wanted ≡ length (vertices d) → 1 ≤ workers → workers ≤ 64 → IsSound (new_core d slab wanted workers)
starts d slab wanted workers layout len some few = record {
  shaped = record {
    layout = layout;
    wanted = len;
    words = length-replicate (length (vertices d)) 0;
    flags = length-replicate (layers d) false;
    some = let l = length-replicate workers new_worker in omega arith;
    few = let l = length-replicate workers new_worker in omega arith;
  };
  drawn_once = λ x. none x workers ∙ sym (nothing x);
  next_near = omega arith;
  words = λ id lt. inl (get_or-replicate (length (vertices d)) id 0 0 lt);
  flags = λ h lt up. absurd (true≢false (sym up ∙ get_or-replicate (layers d) h false false lt));
  each = All-replicate (IsSoundWorker (new_core d slab wanted workers)) workers new_worker (record {
    out = λ e. absurd (true≢false (sym e));
    put = λ id e. absurd (true≢false (sym e));
    seen = λ h e. absurd (true≢false (sym e));
    down = λ h e. absurd (true≢false (sym e));
    made = λ h e. absurd (true≢false (sym e));
    got = λ k d lt. absurd (omega arith);
    done = λ k d lt. absurd (omega arith);
    done_once = λ j e. absurd (true≢false (sym e));
    gone = λ e. absurd (true≢false (sym e));
  });
}
  where
    none : (x n : ℕ) → times x (flat_map (λ (k : WorkerState). k.drawn) (replicate n new_worker)) ≡ 0
    none x zero = refl
    none x (suc n) = none x n

    nothing : (x : ℕ) → once_below x (min 0 (slab_count (new_core d slab wanted workers))) ≡ 0
    nothing x = let m : min 0 (slab_count (new_core d slab wanted workers)) ≡ 0 = omega arith in let e : nat_lt x 0 ≡ false = grind (arith, nat_tests) in ap (once_below x) m ∙ when_false (nat_lt x 0) 1 0 e
