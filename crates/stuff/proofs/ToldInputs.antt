-- What reading a head, and then a volume, comes to for the whole of a told input.
use Rattle.std.proofs.Common.{◌≡◌, ◌⊎◌, inl, inr, ℕ, ◌+◌, ◌<◌, ◌≤◌, List, length, take, drop, Bool, true, false, Option, Some, None, Result, refl, ap, sym, ◌∙◌, subst, arith, length-drop}
use Rattle.std.specs.Option.{option_map_or}
use Rattle.std.specs.Prelude.{find, is_some, [], ◌∷◌, IsTrue, ◌==◌, ◌&&◌, not, nat_lt, min, Ok, Err, if◌then◌else◌}
use Rattle.std.proofs.lemmas.Bool.{cases_lt}
use Rattle.std.proofs.Math.ListN.{drop_of_length-le}
use Rattle.std.proofs.lemmas.List.{drop-drop}
use Rattle.formats.specs.declared.Head.{Head}
use Rattle.formats.specs.declared.Limits.{Limits}
use Rattle.formats.specs.declared.HeadFault.{HeadFault}
use Rattle.formats.specs.declared.HeadFault.TheVariants as header
use Rattle.formats.specs.Counts.{head_limit}
use Rattle.formats.specs.HeadLines.{Line, Pairs, lines, meaning_of, is_bad, ends_search, pairs_of, pairs_found}
use Rattle.formats.specs.Heads.{HeadAt, head_of, head_of_found, head_of_pairs, first_fault_or, faults, head_taken, ends_in_head}
use Rattle.formats.specs.Volumes.{Volume, VolumeAnswer, Large, EndsEarly, Whole, volume_answer, wanted_bytes, second_limits, is_too_large, bytes_behind, volume_of}
use Rattle.formats.specs.Faults.{status_of}
use Rattle.mha_read.specs.LinesRead.{Leaves}
use Rattle.mha_read.specs.Told.{Answers}
use Rattle.mha_read.specs.VolumeTold.{VolumeTold, FollowsHead}
use Rattle.mha_read.specs.declared.VolFault.{VolFault}
use Rattle.mha_read.specs.declared.VolFault.TheVariants as volume
use Rattle.stuff.specs.Inputs.{Outcome, outcome, outcome_of, outcome_of_head, outcome_of_volume, IsLeft, BreaksOff}
use Rattle.stuff.specs.Ends.{RefusesInput, ReadsInput}
use Rattle.stuff.specs.Refusals.{status_of_volume}

-- the outcome where there is no head
outcome_without : (world : Bool) (step : ℕ) (text : List ℕ) (fault : HeadFault) → head_of world text ≡ Err fault → outcome_of world step text ≡ outcome (status_of fault) (head_taken text) (ends_in_head text) None []
unfolding outcome_of
outcome_without world step text fault e = ap (outcome_of_head step text) e

-- the outcome behind a head
outcome_behind : (world : Bool) (step : ℕ) (text : List ℕ) (h : HeadAt) (answer : VolumeAnswer) → head_of world text ≡ Ok h → volume_answer second_limits text h step ≡ answer → outcome_of world step text ≡ outcome_of_volume text h answer
unfolding outcome_of
outcome_behind world step text h answer e f = ap (outcome_of_head step text) e ∙ ap (outcome_of_volume text h) f

left_of : (text : List ℕ) (n taken : ℕ) (left : Option (List ℕ)) → Leaves text n left → n ≡ taken → IsLeft text taken left
left_of text n taken left l e = record { left_is = l.left_is ∙ ap (λ (k : ℕ). Some (drop k text)) e; within = omega (arith, l.within) }

-- what is read for a head that is there
without_faults : (x h : HeadAt) (found : List HeadFault) → first_fault_or x found ≡ Ok h → x.len ≡ h.len
without_faults x h [] e = let same : x ≡ h = cc in ap (λ (y : HeadAt). y.len) same
without_faults x h (fault ∷ more) e = cc

good_line : (world : Bool) (b : Bool) (fault : HeadFault) (p : Pairs) (h : HeadAt) → head_of_found world (if b then Err fault else Ok p) ≡ Ok h → p.len ≡ h.len
good_line world true fault p h e = cc
good_line world false fault p h e = without_faults (record { head = head_of_pairs world p.pairs; len = p.len }) h (faults world p.pairs) e

by_search : (world : Bool) (ls : List Line) (full c : Bool) (k : ℕ) (h : HeadAt) (found : Option Line) → head_of_found world (pairs_found ls full found) ≡ Ok h → (option_map_or (λ (l : Line). l.place + length l.text + 1) found k ≡ h.len) × ((not (is_some found) && c) ≡ false)
by_search world ls full c k h None e = cc
by_search world ls full c k h (Some l) e = (good_line world (is_bad (meaning_of l.text)) _ _ h e, refl)

head_is_read : (world : Bool) (text : List ℕ) (h : HeadAt) → head_of world text ≡ Ok h → (head_taken text ≡ h.len) × (ends_in_head text ≡ false)
unfolding head_of pairs_of head_taken ends_in_head
head_is_read world text h e =
    let start = take head_limit text in
    by_search world (lines start) (length start == head_limit) (nat_lt (length text) head_limit) (length start) h (find ends_search (lines start)) e

less_or_same : (m n : ℕ) → m ≤ n → (m < n) ⊎ (m ≡ n)
less_or_same m n le = elim (cases_lt m n) [ inl lt ↦ inl lt | inr ge ↦ inr (omega arith) ]

-- a fault within a head that is there
early_in_head : (text : List ℕ) (h : HeadAt) (answer : VolumeAnswer) (n : ℕ) → n < h.len → n ≤ length text → (n < (outcome_of_volume text h answer).taken) ⊎ ((n ≡ length text) × IsTrue (outcome_of_volume text h answer).at_end)
early_in_head text h (Large padded) n lt le = inl lt
early_in_head text h (EndsEarly got wanted) n lt le = elim (less_or_same n (length text) le) [ inl less ↦ inl less | inr same ↦ inr (same, refl) ]
early_in_head text h (Whole v) n lt le = inl (omega arith)

breaks : (world : Bool) (step : ℕ) (text : List ℕ) (o : Outcome) (n : ℕ) (left : Option (List ℕ)) → outcome_of world step text ≡ o → IsLeft text n left → (n < o.taken) ⊎ ((n ≡ length text) × IsTrue o.at_end) → BreaksOff (outcome_of world step text) text left
breaks world step text o n left e l early = record { taken = n; is_left = l; early = subst (λ (o : Outcome). (n < o.taken) ⊎ ((n ≡ length text) × IsTrue o.at_end)) (sym e) early }

broken_at : (world : Bool) (step : ℕ) (text : List ℕ) (h : HeadAt) (n : ℕ) (left : Option (List ℕ)) → head_of world text ≡ Ok h → Leaves text n left → (n < head_taken text) ⊎ ((n ≡ length text) × IsTrue (ends_in_head text)) → BreaksOff (outcome_of world step text) text left
broken_at world step text h n left e l (inl lt) =
    breaks world step text (outcome_of_volume text h (volume_answer second_limits text h step)) n left (outcome_behind world step text h _ e refl) (left_of text n n left l refl)
    (early_in_head text h (volume_answer second_limits text h step) n (omega (arith, (head_is_read world text h e).0)) l.within)
broken_at world step text h n left e l (inr (same, ends)) = let f : false ≡ true = sym (head_is_read world text h e).1 ∙ ends in cc

broken_head : (world : Bool) (step : ℕ) (text : List ℕ) (r : Result HeadAt HeadFault) (left : Option (List ℕ)) → head_of world text ≡ r → Answers world (Err header.ReadFault) text left → BreaksOff (outcome_of world step text) text left
broken_head world step text (Err fault) left e a = breaks world step text _ a.0 left (outcome_without world step text fault e) (left_of text a.0 a.0 left a.1 refl) a.2
broken_head world step text (Ok h) left e a = broken_at world step text h a.0 left e a.1 a.2

-- a refusal by the head alone
refused_for : (fault : HeadFault) (world : Bool) (step : ℕ) (text : List ℕ) (left : Option (List ℕ)) → (head_of world text ≡ Err fault) × Leaves text (head_taken text) left → ((outcome_of world step text).status ≡ status_of fault) × IsLeft text (outcome_of world step text).taken left
refused_for fault world step text left a =
    let o = outcome_without world step text fault a.0 in
    (ap (λ (o : Outcome). o.status) o, left_of text (head_taken text) (outcome_of world step text).taken left a.1 (ap (λ (o : Outcome). o.taken) (sym o)))

pub head_refused : (fault : HeadFault) (world : Bool) (step : ℕ) (text : List ℕ) (left : Option (List ℕ)) → Answers world (Err fault) text left → RefusesInput (status_of fault) (outcome_of world step text) text left
head_refused (header.BadLine place) world step text left a = refused_for (header.BadLine place) world step text left a
head_refused (header.Missing key) world step text left a = refused_for (header.Missing key) world step text left a
head_refused (header.BadValue key) world step text left a = refused_for (header.BadValue key) world step text left a
head_refused (header.Unsupported key) world step text left a = refused_for (header.Unsupported key) world step text left a
head_refused header.HeaderTooLong world step text left a = refused_for header.HeaderTooLong world step text left a
head_refused header.HeadEnds world step text left a = refused_for header.HeadEnds world step text left a
head_refused header.ReadFault world step text left a = broken_head world step text (head_of world text) left refl a
head_refused header.NoMemory world step text left a = tt

-- what is left of the rest of an input is left of the input
left_behind : (text : List ℕ) (len n taken : ℕ) (left : Option (List ℕ)) → len ≤ length text → Leaves (drop len text) n left → len + n ≡ taken → IsLeft text taken left
left_behind text len n taken left le l e = record {
  left_is = l.left_is ∙ ap Some (drop-drop n len text) ∙ ap (λ (k : ℕ). Some (drop k text)) e;
  within = omega (arith, l.within, length-drop len text);
}

volume_at_head : (world : Bool) (step : ℕ) (text : List ℕ) (h : HeadAt) (v : Volume) (left : Option (List ℕ)) → head_of world text ≡ Ok h → h.len ≤ length text → VolumeTold (volume_answer second_limits text h step) (wanted_bytes h.head) (Ok v) (drop h.len text) left → ReadsInput (Ok (v, h.head.axes)) (outcome_of world step text) text left
volume_at_head world step text h v left e le t =
    let o = outcome_behind world step text h (Whole v) e t.0 in
    (ap (λ (o : Outcome). o.volume) o, ap (λ (o : Outcome). o.axes) o, (ap (λ (o : Outcome). o.status) o, left_behind text h.len (wanted_bytes h.head) (outcome_of world step text).taken left le t.1 (ap (λ (o : Outcome). o.taken) (sym o))))

by_length : (b : Bool) (x y : VolumeAnswer) (p : ℕ) → ((q : ℕ) → x ≡ Large q → ⊥) → ((q : ℕ) → y ≡ Large q → ⊥) → (if b then x else y) ≡ Large p → ⊥
by_length true x y p f g e = f p e
by_length false x y p f g e = g p e

-- a volume that is not too large is there or ends early
not_large : (limits : Limits) (world : Bool) (step : ℕ) (text : List ℕ) (h : HeadAt) (padded : ℕ) → is_too_large limits h.head step ≡ false → volume_answer limits text h step ≡ Large padded → ⊥
not_large limits world step text h padded small e = by_length (nat_lt (length (bytes_behind text h)) (wanted_bytes h.head)) (EndsEarly (length (bytes_behind text h)) (wanted_bytes h.head)) (Whole (volume_of text h step)) padded (λ p f. cc) (λ p f. cc) (rw small at e)

broken_behind : (text : List ℕ) (h : HeadAt) (answer : VolumeAnswer) (n : ℕ) → h.len ≤ length text → ((padded : ℕ) → answer ≡ Large padded → ⊥) → (n < min (wanted_bytes h.head) (length (drop h.len text))) ⊎ ((n ≡ length (drop h.len text)) × (n < wanted_bytes h.head))
    → (h.len + n < (outcome_of_volume text h answer).taken) ⊎ ((h.len + n ≡ length text) × IsTrue (outcome_of_volume text h answer).at_end)
broken_behind text h (Large padded) n le small early = absurd (small padded refl)
broken_behind text h (EndsEarly got wanted) n le small (inl lt) = inl (omega (arith, lt, length-drop h.len text))
broken_behind text h (EndsEarly got wanted) n le small (inr (same, lt)) = inr (omega (arith, same, length-drop h.len text), refl)
broken_behind text h (Whole v) n le small (inl lt) = inl (omega (arith, lt))
broken_behind text h (Whole v) n le small (inr (same, lt)) = inl (omega (arith, lt))

broken_volume : (world : Bool) (step : ℕ) (text : List ℕ) (h : HeadAt) (left : Option (List ℕ)) → head_of world text ≡ Ok h → h.len ≤ length text → is_too_large second_limits h.head step ≡ false → VolumeTold (volume_answer second_limits text h step) (wanted_bytes h.head) (Err volume.ReadFault) (drop h.len text) left → BreaksOff (outcome_of world step text) text left
broken_volume world step text h left e le small t =
    breaks world step text (outcome_of_volume text h (volume_answer second_limits text h step)) (h.len + t.0) left (outcome_behind world step text h _ e refl) (left_behind text h.len t.0 (h.len + t.0) left le t.1 refl)
    (broken_behind text h (volume_answer second_limits text h step) t.0 le (λ padded. not_large second_limits world step text h padded small) t.2)

volume_not_at_head : (fault : VolFault) (world : Bool) (step : ℕ) (text : List ℕ) (h : HeadAt) (left : Option (List ℕ)) → head_of world text ≡ Ok h → h.len ≤ length text → FollowsHead second_limits h.head step (Err fault) → VolumeTold (volume_answer second_limits text h step) (wanted_bytes h.head) (Err fault) (drop h.len text) left → RefusesInput (status_of_volume fault) (outcome_of world step text) text left
volume_not_at_head (volume.TooLarge padded) world step text h left e le follows t =
    let o = outcome_behind world step text h (Large padded) e t.0 in
    (ap (λ (o : Outcome). o.status) o, record { left_is = t.1 ∙ ap (λ (k : ℕ). Some (drop k text)) (ap (λ (o : Outcome). o.taken) (sym o)); within = omega (arith, le, ap (λ (o : Outcome). o.taken) o) })
volume_not_at_head (volume.Truncated got wanted) world step text h left e le follows t =
    let o = outcome_behind world step text h (EndsEarly got wanted) e t.0 in
    let all : (outcome_of world step text).taken ≡ length text = ap (λ (o : Outcome). o.taken) o in
    (ap (λ (o : Outcome). o.status) o, record { left_is = t.1 ∙ ap Some (sym (drop_of_length-le text (omega arith))) ∙ ap (λ (k : ℕ). Some (drop k text)) (sym all); within = omega arith })
volume_not_at_head volume.ReadFault world step text h left e le follows t = broken_volume world step text h left e le follows t
volume_not_at_head volume.NoMemory world step text h left e le follows t = tt

-- the same where the head and the limits are known by equations
pub volume_read : (world : Bool) (step : ℕ) (text : List ℕ) (limits : Limits) (head : Head) (h : HeadAt) (v : Volume) (left : Option (List ℕ)) → limits ≡ second_limits → head ≡ h.head → head_of world text ≡ Ok h → h.len ≤ length text
    → VolumeTold (volume_answer limits text (record { head = head; len = h.len }) step) (wanted_bytes head) (Ok v) (drop h.len text) left → ReadsInput (Ok (v, head.axes)) (outcome_of world step text) text left
volume_read world step text limits head h v left l e p le t =
    let first = subst (λ (l : Limits). VolumeTold (volume_answer l text (record { head = head; len = h.len }) step) (wanted_bytes head) (Ok v) (drop h.len text) left) l t in
    subst (λ (x : Head). ReadsInput (Ok (v, x.axes)) (outcome_of world step text) text left) (sym e)
    (volume_at_head world step text h v left p le (subst (λ (x : Head). VolumeTold (volume_answer second_limits text (record { head = x; len = h.len }) step) (wanted_bytes x) (Ok v) (drop h.len text) left) e first))

pub volume_refused : (world : Bool) (step : ℕ) (text : List ℕ) (limits : Limits) (head : Head) (h : HeadAt) (fault : VolFault) (left : Option (List ℕ)) → limits ≡ second_limits → head ≡ h.head → head_of world text ≡ Ok h → h.len ≤ length text → FollowsHead limits head step (Err fault)
    → VolumeTold (volume_answer limits text (record { head = head; len = h.len }) step) (wanted_bytes head) (Err fault) (drop h.len text) left → RefusesInput (status_of_volume fault) (outcome_of world step text) text left
volume_refused world step text limits head h fault left l e p le follows t =
    let first = subst (λ (l : Limits). VolumeTold (volume_answer l text (record { head = head; len = h.len }) step) (wanted_bytes head) (Err fault) (drop h.len text) left) l t in
    volume_not_at_head fault world step text h left p le (subst (λ (x : Head). FollowsHead second_limits x step (Err fault)) e (subst (λ (l : Limits). FollowsHead l head step (Err fault)) l follows))
    (subst (λ (x : Head). VolumeTold (volume_answer second_limits text (record { head = x; len = h.len }) step) (wanted_bytes x) (Err fault) (drop h.len text) left) e first)
