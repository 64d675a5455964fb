-- Bytes that are held, written and added to.
use Rattle.std.proofs.Common.{◌≡◌, ℕ, List, [], ◌++◌, Option, length, sym, ap, ◌∙◌, subst, append_assoc, append-nil, arith}
use Rattle.std.proofs.KnownBytes.{Appends-trans}
use Rattle.std.proofs.lemmas.List.{take_all}
use Rattle.std.specs.Io.KnownBytes.{Appends}
use Rattle.node_ele_write.proofs.Pieces.{part_behind, part_longer}
use Rattle.st_base.specs.Desk.{AppendsPart}
use Rattle.face_files.specs.Held.{AppendsAllButHeld}

-- more is held
pub held_more : (a b : Option (List ℕ)) (held held' all xs : List ℕ) → held' ≡ held ++ xs → AppendsAllButHeld a b held all → AppendsAllButHeld a b held' (all ++ xs)
held_more a b held held' all xs e h = (h.0, h.1, ap (λ l. h.0 ++ l) e ∙ sym (append_assoc h.0 held xs) ∙ ap (λ l. l ++ xs) h.2)

-- what is held is written
pub all_written : (a b c : Option (List ℕ)) (held all : List ℕ) → Appends b c held → AppendsAllButHeld a b held all → Appends a c all
all_written a b c held all k h = subst (λ t. Appends a c t) h.2 (Appends-trans a b c h.0 held h.1 k)

pub held_written : (a b c : Option (List ℕ)) (held held' all : List ℕ) → held' ≡ [] → Appends b c held → AppendsAllButHeld a b held all → AppendsAllButHeld a c held' all
held_written a b c held held' all e k h = (all, all_written a b c held all k h, ap (λ l. all ++ l) e ∙ append-nil all)

-- a part of what is held is written
pub part_written : (a b c : Option (List ℕ)) (held all : List ℕ) → AppendsPart b c held → AppendsAllButHeld a b held all → AppendsPart a c all
part_written a b c held all k h = subst (λ t. AppendsPart a c t) h.2 (part_behind a b c h.0 held h.1 k)

-- what was written is a part of all
pub is_part : (a b : Option (List ℕ)) (held all : List ℕ) → AppendsAllButHeld a b held all → AppendsPart a b all
is_part a b held all h =
    subst (λ t. AppendsPart a b t) h.2 (part_longer a b h.0 held (length h.0, omega arith, subst (λ t. Appends a b t) (sym (take_all (length h.0) h.0 (omega arith))) h.1))
