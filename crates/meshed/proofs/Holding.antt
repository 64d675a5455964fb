-- What a desk holds when one more file was put.
use Rattle.std.proofs.Common.{◌≡◌, ◌≢◌, ℕ, ◌≤◌, ◌-◌, List, [], ◌∷◌, Option, Some, Bool, true, false, length, drop, take, sym, ◌∙◌, ap, subst, refl, arith}
use Rattle.std.specs.Prelude.{Result, Ok, Err, OnOk, get_or, if◌then◌else◌}
use Rattle.std.specs.Str.{bytes_eq}
use Rattle.std.proofs.lemmas.Slice.Eq.{bytes_eq-Decides}
use Rattle.std.proofs.lemmas.List.{take_all}
use Rattle.meshed.specs.declared.answer.File.{File}
use Rattle.meshed.specs.Files.{held_in}

pub on_ok : {T E : Type 0} {P Q : Type 0} → (r : Result T E) → (P → Q) → OnOk r P → OnOk r Q
on_ok (Ok x) f p = f p
on_ok (Err e) f p = tt

held_with : (file : File) (files : List File) (before after : List ℕ → Option (List ℕ)) → ((n : List ℕ) → before n ≡ held_in files n) → after file.name.items ≡ Some file.bytes.items
    → ((n : List ℕ) → n ≢ file.name.items → after n ≡ before n) → (n : List ℕ) → after n ≡ held_in (file ∷ files) n
held_with file files before after held here others n = go (bytes_eq file.name.items n) refl
  where
    chosen : (t : Bool) → bytes_eq file.name.items n ≡ t → (if t then Some file.bytes.items else held_in files n) ≡ held_in (file ∷ files) n
    chosen t e = ap (λ (b : Bool). if b then Some file.bytes.items else held_in files n) (sym e)

    go : (t : Bool) → bytes_eq file.name.items n ≡ t → after n ≡ held_in (file ∷ files) n
    go true e = subst (λ (x : List ℕ). after x ≡ Some file.bytes.items) ((bytes_eq-Decides file.name.items n).0 e) here ∙ chosen true e
    go false e = others n (λ q. (let t = sym e ∙ (bytes_eq-Decides file.name.items n).1 (sym q) in cc)) ∙ (held n ∙ chosen false e)

-- the first of the files was put last
pub held_front : (files : List File) (first : File) (before after : List ℕ → Option (List ℕ)) → 1 ≤ length files → first ≡ get_or files 0 first → ((n : List ℕ) → before n ≡ held_in (take (length files - 1) (drop 1 files)) n)
    → after first.name.items ≡ Some first.bytes.items → ((n : List ℕ) → n ≢ first.name.items → after n ≡ before n) → (n : List ℕ) → after n ≡ held_in files n
held_front [] first before after some is held here others n = absurd (omega (arith, some))
held_front (file ∷ files) first before after some is held here others n = subst (λ (f : File). after n ≡ held_in (f ∷ files) n) is (held_with first files before after (subst (λ (rest : List File). (n : List ℕ) → before n ≡ held_in rest n) (take_all (length (file ∷ files) - 1) files (omega arith)) held) here others n)
