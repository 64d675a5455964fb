-- The first pair with a name of a key.
use Rattle.std.proofs.Common.{◌≡◌, ℕ, ◌+◌, ◌<◌, List, ◌∷◌, length, map, drop, Option, Some, true, false, refl, ap, sym, ◌∙◌, get_or, drop-cons, add-one}
use Rattle.std.specs.List.{list_any}
use Rattle.std.specs.Str.{bytes_eq}
use Rattle.formats.specs.declared.Key.{Key}
use Rattle.formats.specs.Heads.{names_of, value_of}
use Rattle.mha_read.specs.declared.pairs.Pair.{Pair}
use Rattle.mha_read.specs.PairLists.{shown_pair}

-- the value of the first pair with a name of the key, from one on
abbrev pub value_from : List Pair → Key → ℕ → Option (List ℕ)
value_from pairs key i = value_of (map shown_pair (drop i pairs)) key

front_is : (pairs : List Pair) (i : ℕ) (pair : Pair) → i < length pairs → pair ≡ get_or pairs i pair → drop i pairs ≡ pair ∷ drop (i + 1) pairs
front_is pairs i pair lt is = rw add-one (drop-cons pairs i pair lt) ∙ ap (λ (p : Pair). p ∷ drop (i + 1) pairs) (sym is)

pub value_here : (pairs : List Pair) (key : Key) (i : ℕ) (pair : Pair) (name : List ℕ) → i < length pairs → pair ≡ get_or pairs i pair → name ≡ pair.name.items → list_any (bytes_eq name) (names_of key) ≡ true → value_from pairs key i ≡ Some pair.value.items
value_here pairs key i pair name lt is name_is t =
    let named : list_any (bytes_eq pair.name.items) (names_of key) ≡ true = ap (λ (n : List ℕ). list_any (bytes_eq n) (names_of key)) (sym name_is) ∙ t in
    ap (λ (ps : List Pair). value_of (map shown_pair ps) key) (front_is pairs i pair lt is) ∙ rw named refl

pub value_later : (pairs : List Pair) (key : Key) (i : ℕ) (pair : Pair) (name : List ℕ) → i < length pairs → pair ≡ get_or pairs i pair → name ≡ pair.name.items → list_any (bytes_eq name) (names_of key) ≡ false → value_from pairs key i ≡ value_from pairs key (i + 1)
value_later pairs key i pair name lt is name_is t =
    let named : list_any (bytes_eq pair.name.items) (names_of key) ≡ false = ap (λ (n : List ℕ). list_any (bytes_eq n) (names_of key)) (sym name_is) ∙ t in
    ap (λ (ps : List Pair). value_of (map shown_pair ps) key) (front_is pairs i pair lt is) ∙ rw named refl
