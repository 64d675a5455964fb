-- Pairs without a fault.
use Rattle.std.proofs.Common.{◌≡◌, ℕ, ◌<◌, ◌≤◌, List, [], ◌∷◌, length, filter_map, map, Option, Some, None, Bool, true, false, ◌==◌, if◌then◌else◌, unwrap_or, refl, ap, sym, ◌∙◌, arith, lit<, lit≤, get_or, zero, suc}
use Rattle.std.proofs.lemmas.Grind.{common_steps}
use Rattle.std.specs.Option.{option_map_or}
use Rattle.std.specs.Prelude.{⊤}
use Rattle.std.specs.List.{list_all, cons_option}
use Rattle.std.specs.Str.Parse.{digits_value}
use Rattle.std.proofs.lemmas.Bool.{and_parts}
use Rattle.formats.specs.declared.Key.{Key}
use Rattle.formats.specs.declared.Key.TheVariants.{ObjectType, NDims, BinaryData, ByteOrder, CompressedData, Channels, DimSize, ElementType, DataFile, Spacing, Offset}
use Rattle.formats.specs.declared.HeadFault.{HeadFault}
use Rattle.formats.specs.declared.HeadFault.TheVariants.{BadValue, Missing, Unsupported}
use Rattle.formats.specs.Counts.{is_count, is_positive_count}
use Rattle.formats.specs.Heads.{keys, value_of, words_of, form_fault, refusal, is_well_formed, is_required, is_supported, dimensions, head_of_pairs}
use Rattle.mha_read.specs.Faults.{AreFormed, AreSupported}
use Rattle.mha_read.specs.Formed.{HasNumber}
use Rattle.mha_read.specs.RawSizes.{first_three}
use Rattle.mha_read.proofs.FirstFaults.{HasCount, dims_count}
use Rattle.mha_read.proofs.ValueWords.{three_sizes}

cons_none : {A : Type 0} (o : Option A) (xs : List A) → cons_option o xs ≡ [] → (o ≡ None) × (xs ≡ [])
cons_none None xs e = (refl, e)
cons_none (Some x) xs e = cc

none_at : (f : Key → Option HeadFault) (ks : List Key) (i : ℕ) (d : Key) → filter_map f ks ≡ [] → i < length ks → f (get_or ks i d) ≡ None
none_at f [] i d e lt = absurd (omega arith)
none_at f (k ∷ ks) zero d e lt = (cons_none (f k) (filter_map f ks) e).0
none_at f (k ∷ ks) (suc i) d e lt = none_at f ks i d (cons_none (f k) (filter_map f ks) e).1 (omega arith)

-- a key that is looked at
abbrev pub IsKey : Bool → Key → Type 0
IsKey world Spacing = world ≡ true
IsKey world Offset = world ≡ true
IsKey world key = ⊤

nine : (world : Bool) → 9 ≤ length (keys world)
nine true = lit≤ tt
nine false = lit≤ tt

-- a key has no fault where none has
none_of : (world : Bool) (f : Key → Option HeadFault) (key : Key) → IsKey world key → filter_map f (keys world) ≡ [] → f key ≡ None
none_of world f ObjectType is e = none_at f (keys world) 0 ObjectType e (omega (arith, nine world))
none_of world f NDims is e = none_at f (keys world) 1 ObjectType e (omega (arith, nine world))
none_of world f BinaryData is e = none_at f (keys world) 2 ObjectType e (omega (arith, nine world))
none_of world f ByteOrder is e = none_at f (keys world) 3 ObjectType e (omega (arith, nine world))
none_of world f CompressedData is e = none_at f (keys world) 4 ObjectType e (omega (arith, nine world))
none_of world f Channels is e = none_at f (keys world) 5 ObjectType e (omega (arith, nine world))
none_of world f DimSize is e = none_at f (keys world) 6 ObjectType e (omega (arith, nine world))
none_of world f ElementType is e = none_at f (keys world) 7 ObjectType e (omega (arith, nine world))
none_of world f DataFile is e = none_at f (keys world) 8 ObjectType e (omega (arith, nine world))
none_of true f Spacing is e = none_at f (keys true) 9 ObjectType e (lit< tt)
none_of false f Spacing is e = cc
none_of true f Offset is e = none_at f (keys true) 10 ObjectType e (lit< tt)
none_of false f Offset is e = cc

passes : (b : Bool) (fault : HeadFault) → (if b then None else Some fault) ≡ None → b ≡ true
passes true fault e = refl
passes false fault e = cc

pub formed_value : (world : Bool) (pairs : List (List ℕ × List ℕ)) (key : Key) (v : List ℕ) → IsKey world key → AreFormed world pairs → Some v ≡ value_of pairs key → is_well_formed pairs key v ≡ true
unfolding form_fault
formed_value world pairs key v key_is formed is =
    let none : option_map_or (λ w. if is_well_formed pairs key w then None else Some (BadValue key)) (value_of pairs key) (if is_required key then Some (Missing key) else None) ≡ None = none_of world (form_fault pairs) key key_is formed.none in
    passes (is_well_formed pairs key v) (BadValue key) (ap (λ (o : Option (List ℕ)). option_map_or (λ w. if is_well_formed pairs key w then None else Some (BadValue key)) o (if is_required key then Some (Missing key) else None)) is ∙ none)

pub sizes_there : (world : Bool) (pairs : List (List ℕ × List ℕ)) → AreFormed world pairs → None ≡ value_of pairs DimSize → ⊥
unfolding form_fault
sizes_there world pairs formed is =
    let none : option_map_or (λ w. if is_well_formed pairs DimSize w then None else Some (BadValue DimSize)) (value_of pairs DimSize) (Some (Missing DimSize)) ≡ None = none_of world (form_fault pairs) DimSize tt formed.none in
    let e : Some (Missing DimSize) ≡ None = ap (λ (o : Option (List ℕ)). option_map_or (λ w. if is_well_formed pairs DimSize w then None else Some (BadValue DimSize)) o (Some (Missing DimSize))) is ∙ none in
    cc

pub supported_value : (world : Bool) (pairs : List (List ℕ × List ℕ)) (key : Key) (v : List ℕ) → IsKey world key → AreSupported world pairs → Some v ≡ value_of pairs key → is_supported key v ≡ true
unfolding refusal
supported_value world pairs key v key_is supported is =
    let none : option_map_or (λ w. if is_supported key w then None else Some (Unsupported key)) (value_of pairs key) None ≡ None = none_of world (refusal pairs) key key_is supported.none in
    passes (is_supported key v) (Unsupported key) (ap (λ (o : Option (List ℕ)). option_map_or (λ w. if is_supported key w then None else Some (Unsupported key)) o None) is ∙ none)

pub has_number : (world : Bool) (pairs : List (List ℕ × List ℕ)) (key : Key) (v : List ℕ) → AreFormed world pairs → Some v ≡ value_of pairs key → HasNumber key v
has_number world pairs NDims v formed is = (and_parts (is_count v) _ (formed_value world pairs NDims v tt formed is)).0
has_number world pairs Channels v formed is = formed_value world pairs Channels v tt formed is
has_number world pairs key v formed is = tt

pub equal : (a b : ℕ) → (a == b) ≡ true → a ≡ b
equal a b e = grind (arith, common_steps)

pub three_dims : (world : Bool) (pairs : List (List ℕ × List ℕ)) → AreFormed world pairs → AreSupported world pairs → dimensions pairs ≡ 3
three_dims world pairs formed supported =
    let h : HasCount pairs = dims_count pairs (none_of world (form_fault pairs) NDims tt formed.none) in
    ap (λ (o : Option (List ℕ)). digits_value 10 (unwrap_or o [])) h.is ∙ equal (digits_value 10 h.value) 3 (supported_value world pairs NDims h.value tt supported (sym h.is))

pub sizes_are : (world : Bool) (pairs : List (List ℕ × List ℕ)) (v : List ℕ) → AreFormed world pairs → AreSupported world pairs → Some v ≡ value_of pairs DimSize → first_three (words_of v) ≡ Some (head_of_pairs world pairs).raw
unfolding head_of_pairs
sizes_are world pairs v formed supported is =
    let f = and_parts (length (words_of v) == dimensions pairs) (list_all is_positive_count (words_of v)) (formed_value world pairs DimSize v tt formed is) in
    three_sizes (words_of v) f.1 (equal (length (words_of v)) (dimensions pairs) f.0 ∙ three_dims world pairs formed supported)
    ∙ ap (λ (o : Option (List ℕ)). Some (map (digits_value 10) (words_of (unwrap_or o [])))) is

pub some_sizes : (world : Bool) (pairs : List (List ℕ × List ℕ)) (v : List ℕ) → AreFormed world pairs → AreSupported world pairs → Some v ≡ value_of pairs DimSize → None ≡ first_three (words_of v) → ⊥
some_sizes world pairs v formed supported is none =
    let e : None ≡ Some (head_of_pairs world pairs).raw = none ∙ sizes_are world pairs v formed supported is in
    cc
