-- The first fault in the order of keys.
use Rattle.std.proofs.Common.{◌≡◌, ℕ, List, [], filter_map, drop, Option, Some, None, Bool, true, false, if◌then◌else◌, unwrap_or, refl, ap, ◌∙◌}
use Rattle.std.specs.Option.{option_map_or}
use Rattle.formats.specs.declared.Key.{Key}
use Rattle.formats.specs.declared.Key.TheVariants.{NDims}
use Rattle.formats.specs.declared.HeadFault.{HeadFault}
use Rattle.formats.specs.declared.HeadFault.TheVariants.{BadValue, Missing}
use Rattle.formats.specs.Counts.{is_positive_count}
use Rattle.formats.specs.Heads.{keys, value_of, form_fault, dimensions}
use Rattle.std.specs.Str.Parse.{digits_value}
use Rattle.mha_read.specs.Faults.{first_of}
use Rattle.mha_read.proofs.LinesTaken.{some_same}

-- the first fault of the keys from one on
abbrev pub fault_from : Bool → (Key → Option HeadFault) → ℕ → Option HeadFault
fault_from world f i = first_of (filter_map f (drop i (keys world)))

-- where the dimensions have no fault, they are a count
pub record HasCount (pairs : List (List ℕ × List ℕ)) : Type 0 where
  pub value : List ℕ
  pub is : value_of pairs NDims ≡ Some value
  pub count : is_positive_count value ≡ true

pub dims_count : (pairs : List (List ℕ × List ℕ)) → form_fault pairs NDims ≡ None → HasCount pairs
unfolding form_fault
dims_count pairs none = by_value (value_of pairs NDims) refl none
  where
    by_value : (o : Option (List ℕ)) → value_of pairs NDims ≡ o → option_map_or (λ v. if is_positive_count v then None else Some (BadValue NDims)) o (Some (Missing NDims)) ≡ None → HasCount pairs
    by_value None e h = cc
    by_value (Some v) e h = record { value = v; is = e; count = by_test (is_positive_count v) h }
      where
        by_test : (b : Bool) → (if b then None else Some (BadValue NDims)) ≡ None → b ≡ true
        by_test true h = refl
        by_test false h = cc

pub dims_is : (pairs : List (List ℕ × List ℕ)) (v : List ℕ) (found : Option ℕ) → Some v ≡ value_of pairs NDims → found ≡ (if is_positive_count v then Some (digits_value 10 v) else None) → form_fault pairs NDims ≡ None → found ≡ Some (dimensions pairs)
dims_is pairs v found is found_is none =
    let h : HasCount pairs = dims_count pairs none in
    let same : v ≡ h.value = some_same v h.value (is ∙ h.is) in
    let t : is_positive_count v ≡ true = ap (λ (w : List ℕ). is_positive_count w) same ∙ h.count in
    found_is ∙ rw t refl ∙ ap (λ (o : Option (List ℕ)). Some (digits_value 10 (unwrap_or o []))) is

pub dims_there : (pairs : List (List ℕ × List ℕ)) → None ≡ value_of pairs NDims → form_fault pairs NDims ≡ None → ⊥
dims_there pairs is none =
    let h : HasCount pairs = dims_count pairs none in
    let e : None ≡ Some h.value = is ∙ h.is in
    cc
