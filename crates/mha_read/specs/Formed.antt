-- Values of which a number is asked.
use Rattle.std.specs.Prelude.{◌≡◌, ℕ, List, true, ⊤}
use Rattle.formats.specs.declared.Key.{Key}
use Rattle.formats.specs.declared.Key.TheVariants.{NDims, Channels}
use Rattle.formats.specs.Counts.{is_count}

-- a value of a key that has a number is a count
abbrev pub HasNumber : Key → List ℕ → Type 0
HasNumber NDims value = is_count value ≡ true
HasNumber Channels value = is_count value ≡ true
HasNumber key value = ⊤
