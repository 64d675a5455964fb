-- The bytes that a list of inputs holds under a name.
use Rattle.std.specs.Prelude.{ℕ, List, [], ◌∷◌, Option, Some, None, if◌then◌else◌}
use Rattle.std.specs.Str.{bytes_eq}
use Rattle.desk_mem.specs.declared.held.Held.{Held}

-- the bytes of the first that has this name
abbrev pub held_under : List Held → List ℕ → Option (List ℕ)
held_under [] name = None
held_under (h ∷ hs) name = if bytes_eq h.name.items name then Some h.bytes.items else held_under hs name
