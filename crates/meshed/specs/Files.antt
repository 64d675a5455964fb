-- Files as names and bytes, and those that a command makes.
use Rattle.std.specs.Prelude.{ℕ, List, [], ◌∷◌, Option, Some, None, if◌then◌else◌, map}
use Rattle.std.specs.Str.{bytes_eq}
use Rattle.definitions.specs.Values.{Field}
use Rattle.formats.specs.declared.Axis.{Axis}
use Rattle.formats.specs.declared.Port.{Port}
use Rattle.formats.specs.declared.Port.TheVariants.{Node, Ele, Face, Neigh}
use Rattle.command_line.specs.Grammar.{Command}
use Rattle.stuff.specs.Outputs.{file_name, files_of, text_of}
use Rattle.meshed.specs.declared.answer.File.{File}

-- the bytes of the first file that has this name
abbrev pub held_in : List File → List ℕ → Option (List ℕ)
held_in [] name = None
held_in (file ∷ files) name = if bytes_eq file.name.items name then Some file.bytes.items else held_in files name

-- a name, and the bytes under it
pub record NamedBytes : Type 0 where
  pub name : List ℕ
  pub bytes : List ℕ

abbrev pub named : File → NamedBytes
named file = record { name = file.name.items; bytes = file.bytes.items }

-- the files that a command makes of the axes and the field of a volume: those of a mesh, or none
abbrev pub files_made : List (List ℕ) → Command → List Axis → Field → List NamedBytes
files_made words c axes f = map (λ p. record { name = file_name words c p; bytes = text_of c axes f p }) (files_of c)

-- the files whose names were tried behind that of an input, with the texts of the ports
abbrev pub files_tried : List (List ℕ) → (Port → List ℕ) → List NamedBytes
files_tried (input ∷ node ∷ ele ∷ []) text = record { name = node; bytes = text Node } ∷ record { name = ele; bytes = text Ele } ∷ []
files_tried (input ∷ node ∷ ele ∷ face ∷ neigh ∷ []) text =
    record { name = node; bytes = text Node } ∷ record { name = ele; bytes = text Ele } ∷ record { name = face; bytes = text Face } ∷ record { name = neigh; bytes = text Neigh } ∷ []
files_tried names text = []
