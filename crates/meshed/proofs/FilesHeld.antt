-- What files hold, by their names and bytes.
use Rattle.std.proofs.Common.{◌≡◌, ◌≢◌, ℕ, ◌+◌, List, [], ◌∷◌, Option, Some, None, Bool, true, false, length, length-append, codes, map, refl, ap, ◌∙◌, arith}
use Rattle.std.specs.Prelude.{if◌then◌else◌}
use Rattle.std.specs.Str.{bytes_eq}
use Rattle.std.proofs.lemmas.Slice.Eq.{bytes_eq-Decides}
use Rattle.formats.specs.declared.Port.{Port}
use Rattle.formats.specs.declared.Port.TheVariants.{Node, Ele}
use Rattle.file_audit.specs.Status.{node_name, ele_name}
use Rattle.stuff.specs.Outputs.{mesh_name}
use Rattle.stuff.specs.Ports.{mesh_files}
use Rattle.meshed.specs.declared.answer.File.{File}
use Rattle.meshed.specs.Files.{NamedBytes, held_in, named}

abbrev held_among : List NamedBytes → List ℕ → Option (List ℕ)
held_among [] name = None
held_among (b ∷ bs) name = if bytes_eq b.name name then Some b.bytes else held_among bs name

held_as_named : (files : List File) (name : List ℕ) → held_in files name ≡ held_among (map named files) name
held_as_named [] name = refl
held_as_named (file ∷ files) name = ap (λ (rest : Option (List ℕ)). if bytes_eq file.name.items name then Some file.bytes.items else rest) (held_as_named files name)

self : (name : List ℕ) → bytes_eq name name ≡ true
self name = (bytes_eq-Decides name name).1 refl

first_held : (name bytes : List ℕ) (rest : List NamedBytes) → held_among (record { name = name; bytes = bytes } ∷ rest) name ≡ Some bytes
first_held name bytes rest = ap (λ (b : Bool). if b then Some bytes else held_among rest name) (self name)

passed_over : (other name bytes : List ℕ) (rest : List NamedBytes) → other ≢ name → held_among (record { name = other; bytes = bytes } ∷ rest) name ≡ held_among rest name
passed_over other name bytes rest differ = go (bytes_eq other name) refl
  where
    go : (b : Bool) → bytes_eq other name ≡ b → (if bytes_eq other name then Some bytes else held_among rest name) ≡ held_among rest name
    go true e = absurd (differ ((bytes_eq-Decides other name).0 e))
    go false e = ap (λ (b : Bool). if b then Some bytes else held_among rest name) e

names_differ : (output : List ℕ) → node_name output ≢ ele_name output
names_differ output e =
    let node : length (node_name output) ≡ length output + 5 = length-append output (codes ".node") in
    let ele : length (ele_name output) ≡ length output + 4 = length-append output (codes ".ele") in
    let same : length (node_name output) ≡ length (ele_name output) = ap (λ (x : List ℕ). length x) e in
    omega (arith, node, ele, same)

-- the files of a mesh, with these texts, hold that of its nodes and that of its tetrahedra
pub record HoldsMesh (files : List File) (output : List ℕ) (text : Port → List ℕ) : Type 0 where
  pub nodes : held_in files (node_name output) ≡ Some (text Node)
  pub tets : held_in files (ele_name output) ≡ Some (text Ele)

holds_front : (files : List File) (output : List ℕ) (text : Port → List ℕ) (rest : List NamedBytes) → map named files ≡ record { name = node_name output; bytes = text Node } ∷ record { name = ele_name output; bytes = text Ele } ∷ rest → HoldsMesh files output text
holds_front files output text rest e = record {
  nodes = held_as_named files (node_name output) ∙ ap (λ (x : List NamedBytes). held_among x (node_name output)) e ∙ first_held (node_name output) (text Node) (record { name = ele_name output; bytes = text Ele } ∷ rest);
  tets =
      held_as_named files (ele_name output) ∙ ap (λ (x : List NamedBytes). held_among x (ele_name output)) e
      ∙ passed_over (node_name output) (ele_name output) (text Node) (record { name = ele_name output; bytes = text Ele } ∷ rest) (names_differ output) ∙ first_held (ele_name output) (text Ele) rest;
}

pub holds_mesh : (files : List File) (faces : Bool) (output : List ℕ) (text : Port → List ℕ) → map named files ≡ map (λ p. record { name = mesh_name output p; bytes = text p }) (mesh_files faces) → HoldsMesh files output text
holds_mesh files true output text e = holds_front files output text _ e
holds_mesh files false output text e = holds_front files output text [] e
