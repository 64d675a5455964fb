-- The files of a mesh in the order in which they are opened.
use Rattle.std.proofs.Common.{◌≡◌, ◌+◌, ◌<◌, ℕ, zero, suc, Bool, true, false, List, [], ◌∷◌, ◌++◌, map, length, get_or, take, Option, refl, ap, sym, ◌∙◌, subst, arith}
use Rattle.std.specs.Prelude.{IsTrue}
use Rattle.std.proofs.lemmas.List.{get_or-map, length-map, take_more}
use Rattle.formats.specs.declared.Port.{Port}
use Rattle.formats.specs.declared.Port.TheVariants.{Node, Ele, Report, Trouble, Face, Neigh}
use Rattle.st_base.specs.Desk.{IsFile, MayTry, with_name}
use Rattle.stuff.specs.declared.outputs.MeshFile.{MeshFile}
use Rattle.stuff.specs.Ports.{is_among, mesh_files, turn}
use Rattle.stuff.specs.Outputs.{mesh_name}
use Rattle.file_audit.specs.Status.{GrowsAlong, with_names}
use Rattle.stuff.specs.Writing.{names_of, ports_of}
use Rattle.file_audit.proofs.Tried.{joined_names}

-- a file of a mesh at its turn
pub record IsAt (faces : Bool) (n : ℕ) (p : Port) : Type 0 where
  pub turn_is : turn p ≡ n
  pub file : IsFile p
  pub among : IsTrue (is_among (mesh_files faces) p)
  pub early : n < 4

port_is_at : (faces : Bool) (n : ℕ) (d : Port) → n < length (mesh_files faces) → IsAt faces n (get_or (mesh_files faces) n d)
port_is_at true zero d lt = record { turn_is = refl; file = tt; among = refl; early = omega arith }
port_is_at true (suc zero) d lt = record { turn_is = refl; file = tt; among = refl; early = omega arith }
port_is_at true (suc (suc zero)) d lt = record { turn_is = refl; file = tt; among = refl; early = omega arith }
port_is_at true (suc (suc (suc zero))) d lt = record { turn_is = refl; file = tt; among = refl; early = omega arith }
port_is_at true (suc (suc (suc (suc n)))) d lt = absurd (omega (arith, lt))
port_is_at false zero d lt = record { turn_is = refl; file = tt; among = refl; early = omega arith }
port_is_at false (suc zero) d lt = record { turn_is = refl; file = tt; among = refl; early = omega arith }
port_is_at false (suc (suc n)) d lt = absurd (omega (arith, lt))

-- all of them come before the last turn
pub last_turn : (faces : Bool) (p : Port) → IsTrue (is_among (mesh_files faces) p) → turn p < length (mesh_files faces)
last_turn true Node m = omega arith
last_turn true Ele m = omega arith
last_turn true Report m = cc
last_turn true Trouble m = cc
last_turn true Face m = omega arith
last_turn true Neigh m = omega arith
last_turn false Node m = omega arith
last_turn false Ele m = omega arith
last_turn false Report m = cc
last_turn false Trouble m = cc
last_turn false Face m = cc
last_turn false Neigh m = cc

pub node_among : (faces : Bool) → IsTrue (is_among (mesh_files faces) Node)
node_among true = refl
node_among false = refl

pub ele_among : (faces : Bool) → IsTrue (is_among (mesh_files faces) Ele)
ele_among true = refl
ele_among false = refl

pub face_among : (faces : Bool) → faces ≡ true → IsTrue (is_among (mesh_files faces) Face)
face_among true e = refl
face_among false e = cc

pub neigh_among : (faces : Bool) → faces ≡ true → IsTrue (is_among (mesh_files faces) Neigh)
neigh_among true e = refl
neigh_among false e = cc

pub four_files : (faces : Bool) → faces ≡ true → 4 ≡ length (mesh_files faces)
four_files true e = refl
four_files false e = cc

module _ (files : List MeshFile) (faces : Bool) (ports : ports_of files ≡ mesh_files faces) where
  pub same_length : length files ≡ length (mesh_files faces)
  same_length = sym (length-map files (λ (f : MeshFile). f.port)) ∙ ap (λ (ps : List Port). length ps) ports

  module _ (n : ℕ) (d : MeshFile) (lt : n < length files) where
    port_of : (get_or files n d).port ≡ get_or (mesh_files faces) n d.port
    port_of = sym (get_or-map (λ (f : MeshFile). f.port) files n d d.port lt) ∙ ap (λ (ps : List Port). get_or ps n d.port) ports

    pub file_is_at : (f : MeshFile) → f ≡ get_or files n d → IsAt faces n f.port
    file_is_at f is = subst (λ (p : Port). IsAt faces n p) (sym (ap (λ (m : MeshFile). m.port) is ∙ port_of)) (port_is_at faces n d.port (omega (arith, lt, same_length)))

    pub name_is : (output : List ℕ) → names_of files ≡ map (mesh_name output) (mesh_files faces) → (get_or files n d).name.items ≡ mesh_name output (get_or files n d).port
    name_is output names =
        sym (get_or-map (λ (f : MeshFile). f.name.items) files n d [] lt)
        ∙ (ap (λ (xs : List (List ℕ)). get_or xs n []) names ∙ get_or-map (mesh_name output) (mesh_files faces) n d.port [] (omega (arith, lt, same_length)))
        ∙ ap (mesh_name output) (sym port_of)

-- one more name was tried
pub one_more_name : (files : List MeshFile) (n : ℕ) (d : MeshFile) (old now later : Option (List (List ℕ))) → n < length files
    → now ≡ with_names old (take n (names_of files)) → later ≡ with_name now (get_or files n d).name.items → later ≡ with_names old (take (n + 1) (names_of files))
one_more_name files n d old now later lt e f =
    f
    ∙ ap (λ (t : Option (List (List ℕ))). with_names t ((get_or files n d).name.items ∷ [])) e
    ∙ joined_names old (take n (names_of files)) ((get_or files n d).name.items ∷ [])
    ∙ ap (with_names old)
    (ap (λ (x : List ℕ). take n (names_of files) ++ x ∷ []) (sym (get_or-map (λ (g : MeshFile). g.name.items) files n d [] lt))
    ∙ sym (take_more (names_of files) n [] (omega (arith, lt, length-map files (λ (g : MeshFile). g.name.items)))))

-- perhaps one more
pub perhaps_one_more : (files : List MeshFile) (n : ℕ) (d : MeshFile) (old now later : Option (List (List ℕ))) → n < length files
    → now ≡ with_names old (take n (names_of files)) → MayTry now later (get_or files n d).name.items → GrowsAlong (names_of files) old later
perhaps_one_more files n d old now later lt e (true, f) = (n + 1, one_more_name files n d old now later lt e f)
perhaps_one_more files n d old now later lt e (false, f) = (n, f ∙ e)
