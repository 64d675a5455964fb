-- What the lines behind the first one say, line by line.
use Rattle.std.proofs.Common.{◌≡◌, ℕ, ◌+◌, ◌<◌, ◌≤◌, List, [], ◌∷◌, ◌++◌, length, filter_map, Bool, ltb, if◌then◌else◌, Option, Some, None, Result, Ok, Err, sym, ap, ◌∙◌, arith}
use Rattle.std.proofs.lemmas.Bool.{lt-ltb, le-ltb}
use Rattle.std.proofs.lemmas.List.{append-nil, append_assoc}
use Rattle.std.specs.List.{scan}
use Rattle.formats.specs.declared.MeshFault.{MeshFault}
use Rattle.formats.specs.declared.MeshFault.TheVariants.{BadLine, EndsEarly}
use Rattle.mesh_files.specs.declared.LineFault.{LineFault}
use Rattle.mesh_files.specs.Lines.{Line}
use Rattle.mesh_files.specs.Files.{fault_of, item_of, judged, faults_from, items_from, first_fault_or, items_or_fault}

-- what the lines say from line i on, where those before it said this
abbrev pub gone_on : {X : Type 0} → (ℕ → List (List ℕ) → Result X LineFault) → ℕ → ℕ → List X → List Line → Result (List X) MeshFault
gone_on read count i done ls =
    first_fault_or
    (if ltb (i + length ls) count then Err (EndsEarly (1 + (i + length ls)) (1 + count)) else Ok (done ++ items_from read i ls))
    (faults_from read count i ls)

pub read_start : {X : Type 0} (read : ℕ → List (List ℕ) → Result X LineFault) (count : ℕ) (ls : List Line) → items_or_fault read count ls ≡ gone_on read count 0 [] ls
read_start read count ls =
    let e : length ls ≡ 0 + length ls = omega arith in
    λ k. first_fault_or (if ltb (e k) count then Err (EndsEarly (1 + e k) (1 + count)) else Ok (items_from read 0 ls)) (faults_from read count 0 ls)

abbrev cons_some : {Y : Type 0} → Option Y → List Y → List Y
cons_some None ys = ys
cons_some (Some y) ys = y ∷ ys

fault_here : {X : Type 0} (read : ℕ → List (List ℕ) → Result X LineFault) (count i : ℕ) (l : Line) (r : Result X LineFault) → i < count → read i l.fields ≡ r → judged read count i l ≡ fault_of l.place r
fault_here read count i l r lt e = ap (λ (b : Bool). if b then fault_of l.place (read i l.fields) else Some (BadLine l.place)) (lt-ltb i count lt) ∙ ap (fault_of l.place) e

faults_step : {X : Type 0} (read : ℕ → List (List ℕ) → Result X LineFault) (count i : ℕ) (l : Line) (ls : List Line) (f : Option MeshFault) → judged read count i l ≡ f → faults_from read count i (l ∷ ls) ≡ cons_some f (faults_from read count (i + 1) ls)
faults_step read count i l ls None e = ap (λ (o : Option MeshFault). filter_map (λ (f : Option MeshFault). f) (o ∷ scan (λ n x. n + 1) (judged read count) (i + 1) ls)) e
faults_step read count i l ls (Some fault) e = ap (λ (o : Option MeshFault). filter_map (λ (f : Option MeshFault). f) (o ∷ scan (λ n x. n + 1) (judged read count) (i + 1) ls)) e

items_step : {X : Type 0} (read : ℕ → List (List ℕ) → Result X LineFault) (i : ℕ) (l : Line) (ls : List Line) (x : X) → read i l.fields ≡ Ok x → items_from read i (l ∷ ls) ≡ x ∷ items_from read (i + 1) ls
items_step {X} read i l ls x e = ap (λ (r : Result X LineFault). filter_map item_of (r ∷ scan (λ n x. n + 1) (λ n x. read n x.fields) (i + 1) ls)) e

-- a line that says something
pub read_more : {X : Type 0} (read : ℕ → List (List ℕ) → Result X LineFault) (count i : ℕ) (done : List X) (l : Line) (ls : List Line) (x : X) → i < count → read i l.fields ≡ Ok x → gone_on read count i done (l ∷ ls) ≡ gone_on read count (i + 1) (done ++ x ∷ []) ls
read_more read count i done l ls x lt e =
    let n : i + length (l ∷ ls) ≡ i + 1 + length ls = omega arith in
    let items : done ++ items_from read i (l ∷ ls) ≡ (done ++ x ∷ []) ++ items_from read (i + 1) ls = ap (λ ys. done ++ ys) (items_step read i l ls x e) ∙ sym (append_assoc done (x ∷ []) (items_from read (i + 1) ls)) in
    let faults : faults_from read count i (l ∷ ls) ≡ faults_from read count (i + 1) ls = faults_step read count i l ls None (fault_here read count i l (Ok x) lt e) in
    λ k. first_fault_or (if ltb (n k) count then Err (EndsEarly (1 + n k) (1 + count)) else Ok (items k)) (faults k)

-- no line is left, and all were wanted
pub read_all : {X : Type 0} (read : ℕ → List (List ℕ) → Result X LineFault) (count i : ℕ) (done : List X) → count ≤ i → gone_on read count i done [] ≡ Ok done
read_all read count i done le =
    let n : i + 0 ≡ i = omega arith in
    (λ k. if ltb (n k) count then Err (EndsEarly (1 + n k) (1 + count)) else Ok (append-nil done k))
    ∙ ap (λ (b : Bool). if b then Err (EndsEarly (1 + i) (1 + count)) else Ok done) (le-ltb i count le)
