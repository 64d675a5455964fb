-- Four numbers of nodes as ranks, from what was read of them.
use Rattle.std.proofs.Common.{◌≡◌, ℕ, List, Bool, true, false, Some, None, Result, Ok, Err, if◌then◌else◌, refl, sym, ap, ◌∙◌}
use Rattle.mesh_files.specs.declared.LineFault.{LineFault}
use Rattle.mesh_files.specs.declared.LineFault.TheVariants.{Form, Node}

pub ranks_ok : (p : Bool) (ns numbers ranks : List ℕ) (q : List ℕ → Bool) (f : List ℕ → List ℕ) → (if p then Some ns else None) ≡ Some numbers → (if q numbers then Some (f numbers) else None) ≡ Some ranks → ◌≡◌ {A = Result (List ℕ) LineFault} (Ok ranks) (if p then (if q ns then Ok (f ns) else Err Node) else Err Form)
ranks_ok false ns numbers ranks q f e g = cc
ranks_ok true ns numbers ranks q f e g = let s : ns ≡ numbers = cc in go (q ns) (f ns) (ap (λ (v : List ℕ). if q v then Some (f v) else None) s ∙ g)
  where
    go : (b : Bool) (rs : List ℕ) → (if b then Some rs else None) ≡ Some ranks → ◌≡◌ {A = Result (List ℕ) LineFault} (Ok ranks) (if b then Ok rs else Err Node)
    go true rs h = let t : rs ≡ ranks = cc in ap Ok (sym t)
    go false rs h = cc

pub ranks_no_node : (p : Bool) (ns numbers : List ℕ) (q : List ℕ → Bool) (f : List ℕ → List ℕ) → (if p then Some ns else None) ≡ Some numbers → (if q numbers then Some (f numbers) else None) ≡ None → ◌≡◌ {A = Result (List ℕ) LineFault} (Err Node) (if p then (if q ns then Ok (f ns) else Err Node) else Err Form)
ranks_no_node false ns numbers q f e g = cc
ranks_no_node true ns numbers q f e g = let s : ns ≡ numbers = cc in go (q ns) (f ns) (ap (λ (v : List ℕ). if q v then Some (f v) else None) s ∙ g)
  where
    go : (b : Bool) (rs : List ℕ) → (if b then Some rs else None) ≡ None → ◌≡◌ {A = Result (List ℕ) LineFault} (Err Node) (if b then Ok rs else Err Node)
    go true rs h = cc
    go false rs h = refl

pub ranks_no_form : (p : Bool) (ns : List ℕ) (r : Result (List ℕ) LineFault) → (if p then Some ns else None) ≡ None → ◌≡◌ {A = Result (List ℕ) LineFault} (Err Form) (if p then r else Err Form)
ranks_no_form true ns r e = cc
ranks_no_form false ns r e = refl
