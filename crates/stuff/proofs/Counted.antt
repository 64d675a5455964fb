-- What the number of a mesh's tetrahedra comes to.
use Rattle.std.proofs.Common.{Bool, true, false, ◌≡◌, inl, inr, ℕ, ◌<◌, ◌≤◌, refl, ap, sym, subst, arith}
use Rattle.std.proofs.lemmas.Bool.{cases_lt, lt-ltb, le-ltb}
use Rattle.formats.specs.declared.Status.{Status}
use Rattle.formats.specs.declared.Status.TheVariants.{Done, NoMemory, TooManyTets}
use Rattle.stuff.specs.Ends.{MeshEnds}
use Rattle.stuff.specs.Outputs.{mesh_status}
use Rattle.stuff.specs.Ports.{IsAtOutput}

too_many_is : (n : ℕ) → 33554432 < n → mesh_status true n ≡ TooManyTets n
too_many_is n lt = rw (lt-ltb 33554432 n lt) refl

few_is : (n : ℕ) → n ≤ 33554432 → mesh_status true n ≡ Done
few_is n le = rw (le-ltb 33554432 n le) refl

-- faces and neighbours are asked for of too many
pub too_many_ends : (faces : Bool) (n tets : ℕ) → faces ≡ true → 33554432 < tets → tets ≡ n → MeshEnds (mesh_status faces n) (TooManyTets tets)
too_many_ends true n tets f lt e = subst (λ (s : Status). MeshEnds s (TooManyTets tets)) (sym (too_many_is n (omega (arith, lt, e)))) (inl (ap TooManyTets e))
too_many_ends false n tets f lt e = cc

-- they are not, or not of too many
pub few_end : (faces : Bool) (n : ℕ) (status : Status) → (faces ≡ true → n ≤ 33554432) → IsAtOutput status → MeshEnds (mesh_status faces n) status
few_end true n status few is = subst (λ (s : Status). MeshEnds s status) (sym (few_is n (few refl))) is
few_end false n status few is = is

pub few_is_done : (faces : Bool) (n : ℕ) → (faces ≡ true → n ≤ 33554432) → mesh_status faces n ≡ Done
few_is_done true n few = few_is n (few refl)
few_is_done false n few = refl

pub no_memory_ends : (faces : Bool) (n : ℕ) → MeshEnds (mesh_status faces n) NoMemory
no_memory_ends true n = elim (cases_lt 33554432 n) [
  | inl lt ↦ subst (λ (s : Status). MeshEnds s NoMemory) (sym (too_many_is n lt)) (inr refl)
  | inr le ↦ subst (λ (s : Status). MeshEnds s NoMemory) (sym (few_is n le)) tt
]
no_memory_ends false n = tt
