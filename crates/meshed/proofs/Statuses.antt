-- Which status comes, where none of the causes of want stands.
use Rattle.std.proofs.Common.{◌≡◌, ◌≢◌, ◌⊎◌, ◌↔◌, inl, inr, ℕ, zero, suc, ◌<◌, refl, sym, subst, arith}
use Rattle.formats.specs.declared.Port.{Port}
use Rattle.formats.specs.declared.Port.TheVariants.{Trouble}
use Rattle.formats.specs.declared.Status.{Status}
use Rattle.formats.specs.declared.Status.TheVariants.{Done, BadWords, BadHeader, Unsupported, TooLarge, Truncated, ReadFault, WriteFault, NoMemory, TooManyTets, BadMesh, NotSound}
use Rattle.st_base.specs.Desk.{InputState, PortState}
use Rattle.stuff.specs.Ports.{HasNoFault}
use Rattle.desk_mem.specs.declared.mem.MemDesk.{MemDesk}
use Rattle.meshed.specs.declared.answer.Answer.{Answer}
use Rattle.meshed.specs.Answers.{Comes, LacksMemory}
use Rattle.meshed.specs.Taken.{IsTaken}

-- it tells no fault
abbrev Free : Status → Type 0
Free status = (status ≢ ReadFault) × ((p : Port) → status ≢ WriteFault p)

lacks_or_free : (status : Status) → LacksMemory status ⊎ Free status
lacks_or_free Done = inr (λ e. cc, λ p e. cc)
lacks_or_free (BadWords place) = inr (λ e. cc, λ p e. cc)
lacks_or_free (BadHeader fault) = inr (λ e. cc, λ p e. cc)
lacks_or_free (Unsupported key) = inr (λ e. cc, λ p e. cc)
lacks_or_free (TooLarge padded) = inr (λ e. cc, λ p e. cc)
lacks_or_free (Truncated got wanted) = inr (λ e. cc, λ p e. cc)
lacks_or_free ReadFault = inl tt
lacks_or_free (WriteFault port) = inl tt
lacks_or_free NoMemory = inl tt
lacks_or_free (TooManyTets tets) = inr (λ e. cc, λ p e. cc)
lacks_or_free (BadMesh file why) = inr (λ e. cc, λ p e. cc)
lacks_or_free (NotSound verdict) = inr (λ e. cc, λ p e. cc)

zero_of : (n : ℕ) → (0 < n → ⊥) → n ≡ 0
zero_of zero f = refl
zero_of (suc n) f = absurd (f (omega arith))

done_or_want : (status wanted : Status) → (status ≡ wanted) ⊎ (status ≡ NoMemory) → Comes status wanted
done_or_want status wanted (inl e) = inl e
done_or_want status wanted (inr e) = inr (subst LacksMemory (sym e) tt)

pub comes : (status wanted : Status) (input : InputState) (ports : Port → PortState) → (status ≡ ReadFault) ↔ (0 < input.faults) → ((p : Port) → p ≢ Trouble → (status ≡ WriteFault p) ↔ (0 < (ports p).faults))
    → (input.faults ≡ 0 → HasNoFault ports → (status ≡ wanted) ⊎ (status ≡ NoMemory)) → Comes status wanted
comes status wanted input ports read write completes = go (lacks_or_free status)
  where
    go : LacksMemory status ⊎ Free status → Comes status wanted
    go (inl lacks) = inr lacks
    go (inr free) = done_or_want status wanted (completes (zero_of input.faults (λ lt. free.0 (read.1 lt))) (λ p t. zero_of (ports p).faults (λ lt. free.1 p ((write p t).1 lt))))

-- the status is handed on
pub status_taken : (status : Status) (desk : MemDesk) (answer : Answer) → IsTaken status desk answer → answer.status ≡ status
status_taken Done desk answer h = h.status
status_taken (BadWords place) desk answer h = h.status_is
status_taken (BadHeader fault) desk answer h = h.status_is
status_taken (Unsupported key) desk answer h = h.status_is
status_taken (TooLarge padded) desk answer h = h.status_is
status_taken (Truncated got wanted) desk answer h = h.status_is
status_taken ReadFault desk answer h = h.status_is
status_taken (WriteFault port) desk answer h = h.status_is
status_taken NoMemory desk answer h = h.status_is
status_taken (TooManyTets tets) desk answer h = h.status_is
status_taken (BadMesh file why) desk answer h = h.status_is
status_taken (NotSound verdict) desk answer h = h.status_is
