-- What a desk means, and what its calls do to it. Bytes, texts and names are told by some desks and not by others: None is not told.
use Rattle.std.specs.Prelude.{◌≡◌, ◌≢◌, ℕ, ◌≤◌, List, [], ◌∷◌, ◌++◌, length, take, Bool, true, false, IfSome, Option, Some, if◌then◌else◌, ⊤}
use Rattle.std.specs.Io.KnownBytes.{Appends}
use Rattle.std.specs.Option.{option_map}
use Rattle.formats.specs.declared.Port.{Port}
use Rattle.formats.specs.declared.Port.TheVariants.{Node, Ele, Report, Trouble, Face, Neigh}

-- the input: whether one is open, the bytes that are left of it, and the count of its faults
pub record InputState : Type 0 where
  pub is_open : Bool
  pub left : Option (List ℕ)
  pub faults : ℕ

-- a port: whether it is open, its text, the name that it was opened with, and the count of its faults
pub record PortState : Type 0 where
  pub is_open : Bool
  pub text : Option (List ℕ)
  pub name : Option (List ℕ)
  pub faults : ℕ

-- a told list of names with one more at its end
abbrev pub with_name : Option (List (List ℕ)) → List ℕ → Option (List (List ℕ))
with_name tried name = option_map (λ names. names ++ name ∷ []) tried

-- a told list of names has this one more, or is as it was
abbrev pub MayTry : Option (List (List ℕ)) → Option (List (List ℕ)) → List ℕ → Type 0
MayTry old new name = (b : Bool) × (new ≡ (if b then with_name old name else old))

-- told bytes are the ones that are left
abbrev pub IsTold : Option (List ℕ) → Option (List ℕ) → Type 0
IsTold held left = IfSome held (λ bytes. left ≡ Some bytes)

-- the ports that are files
abbrev pub IsFile : Port → Type 0
IsFile Node = ⊤
IsFile Ele = ⊤
IsFile Report = ⊥
IsFile Trouble = ⊥
IsFile Face = ⊤
IsFile Neigh = ⊤

-- a port was opened with a name: a told text is empty, and a told name is this one
pub record BeginsAs (port : PortState) (name : List ℕ) : Type 0 where
  pub text : IfSome port.text (λ text. text ≡ [])
  pub name_is : IfSome port.name (λ told. told ≡ name)

-- a port is as it was, but for its faults
pub record SamePort (old new : PortState) : Type 0 where
  pub is_open : new.is_open ≡ old.is_open
  pub text : new.text ≡ old.text
  pub name : new.name ≡ old.name

-- the input is as it was, but for its faults
pub record SameInput (old new : InputState) : Type 0 where
  pub is_open : new.is_open ≡ old.is_open
  pub left : new.left ≡ old.left

-- a port as a desk begins with it: open or not, with no text where it is told, and no fault
pub record IsFresh (opened : Bool) (port : PortState) : Type 0 where
  pub is_open : port.is_open ≡ opened
  pub text : IfSome port.text (λ text. text ≡ [])
  pub faults : port.faults ≡ 0

-- a desk on which nothing was done yet
pub record IsStart (input : InputState) (ports : Port → PortState) (tried : Option (List (List ℕ))) : Type 0 where
  pub input_open : input.is_open ≡ false
  pub input_faults : input.faults ≡ 0
  pub node : IsFresh false (ports Node)
  pub ele : IsFresh false (ports Ele)
  pub report : IsFresh true (ports Report)
  pub trouble : IsFresh true (ports Trouble)
  pub face : IsFresh false (ports Face)
  pub neigh : IsFresh false (ports Neigh)
  pub none_tried : IfSome tried (λ names. names ≡ [])

-- a told text has grown by some front of the bytes
abbrev pub AppendsPart : Option (List ℕ) → Option (List ℕ) → List ℕ → Type 0
AppendsPart old new bytes = (n : ℕ) × (n ≤ length bytes) × Appends old new (take n bytes)

-- A port may have changed, and all else of a desk is as it was: the input, the other ports, the names that were opened, and what is held.
pub record KeepsAllButPort {S : Type 0} (input_of : S → InputState) (ports_of : S → Port → PortState) (tried_of : S → Option (List (List ℕ))) (held_of : S → List ℕ → Option (List ℕ)) (port : Port) (old new : S) : Type 0 where
  pub input : input_of new ≡ input_of old
  pub others : (p : Port) → p ≢ port → ports_of new p ≡ ports_of old p
  pub tried : tried_of new ≡ tried_of old
  pub held : (name : List ℕ) → held_of new name ≡ held_of old name

-- The input may have changed, and all else of a desk is as it was.
pub record KeepsAllButInput {S : Type 0} (ports_of : S → Port → PortState) (tried_of : S → Option (List (List ℕ))) (held_of : S → List ℕ → Option (List ℕ)) (old new : S) : Type 0 where
  pub ports : (p : Port) → ports_of new p ≡ ports_of old p
  pub tried : tried_of new ≡ tried_of old
  pub held : (name : List ℕ) → held_of new name ≡ held_of old name

-- A port and the names that were opened may have changed, and all else is as it was.
pub record KeepsAllButOpening {S : Type 0} (input_of : S → InputState) (ports_of : S → Port → PortState) (held_of : S → List ℕ → Option (List ℕ)) (port : Port) (old new : S) : Type 0 where
  pub input : input_of new ≡ input_of old
  pub others : (p : Port) → p ≢ port → ports_of new p ≡ ports_of old p
  pub held : (name : List ℕ) → held_of new name ≡ held_of old name

-- The input and the names that were opened may have changed, and all else is as it was.
pub record KeepsAllButOpeningInput {S : Type 0} (ports_of : S → Port → PortState) (held_of : S → List ℕ → Option (List ℕ)) (old new : S) : Type 0 where
  pub ports : (p : Port) → ports_of new p ≡ ports_of old p
  pub held : (name : List ℕ) → held_of new name ≡ held_of old name
