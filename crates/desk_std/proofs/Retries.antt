-- Calls that are made again where they were interrupted: known bytes stay until the last one.
use Rattle.std.proofs.Common.{◌≡◌, ℕ, List, [], ◌++◌, take, Option, None, Some, Result, Ok, Err, IfOk, IsErr, MatchResult, sym, ap, ◌∙◌, subst, append-nil}
use Rattle.std.specs.Io.KnownBytes.{ReadConsumes, WriteAppends, Keeps, Appends, Consumes}
use Rattle.std.proofs.KnownBytes.{Keeps-trans}

Consumes-after : (a b c : Option (List ℕ)) (bytes : List ℕ) → Keeps a b → Consumes b c bytes → Consumes a c bytes
Consumes-after None b c bytes kept moved = tt
Consumes-after (Some x) None c bytes kept moved = absurd kept
Consumes-after (Some x) (Some y) None bytes kept moved = absurd moved
Consumes-after (Some x) (Some y) (Some z) bytes kept moved = sym kept ∙ moved

Appends-after : (a b c : Option (List ℕ)) (bytes : List ℕ) → Keeps a b → Appends b c bytes → Appends a c bytes
Appends-after None b c bytes kept moved = tt
Appends-after (Some x) None c bytes kept moved = absurd kept
Appends-after (Some x) (Some y) None bytes kept moved = absurd moved
Appends-after (Some x) (Some y) (Some z) bytes kept moved = moved ∙ ap (λ front. front ++ bytes) kept

Appends-nil-keeps : (a b : Option (List ℕ)) → Appends a b [] → Keeps a b
Appends-nil-keeps None b moved = tt
Appends-nil-keeps (Some x) None moved = absurd moved
Appends-nil-keeps (Some x) (Some y) moved = moved ∙ append-nil x

-- a read that failed left the bytes
pub read_failed : {E : Type 0} (a b c : Option (List ℕ)) (r : Result ℕ E) (bytes : List ℕ) → Keeps a b → ReadConsumes b c r bytes → IsErr r → Keeps a c
read_failed a b c (Ok n) bytes kept moved failed = (cc)
read_failed a b c (Err e) bytes kept moved failed = Keeps-trans a b c kept moved

-- the last read is what all of them did
pub read_settled : {E D : Type 0} (a b c : Option (List ℕ)) (r : Result ℕ E) (done : Result ℕ D) (bytes : List ℕ)
    → Keeps a b → ReadConsumes b c r bytes → MatchResult done (λ n. r ≡ Ok n) (λ _. IsErr r) → ReadConsumes a c done bytes
read_settled a b c r (Ok n) bytes kept moved is =
    let last = subst (λ answer. ReadConsumes b c answer bytes) is moved in
    (Consumes-after a b c (take n bytes) kept last.0, last.1)
read_settled a b c r (Err e) bytes kept moved is = read_failed a b c r bytes kept moved is

-- a write that failed left the bytes
pub write_failed : {E : Type 0} (a b c : Option (List ℕ)) (r : Result ℕ E) (bytes : List ℕ) → Keeps a b → WriteAppends b c r bytes → IsErr r → Keeps a c
write_failed a b c (Ok n) bytes kept moved failed = (cc)
write_failed a b c (Err e) bytes kept moved failed = Keeps-trans a b c kept moved

-- a write that took nothing is as one that failed
pub write_taken : {D : Type 0} (a b : Option (List ℕ)) (done result : Result ℕ D) (bytes : List ℕ)
    → WriteAppends a b done bytes → MatchResult result (λ n. done ≡ Ok n) (λ _. IfOk done (λ n. n ≡ 0)) → WriteAppends a b result bytes
write_taken a b done (Ok n) bytes moved is = subst (λ answer. WriteAppends a b answer bytes) is moved
write_taken a b (Ok n) (Err e) bytes moved is = Appends-nil-keeps a b (subst (λ count. Appends a b (take count bytes)) is moved)
write_taken a b (Err d) (Err e) bytes moved is = moved

-- the last write is what all of them did
pub write_settled : {E D : Type 0} (a b c : Option (List ℕ)) (r : Result ℕ E) (done : Result ℕ D) (bytes : List ℕ)
    → Keeps a b → WriteAppends b c r bytes → MatchResult done (λ n. r ≡ Ok n) (λ _. IsErr r) → WriteAppends a c done bytes
write_settled a b c r (Ok n) bytes kept moved is =
    let last = subst (λ answer. WriteAppends b c answer bytes) is moved in
    Appends-after a b c (take n bytes) kept last
write_settled a b c r (Err e) bytes kept moved is = write_failed a b c r bytes kept moved is
