-- What fetching a file by name returns: its bytes, or an error.
use Rattle.std.specs.Prelude.{◌≡◌, ◌⊎◌, ℕ, List, length, Option, Some, None, Result, Ok, Err, Vec, MatchResult, nat_le, if◌then◌else◌}
use Rattle.std.specs.declared.alloc.Global.{Global}
use Rattle.opgen_io.specs.declared.folder.FetchFault.{FetchFault}
use Rattle.opgen_io.specs.declared.folder.FetchFault.TheVariants.{Failed, TooLong, Memory}

-- the answer for a name by what stands under it: the bytes, if they are not more than `most`
abbrev pub fetched : Option (List ℕ) → ℕ → Result (List ℕ) FetchFault
fetched None most = Err Failed
fetched (Some bytes) most = if nat_le (length bytes) most then Ok bytes else Err TooLong

-- that fault was returned, or memory ran out, which may happen at any time
abbrev pub FetchFails : {X : Type 0} → Result X FetchFault → FetchFault → Type 0
FetchFails result fault = (result ≡ Err fault) ⊎ (result ≡ Err Memory)

-- that answer was given, its bytes in a vector, or memory ran out
abbrev pub IsAnswer : Result (Vec ℕ Global) FetchFault → Result (List ℕ) FetchFault → Type 0
IsAnswer result answer = MatchResult result (λ bytes. answer ≡ Ok bytes.items) (λ fault. (answer ≡ Err fault) ⊎ (fault ≡ Memory))
