-- What a command of `clap` finds, by what parsing gives.
use Rattle.std.proofs.Common.{◌≡◌, List, [], ◌∷◌, Some, None, refl, inl, inr}
use Rattle.clap.specs.Words.{HasKind, Kinds, Row, kind_of}
use Rattle.clap.specs.declared.error.Error.{Error}
use Rattle.clap.specs.declared.error.kind.ErrorKind.TheVariants.{OutOfMemory}
use Rattle.opgen_command.specs.Command.{unless_fault}

-- an error other than out of memory is a fault
pub usage_error : (kinds : Kinds) (found : List Row) (e : Error) → HasKind kinds e → (kind_of e ≡ OutOfMemory → ⊥)
    → unless_fault kinds found ≡ None
usage_error [] found e (inl memory) other = absurd (other memory)
usage_error [] found e (inr h) other = absurd h
usage_error (k ∷ ks) found e h other = refl

pub taken : (kinds : Kinds) (found rows : List Row) → kinds ≡ [] → rows ≡ found → unless_fault kinds found ≡ Some rows
taken kinds found rows none same = rw (none, same) refl
