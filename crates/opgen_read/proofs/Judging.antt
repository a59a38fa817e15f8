-- The fault of a text whose statements were read.
use Rattle.std.proofs.Common.{ℕ, List, Err}
use Rattle.opgen_vhdl.specs.Statements.{Reading}
use Rattle.opgen_vhdl.specs.Spelled.{Statements}
use Rattle.opgen_read.specs.declared.fault.ReadFault.{ReadFault}
use Rattle.opgen_read.specs.declared.fault.ReadFault.TheVariants.{Lexical, Syntax, TooLarge, Unsound, Memory}
use Rattle.opgen_read.specs.Answer.{IsWithinLimits, IsReadFault}
use Rattle.opgen_read.specs.Outcome.{IsOutcome}

pub judged_fault : (bytes : List ℕ) (r : Reading) (fault : ReadFault) → Statements bytes r → IsWithinLimits r.design
    → IsOutcome r.agrees r.design (Err fault) → IsReadFault bytes fault
judged_fault bytes r (Lexical offset) s w o = absurd o
judged_fault bytes r (Syntax piece) s w o = absurd o
judged_fault bytes r TooLarge s w o = absurd o
judged_fault bytes r (Unsound rule item) s w o = (r, s, w, o r.architecture)
judged_fault bytes r Memory s w o = tt
