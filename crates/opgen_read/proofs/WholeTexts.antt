-- What the pieces of a whole text say of it.
use Rattle.std.specs.Prelude.{IfOk, IfErr, Result, Ok, Err}
use Rattle.std.proofs.Common.{◌≡◌, ℕ, ◌≤◌, List, length, refl, arith, subst}
use Rattle.opgen_vhdl.specs.declared.place.Place.TheVariants.{Library, End}
use Rattle.opgen_vhdl.specs.Spelled.{Statements, StopsAt, SyntaxAt}
use Rattle.opgen_vhdl.specs.Statements.{Reading, nothing, Follows}
use Rattle.opgen_vhdl.specs.Symbols.{symbols, pieces}
use Rattle.opgen_lex.specs.First.{HasTokens}
use Rattle.opgen_lex.specs.Left.{symbols_in}
use Rattle.opgen_read.specs.Outcome.{IsTextFault, HasFew}
use Rattle.opgen_read.specs.Reached.{IsPieceFault}
use Rattle.opgen_read.specs.declared.read.TheConstants.{MAX_TEXT_LEN}
use Rattle.opgen_read.specs.declared.fault.ReadFault.{ReadFault}
use Rattle.opgen_read.specs.declared.fault.ReadFault.TheVariants.{Lexical, Syntax, TooLarge, Unsound, Memory}
use Rattle.opgen_read.proofs.DriverCount.{few_drivers}
use Rattle.opgen_lex.proofs.SymbolsIn.{symbols_in-tokens, few_symbols}

module _ (bytes : List ℕ) (h : HasTokens bytes) where
  same : symbols_in bytes ≡ symbols bytes h.tokens
  same = symbols_in-tokens bytes h.tokens h.cut

  whole-read : (r : Reading) → Follows Library nothing (pieces (symbols_in bytes)) End r → Statements bytes r
  whole-read r f = record {
    tokens = h.tokens;
    cut = h.cut;
    follow = subst (λ ss. Follows Library nothing (pieces ss) End r) same f;
  }

  whole-stops : (k : ℕ) → StopsAt (pieces (symbols_in bytes)) k → SyntaxAt bytes k
  whole-stops k s = record { tokens = h.tokens; cut = h.cut; stop = subst (λ ss. StopsAt (pieces ss) k) same s }

  fault_of : (fault : ReadFault) → IsPieceFault (symbols_in bytes) fault → IsTextFault bytes fault
  fault_of (Lexical offset) f = absurd f
  fault_of (Syntax k) f = whole-stops k f
  fault_of TooLarge f = f
  fault_of (Unsound rule item) f = f
  fault_of Memory f = tt

  abbrev HasRead : Result (Unit {0}) ReadFault → Reading → Type 0
  HasRead read r = IfOk read (λ _. Follows Library nothing (pieces (symbols_in bytes)) End r)

  pub read_ok : (read : Result (Unit {0}) ReadFault) (r : Reading) → HasRead read r → IfOk read (λ _. Statements bytes r)
  read_ok (Ok x) r f = whole-read r f
  read_ok (Err e) r f = tt

  pub read_few : (read : Result (Unit {0}) ReadFault) (r : Reading) → HasRead read r → length bytes ≤ MAX_TEXT_LEN → IfOk read (λ _. HasFew r.design)
  read_few (Ok x) r f few = omega (arith, few_drivers (symbols_in bytes) f refl, few_symbols bytes, few)
  read_few (Err e) r f few = tt

  pub read_err : (read : Result (Unit {0}) ReadFault) → IfErr read (IsPieceFault (symbols_in bytes)) → IfErr read (IsTextFault bytes)
  read_err (Ok x) f = tt
  read_err (Err e) f = fault_of e f
