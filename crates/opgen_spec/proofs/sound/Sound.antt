-- What is proved of each kind in a file of its own.
use Rattle.std.proofs.Common.{◌≡◌, ◌≤◌, ℕ, true, List, [], Some, is_some, arith}
use Rattle.std.specs.Prelude.{IsTrue}
use Rattle.toml.specs.Data.{Members}
use Rattle.opgen_operator.specs.declared.kind.Kind.{Kind}
use Rattle.opgen_ports.specs.Modes.{mode_of_exact}
use Rattle.opgen_ports.specs.declared.ports.PortFormat.{PortFormat}
use Rattle.opgen_operator.specs.Operator.{HasInputsWithin, given_names, marks_exact, may_be_cut, IsOperator, IsInVersion}
use Rattle.opgen_operator.specs.Operator as operators
use Rattle.opgen_operator.specs.GivenNames.{AreGivenNames}
use Rattle.opgen_operator.specs.Valid.{AgreesOnExact}
use Rattle.opgen_operator.proofs.Listed.{given_by}
use Rattle.opgen_document.specs.declared.key.Key.TheVariants as key
use Rattle.opgen_document.specs.declared.key.Version.{Version}
use Rattle.opgen_document.specs.Document.{value_at, text_at, flag_at, count_at, version_of}
use Rattle.opgen_document.specs.Keys.{may_be}
use Rattle.opgen_document.specs.Ranges.{out_width_outside}
use Rattle.opgen_entries.specs.kinds.{kind_of, entry, IsOperatorAsWritten}
use Rattle.opgen_spec.proofs.Fine.{AreFine}
use Rattle.opgen_spec.proofs.Ranges.{widest}
use Rattle.opgen_spec.proofs.Versions.{IsEarly}

-- no input has more bits than the version lets it have
abbrev pub IsFew : Members → PortFormat → Type 0
IsFew ms p = p.format.width ≤ widest ms

-- a kind whose output may have a chosen width in a version
pub record IsChosen (one : Kind) (version : Version) : Type 0 where
  pub late : IsEarly version → ⊥
  pub value : (ms : Members) → may_be_cut ((entry one).make ms) ≡ true
  pub range : (ms : Members) → (entry one).key_outside ms key.OutWidth ≡ out_width_outside ms

-- a kind whose inputs are not named by the document
pub none_given : (name : List ℕ) → AreGivenNames name []
none_given name =
    given_by name [] (λ k d below. absurd (omega (arith, below))) (λ k d below. absurd (omega (arith, below)))
    (λ i j d before below. absurd (omega (arith, below)))

pub record IsSound (one : Kind) : Type 0 where
  -- the operator has the kind for which it is read
  pub kind_is : (ms : Members) → operators.kind ((entry one).make ms) ≡ one
  -- in a document without a fault its fields are in range, and are those that the document writes
  pub ranges : (ms : Members) → AreFine ms → kind_of ms ≡ Some one → IsOperator ((entry one).make ms)
  pub inputs : (ms : Members) → AreFine ms → kind_of ms ≡ Some one → HasInputsWithin (widest ms) ((entry one).make ms)
  pub written : (ms : Members) → AreFine ms → kind_of ms ≡ Some one → IsOperatorAsWritten ms ((entry one).make ms)
  -- its mark of exact outputs is that of the document, and its version has it with these fields
  pub agrees : (ms : Members) → AgreesOnExact (mode_of_exact (flag_at ms key.Exact)) ((entry one).make ms)
  pub marked : (ms : Members) → IsTrue (marks_exact ((entry one).make ms)) → IsTrue (flag_at ms key.Exact)
  pub has : (ms : Members) → AreFine ms → kind_of ms ≡ Some one → IsInVersion (count_at ms key.Version) ((entry one).make ms)
  -- the names that the document gives to its inputs are such names
  pub names : (ms : Members) → AreFine ms → kind_of ms ≡ Some one → AreGivenNames (text_at ms key.Name) (given_names ((entry one).make ms))
  -- where the document has the key for the width of its output, that width may be chosen
  pub chosen : (ms : Members) → AreFine ms → kind_of ms ≡ Some one → may_be ((entry one).stand (version_of ms) key.OutWidth) ≡ true
      → is_some (value_at ms key.OutWidth) ≡ true → IsChosen one (version_of ms)
