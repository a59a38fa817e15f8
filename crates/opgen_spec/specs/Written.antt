-- Each field of a specification has the value that its document writes.
use Rattle.std.specs.Prelude.{◌≡◌, pos, Some}
use Rattle.toml.specs.Data.{string, integer, boolean, Members}
use Rattle.opgen_document.specs.declared.key.Key.TheVariants as key
use Rattle.opgen_operator.specs.declared.spec.DelayLine.{DelayLine}
use Rattle.opgen_operator.specs.declared.spec.Spec.{Spec}
use Rattle.opgen_operator.specs.Operator.{kind}
use Rattle.opgen_operator.specs.Operator.{kind_name}
use Rattle.opgen_document.specs.Document.{value_at, items_at, IsCountIfAny, IsFlagIfAny, IsRoundingAsWritten, IsOverflowAsWritten, AreLinesAsWritten}
use Rattle.opgen_spec.specs.Spec.{class_name}
use Rattle.opgen_entries.specs.kinds.{IsOperatorAsWritten}

pub record IsLineAsWritten (ms : Members) (line : DelayLine) : Type 0 where
  pub class_written : value_at ms key.Class ≡ Some (string (class_name line.class))
  pub base : value_at ms key.Base ≡ Some (integer (pos line.base))
  pub per_bit : value_at ms key.PerBit ≡ Some (integer (pos line.per_bit))

pub record IsAsWritten (ms : Members) (spec : Spec) : Type 0 where
  pub version : value_at ms key.Version ≡ Some (integer (pos spec.version))
  pub name : value_at ms key.Name ≡ Some (string spec.name)
  pub kind_written : value_at ms key.Kind ≡ Some (string (kind_name (kind spec.op)))
  pub exact : value_at ms key.Exact ≡ Some (boolean spec.exact)
  pub rounding : IsRoundingAsWritten ms spec.rounding
  pub out_width : IsCountIfAny ms key.OutWidth spec.out_width
  pub out_signed : IsFlagIfAny ms key.OutSigned spec.out_signed
  pub overflow : IsOverflowAsWritten ms spec.overflow
  pub target : value_at ms key.Target ≡ Some (string spec.target)
  pub period : value_at ms key.Period ≡ Some (integer (pos spec.period))
  pub op : IsOperatorAsWritten ms spec.op
  pub delays : AreLinesAsWritten IsLineAsWritten (items_at ms key.Delay) spec.delays
