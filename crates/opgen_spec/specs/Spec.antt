-- The specification that a document gives, field by field.
use Rattle.std.specs.Prelude.{ℕ, List, codes, Option, find, unwrap_or}
use Rattle.std.specs.Str.{bytes_eq}
use Rattle.toml.specs.Data.{Members}
use Rattle.opgen_net.specs.declared.cell.Class.{Class}
use Rattle.opgen_net.specs.declared.cell.Class.TheVariants as class
use Rattle.opgen_net.specs.Classes.{classes}
use Rattle.opgen_document.specs.declared.key.Key.TheVariants as key
use Rattle.opgen_operator.specs.declared.kind.Kind.{Kind}
use Rattle.opgen_operator.specs.declared.kind.Kind.TheVariants as kind
use Rattle.opgen_operator.specs.declared.spec.DelayLine.{DelayLine}
use Rattle.opgen_operator.specs.declared.spec.Spec.{Spec}
use Rattle.opgen_document.specs.Document.{text_at, flag_at, items_at, in_tables, count_at, optional_count_at, optional_flag_at, rounding_at, overflow_at}
use Rattle.opgen_entries.specs.kinds.{kind_of, entry}

-- the classes of delay lines, by their names
abbrev pub class_name : Class → List ℕ
class_name class.Wire = codes "wire"
class_name class.Logic = codes "logic"
class_name class.Add = codes "add"
class_name class.Choice = codes "choice"
class_name class.Table = codes "table"
class_name class.Register = codes "register"

-- the class of a name
abbrev pub class_named : List ℕ → Option Class
class_named name = find (λ one. bytes_eq (class_name one) name) classes

abbrev pub line_of : Members → DelayLine
line_of ms = record {
  class = unwrap_or (class_named (text_at ms key.Class)) class.Wire;
  base = count_at ms key.Base;
  per_bit = count_at ms key.PerBit;
}

-- The specification that the keys give, for an operator of this kind.
unfoldable pub spec_with : Kind → Members → Spec
spec_with one ms = record {
  version = count_at ms key.Version;
  name = text_at ms key.Name;
  op = (entry one).make ms;
  exact = flag_at ms key.Exact;
  rounding = rounding_at ms;
  out_width = optional_count_at ms key.OutWidth;
  out_signed = optional_flag_at ms key.OutSigned;
  overflow = overflow_at ms;
  target = text_at ms key.Target;
  period = count_at ms key.Period;
  delays = in_tables line_of (items_at ms key.Delay);
}

-- and of the kind that the document names; a document without a fault names one
abbrev pub spec_of : Members → Spec
spec_of ms = spec_with (unwrap_or (kind_of ms) kind.Scale) ms
