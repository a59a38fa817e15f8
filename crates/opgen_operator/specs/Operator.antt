-- The kinds and their words; what each operator means and what decides whether it is accepted, by its kind; and each question
-- about it.
use Rattle.std.specs.Prelude.{ℕ, Bool, Option, Some, None, ℤ, List, codes, if◌then◌else◌, is_none, ◌&&◌}
use Rattle.opgen_operator.specs.declared.kind.Kind.{Kind}
use Rattle.opgen_operator.specs.declared.kind.Kind.TheVariants as kind_of
use Rattle.opgen_operator.specs.declared.operator.Operator.{Operator}
use Rattle.opgen_operator.specs.declared.operator.Operator.TheVariants.{Scale, Fir, Multiply, Divide, Root, Mcm, Constdiv, Poly, Tfir, Sop}
use Rattle.opgen_ports.specs.declared.ports.PortFormat.{PortFormat}
use Rattle.opgen_ports.specs.Acceptance.{Acceptance}
use Rattle.opgen_ports.specs.Accepted.{IsAcceptedIn, IsAcceptable}
use Rattle.opgen_ports.specs.Meaning.{IsNonzeroAt, Meaning}
use Rattle.opgen_ports.specs.Modes.{is_marked}
use Rattle.opgen_kinds.specs.Pair.{pair_meaning, pair_acceptance}
use Rattle.opgen_kinds.specs.Poly.{poly_meaning, poly_acceptance}
use Rattle.opgen_kinds.specs.Product.{product_meaning, product_acceptance}
use Rattle.opgen_kinds.specs.Several.{several_meaning, several_acceptance}
use Rattle.opgen_kinds.specs.Single.{single_meaning, single_acceptance}
use Rattle.opgen_kinds.specs.SmallDiv.{small_meaning, small_acceptance}
use Rattle.opgen_terms.specs.Sop.{sop_meaning, sop_acceptance}
use Rattle.opgen_kinds.specs.Sum.{sum_meaning, scale_acceptance, fir_acceptance}
use Rattle.opgen_kinds.specs.Taps.{taps_meaning, taps_acceptance}
use Rattle.opgen_ports.specs.Ports.{AreWithin, format_at, Recent}
use Rattle.opgen_num.specs.declared.format.Format.{Format}
use Rattle.opgen_num.specs.declared.format.Ratio.{Ratio}
use Rattle.opgen_num.specs.declared.mode.Mode.{Mode}
use Rattle.std.specs.Option.{is_some, option_map}

abbrev pub meaning : Operator → Meaning
meaning (Scale s) = sum_meaning s
meaning (Fir s) = sum_meaning s
meaning (Multiply p) = product_meaning p
meaning (Divide p) = pair_meaning p
meaning (Root r) = single_meaning r
meaning (Mcm m) = several_meaning m
meaning (Constdiv c) = small_meaning c
meaning (Poly p) = poly_meaning p
meaning (Tfir f) = taps_meaning f
meaning (Sop s) = sop_meaning s

abbrev pub acceptance : Operator → Acceptance
acceptance (Scale s) = scale_acceptance s
acceptance (Fir s) = fir_acceptance s
acceptance (Multiply p) = product_acceptance p
acceptance (Divide p) = pair_acceptance p
acceptance (Root r) = single_acceptance r
acceptance (Mcm m) = several_acceptance m
acceptance (Constdiv c) = small_acceptance c
acceptance (Poly p) = poly_acceptance p
acceptance (Tfir f) = taps_acceptance f
acceptance (Sop s) = sop_acceptance s

abbrev pub kind : Operator → Kind
kind (Scale s) = kind_of.Scale
kind (Fir s) = kind_of.Fir
kind (Multiply p) = kind_of.Multiply
kind (Divide p) = kind_of.Divide
kind (Root r) = kind_of.Root
kind (Mcm m) = kind_of.Mcm
kind (Constdiv c) = kind_of.Constdiv
kind (Poly p) = kind_of.Poly
kind (Tfir f) = kind_of.Tfir
kind (Sop s) = kind_of.Sop

abbrev pub kind_name : Kind → List ℕ
kind_name kind_of.Scale = codes "scale"
kind_name kind_of.Fir = codes "fir"
kind_name kind_of.Multiply = codes "multiply"
kind_name kind_of.Divide = codes "divide"
kind_name kind_of.Root = codes "root"
kind_name kind_of.Mcm = codes "mcm"
kind_name kind_of.Constdiv = codes "constdiv"
kind_name kind_of.Poly = codes "poly"
kind_name kind_of.Tfir = codes "tfir"
kind_name kind_of.Sop = codes "sop"

-- a version of specifications has the operator with these fields
abbrev pub IsInVersion : (version : ℕ) → Operator → Type 0
IsInVersion version op = (acceptance op).IsIn version

-- the fields are within the ranges of their keys
abbrev pub IsOperator : Operator → Type 0
IsOperator op = (acceptance op).IsRanged

abbrev pub operator_inputs : Operator → List PortFormat
operator_inputs op = (meaning op).inputs

abbrev pub operator_outputs : Operator → List PortFormat
operator_outputs op = (meaning op).outputs

-- the names of the inputs, where the document gives them
abbrev pub given_names : Operator → List (List ℕ)
given_names op = (acceptance op).given_names

-- the place of the input port that must not be 0, where there is one
abbrev pub divisor : Operator → Option ℕ
divisor op = (meaning op).divisor

-- how many cycles before the last one good outputs depend on
abbrev pub memory : Operator → ℕ
memory op = (meaning op).memory

abbrev pub shift : Operator → ℤ
shift op = (acceptance op).shift

abbrev pub least_shift : Operator → ℤ
least_shift op = (acceptance op).least_shift

abbrev pub most_shift : (version : ℕ) → Operator → ℤ
most_shift version op = (acceptance op).most_shift version

abbrev pub inexact : Operator → Option ℕ
inexact op = (acceptance op).inexact

abbrev pub need : Operator → Option ℕ
need op = (acceptance op).need

abbrev pub HasRoom : Operator → Type 0
HasRoom op = (acceptance op).HasRoom

-- the operator's own mode of outputs, where it has one
abbrev pub own_mark : Operator → Option Mode
own_mark op = (acceptance op).own_mark

abbrev pub marks_exact : Operator → Bool
marks_exact op = is_marked (own_mark op)

abbrev pub HasInputsWithin : (most : ℕ) → Operator → Type 0
HasInputsWithin most op = AreWithin most (meaning op).inputs

abbrev pub IsAcceptedBy : (version : ℕ) → Operator → Type 0
IsAcceptedBy version op = IsAcceptedIn version (meaning op) (acceptance op)

abbrev pub IsAccepted : Operator → Type 0
IsAccepted op = IsAcceptable (meaning op) (acceptance op)

abbrev pub IsExactIn128 : Operator → (inputs : (port : ℕ) → Recent) → Type 0
IsExactIn128 op inputs = (acceptance op).IsExactIn128 inputs

abbrev pub IsGoodOf : (mode : Mode) → Operator → (inputs : (port : ℕ) → Recent) (outputs : (port : ℕ) → ℤ) → Type 0
IsGoodOf mode op inputs outputs = (meaning op).IsGood mode inputs outputs

-- the exact value of the only output, of the kinds and modes that have one output of one value
abbrev pub exact_value : Operator → (inputs : (port : ℕ) → Recent) → Option Ratio
exact_value op inputs = option_map (λ value. value inputs) (meaning op).value

abbrev pub has_value : Operator → Bool
has_value op = is_some (meaning op).value

-- Versions 1 to 3 let no quotient have a chosen width: of the others the output of a value is named `y`.
abbrev pub may_be_cut : Operator → Bool
may_be_cut op = is_none (divisor op) && has_value op

-- the format of an output whose width may be chosen
abbrev pub plain_output : Operator → Option Format
plain_output op = if may_be_cut op then Some (format_at (operator_outputs op) 0) else None

-- the last divisor is not 0; no other input is out of range
abbrev pub IsInRangeOf : Operator → (inputs : (port : ℕ) → Recent) → Type 0
IsInRangeOf op inputs = IsNonzeroAt (divisor op) inputs

-- the net is made of an adder graph
abbrev pub has_graph : Operator → Bool
has_graph op = (acceptance op).has_graph
