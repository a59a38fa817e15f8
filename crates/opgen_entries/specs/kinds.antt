-- The kinds of a document: their words, what a document says of each, and that an operator is as its document writes it.
use Rattle.std.specs.Prelude.{ℕ, List, [], ◌∷◌, Option, find}
use Rattle.std.specs.Str.{bytes_eq}
use Rattle.toml.specs.Data.{Members}
use Rattle.opgen_operator.specs.declared.kind.Kind.{Kind}
use Rattle.opgen_operator.specs.declared.kind.Kind.TheVariants as kind
use Rattle.opgen_operator.specs.declared.operator.Operator.{Operator}
use Rattle.opgen_operator.specs.declared.operator.Operator.TheVariants as operator
use Rattle.opgen_operator.specs.Operator.{kind_name}
use Rattle.opgen_document.specs.declared.key.Key.TheVariants as key
use Rattle.opgen_document.specs.Document.{text_at, version_of}
use Rattle.opgen_document.specs.declared.key.Version.{Version}
use Rattle.opgen_document.specs.declared.key.Version.TheVariants.{First, Second, Third, Fourth}
use Rattle.opgen_entries.specs.Entry.{Entry}
pub mod Sum
pub mod Product
pub mod Pair
pub mod Single
pub mod Several
pub mod SmallDiv
pub mod Poly
pub mod Taps
pub mod Sop
use Rattle.opgen_entries.specs.kinds.Sum.{scale, fir, IsSumAsWritten}
use Rattle.opgen_entries.specs.kinds.Product.{multiply, IsProductAsWritten}
use Rattle.opgen_entries.specs.kinds.Pair.{divide, IsPairAsWritten}
use Rattle.opgen_entries.specs.kinds.Single.{root, IsSingleAsWritten}
use Rattle.opgen_entries.specs.kinds.Several.{mcm, IsSeveralAsWritten}
use Rattle.opgen_entries.specs.kinds.SmallDiv.{constdiv, IsSmallDivAsWritten}
use Rattle.opgen_entries.specs.kinds.Poly.{poly, IsPolyAsWritten}
use Rattle.opgen_entries.specs.kinds.Taps.{tfir, IsTapsAsWritten}
use Rattle.opgen_entries.specs.kinds.Sop.{sop, IsSopAsWritten}

-- the kinds that documents of versions 1 and 2 can name, and those of later versions
unfoldable pub early_kinds : List Kind
early_kinds =
    kind.Scale ∷ kind.Fir ∷ kind.Multiply ∷ kind.Divide ∷ kind.Root ∷ kind.Mcm ∷ kind.Constdiv ∷ kind.Poly ∷ kind.Tfir ∷ []

unfoldable pub kinds : List Kind
kinds =
    kind.Scale ∷ kind.Fir ∷ kind.Multiply ∷ kind.Divide ∷ kind.Root ∷ kind.Mcm ∷ kind.Constdiv ∷ kind.Poly ∷ kind.Tfir ∷ kind.Sop ∷ []

abbrev pub kinds_of : Version → List Kind
kinds_of First = early_kinds
kinds_of Second = early_kinds
kinds_of Third = kinds
kinds_of Fourth = kinds

-- the kind of a name
abbrev pub kind_named : Version → List ℕ → Option Kind
kind_named version name = find (λ one. bytes_eq (kind_name one) name) (kinds_of version)

-- the kind that the document names
abbrev pub kind_of : Members → Option Kind
kind_of ms = kind_named (version_of ms) (text_at ms key.Kind)

-- what a document says of each kind
abbrev pub entry_of : Kind → Entry
entry_of kind.Scale = scale
entry_of kind.Fir = fir
entry_of kind.Multiply = multiply
entry_of kind.Divide = divide
entry_of kind.Root = root
entry_of kind.Mcm = mcm
entry_of kind.Constdiv = constdiv
entry_of kind.Poly = poly
entry_of kind.Tfir = tfir
entry_of kind.Sop = sop

-- and of any kind: what is proved of all kinds does not look into the entries
unfoldable pub entry : Kind → Entry
entry one = entry_of one

abbrev pub IsOperatorAsWritten : Members → Operator → Type 0
IsOperatorAsWritten ms (operator.Scale s) = IsSumAsWritten ms s
IsOperatorAsWritten ms (operator.Fir s) = IsSumAsWritten ms s
IsOperatorAsWritten ms (operator.Multiply p) = IsProductAsWritten ms p
IsOperatorAsWritten ms (operator.Divide p) = IsPairAsWritten ms p
IsOperatorAsWritten ms (operator.Root r) = IsSingleAsWritten ms r
IsOperatorAsWritten ms (operator.Mcm m) = IsSeveralAsWritten ms m
IsOperatorAsWritten ms (operator.Constdiv c) = IsSmallDivAsWritten ms c
IsOperatorAsWritten ms (operator.Poly p) = IsPolyAsWritten ms p
IsOperatorAsWritten ms (operator.Tfir f) = IsTapsAsWritten ms f
IsOperatorAsWritten ms (operator.Sop s) = IsSopAsWritten ms s
