-- Valid specifications: their fields are within the ranges of their keys and the limits of their version.
use Rattle.std.specs.Option.{is_some}
use Rattle.std.specs.Prelude.{ℕ, ◌≡◌, ◌≤◌, Bool, true, IsTrue, All, Option, Some, None, length, false}
use Rattle.opgen_ports.specs.declared.TheConstants.{MAX_TARGET_NAME_LEN}
use Rattle.opgen_num.specs.declared.format.TheConstants.{MAX_WIDTH}
use Rattle.opgen_num.specs.declared.mode.Mode.{Mode}
use Rattle.opgen_num.specs.declared.mode.Rounding.{Rounding}
use Rattle.opgen_num.specs.declared.mode.Overflow.{Overflow}
use Rattle.opgen_num.specs.declared.mode.Overflow.TheVariants.{Saturate, Wrap}
use Rattle.opgen_operator.specs.declared.operator.Operator.{Operator}
use Rattle.opgen_operator.specs.declared.spec.DelayLine.{DelayLine}
use Rattle.opgen_operator.specs.declared.spec.Spec.{Spec}
use Rattle.opgen_ports.specs.Limits.{IsVersion}
use Rattle.opgen_ports.specs.Modes.{is_exact, IsExactOrFaithful}
use Rattle.opgen_operator.specs.Outputs.{mode_of}
use Rattle.opgen_operator.specs.Operator.{IsInVersion, given_names, inexact, own_mark, IsAcceptedBy, may_be_cut}
use Rattle.opgen_operator.specs.GivenNames.{is_name_in, AreGivenNames}
use Rattle.opgen_ports.specs.SpecName.{is_spec_name}

-- the operator's own mode, where it has one, is that of the outputs
abbrev pub AgreesWith : Mode → Option Mode → Type 0
AgreesWith mode (Some mark) = mark ≡ mode
AgreesWith mode None = Unit {0}

abbrev pub AgreesOnExact : Mode → Operator → Type 0
AgreesOnExact mode op = AgreesWith mode (own_mark op)

-- no operator is built yet whose outputs are rounded down or to the nearest
abbrev pub IsBuilt : Mode → Type 0
IsBuilt mode = IsExactOrFaithful mode

-- outputs of a chosen width wrap in version 4 alone
abbrev pub IsOverflow : (version : ℕ) → (width : Option ℕ) → Overflow → Type 0
IsOverflow version width Saturate = Unit {0}
IsOverflow version width Wrap = (4 ≤ version) × (is_some width ≡ true)

-- outputs whose rounding is chosen are not asked for exactly
abbrev pub IsInexactIf : Option Rounding → (exact : Bool) → Type 0
IsInexactIf None exact = Unit {0}
IsInexactIf (Some rounding) exact = exact ≡ false

-- The mode of the outputs is one that may be asked of the operator.
pub record IsModeOf (mode : Mode) (op : Operator) : Type 0 where
  pub built : IsBuilt mode
  pub agrees : AgreesOnExact mode op
  -- exact outputs are asked for only where the exact values are whole
  pub whole : IsTrue (is_exact mode) → inexact op ≡ None

abbrev pub IsDelayLine : DelayLine → Type 0
IsDelayLine line = (line.base ≤ 1000000) × (line.per_bit ≤ 10000)

-- a width and a sign of the output `y` may be chosen since version 3, of the kinds that have one; no sign is chosen alone
abbrev pub IsChoice : (version : ℕ) → Operator → (width : Option ℕ) (sign : Option Bool) → Type 0
IsChoice version op None sign = sign ≡ None
IsChoice version op (Some width) sign = (3 ≤ version) × (may_be_cut op ≡ true) × (2 ≤ width) × (width ≤ MAX_WIDTH)

pub record IsValidSpec (spec : Spec) : Type 0 where
  pub version : IsVersion spec.version
  pub name : IsTrue (is_spec_name spec.name)
  pub word : IsTrue (is_name_in spec.version spec.name)
  pub op : IsAcceptedBy spec.version spec.op
  pub has : IsInVersion spec.version spec.op
  pub names : AreGivenNames spec.name (given_names spec.op)
  pub rounding : IsInexactIf spec.rounding spec.exact
  pub mode : IsModeOf (mode_of spec) spec.op
  pub output : IsChoice spec.version spec.op spec.out_width spec.out_signed
  pub overflow : IsOverflow spec.version spec.out_width spec.overflow
  pub target : (1 ≤ length spec.target) × (length spec.target ≤ MAX_TARGET_NAME_LEN)
  pub period : (1 ≤ spec.period) × (spec.period ≤ 1000000)
  pub few_lines : length spec.delays ≤ 16
  pub lines : All IsDelayLine spec.delays
