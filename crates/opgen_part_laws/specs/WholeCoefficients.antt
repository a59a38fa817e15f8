-- Operators of whole coefficients, which are several constants and transposed filters: their outputs have the least formats
-- of their exact values, rounded down or up, and a transposed filter means what the direct filter of the same coefficients means.
use Rattle.std.specs.Prelude.{ℕ, ℤ, pos, ◌≡◌, ◌≤◌, ◌<ℤ◌, ◌*ℤ◌, false, true, Some, slice_get}
use Rattle.opgen_num.specs.declared.mode.Mode.TheVariants.{Faithful}
use Rattle.opgen_num.specs.declared.format.Format.{Format}
use Rattle.opgen_num.specs.Formats.{Holds, fewest_bits}
use Rattle.opgen_kinds.specs.declared.several.Several.{Several}
use Rattle.opgen_kinds.specs.declared.sum.Sum.{Sum}
use Rattle.opgen_kinds.specs.declared.taps.Taps.{Taps}
use Rattle.opgen_operator.specs.declared.operator.Operator.TheVariants.{Fir, Tfir}
use Rattle.opgen_kinds.specs.Several.{multiple_ports}
use Rattle.opgen_kinds.specs.Sum.{exact_sum}
use Rattle.opgen_kinds.specs.Taps.{exact_taps, taps_format}
use Rattle.opgen_operator.specs.Operator.{operator_inputs, operator_outputs}
use Rattle.opgen_ports.specs.Good.{IsGoodRatio}
use Rattle.opgen_ports.specs.Ports.{format_at, Recent, weighted}
use Rattle.opgen_ports.specs.Spans.{IsOf}

-- The format holds each value. It is signed only where some value is below 0, and no format of fewer bits with its sign holds
-- each value.
pub record IsLeastFormat (Input : Type 0) (In : Input → Type 0) (value : Input → ℤ) (format : Format) : Type 0 where
  pub bits : fewest_bits format.signed ≤ format.width
  pub holds : (x : Input) → In x → IsOf format (value x)
  pub signed : format.signed ≡ true → (x : Input) × In x × (value x <ℤ pos 0)
  pub least : (width : ℕ) → fewest_bits format.signed ≤ width → ((x : Input) → In x → Holds format.signed width (value x))
      → format.width ≤ width

-- each output of several constants has the least format of the input times its constant
abbrev pub MultiplesAreLeast : Type 0
MultiplesAreLeast = (m : Several) (k : ℕ) (constant : ℤ) → slice_get m.constants k ≡ Some constant
    → IsLeastFormat ℤ (IsOf m.input) (λ x. x *ℤ constant) (format_at (multiple_ports m) k)

-- an output of a transposed filter that is less than one unit from the exact value
abbrev pub IsFaithful : Taps → Recent → ℤ → Type 0
IsFaithful f x y = ((ago : ℕ) → IsOf f.input (x ago)) × IsGoodRatio Faithful (exact_taps f x) y

-- It has the least format of its faithful outputs, over all inputs before the last cycle and in it. Where the last place is that
-- of the input, these are the sums.
pub record HasLeastFormat (f : Taps) : Type 0 where
  pub rounded : IsLeastFormat (Recent × ℤ) (λ q. IsFaithful f q.0 q.1) (λ q. q.1) (taps_format f)
  pub whole : f.out_lsb ≡ f.input.lsb
      → IsLeastFormat Recent (λ x. (ago : ℕ) → IsOf f.input (x ago)) (weighted f.taps) (taps_format f)

abbrev pub TapsAreLeast : Type 0
TapsAreLeast = (f : Taps) → HasLeastFormat f

-- the direct filter of the same coefficients, which are whole, with the same last place of its outputs
pub record IsDirectForm (f : Taps) (s : Sum) : Type 0 where
  pub input : s.input ≡ f.input
  pub coefs : s.coefs ≡ f.taps
  pub den : s.den ≡ pos 1
  pub out_lsb : s.out_lsb ≡ f.out_lsb

-- It has the same ports and the same exact values. Where the last place is that of the input, these are the sums themselves.
pub record MeansTheSame (f : Taps) (s : Sum) : Type 0 where
  pub inputs : operator_inputs (Tfir f) ≡ operator_inputs (Fir s)
  pub outputs : operator_outputs (Tfir f) ≡ operator_outputs (Fir s)
  pub values : (x : Recent) → exact_taps f x ≡ exact_sum s x
  pub whole : f.out_lsb ≡ f.input.lsb → (x : Recent) → exact_taps f x ≡ record { num = weighted f.taps x; den = pos 1 }

abbrev pub TapsAreDirect : Type 0
TapsAreDirect = (f : Taps) (s : Sum) → IsDirectForm f s → MeansTheSame f s
