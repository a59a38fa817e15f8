-- What holds of a valid specification, for the crates that build its operator.
use Rattle.std.proofs.Common.{◌≤◌, ◌&&◌, not, length, nat_le, ℕ, ◌≡◌, Some, Bool, true, false, None, refl, sym, ap, subst, ◌∙◌, map}
use Rattle.std.proofs.lemmas.Bool.{and_parts, leb-true}
use Rattle.std.specs.Prelude.{IsTrue, ◌≤ℤ◌, All, pos}
use Rattle.opgen_names.specs.Names.{is_allowed_name}
use Rattle.opgen_net.specs.declared.net.Net.{Net}
use Rattle.opgen_num.specs.declared.format.TheConstants.{MAX_WIDTH}
use Rattle.opgen_kinds.specs.declared.poly.Poly.{Poly as Polynomial}
use Rattle.opgen_operator.specs.declared.operator.Operator.{Operator}
use Rattle.opgen_operator.specs.declared.operator.Operator.TheVariants.{Poly}
use Rattle.opgen_operator.specs.declared.spec.Spec.{Spec}
use Rattle.opgen_ports.specs.declared.TheConstants.{MAX_SHIFT}
use Rattle.opgen_operator.specs.Bounded.{ValidAreAccepted}
use Rattle.opgen_ports.specs.Modes.{mode_of_exact}
use Rattle.opgen_ports.specs.Ports.{HasWidth}
use Rattle.opgen_operator.specs.Fits.{FitsOperator, FitsSpec, name_and_width}
use Rattle.opgen_operator.specs.Operator.{meaning, acceptance, IsGoodOf, IsAccepted, IsOperator, least_shift, shift, HasRoom, need, inexact, operator_outputs}
use Rattle.opgen_ports.specs.SpecName.{is_taken, is_signal_name}
use Rattle.opgen_operator.specs.Outputs.{mode_of, inputs_of, outputs_of, IsGoodBy, chosen_ports, recent_words, output_words}
use Rattle.opgen_net.specs.Flow.{slice_flow}
use Rattle.opgen_operator.specs.Valid.{IsModeOf, IsValidSpec}
use Rattle.opgen_kinds.proofs.of_kind.Sum.{multiple_accepted}
use Rattle.opgen_operator.proofs.Operators.{lawful, shift_limit, room}
use Rattle.opgen_ports.proofs.Accepted as kind

-- its name is an allowed name of a design, of 32 bytes at most
pub name_allowed : (spec : Spec) → IsValidSpec spec → IsTrue (is_allowed_name spec.name) × (length spec.name ≤ 32)
name_allowed spec valid =
    let (first, _) = and_parts (nat_le (length spec.name) 32 && is_allowed_name spec.name && not (is_taken spec.name))
    (not (is_signal_name spec.name)) valid.name in
    let (both, _) = and_parts (nat_le (length spec.name) 32 && is_allowed_name spec.name) (not (is_taken spec.name)) first in
    let (short, allowed) = and_parts (nat_le (length spec.name) 32) (is_allowed_name spec.name) both in
    (allowed, leb-true (length spec.name) 32 short)

pub accepted_ranges : (op : Operator) → IsAccepted op → IsOperator op
accepted_ranges op is = kind.accepted_ranges (meaning op) (acceptance op) is

pub accepted_shift : (op : Operator) → IsAccepted op → (least_shift op ≤ℤ shift op) × (shift op ≤ℤ MAX_SHIFT)
accepted_shift op is = kind.accepted_shift (meaning op) (acceptance op) (lawful op) is

pub accepted_room : (op : Operator) → IsAccepted op → HasRoom op
accepted_room op is = kind.accepted_room (meaning op) (acceptance op) (lawful op) is

pub accepted_width : (op : Operator) (bits : ℕ) → IsAccepted op → need op ≡ Some bits → bits ≤ MAX_WIDTH
accepted_width op bits is e = kind.accepted_width (meaning op) (acceptance op) bits is e

-- the operator of a valid specification is accepted, by its own version
pub accepted : (spec : Spec) → IsValidSpec spec → IsAccepted spec.op
accepted spec valid = (spec.version, valid.op)

-- its output ports have so many bits at most
pub accepted_wide : (op : Operator) → IsAccepted op → All (HasWidth MAX_WIDTH) (operator_outputs op)
accepted_wide op is = kind.accepted_wide (meaning op) (acceptance op) (lawful op) is

-- a net that fits its operator fits a specification that chooses no width
pub plain_fits : (spec : Spec) (net : Net) → spec.out_width ≡ None → FitsOperator (mode_of spec) spec.op net → FitsSpec spec net
plain_fits spec net none fits =
    let same : outputs_of spec ≡ operator_outputs spec.op = ap (λ w. chosen_ports w spec.out_signed (operator_outputs spec.op)) none in
    record {
      valid = fits.valid;
      inputs = fits.inputs;
      outputs = fits.outputs ∙ sym (ap (map name_and_width) same);
      delays = fits.delays;
      good = λ inputs t words below in_range.
          let ins = recent_words (inputs_of spec) inputs t in
          let found = map (λ o. slice_flow net.nodes inputs o.from (pos t)) net.outputs in
          let good : IsGoodOf (mode_of spec) spec.op ins (output_words (operator_outputs spec.op) found) = fits.good inputs t words below in_range in
          let ported : IsGoodOf (mode_of spec) spec.op ins (output_words (outputs_of spec) found) =
          subst (λ ports. IsGoodOf (mode_of spec) spec.op ins (output_words ports found)) (sym same) good in
          subst (λ w. IsGoodBy w spec ins (output_words (outputs_of spec) found)) (sym none) ported;
    }

-- a polynomial is never asked for exactly
pub poly_faithful : (exact : Bool) (p : Polynomial) → IsModeOf (mode_of_exact exact) (Poly p) → exact ≡ false
poly_faithful false p mode = refl
poly_faithful true p mode =
    let never : inexact (Poly p) ≡ None = mode.whole refl in
    let always : inexact (Poly p) ≡ Some 0 = refl in
    cc

-- sums have room in 128 bits, and no shift is above the greatest
pub operator_room : (spec : Spec) → IsValidSpec spec → HasRoom spec.op × (shift spec.op ≤ℤ MAX_SHIFT)
operator_room spec valid = (room spec.version spec.op valid.op.inputs valid.op.fine.1, shift_limit spec.version spec.op valid.op.fine.1)

pub valid_accepted : ValidAreAccepted
valid_accepted = record { operators = accepted; multiples = multiple_accepted }
