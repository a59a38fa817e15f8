-- What is so in the modes exact and faithful, as a mark says, in each mode that may be asked for.
use Rattle.std.proofs.Common.{◌≡◌, ◌∙◌, Bool, true, false, Some, None, IsTrue, sym, subst}
use Rattle.opgen_net.specs.declared.net.Net.{Net}
use Rattle.opgen_num.specs.declared.mode.Mode.{Mode}
use Rattle.opgen_num.specs.declared.mode.Mode.TheVariants.{Exact, Faithful, Down, Nearest}
use Rattle.opgen_operator.specs.declared.operator.Operator.{Operator}
use Rattle.opgen_operator.specs.Fits.{FitsOperator, FitsInEachMode}
use Rattle.opgen_operator.specs.Operator.{inexact, own_mark}
use Rattle.opgen_operator.specs.Valid.{AgreesWith, AgreesOnExact, IsModeOf}
use Rattle.opgen_ports.specs.Modes.{mode_of_exact}
use Rattle.opgen_ports.proofs.Marks.{is_exact-of, exact_or_faithful}

-- a net that fits where outputs are exact, and where they are faithful, fits in each mode
pub fits_each_mode : (op : Operator) (net : Net)
    → ((exact : Bool) → IsModeOf (mode_of_exact exact) op → FitsOperator (mode_of_exact exact) op net) → FitsInEachMode op net
fits_each_mode op net by Exact is = by true is
fits_each_mode op net by Faithful is = by false is
fits_each_mode op net by Down is = absurd is.built
fits_each_mode op net by Nearest is = absurd is.built

-- and one that fits in the operator's own mode
pub fits_by_mark : (mark : Mode) (op : Operator) (net : Net) → own_mark op ≡ Some mark → FitsOperator mark op net → FitsInEachMode op net
fits_by_mark mark op net own fits mode is = subst (λ m. FitsOperator m op net) (subst (AgreesWith mode) own is.agrees) fits

-- exact outputs are asked for only where the exact values are whole
pub asked_whole : (exact : Bool) (op : Operator) → IsModeOf (mode_of_exact exact) op → IsTrue exact → inexact op ≡ None
asked_whole exact op is asked = is.whole (is_exact-of exact ∙ asked)

-- a mode by its mark
pub mode_by_mark : (exact : Bool) (op : Operator) → AgreesOnExact (mode_of_exact exact) op → (IsTrue exact → inexact op ≡ None)
    → IsModeOf (mode_of_exact exact) op
mode_by_mark exact op agrees whole =
    record { built = exact_or_faithful exact; agrees = agrees; whole = λ asked. whole (sym (is_exact-of exact) ∙ asked) }
