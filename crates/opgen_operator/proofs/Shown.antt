-- Outputs are good by the numbers that the words at the ports show.
use Rattle.std.proofs.Common.{◌≡◌, sym, subst}
use Rattle.std.specs.Prelude.{ℤ}

-- what is good for the numbers of the inputs and of the output is so for what their words show
pub one_shown : {X : Type 0} (IsGood : X → ℤ → Type 0) {shown inputs : X} {word y : ℤ} → shown ≡ inputs → word ≡ y → IsGood inputs y
    → IsGood shown word
one_shown IsGood {shown = shown} {inputs = inputs} {word = word} {y = y} at_inputs at_output good =
    subst (λ x. IsGood x word) (sym at_inputs) (subst (IsGood inputs) (sym at_output) good)

-- and with two outputs
pub two_shown : {X : Type 0} (IsGood : X → ℤ → ℤ → Type 0) {shown inputs : X} {first y second z : ℤ} → shown ≡ inputs → first ≡ y
    → second ≡ z → IsGood inputs y z → IsGood shown first second
two_shown IsGood {shown = shown} {inputs = inputs} {first = first} {y = y} {second = second} {z = z} at_inputs at_first at_second good =
    one_shown (λ x w. IsGood x w second) at_inputs at_first (subst (IsGood inputs y) (sym at_second) good)
