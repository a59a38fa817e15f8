use Rattle.std.proofs.Common.{refl}
use Rattle.opgen_document.specs.Keys.{line_keys}
use Rattle.opgen_document.proofs.array.Array.line_keys.Goals as goal

pub returns-in-Input : goal.returns-in-Input
unfolding line_keys
returns-in-Input c = rw c.in-Input.is refl

pub returns-in-Scaled : goal.returns-in-Scaled
unfolding line_keys
returns-in-Scaled c = rw c.in-Scaled.is refl

pub returns-in-Product : goal.returns-in-Product
unfolding line_keys
returns-in-Product c = rw c.in-Product.is refl

pub returns-in-Delay : goal.returns-in-Delay
unfolding line_keys
returns-in-Delay c = rw c.in-Delay.is refl
