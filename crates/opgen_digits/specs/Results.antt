-- The digits of a quotient or root, and the remainder, as outputs of a net.
use Rattle.std.specs.Prelude.{ℕ, ◌≡◌, Bool, true, false, List, length, codes, All}
use Rattle.opgen_design.specs.Value.{IsWidth}
use Rattle.opgen_net.specs.declared.net.Net.{Net}
use Rattle.opgen_net.specs.Valid.{widths}
use Rattle.opgen_net.specs.WordRule.{IsThere}
use Rattle.opgen_net.specs.Placed.{with_output}
use Rattle.opgen_digits.specs.Digit.{Known}

-- Bits that stand in the net and can be outputs: the digits, and where they are exact what is left.
pub record AreResults (exact : Bool) (known : Known) : Type 0 where
  pub width : IsWidth (length known.digits)
  pub digits : All (IsThere (widths known.net.nodes)) known.digits
  pub rest_width : exact ≡ true → IsWidth (length known.rest)
  pub rest : All (IsThere (widths known.net.nodes)) known.rest

-- the digits as an output of a name, and where they are exact what is left as the output r
abbrev pub with_results : (exact : Bool) → (name : List ℕ) → Known → Net
with_results true name known = with_output (codes "r") (with_output name known.net known.digits) known.rest
with_results false name known = with_output name known.net known.digits
