-- The net of each kind: one case a kind.
use Rattle.std.specs.Prelude.{ℕ, ◌≡◌, List, []}
use Rattle.opgen_constdiv.specs.Recipe.{net_of as net_of_small}
use Rattle.opgen_divide.specs.Recipe.{net_of_pair}
use Rattle.opgen_fir.specs.Recipe.{net_of_sum}
use Rattle.opgen_mult.specs.Recipe.{IsNetOfProduct}
use Rattle.opgen_net.specs.declared.net.Net.{Net}
use Rattle.opgen_operator.specs.declared.operator.Operator.{Operator}
use Rattle.opgen_operator.specs.declared.operator.Operator.TheVariants.{Scale, Fir, Multiply, Divide, Root, Mcm, Constdiv, Poly, Tfir, Sop}
use Rattle.opgen_operator.specs.declared.spec.Spec.{Spec}
use Rattle.opgen_poly.specs.Recipe.{net_of_poly}
use Rattle.opgen_saturate.specs.Chosen.{cut_net}
use Rattle.opgen_sop.specs.Recipe.{IsNetOfSop}
use Rattle.opgen_sqrt.specs.Recipe.{net_of_single}
use Rattle.opgen_top.specs.AdderGraphs.{AreGraphNumbers, IsNetOfConstants, IsNetOfTaps}

-- the net of an operator, by the recipe of its kind
abbrev pub IsNetOfOperator : Operator → Net → Type 0
IsNetOfOperator (Scale sum) net = net ≡ net_of_sum sum
IsNetOfOperator (Fir sum) net = net ≡ net_of_sum sum
IsNetOfOperator (Multiply product) net = IsNetOfProduct product net
IsNetOfOperator (Divide pair) net = net ≡ net_of_pair pair
IsNetOfOperator (Root single) net = net ≡ net_of_single single
IsNetOfOperator (Mcm several) net = IsNetOfConstants several net
IsNetOfOperator (Constdiv small) net = net ≡ net_of_small small.exact small.input.width small.divisor
IsNetOfOperator (Poly poly) net = net ≡ net_of_poly poly
IsNetOfOperator (Tfir taps) net = IsNetOfTaps taps net
IsNetOfOperator (Sop sop) net = IsNetOfSop sop net

-- The net of a specification: that of its operator, with the output of the width that is chosen.
pub record IsNetOf (spec : Spec) (net : Net) : Type 0 where
  pub own : Net
  pub by_kind : IsNetOfOperator spec.op own
  pub cut : net ≡ cut_net spec own

-- the numbers of its adder graph: several constants and transposed filters have one
abbrev pub AreAddersOfOperator : Operator → List ℕ → Type 0
AreAddersOfOperator (Scale sum) adders = adders ≡ []
AreAddersOfOperator (Fir sum) adders = adders ≡ []
AreAddersOfOperator (Multiply product) adders = adders ≡ []
AreAddersOfOperator (Divide pair) adders = adders ≡ []
AreAddersOfOperator (Root single) adders = adders ≡ []
AreAddersOfOperator (Mcm several) adders = AreGraphNumbers several.searched several.constants several.input.width several.extra adders
AreAddersOfOperator (Constdiv small) adders = adders ≡ []
AreAddersOfOperator (Poly poly) adders = adders ≡ []
AreAddersOfOperator (Tfir taps) adders = AreGraphNumbers taps.searched taps.taps taps.input.width taps.extra adders
AreAddersOfOperator (Sop sop) adders = adders ≡ []

abbrev pub AreAddersOf : Spec → List ℕ → Type 0
AreAddersOf spec adders = AreAddersOfOperator spec.op adders
