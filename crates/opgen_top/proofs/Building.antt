-- The net of a kind is one of the specification.
use Rattle.std.proofs.Common.{◌≡◌, Result, Ok, Err, sym, subst}
use Rattle.std.specs.Prelude.{IfOk}
use Rattle.std.proofs.lemmas.Result.{IfOk-at_ok}
use Rattle.opgen_num.specs.declared.memory.Memory.{Memory}
use Rattle.opgen_net.specs.declared.net.Net.{Net}
use Rattle.opgen_kinds.specs.declared.sum.Sum.{Sum}
use Rattle.opgen_operator.specs.declared.operator.Operator.{Operator}
use Rattle.opgen_operator.specs.declared.operator.Operator.TheVariants.{Scale}
use Rattle.opgen_operator.specs.declared.spec.Spec.{Spec}
use Rattle.opgen_operator.specs.Fits.{FitsInEachMode}
use Rattle.opgen_kinds.specs.Sum.{IsAcceptedSum}
use Rattle.opgen_operator.specs.Operator.{IsAccepted}
use Rattle.opgen_operator.specs.Valid.{IsValidSpec}
use Rattle.opgen_operator.proofs.Accepted.{valid_accepted}
use Rattle.opgen_top.specs.declared.circuit.KindNet.{KindNet}
use Rattle.opgen_top.specs.Kinds.{AreAddersOf, AreAddersOfOperator, IsNetOfOperator}

module _ (spec : Spec) (valid : IsValidSpec spec) where
  pub accepted_kind : (op : Operator) → spec.op ≡ op → IsAccepted op
  accepted_kind op e = subst IsAccepted e (valid_accepted.operators spec valid)

  pub accepted_scale : (sum : Sum) → spec.op ≡ Scale sum → IsAcceptedSum sum
  accepted_scale sum e = valid_accepted.multiples sum (accepted_kind (Scale sum) e)

  -- the net that was built is one of the operator's kind
  pub made_net : (op : Operator) (r : Result KindNet Memory) → spec.op ≡ op → IfOk r (λ made. IsNetOfOperator op made.net)
      → IfOk r (λ made. IsNetOfOperator spec.op made.net)
  made_net op r e of = subst (λ o. IfOk r (λ made. IsNetOfOperator o made.net)) (sym e) of

  pub made_fits : (op : Operator) (r : Result KindNet Memory) → spec.op ≡ op → IfOk r (λ made. FitsInEachMode op made.net)
      → IfOk r (λ made. FitsInEachMode spec.op made.net)
  made_fits op r e fits = subst (λ o. IfOk r (λ made. FitsInEachMode o made.net)) (sym e) fits

  -- and of one that has no adders
  same_net : (P : Net → Type 0) (built : Result Net Memory) (r : Result KindNet Memory) → IfOk r (λ made. built ≡ Ok made.net)
      → IfOk built P → IfOk r (λ made. P made.net)
  same_net P built (Ok made) is of = IfOk-at_ok P is of
  same_net P built (Err want) is of = tt

  pub plain_net : (op : Operator) (built : Result Net Memory) (r : Result KindNet Memory) → spec.op ≡ op
      → IfOk r (λ made. built ≡ Ok made.net) → IfOk built (IsNetOfOperator op) → IfOk r (λ made. IsNetOfOperator spec.op made.net)
  plain_net op built r e is of = made_net op r e (same_net (IsNetOfOperator op) built r is of)

  pub plain_fits : (op : Operator) (built : Result Net Memory) (r : Result KindNet Memory) → spec.op ≡ op
      → IfOk r (λ made. built ≡ Ok made.net) → IfOk built (FitsInEachMode op) → IfOk r (λ made. FitsInEachMode spec.op made.net)
  plain_fits op built r e is fits = made_fits op r e (same_net (FitsInEachMode op) built r is fits)

  pub made_adders : (op : Operator) (r : Result KindNet Memory) → spec.op ≡ op
      → IfOk r (λ made. AreAddersOfOperator op made.adders.items) → IfOk r (λ made. AreAddersOf spec made.adders.items)
  made_adders op r e are = subst (λ o. IfOk r (λ made. AreAddersOfOperator o made.adders.items)) (sym e) are
