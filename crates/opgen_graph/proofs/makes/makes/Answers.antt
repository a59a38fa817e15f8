use Rattle.std.proofs.Common.{◌⊎◌, inl, inr, ⊎_elim, refl}
use Rattle.opgen_graph.specs.Adders.{IsOddPart}
use Rattle.opgen_graph.proofs.OddParts.{parts_of_either, comb_of_result, comb_of_operand, refuted}
use Rattle.opgen_graph.proofs.makes.makes.Goals as goal

pub returns-then-is_odd_part-2 : goal.returns-then-is_odd_part-2
returns-then-is_odd_part-2 c = (λ _. inl (comb_of_operand _ _ _ (c.if-is_odd_part-2.ensures.0 refl)), λ _. refl)

pub returns : goal.returns
returns c = (
  λ t. inr (comb_of_operand _ _ _ (c.is_odd_part-3.ensures.0 t)),
  λ e. ⊎_elim (λ (p : IsOddPart c.args.f c.args.u c.args.v). absurd (refuted (c.if-is_odd_part.ensures.1 p)))
      (λ (o : IsOddPart c.args.u c.args.v c.args.f ⊎ IsOddPart c.args.v c.args.u c.args.f). ⊎_elim
      (λ (p : IsOddPart c.args.u c.args.v c.args.f). absurd (refuted (c.if-is_odd_part-2.ensures.1 p)))
      (λ (p : IsOddPart c.args.v c.args.u c.args.f). c.is_odd_part-3.ensures.1 p) o)
      (parts_of_either c.args.u c.args.v c.args.f e),
)

pub is_odd_part-requires : goal.is_odd_part-requires
is_odd_part-requires c = (c.requires.2, c.requires.0, c.requires.1)

pub is_odd_part-requires-2 : goal.is_odd_part-requires-2
is_odd_part-requires-2 c = c.requires

pub is_odd_part-requires-3 : goal.is_odd_part-requires-3
is_odd_part-requires-3 c = (c.requires.1, c.requires.0, c.requires.2)

pub returns-then-is_odd_part : goal.returns-then-is_odd_part
returns-then-is_odd_part c = (λ _. inl (comb_of_result _ _ _ (c.if-is_odd_part.ensures.0 refl)), λ _. refl)
