use Rattle.std.proofs.Common.{◌≡◌, ◌≤◌, ℕ, true, false, [], ◌∷◌, ◌++◌, refl, sym, ap, ◌∙◌, subst, arith}
use Rattle.std.specs.Prelude.{ℤ, pos, List, Some, None, IsTrue, All}
use Rattle.std.proofs.lemmas.Int.{ints}
use Rattle.std.proofs.lemmas.List.Elements.{All-cons, All-nil}
use Rattle.opgen_kinds.specs.declared.several.Several.{Several}
use Rattle.opgen_operator.specs.declared.operator.Operator.TheVariants.{Mcm}
use Rattle.opgen_ports.specs.declared.ports.PortFormat.{PortFormat}
use Rattle.opgen_kinds.specs.Several.{IsAcceptedSeveral}
use Rattle.opgen_operator.specs.Operator.{inexact, need}
use Rattle.opgen_ports.specs.declared.recipes.Recipe.TheVariants.{Third}
use Rattle.opgen_ports.specs.OddParts.{odd_part_count}
use Rattle.opgen_ports.specs.Ranges.{IsWithin}
use Rattle.opgen_ports.proofs.InputPorts.{all_one}
use Rattle.opgen_graph.proofs.PartLists.{count-within}
use Rattle.test_parts.proofs.least.forty_five.Goals as goal

abbrev by : List ℤ → Several
by constants = record {
  input = record { signed = false; width = 4; lsb = pos 0 };
  constants = constants;
  searched = true;
  extra = 1;
  recipe = Third;
}

not_asked : IsTrue false → inexact (Mcm (by (pos 45 ∷ []))) ≡ None
not_asked h = let clash : false ≡ true = h in let wrong : ⊥ = cc in absurd wrong

narrow : (bits : ℕ) → need (Mcm (by (pos 45 ∷ []))) ≡ Some bits → bits ≤ 64
narrow bits e = let wrong : ⊥ = cc in absurd wrong

accepted : IsAcceptedSeveral (by (pos 45 ∷ []))
accepted = (
  1,
  record {
    ranges = record {
      input = record { fewest = omega arith; most = omega arith; lsb = (omega (arith, ints), omega (arith, ints)) };
      some = omega arith;
      few = omega arith;
      constants = All-cons (IsWithin 1048575) (pos 45) [] (omega arith) (All-nil (IsWithin 1048575));
      searched = λ _. record {
        constants = All-cons (IsWithin 2047) (pos 45) [] (omega arith) (All-nil (IsWithin 2047));
        extra = omega arith;
      };
      rest = λ e. let clash : true ≡ false = e in let wrong : ⊥ = cc in absurd wrong;
      built = refl;
    };
    inputs = all_one (λ (p : PortFormat). p.format.width ≤ 32) _ (omega arith);
    fine = (omega (arith, ints), omega (arith, ints));
    narrow = narrow;
    whole = not_asked;
  },
)

all-small : All (IsWithin 2047) (pos 45 ∷ [])
all-small = All-cons (IsWithin 2047) (pos 45) [] (omega arith) (All-nil (IsWithin 2047))

pub least_graph-requires-clause-numbers : goal.least_graph-requires-clause-numbers
least_graph-requires-clause-numbers g c =
    let list : c.push.new.self ≡ pos 45 ∷ [] = c.in_ok-push.ensures.ok ∙ ap (λ l. l ++ pos 45 ∷ []) c.new-constants.ensures in
    λ _. subst (All (IsWithin 2047)) (sym (c.as_slice-numbers.ensures ∙ list)) all-small

pub least_graph-requires-clause-few : goal.least_graph-requires-clause-few
least_graph-requires-clause-few g c =
    let list : c.push.new.self ≡ pos 45 ∷ [] = c.in_ok-push.ensures.ok ∙ ap (λ l. l ++ pos 45 ∷ []) c.new-constants.ensures in
    λ _. subst (λ ns. odd_part_count ns ≤ 8) (sym (c.as_slice-numbers.ensures ∙ list)) (omega (arith, count-within (pos 45 ∷ [])))

pub build-requires-clause-several : goal.build-requires-clause-several
build-requires-clause-several g c =
    let list : c.push.new.self ≡ pos 45 ∷ [] = c.in_ok-push.ensures.ok ∙ ap (λ l. l ++ pos 45 ∷ []) c.new-constants.ensures in
    subst (λ l. IsAcceptedSeveral (by l)) (sym list) accepted
