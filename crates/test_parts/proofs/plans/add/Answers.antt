use Rattle.std.proofs.Common.{◌≡◌, ℕ, Bool, List, [], Some, None, refl, sym, ap, ◌∙◌, subst, arith}
use Rattle.std.specs.Prelude.{IsTrue, slice_index, slice_get, option_and_then, if◌then◌else◌}
use Rattle.std.proofs.lemmas.Bool.{eq-eqb}
use Rattle.std.proofs.lemmas.Option.{slice_get-get_or}
use Rattle.opgen_design.specs.declared.expr.Op.TheVariants.{Plus}
use Rattle.opgen_design.specs.Tree.{name, none, more, chain}
use Rattle.opgen_design.specs.Value.{IsWidth, as_width, joined, width, width_on}
use Rattle.opgen_design.proofs.WidthLaws.{as_width-of}
use Rattle.opgen_net.specs.Cells.{is_sum}
use Rattle.opgen_net.specs.Valid.{widths, FitsNodes}
use Rattle.opgen_net.proofs.FlowLaws.{index_within}
use Rattle.test_parts.proofs.plans.add.Goals as goal

four : IsWidth 4
four = (omega arith, omega arith)

name-width : (ws : List ℕ) (n : ℕ) → slice_index ws n ≡ 4 → width ws [] (name n) ≡ Some 4
name-width ws n h =
    let there : slice_get ws n ≡ Some 4 = slice_get-get_or ws n 0 (index_within ws n 0 (omega (arith, h))) ∙ ap Some h in
    ap (option_and_then as_width) there ∙ as_width-of 4 four

sum-fits : (ws : List ℕ) (a b : ℕ) → slice_index ws a ≡ 4 → slice_index ws b ≡ 4
    → FitsNodes ws 4 (chain Plus (more (name a) (more (name b) none)))
sum-fits ws a b h g = record {
  has_width = ap (option_and_then (λ v. width_on ws [] Plus v (more (name b) none))) (name-width ws a h)
      ∙ ap (option_and_then (λ v. option_and_then (λ u. Some u) (joined Plus 4 v))) (name-width ws b g)
      ∙ ap (λ (c : Bool). option_and_then (λ u. Some u) (if c then Some 4 else None)) (eq-eqb 4 4 refl);
  nests = omega arith;
}

pub cells-requires-clause-fits : goal.cells-requires-clause-fits
cells-requires-clause-fits c =
    let ws = widths c.args.net.now.nodes in
    subst (FitsNodes ws 4) (sym c.in_ok-sum_of.ensures) (sum-fits ws c.args.first c.args.second c.requires.first c.requires.second)

pub cells-requires-clause-class : goal.cells-requires-clause-class
cells-requires-clause-class c = subst (λ e. IsTrue (is_sum e)) (sym c.in_ok-sum_of.ensures) refl
