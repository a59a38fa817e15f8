-- The expressions of a digit.
use Rattle.std.proofs.Common.{◌≡◌, ℕ, ◌+◌, ◌-◌, Bool, List, [], Some, None, refl, ap, ◌∙◌, arith}
use Rattle.std.specs.Prelude.{slice_index, slice_get, option_and_then, if◌then◌else◌, nat_le, nat_lt, ◌&&◌}
use Rattle.std.proofs.lemmas.Bool.{eq-eqb, le-leb, lt-ltb}
use Rattle.std.proofs.lemmas.Option.{slice_get-get_or}
use Rattle.opgen_design.specs.declared.expr.Op.TheVariants.{Minus}
use Rattle.opgen_design.specs.Tree.{name, part, none, more}
use Rattle.opgen_design.specs.Value.{IsWidth, as_width, joined, width_on}
use Rattle.opgen_net.specs.Cells.{IsLogic}
use Rattle.opgen_net.specs.Valid.{FitsNodes}
use Rattle.opgen_net.proofs.CellLaws.{inverse-one, one-logic, part-one}
use Rattle.opgen_net.proofs.FlowLaws.{index_within}
use Rattle.opgen_net.specs.Placed.{difference_of}
use Rattle.opgen_net.proofs.WordLaws.{name-width}
use Rattle.opgen_digits.specs.Digit.{is_not_negative}

module _ (ws : List ℕ) where
  pub difference-fits : (a b v : ℕ) → IsWidth v → slice_index ws a ≡ v → slice_index ws b ≡ v → FitsNodes ws v (difference_of a b)
  difference-fits a b v w h g = record {
    has_width = ap (option_and_then (λ u. width_on ws [] Minus u (more (name b) none))) (name-width ws a v w h)
        ∙ ap (option_and_then (λ u. option_and_then (λ x. Some x) (joined Minus v u))) (name-width ws b v w g)
        ∙ ap (λ (c : Bool). option_and_then (λ x. Some x) (if c then Some v else None)) (eq-eqb v v refl);
    nests = omega arith;
  }

  pub not_negative-fits : (rest f : ℕ) → slice_index ws f ≡ rest + 2 → FitsNodes ws 1 (is_not_negative rest f)
  not_negative-fits rest f h =
      let top = rest + 1 in
      let there : slice_get ws f ≡ Some (rest + 2) = slice_get-get_or ws f 0 (index_within ws f 0 (omega (arith, h))) ∙ ap Some h in
      let one : top + 1 - top ≡ 1 = omega arith in
      record {
        has_width = ap (option_and_then (λ w. if nat_le top top && nat_lt top w then as_width (top + 1 - top) else None)) there
            ∙ ap (λ c. if c && nat_lt top (rest + 2) then as_width (top + 1 - top) else None) (le-leb top top (omega arith))
            ∙ ap (λ c. if c then as_width (top + 1 - top) else None) (lt-ltb top (rest + 2) (omega arith))
            ∙ ap as_width one;
        nests = omega arith;
      }

  pub not_negative-logic : (rest f : ℕ) → IsLogic ws (is_not_negative rest f)
  not_negative-logic rest f =
      let top = rest + 1 in
      one-logic ws 0 1 (is_not_negative rest f) (omega arith) (omega arith) (inverse-one ws 0 1 (part f top top) (part-one ws f top))
