-- An expression of class Add is a sum or a difference of two wires.
use Rattle.std.proofs.Common.{◌≡◌, ℕ, Bool, true, false, Some, refl}
use Rattle.std.specs.Prelude.{IsTrue, ◌&&◌}
use Rattle.std.proofs.lemmas.Bool.{and_parts}
use Rattle.opgen_design.specs.declared.expr.Op.TheVariants.{Plus, Minus}
use Rattle.opgen_design.specs.Tree.{Tree, chain, none, more}
use Rattle.opgen_design.specs.Value.{joined}
use Rattle.opgen_design.proofs.WidthLaws.{equal_widths}
use Rattle.opgen_net.specs.Cells.{is_sum, is_wire}
use Rattle.opgen_pieces.specs.Recipe.{operator}
use Rattle.opgen_cuts.specs.Recipe.{is_minus}

abbrev pub sum_tree : Bool → (a b : Tree) → Tree
sum_tree minus a b = chain (operator minus) (more a (more b none))

pub record SumOf (e : Tree) : Type 0 where
  pub minus : Bool
  pub a : Tree
  pub b : Tree
  pub is : e ≡ sum_tree minus a b
  pub a_wire : IsTrue (is_wire a)
  pub b_wire : IsTrue (is_wire b)

of_wires : (minus : Bool) (a b : Tree) → IsTrue (is_wire a && is_wire b) → SumOf (sum_tree minus a b)
of_wires minus a b h =
    let both = and_parts (is_wire a) (is_wire b) h in
    record { minus = minus; a = a; b = b; is = refl; a_wire = both.0; b_wire = both.1 }

pub sum_of : (e : Tree) → IsTrue (is_sum e) → SumOf e
sum_of (chain Plus (more a (more b none))) h = of_wires false a b h
sum_of (chain Minus (more a (more b none))) h = of_wires true a b h
sum_of e h = absurd (cc)

pub minus-is : (minus : Bool) → is_minus (operator minus) ≡ minus
minus-is false = refl
minus-is true = refl

-- its operands have its width
pub joined-sum : (minus : Bool) (x y w : ℕ) → joined (operator minus) x y ≡ Some w → (x ≡ y) × (x ≡ w)
joined-sum false x y w h = equal_widths x y w h
joined-sum true x y w h = equal_widths x y w h
