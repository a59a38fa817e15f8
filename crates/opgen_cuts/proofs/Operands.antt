-- The expression of a sum or a difference: a chain of two operands.
use Rattle.std.proofs.Common.{◌≡◌, ℕ, Bool, List, [], ◌∷◌, Vec, Global, length, get_or, refl, ap, ◌∙◌, subst, sym, arith, rules}
use Rattle.opgen_design.specs.declared.expr.Expr.{Expr, Chain}
use Rattle.opgen_design.specs.declared.expr.Expr.TheFolds.{the_lemmas}
use Rattle.opgen_design.specs.declared.expr.Op.{Op}
use Rattle.opgen_design.specs.Plain.{plain, plain_all}
use Rattle.opgen_design.specs.Tree.{chain, more, none}
use Rattle.opgen_net.specs.declared.word_bits.WordBit.{WordBit}
use Rattle.opgen_pieces.specs.Law.{AreOperands}
use Rattle.opgen_cuts.specs.declared.cutting.Cutting.{Cutting}
use Rattle.opgen_cuts.specs.Recipe.{is_minus, with_operands, with_pieces}
use Rattle.opgen_cuts.specs.Stands.{PiecesFollow}
use Rattle.opgen_cuts.specs.Wires.{wire_bits}

pub plain-chain : (op : Op) (v : Vec Expr Global) → plain (Chain op v) ≡ chain op (plain_all v.items)
plain-chain op v = search (rules, the_lemmas)

-- the operands of a sum that follows are two
pub two-operands : (s : Cutting) (op : Op) (es : List Expr) → PiecesFollow s (chain op (plain_all es)) → length es ≡ 2
two-operands s op [] h = absurd h
two-operands s op (a ∷ []) h = absurd h
two-operands s op (a ∷ b ∷ []) h = refl
two-operands s op (a ∷ b ∷ d ∷ es) h = absurd h

two-plain : (es : List Expr) (x y : Expr) → length es ≡ 2 → x ≡ get_or es 0 x → y ≡ get_or es 1 y
    → plain_all es ≡ more (plain x) (more (plain y) none)
two-plain [] x y l f g = absurd (omega (arith, l))
two-plain (a ∷ []) x y l f g = absurd (omega (arith, l))
two-plain (a ∷ b ∷ []) x y l f g = ap (λ z. more (plain z) (more (plain b) none)) (sym f) ∙ ap (λ z. more (plain x) (more (plain z) none)) (sym g)
two-plain (a ∷ b ∷ d ∷ es) x y l f g = absurd (omega (arith, l))

-- its expression in the code, an operator over two others, whose bits are first and second
module _ (s : Cutting) (e : Expr) (op : Op) (v : Vec Expr Global) (x y : Expr) (first second : List WordBit) (follow : PiecesFollow s (plain e))
    (is : e ≡ Chain op v) (is_x : x ≡ get_or v.items 0 x) (is_y : y ≡ get_or v.items 1 y) (of_x : first ≡ wire_bits s.bits (plain x))
    (of_y : second ≡ wire_bits s.bits (plain y)) where
  sum-plain : plain e ≡ chain op (more (plain x) (more (plain y) none))
  sum-plain =
      let chained : plain e ≡ chain op (plain_all v.items) = ap plain is ∙ plain-chain op v in
      chained ∙ ap (chain op) (two-plain v.items x y (two-operands s op v.items (subst (PiecesFollow s) chained follow)) is_x is_y)

  pub operands-are : AreOperands s.net first second
  operands-are =
      let are : AreOperands s.net (wire_bits s.bits (plain x)) (wire_bits s.bits (plain y)) = subst (PiecesFollow s) sum-plain follow in
      subst (λ f. AreOperands s.net f second) (sym of_x) (subst (λ g. AreOperands s.net (wire_bits s.bits (plain x)) g) (sym of_y) are)

  pub pieces-are : (most : ℕ) (whole minus : Bool) → minus ≡ is_minus op
      → with_operands most whole minus first second s ≡ with_pieces most whole (plain e) s
  pieces-are most whole minus h =
      ap (λ m. with_operands most whole m first second s) h
      ∙ ap (λ f. with_operands most whole (is_minus op) f second s) of_x
      ∙ ap (λ g. with_operands most whole (is_minus op) (wire_bits s.bits (plain x)) g s) of_y
      ∙ ap (λ t. with_pieces most whole t s) (sym sum-plain)
