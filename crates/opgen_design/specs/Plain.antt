-- The plain data that contracts use for an expression of the code.
use Rattle.std.specs.Prelude.{List, [], ◌∷◌, map}
use Rattle.opgen_design.specs.declared.expr.Expr.{Expr, fold-Expr}
use Rattle.opgen_design.specs.declared.expr.Expr.TheOpen.{Expr-F}
use Rattle.opgen_design.specs.Tree.{Tree, Trees, name, part, bits, port, inverse, chain, none, more}

abbrev pub trees_of : List Tree → Trees
trees_of [] = none
trees_of (t ∷ ts) = more t (trees_of ts)

-- one level, whose operands are plain data already
abbrev pub plain_level : Expr-F Tree → Tree
plain_level (Expr-F.Name n) = name n
plain_level (Expr-F.Part s) = part s.node s.high s.low
plain_level (Expr-F.Bits w) = bits w
plain_level (Expr-F.Port n) = port n
plain_level (Expr-F.Not e) = inverse e.value
plain_level (Expr-F.Chain op v) = chain op (trees_of v.items)

abbrev pub plain : Expr → Tree
plain = fold-Expr Tree plain_level

abbrev pub plain_all : List Expr → Trees
plain_all es = trees_of (map plain es)
