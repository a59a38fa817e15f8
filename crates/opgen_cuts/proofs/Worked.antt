-- A sum of two words of five bits, and a second sum of it, cut at four bits: worked words.
use Rattle.std.proofs.Common.{◌≡◌, Bool, true, false, List, [], ◌∷◌, refl}
use Rattle.std.specs.Prelude.{pos}
use Rattle.opgen_design.specs.declared.expr.Op.TheVariants.{Plus, Minus}
use Rattle.opgen_design.specs.Tree.{name, chain, none, more}
use Rattle.opgen_net.specs.declared.cell.Class.TheVariants.{Add}
use Rattle.opgen_net.specs.declared.net.Net.{Net}
use Rattle.opgen_net.specs.declared.node.Node.TheVariants.{Input, Cells}
use Rattle.opgen_cuts.specs.Recipe.{cut_net}
use Rattle.opgen_cuts.specs.Same.{words_out}

-- a - b + a, without its lowest bit
abbrev two_sums : Net
two_sums = record {
  inputs = ([], 5) ∷ ([], 5) ∷ [];
  nodes =
      Input 0 5
      ∷ Input 1 5
      ∷ Cells Add 5 (chain Minus (more (name 0) (more (name 1) none)))
      ∷ Cells Add 5 (chain Plus (more (name 2) (more (name 0) none)))
      ∷ [];
  outputs = record { name = []; from = record { node = 3; high = 4; low = 1 } } ∷ [];
}

-- 10 - 3 + 10 = 17
abbrev ten_and_three : List (List Bool)
ten_and_three = (false ∷ true ∷ false ∷ true ∷ false ∷ []) ∷ (true ∷ true ∷ false ∷ false ∷ false ∷ []) ∷ []

worked : words_out (cut_net 4 two_sums) (ten_and_three ∷ []) (pos 0) ≡ (false ∷ false ∷ false ∷ true ∷ []) ∷ []
worked = refl

unchanged : words_out (cut_net 4 two_sums) (ten_and_three ∷ []) (pos 0) ≡ words_out two_sums (ten_and_three ∷ []) (pos 0)
unchanged = refl
