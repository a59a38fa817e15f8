-- Expressions encoded as numbers in nested pairs and decoded again, by which a proof tells two expressions apart.
use Rattle.std.specs.Prelude.{◌≡◌, ℕ, zero, suc, Bool, true, false, List, [], ◌∷◌, refl}
use Rattle.std.proofs.Common.{ap, ◌∙◌}
use Rattle.std.specs.Coded.{Coded, code_by}
use base.Stored.{Gv, gnil, gnum, gcons}
use denote.Struct.Codes.{itself}
use Rattle.opgen_design.specs.declared.expr.Op.{Op}
use Rattle.opgen_design.specs.declared.expr.Op.TheVariants.{And, Or, Xor, Cat, Plus, Minus}
use Rattle.opgen_design.specs.Tree.{Tree, Trees, name, part, bits, port, inverse, chain, none, more}

abbrev pub head : Gv → Gv
head gnil = gnil
head (gnum n) = gnil
head (gcons a b) = a

abbrev pub tail : Gv → Gv
tail gnil = gnil
tail (gnum n) = gnil
tail (gcons a b) = b

abbrev pub number : Gv → ℕ
number gnil = 0
number (gnum n) = n
number (gcons a b) = 0

abbrev pub op_number : Op → ℕ
op_number And = 0
op_number Or = 1
op_number Xor = 2
op_number Cat = 3
op_number Plus = 4
op_number Minus = 5

abbrev pub op_numbered : ℕ → Op
op_numbered zero = And
op_numbered (suc zero) = Or
op_numbered (suc (suc zero)) = Xor
op_numbered (suc (suc (suc zero))) = Cat
op_numbered (suc (suc (suc (suc zero)))) = Plus
op_numbered _ = Minus

pub op_numbered-op_number : (op : Op) → op_numbered (op_number op) ≡ op
op_numbered-op_number And = refl
op_numbered-op_number Or = refl
op_numbered-op_number Xor = refl
op_numbered-op_number Cat = refl
op_numbered-op_number Plus = refl
op_numbered-op_number Minus = refl

abbrev pub bits_code : List Bool → Gv
bits_code [] = gnil
bits_code (false ∷ w) = gcons (gnum 0) (bits_code w)
bits_code (true ∷ w) = gcons (gnum 1) (bits_code w)

abbrev pub is_one : ℕ → Bool
is_one zero = false
is_one (suc n) = true

abbrev pub bits_coded : Gv → List Bool
bits_coded gnil = []
bits_coded (gnum n) = []
bits_coded (gcons a b) = is_one (number a) ∷ bits_coded b

pub bits_coded-bits_code : (w : List Bool) → bits_coded (bits_code w) ≡ w
bits_coded-bits_code [] = refl
bits_coded-bits_code (false ∷ w) = ap (λ v. false ∷ v) (bits_coded-bits_code w)
bits_coded-bits_code (true ∷ w) = ap (λ v. true ∷ v) (bits_coded-bits_code w)

-- the number of the kind, and then its parts
abbrev mutual
  pub tree_code : Tree → Gv
  tree_code (name n) = gcons (gnum 0) (gnum n)
  tree_code (part n high low) = gcons (gnum 1) (gcons (gnum n) (gcons (gnum high) (gnum low)))
  tree_code (bits w) = gcons (gnum 2) (bits_code w)
  tree_code (port n) = gcons (gnum 3) (gnum n)
  tree_code (inverse t) = gcons (gnum 4) (tree_code t)
  tree_code (chain op ts) = gcons (gnum 5) (gcons (gnum (op_number op)) (trees_code ts))

  pub trees_code : Trees → Gv
  trees_code none = gnil
  trees_code (more t ts) = gcons (tree_code t) (trees_code ts)

abbrev pub of_kind : ℕ → Gv → Tree → Trees → Tree
of_kind zero g t ts = name (number g)
of_kind (suc zero) g t ts = part (number (head g)) (number (head (tail g))) (number (tail (tail g)))
of_kind (suc (suc zero)) g t ts = bits (bits_coded g)
of_kind (suc (suc (suc zero))) g t ts = port (number g)
of_kind (suc (suc (suc (suc zero)))) g t ts = inverse t
of_kind _ g t ts = chain (op_numbered (number (head g))) ts

abbrev mutual
  pub tree_coded : Gv → Tree
  tree_coded gnil = name 0
  tree_coded (gnum n) = name 0
  tree_coded (gcons k g) = of_kind (number k) g (tree_coded g) (operands_coded g)

  pub operands_coded : Gv → Trees
  operands_coded gnil = none
  operands_coded (gnum n) = none
  operands_coded (gcons a b) = trees_coded b

  pub trees_coded : Gv → Trees
  trees_coded gnil = none
  trees_coded (gnum n) = none
  trees_coded (gcons a b) = more (tree_coded a) (trees_coded b)

mutual
  pub tree_coded-tree_code : (t : Tree) → tree_coded (tree_code t) ≡ t
  tree_coded-tree_code (name n) = refl
  tree_coded-tree_code (part n high low) = refl
  tree_coded-tree_code (bits w) = ap bits (bits_coded-bits_code w)
  tree_coded-tree_code (port n) = refl
  tree_coded-tree_code (inverse t) = ap inverse (tree_coded-tree_code t)
  tree_coded-tree_code (chain op ts) =
      ap (λ o. chain o (trees_coded (trees_code ts))) (op_numbered-op_number op) ∙ ap (chain op) (trees_coded-trees_code ts)

  pub trees_coded-trees_code : (ts : Trees) → trees_coded (trees_code ts) ≡ ts
  trees_coded-trees_code none = refl
  trees_coded-trees_code (more t ts) =
      ap (λ x. more x (trees_coded (trees_code ts))) (tree_coded-tree_code t) ∙ ap (more t) (trees_coded-trees_code ts)

abbrev pub coded_tree : Coded Tree
coded_tree = code_by Gv itself tree_code tree_coded tree_coded-tree_code
