-- The text of an expression in the VHDL subset, as bytes (IEEE 1076-1993, 7.1 to 7.3).
-- Words and ranges are unfoldable: a proof opens the ones that it needs.
use Rattle.std.specs.Prelude.{ℕ, zero, suc, Bool, true, false, List, [], ◌∷◌, ◌++◌, codes, decimal, slice_get, unwrap_or, option_map}
use Rattle.opgen_design.specs.declared.design.Design.{Design}
use Rattle.opgen_design.specs.declared.expr.Op.{Op}
use Rattle.opgen_design.specs.declared.expr.Op.TheVariants.{And, Or, Xor, Cat, Plus, Minus}
use Rattle.opgen_design.specs.Tree.{Tree, Trees, name, part, bits, port, inverse, chain, none, more}
use Rattle.opgen_design.specs.Value.{in_chain, in_not}

-- the name of a signal, and of a port, by its place; no text where there is none
abbrev pub signal_name : Design → ℕ → List ℕ
signal_name d n = unwrap_or (option_map (λ s. s.name) (slice_get d.signals n)) []

abbrev pub port_name : Design → ℕ → List ℕ
port_name d n = unwrap_or (option_map (λ p. p.name) (slice_get d.ports n)) []

abbrev pub bit_text : Bool → List ℕ
bit_text false = codes "0"
bit_text true = codes "1"

-- the bits of a word, the lowest last
abbrev pub bits_text : List Bool → List ℕ
bits_text [] = []
bits_text (b ∷ w) = bits_text w ++ bit_text b

-- a word as a bit string: a string of 0 and 1 (13.6)
unfoldable pub word_text : List Bool → List ℕ
word_text w = codes "\"" ++ bits_text w ++ codes "\""

-- the range of bits from a high one down to a low one
unfoldable pub range_text : (high low : ℕ) → List ℕ
range_text high low = codes "(" ++ decimal high ++ codes " downto " ++ decimal low ++ codes ")"

abbrev pub operator_text : Op → List ℕ
operator_text And = codes " and "
operator_text Or = codes " or "
operator_text Xor = codes " xor "
operator_text Cat = codes " & "
operator_text Plus = codes " + "
operator_text Minus = codes " - "

-- a text within so many pairs of parentheses
abbrev pub within : ℕ → List ℕ → List ℕ
within zero text = text
within (suc n) text = codes "(" ++ within n text ++ codes ")"

abbrev mutual
  -- an operand stands within one pair of parentheses or none: those that `nesting` counts, and no others
  pub expression_text : Design → Tree → List ℕ
  expression_text d (name n) = signal_name d n
  expression_text d (part n high low) = signal_name d n ++ range_text high low
  expression_text d (bits w) = word_text w
  expression_text d (port n) = codes "unsigned(" ++ port_name d n ++ codes ")"
  expression_text d (inverse t) = codes "not " ++ within (in_not t) (expression_text d t)
  expression_text d (chain op ts) = chain_text d op ts

  -- the operands of a chain, with its operator between them
  pub chain_text : Design → Op → Trees → List ℕ
  chain_text d op none = []
  chain_text d op (more t ts) = within (in_chain t) (expression_text d t) ++ further_text d op ts

  pub further_text : Design → Op → Trees → List ℕ
  further_text d op none = []
  further_text d op (more t ts) = operator_text op ++ within (in_chain t) (expression_text d t) ++ further_text d op ts
