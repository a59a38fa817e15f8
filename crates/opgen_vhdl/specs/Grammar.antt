-- The grammar of expressions in the VHDL subset (IEEE 1076-1993, 7.1 to 7.3). Each fact speaks of two lists of symbols: the
-- first begins with what the fact names, and the second is what follows it.
use Rattle.std.specs.Prelude.{ℕ, suc, ◌<◌, Bool, List, ◌∷◌, codes, IsTrue}
use Rattle.std.specs.List.{position_or_len}
use Rattle.std.specs.Str.{bytes_eq}
use Rattle.std.specs.Str.Parse.{digits_value}
use Rattle.opgen_num.specs.declared.format.TheConstants.{MAX_WIDTH}
use Rattle.opgen_vhdl.specs.declared.kind.TokenKind.TheVariants.{LeftParen, RightParen, Ampersand, Plus, Minus}
use Rattle.opgen_design.specs.declared.expr.Op.{Op}
use Rattle.opgen_design.specs.declared.expr.Op.TheVariants as op
use Rattle.opgen_names.specs.Names.{is_allowed_name}
use Rattle.opgen_design.specs.Tree.{Tree, Trees, name, part, bits, port, inverse, chain, none, more}
use Rattle.opgen_vhdl.specs.Symbols.{Symbol, word, number, string, mark}

-- the names that are declared, in order
pub record Names : Type 0 where
  pub signals : List (List ℕ)
  pub ports : List (List ℕ)

-- what a name stands for: the place of its first declaration, or how many declarations there are where it is not declared
abbrev pub place_of : List (List ℕ) → List ℕ → ℕ
place_of names n = position_or_len (bytes_eq n) names

-- an identifier that is short enough and no refused name
abbrev pub IsName : List ℕ → Type 0
IsName n = IsTrue (is_allowed_name n)

-- the number that decimal digits stand for
abbrev pub value : List ℕ → ℕ
value digits = digits_value 10 digits

-- digits of the number of a bit of a signal
abbrev pub IsIndex : List ℕ → Type 0
IsIndex digits = value digits < MAX_WIDTH

-- how an operator is written
abbrev pub operator : Op → Symbol
operator op.And = word (codes "and")
operator op.Or = word (codes "or")
operator op.Xor = word (codes "xor")
operator op.Cat = mark Ampersand
operator op.Plus = mark Plus
operator op.Minus = mark Minus

-- a signal, or a part of one
pub data IsSignalPart (names : Names) : Tree → List Symbol → List Symbol → Type 0 where
  whole : {n : List ℕ} {rest : List Symbol} → IsName n →
      IsSignalPart names (name (place_of names.signals n)) (word n ∷ rest) rest
  slice : {n high low : List ℕ} {rest : List Symbol} → IsName n → IsIndex high → IsIndex low →
      IsSignalPart names (part (place_of names.signals n) (value high) (value low))
      (word n ∷ mark LeftParen ∷ number high ∷ word (codes "downto") ∷ number low ∷ mark RightParen ∷ rest) rest

mutual
  -- a primary with parentheses at most so deep
  pub data IsPrimary (names : Names) : (depth : ℕ) → Tree → List Symbol → List Symbol → Type 0 where
    signal : {d : ℕ} {t : Tree} {ss rest : List Symbol} → IsSignalPart names t ss rest → IsPrimary names d t ss rest
    literal : {d : ℕ} {w : List Bool} {rest : List Symbol} → IsPrimary names d (bits w) (string w ∷ rest) rest
    input : {d : ℕ} {n : List ℕ} {rest : List Symbol} → IsName n →
        IsPrimary names d (port (place_of names.ports n))
        (word (codes "unsigned") ∷ mark LeftParen ∷ word n ∷ mark RightParen ∷ rest) rest
    group : {d : ℕ} {t : Tree} {ss rest : List Symbol} → IsExpression names d t ss (mark RightParen ∷ rest) →
        IsPrimary names (suc d) t (mark LeftParen ∷ ss) rest

  -- a primary, or one behind `not`
  pub data IsFactor (names : Names) : (depth : ℕ) → Tree → List Symbol → List Symbol → Type 0 where
    plain : {d : ℕ} {t : Tree} {ss rest : List Symbol} → IsPrimary names d t ss rest → IsFactor names d t ss rest
    opposite : {d : ℕ} {t : Tree} {ss rest : List Symbol} → IsPrimary names d t ss rest →
        IsFactor names d (inverse t) (word (codes "not") ∷ ss) rest

  -- operands with the operator before each
  pub data AreOperands (names : Names) : (depth : ℕ) → Op → Trees → List Symbol → List Symbol → Type 0 where
    done : {d : ℕ} {o : Op} {rest : List Symbol} → AreOperands names d o none rest rest
    next : {d : ℕ} {o : Op} {t : Tree} {ts : Trees} {ss middle rest : List Symbol} →
        IsFactor names d t ss middle → AreOperands names d o ts middle rest →
        AreOperands names d o (more t ts) (operator o ∷ ss) rest

  -- a factor, or two or more of them with one operator between them
  pub data IsExpression (names : Names) : (depth : ℕ) → Tree → List Symbol → List Symbol → Type 0 where
    single : {d : ℕ} {t : Tree} {ss rest : List Symbol} → IsFactor names d t ss rest → IsExpression names d t ss rest
    several : {d : ℕ} {o : Op} {t u : Tree} {ts : Trees} {ss middle rest : List Symbol} →
        IsFactor names d t ss middle → AreOperands names d o (more u ts) middle rest →
        IsExpression names d (chain o (more t (more u ts))) ss rest
