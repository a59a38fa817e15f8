-- What holds of all that an expression reads.
use Rattle.std.proofs.Common.{ℕ, subst, inl, inr}
use Rattle.opgen_design.specs.Tree.{Tree, Trees, name, part, bits, port, inverse, chain, none, more}
use Rattle.opgen_design.specs.Sound.{AllReads, AllOperandsRead, ReadsName, SomeOperandReads}

module _ (P Q R S : ℕ → Type 0) (names : (n : ℕ) → P n → R n) (ports : (n : ℕ) → Q n → S n) where
  mutual
    pub reads-weaker : (t : Tree) → AllReads P Q t → AllReads R S t
    reads-weaker (name n) h = names n h
    reads-weaker (part n high low) h = names n h
    reads-weaker (bits w) h = tt
    reads-weaker (port n) h = ports n h
    reads-weaker (inverse t) h = reads-weaker t h
    reads-weaker (chain op ts) h = operands-weaker ts h

    operands-weaker : (ts : Trees) → AllOperandsRead P Q ts → AllOperandsRead R S ts
    operands-weaker none h = tt
    operands-weaker (more t ts) h = (reads-weaker t h.0, operands-weaker ts h.1)

module _ (P Q : ℕ → Type 0) (r : ℕ) where
  mutual
    pub holds_of_read : (t : Tree) → AllReads P Q t → ReadsName r t → P r
    holds_of_read (name n) h e = subst P e h
    holds_of_read (part n high low) h e = subst P e h
    holds_of_read (bits w) h e = absurd e
    holds_of_read (port n) h e = absurd e
    holds_of_read (inverse t) h e = holds_of_read t h e
    holds_of_read (chain op ts) h e = holds_of_operand ts h e

    pub holds_of_operand : (ts : Trees) → AllOperandsRead P Q ts → SomeOperandReads r ts → P r
    holds_of_operand none h e = absurd e
    holds_of_operand (more t ts) h e = elim e [ inl a ↦ holds_of_read t h.0 a | inr b ↦ holds_of_operand ts h.1 b ]
