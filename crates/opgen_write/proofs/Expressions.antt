-- The text of an expression is cut into symbols that are that expression in the grammar.
use Rattle.std.proofs.Common.{◌≡◌, ℕ, zero, suc, ◌+◌, ◌<◌, ◌≤◌, Bool, true, false, not, List, [], ◌∷◌, ◌++◌, length, codes, decimal, IsTrue, refl, sym, ◌∙◌, subst, arith, append_assoc}
use Rattle.std.specs.List.{list_all}
use Rattle.std.proofs.lemmas.Bool.{and_from}
use Rattle.std.proofs.lemmas.List.Folds.{list_all-append}
use Rattle.opgen_design.specs.declared.design.Design.{Design}
use Rattle.opgen_design.specs.declared.expr.Op.{Op}
use Rattle.opgen_design.specs.declared.expr.Op.TheVariants as op
use Rattle.opgen_names.specs.Names.{is_allowed_name}
use Rattle.opgen_design.specs.Tree as tree
use Rattle.opgen_design.specs.Tree.{Tree, Trees}
use Rattle.opgen_num.specs.declared.format.TheConstants.{MAX_WIDTH}
use Rattle.opgen_design.specs.Value.{IsWidth, in_chain, in_not, nesting, operands_nesting}
use Rattle.opgen_vhdl.specs.Tokens.{is_word_byte, begins}
use Rattle.opgen_vhdl.specs.Symbols.{Symbol, word, number, string, mark, is_semicolon}
use Rattle.opgen_vhdl.specs.ExpressionText.{signal_name, port_name, word_text, range_text, operator_text, within, expression_text, further_text}
use Rattle.opgen_vhdl.specs.Shaped.{IsPart, AreTwoOrMore}
use Rattle.opgen_vhdl.specs.Grammar.{place_of, operator, IsSignalPart, whole, slice, IsPrimary, signal, literal, input, group, IsFactor, plain, opposite, AreOperands, done, next, IsExpression, single, several}
use Rattle.opgen_vhdl.specs.Statements.{names_of}
use Rattle.opgen_vhdl.specs.declared.kind.TokenKind.TheVariants.{LeftParen, RightParen}
use Rattle.opgen_write.proofs.Lexing.{Lexes, lexes_found}
use Rattle.opgen_write.proofs.Words.{lexes_name, lexes_range, lexes_word, value_of-decimal}

-- no symbol ends a piece
abbrev pub AreWithin : List Symbol → Type 0
AreWithin ss = list_all (λ s. not (is_semicolon s)) ss ≡ true

pub within-append : (a b : List Symbol) → AreWithin a → AreWithin b → AreWithin (a ++ b)
within-append a b h k = list_all-append (λ s. not (is_semicolon s)) a b ∙ and_from _ _ h k

-- Before any rest that begins with no word byte the text is cut into these symbols, within a piece, which are what R says.
pub record Writes (R : List Symbol → List Symbol → Type 0) (text : List ℕ) : Type 0 where
  pub symbols : List Symbol
  pub within_piece : AreWithin symbols
  pub lexes : (rest : List ℕ) (ks : List Symbol) → begins is_word_byte rest ≡ false → Lexes rest ks → Lexes (text ++ rest) (symbols ++ ks)
  pub reads : (ks : List Symbol) → R (symbols ++ ks) ks

pub written_as : (R Q : List Symbol → List Symbol → Type 0) (text : List ℕ) → ((ss ks : List Symbol) → R ss ks → Q ss ks) → Writes R text
    → Writes Q text
written_as R Q text f w = record {
  symbols = w.symbols;
  within_piece = w.within_piece;
  lexes = w.lexes;
  reads = λ ks. f (w.symbols ++ ks) ks (w.reads ks);
}

-- the name is allowed, and stands first at the place
pub record IsFound (names : List (List ℕ)) (n : List ℕ) (place : ℕ) : Type 0 where
  pub allowed : IsTrue (is_allowed_name n)
  pub first : place_of names n ≡ place

-- the names of a design's signals and ports stand for them
pub record AreFound (d : Design) : Type 0 where
  pub signals : (s : ℕ) → s < length d.signals → IsFound (names_of d).signals (signal_name d s) s
  pub ports : (p : ℕ) → p < length d.ports → IsFound (names_of d).ports (port_name d p) p

-- an expression over a design's signals and ports whose words and ranges can be written
abbrev mutual
  pub Fits : Design → Tree → Type 0
  Fits d (tree.name n) = n < length d.signals
  Fits d (tree.part n high low) = (n < length d.signals) × (high < MAX_WIDTH) × (low < MAX_WIDTH)
  Fits d (tree.bits w) = IsWidth (length w)
  Fits d (tree.port n) = n < length d.ports
  Fits d (tree.inverse t) = Fits d t
  Fits d (tree.chain o ts) = AreTwoOrMore ts × FitAll d ts

  pub FitAll : Design → Trees → Type 0
  FitAll d tree.none = Unit {0}
  FitAll d (tree.more t ts) = Fits d t × FitAll d ts

same_part : (a b h i l m : ℕ) → a ≡ b → h ≡ i → l ≡ m → tree.part a h l ≡ tree.part b i m
same_part a b h i l m p q r = rw (p, q, r) refl

pub range-begins : (high low : ℕ) (rest : List ℕ) → begins is_word_byte (range_text high low ++ rest) ≡ false
unfolding range_text
range-begins high low rest = refl

regroup : (a b c r : List ℕ) → (a ++ b ++ c) ++ r ≡ a ++ (b ++ (c ++ r))
regroup a b c r = simp append_assoc

operator-begins : (o : Op) (rest : List ℕ) → begins is_word_byte (operator_text o ++ rest) ≡ false
operator-begins op.And rest = refl
operator-begins op.Or rest = refl
operator-begins op.Xor rest = refl
operator-begins op.Cat rest = refl
operator-begins op.Plus rest = refl
operator-begins op.Minus rest = refl

lexes_operator : (o : Op) (rest : List ℕ) (ks : List Symbol) → Lexes rest ks → Lexes (operator_text o ++ rest) (operator o ∷ ks)
lexes_operator op.And rest ks l = lexes_found 3 (codes " and " ++ rest) rest (operator op.And ∷ []) ks refl l
lexes_operator op.Or rest ks l = lexes_found 3 (codes " or " ++ rest) rest (operator op.Or ∷ []) ks refl l
lexes_operator op.Xor rest ks l = lexes_found 3 (codes " xor " ++ rest) rest (operator op.Xor ∷ []) ks refl l
lexes_operator op.Cat rest ks l = lexes_found 3 (codes " & " ++ rest) rest (operator op.Cat ∷ []) ks refl l
lexes_operator op.Plus rest ks l = lexes_found 3 (codes " + " ++ rest) rest (operator op.Plus ∷ []) ks refl l
lexes_operator op.Minus rest ks l = lexes_found 3 (codes " - " ++ rest) rest (operator op.Minus ∷ []) ks refl l

operator-within : (o : Op) (ss : List Symbol) → AreWithin ss → AreWithin (operator o ∷ ss)
operator-within op.And ss h = h
operator-within op.Or ss h = h
operator-within op.Xor ss h = h
operator-within op.Cat ss h = h
operator-within op.Plus ss h = h
operator-within op.Minus ss h = h

module _ (d : Design) (found : AreFound d) where
  name_written : (s : ℕ) → s < length d.signals → Writes (IsSignalPart (names_of d) (tree.name s)) (signal_name d s)
  name_written s h =
      let n = signal_name d s in
      let f = found.signals s h in
      record {
        symbols = word n ∷ [];
        within_piece = refl;
        lexes = λ rest ks stops l. lexes_name n rest f.allowed stops ks l;
        reads = λ ks. subst (λ k. IsSignalPart (names_of d) (tree.name k) (word n ∷ ks) ks) f.first (whole f.allowed);
      }

  part_written : (s high low : ℕ) → s < length d.signals → high < MAX_WIDTH → low < MAX_WIDTH
      → Writes (IsSignalPart (names_of d) (tree.part s high low)) (signal_name d s ++ range_text high low)
  part_written s high low h i j =
      let n = signal_name d s in
      let f = found.signals s h in
      let v = value_of-decimal high i in
      let u = value_of-decimal low j in
      record {
        symbols = word n ∷ mark LeftParen ∷ number (decimal high) ∷ word (codes "downto") ∷ number (decimal low) ∷ mark RightParen ∷ [];
        within_piece = refl;
        lexes = λ rest ks stops l.
            rw (append_assoc n (range_text high low) rest)
            (lexes_name n (range_text high low ++ rest) f.allowed (range-begins high low rest) _ (lexes_range high low rest ks i j l));
        reads = λ ks. subst
            (λ t. IsSignalPart (names_of d) t (word n ∷ mark LeftParen ∷ number (decimal high) ∷ word (codes "downto") ∷ number
            (decimal low) ∷ mark RightParen ∷ ks) ks)
            (same_part _ _ _ _ _ _ f.first v u)
            (slice f.allowed (omega (arith, v, i)) (omega (arith, u, j)));
      }

  literal_written : (depth : ℕ) (w : List Bool) → IsWidth (length w) → Writes (IsPrimary (names_of d) depth (tree.bits w)) (word_text w)
  literal_written depth w width = record {
    symbols = string w ∷ [];
    within_piece = refl;
    lexes = λ rest ks stops l. lexes_word w rest ks width l;
    reads = λ ks. literal;
  }

  input_written : (depth p : ℕ) → p < length d.ports → Writes (IsPrimary (names_of d) depth (tree.port p))
      (codes "unsigned(" ++ port_name d p ++ codes ")")
  input_written depth p h =
      let n = port_name d p in
      let f = found.ports p h in
      record {
        symbols = word (codes "unsigned") ∷ mark LeftParen ∷ word n ∷ mark RightParen ∷ [];
        within_piece = refl;
        lexes = λ rest ks stops l.
            let closed = lexes_found 1 (codes ")" ++ rest) rest (mark RightParen ∷ []) ks refl l in
            let named = lexes_name n (codes ")" ++ rest) f.allowed refl _ closed in
            let text : (codes "unsigned(" ++ n ++ codes ")") ++ rest ≡ codes "unsigned(" ++ (n ++ (codes ")" ++ rest)) =
            simp append_assoc in
            rw text (lexes_found 2 (codes "unsigned(" ++ (n ++ (codes ")" ++ rest))) (n ++ (codes ")" ++ rest))
            (word (codes "unsigned") ∷ mark LeftParen ∷ []) _ refl named);
        reads = λ ks. subst (λ k. IsPrimary (names_of d) depth (tree.port k)
            (word (codes "unsigned") ∷ mark LeftParen ∷ word n ∷ mark RightParen ∷ ks) ks) f.first (input f.allowed);
      }

  -- a signal or a part of one
  pub signal_part_written : (t : Tree) → IsPart t → Fits d t → Writes (IsSignalPart (names_of d) t) (expression_text d t)
  signal_part_written (tree.name s) h f = name_written s f
  signal_part_written (tree.part s high low) h f = part_written s high low f.0 f.1 f.2
  signal_part_written (tree.bits w) h f = absurd h
  signal_part_written (tree.port p) h f = absurd h
  signal_part_written (tree.inverse t) h f = absurd h
  signal_part_written (tree.chain o ts) h f = absurd h

  -- an expression that stands in no parentheses
  primary_written : (depth : ℕ) (t : Tree) → in_not t ≡ 0 → Fits d t → Writes (IsPrimary (names_of d) depth t) (expression_text d t)
  primary_written depth (tree.name s) h f = written_as _ _ _ (λ ss ks i. signal i) (name_written s f)
  primary_written depth (tree.part s high low) h f = written_as _ _ _ (λ ss ks i. signal i) (part_written s high low f.0 f.1 f.2)
  primary_written depth (tree.bits w) h f = literal_written depth w f
  primary_written depth (tree.port p) h f = input_written depth p f
  primary_written depth (tree.inverse t) h f = absurd (omega (arith, h))
  primary_written depth (tree.chain o ts) h f = absurd (omega (arith, h))

  group_written : (depth : ℕ) (t : Tree) (text : List ℕ) → Writes (IsExpression (names_of d) depth t) text
      → Writes (IsPrimary (names_of d) (suc depth) t) (codes "(" ++ text ++ codes ")")
  group_written depth t text w = record {
    symbols = mark LeftParen ∷ (w.symbols ++ mark RightParen ∷ []);
    within_piece = within-append w.symbols (mark RightParen ∷ []) w.within_piece refl;
    lexes = λ rest ks stops l.
        let closed = lexes_found 1 (codes ")" ++ rest) rest (mark RightParen ∷ []) ks refl l in
        let inner = w.lexes (codes ")" ++ rest) (mark RightParen ∷ ks) refl closed in
        rw (append_assoc text (codes ")") rest, append_assoc w.symbols (mark RightParen ∷ []) ks)
        (lexes_found 1 (codes "(" ++ (text ++ (codes ")" ++ rest))) (text ++ (codes ")" ++ rest)) (mark LeftParen ∷ [])
        (w.symbols ++ mark RightParen ∷ ks) refl inner);
    reads = λ ks. group (rw (append_assoc w.symbols (mark RightParen ∷ []) ks) (w.reads (mark RightParen ∷ ks)));
  }

  not_written : (depth : ℕ) (t : Tree) (text : List ℕ) → Writes (IsPrimary (names_of d) depth t) text
      → Writes (IsFactor (names_of d) depth (tree.inverse t)) (codes "not " ++ text)
  not_written depth t text w = record {
    symbols = word (codes "not") ∷ w.symbols;
    within_piece = w.within_piece;
    lexes = λ rest ks stops l. lexes_found 2 (codes "not " ++ (text ++ rest)) (text ++ rest) (word (codes "not") ∷ [])
        (w.symbols ++ ks) refl (w.lexes rest ks stops l);
    reads = λ ks. opposite (w.reads ks);
  }

  further-begins : (o : Op) (ts : Trees) (rest : List ℕ) → begins is_word_byte rest ≡ false
      → begins is_word_byte (further_text d o ts ++ rest) ≡ false
  further-begins o tree.none rest h = h
  further-begins o (tree.more t ts) rest h =
      subst (λ u. begins is_word_byte u ≡ false)
      (sym (regroup (operator_text o) (within (in_chain t) (expression_text d t)) (further_text d o ts) rest)) (operator-begins o _)

  -- the first operand, and those behind it
  operands_lex : (depth : ℕ) (o : Op) (t : Tree) (ts : Trees) (text rest : List ℕ) (ks : List Symbol)
      (first : Writes (IsFactor (names_of d) depth t) text)
      (others : Writes (AreOperands (names_of d) depth o ts) (further_text d o ts)) → begins is_word_byte rest ≡ false → Lexes rest ks
      → Lexes (text ++ (further_text d o ts ++ rest)) (first.symbols ++ (others.symbols ++ ks))
  operands_lex depth o t ts text rest ks first others stops l =
      first.lexes (further_text d o ts ++ rest) (others.symbols ++ ks) (further-begins o ts rest stops) (others.lexes rest ks stops l)

  next_written : (depth : ℕ) (o : Op) (t : Tree) (ts : Trees)
      → Writes (IsFactor (names_of d) depth t) (within (in_chain t) (expression_text d t))
      → Writes (AreOperands (names_of d) depth o ts) (further_text d o ts)
      → Writes (AreOperands (names_of d) depth o (tree.more t ts)) (further_text d o (tree.more t ts))
  next_written depth o t ts first others =
      let text = within (in_chain t) (expression_text d t) in
      record {
        symbols = operator o ∷ (first.symbols ++ others.symbols);
        within_piece = operator-within o (first.symbols ++ others.symbols)
            (within-append first.symbols others.symbols first.within_piece others.within_piece);
        lexes = λ rest ks stops l.
            let found = lexes_operator o _ _ (operands_lex depth o t ts text rest ks first others stops l) in
            subst (λ u. Lexes u (operator o ∷ ((first.symbols ++ others.symbols) ++ ks)))
            (sym (regroup (operator_text o) text (further_text d o ts) rest))
            (rw (append_assoc first.symbols others.symbols ks) found);
        reads = λ ks. next (rw (append_assoc first.symbols others.symbols ks) (first.reads (others.symbols ++ ks))) (others.reads ks);
      }

  several_written : (depth : ℕ) (o : Op) (t u : Tree) (ts : Trees)
      → Writes (IsFactor (names_of d) depth t) (within (in_chain t) (expression_text d t))
      → Writes (AreOperands (names_of d) depth o (tree.more u ts)) (further_text d o (tree.more u ts))
      → Writes (IsExpression (names_of d) depth (tree.chain o (tree.more t (tree.more u ts))))
      (expression_text d (tree.chain o (tree.more t (tree.more u ts))))
  several_written depth o t u ts first others =
      let text = within (in_chain t) (expression_text d t) in
      record {
        symbols = first.symbols ++ others.symbols;
        within_piece = within-append first.symbols others.symbols first.within_piece others.within_piece;
        lexes = λ rest ks stops l.
            rw (append_assoc text (further_text d o (tree.more u ts)) rest, append_assoc first.symbols others.symbols ks)
            (operands_lex depth o t (tree.more u ts) text rest ks first others stops l);
        reads = λ ks. rw (append_assoc first.symbols others.symbols ks) (several (first.reads (others.symbols ++ ks)) (others.reads ks));
      }

  mutual
    -- an expression that fits, and whose parentheses nest at most so deep
    pub expression_written : (t : Tree) (depth : ℕ) → Fits d t → nesting t ≤ depth
        → Writes (IsExpression (names_of d) depth t) (expression_text d t)
    expression_written (tree.name s) depth f h = written_as _ _ _ (λ ss ks i. single (plain i)) (primary_written depth (tree.name s) refl f)
    expression_written (tree.part s high low) depth f h =
        written_as _ _ _ (λ ss ks i. single (plain i)) (primary_written depth (tree.part s high low) refl f)
    expression_written (tree.bits w) depth f h = written_as _ _ _ (λ ss ks i. single (plain i)) (primary_written depth (tree.bits w) refl f)
    expression_written (tree.port p) depth f h = written_as _ _ _ (λ ss ks i. single (plain i)) (primary_written depth (tree.port p) refl f)
    expression_written (tree.inverse t) depth f h =
        written_as _ _ _ (λ ss ks i. single i) (not_written depth t _ (after_not_written t depth f h))
    expression_written (tree.chain o ts) depth f h = chain_written o ts depth f.0 f.1 h

    after_not_written : (t : Tree) (depth : ℕ) → Fits d t → in_not t + nesting t ≤ depth
        → Writes (IsPrimary (names_of d) depth t) (within (in_not t) (expression_text d t))
    after_not_written (tree.name s) depth f h = primary_written depth (tree.name s) refl f
    after_not_written (tree.part s high low) depth f h = primary_written depth (tree.part s high low) refl f
    after_not_written (tree.bits w) depth f h = primary_written depth (tree.bits w) refl f
    after_not_written (tree.port p) depth f h = primary_written depth (tree.port p) refl f
    after_not_written (tree.inverse t) zero f h = absurd (omega (arith, h))
    after_not_written (tree.inverse t) (suc depth) f h =
        group_written depth (tree.inverse t) _ (written_as _ _ _ (λ ss ks i. single i)
        (not_written depth t _ (after_not_written t depth f (omega (arith, h)))))
    after_not_written (tree.chain o ts) zero f h = absurd (omega (arith, h))
    after_not_written (tree.chain o ts) (suc depth) f h =
        group_written depth (tree.chain o ts) _ (chain_written o ts depth f.0 f.1 (omega (arith, h)))

    operand_written : (t : Tree) (depth : ℕ) → Fits d t → in_chain t + nesting t ≤ depth
        → Writes (IsFactor (names_of d) depth t) (within (in_chain t) (expression_text d t))
    operand_written (tree.name s) depth f h = written_as _ _ _ (λ ss ks i. plain i) (primary_written depth (tree.name s) refl f)
    operand_written (tree.part s high low) depth f h =
        written_as _ _ _ (λ ss ks i. plain i) (primary_written depth (tree.part s high low) refl f)
    operand_written (tree.bits w) depth f h = written_as _ _ _ (λ ss ks i. plain i) (primary_written depth (tree.bits w) refl f)
    operand_written (tree.port p) depth f h = written_as _ _ _ (λ ss ks i. plain i) (primary_written depth (tree.port p) refl f)
    operand_written (tree.inverse t) depth f h = not_written depth t _ (after_not_written t depth f (omega (arith, h)))
    operand_written (tree.chain o ts) zero f h = absurd (omega (arith, h))
    operand_written (tree.chain o ts) (suc depth) f h =
        written_as _ _ _ (λ ss ks i. plain i) (group_written depth (tree.chain o ts) _
        (chain_written o ts depth f.0 f.1 (omega (arith, h))))

    chain_written : (o : Op) (ts : Trees) (depth : ℕ) → AreTwoOrMore ts → FitAll d ts → operands_nesting ts ≤ depth
        → Writes (IsExpression (names_of d) depth (tree.chain o ts)) (expression_text d (tree.chain o ts))
    chain_written o tree.none depth two f h = absurd two
    chain_written o (tree.more t tree.none) depth two f h = absurd two
    chain_written o (tree.more t (tree.more u ts)) depth two f h =
        several_written depth o t u ts (operand_written t depth f.0 (omega (arith, h)))
        (next_written depth o u ts (operand_written u depth f.1.0 (omega (arith, h))) (further_written o ts depth f.1.1 (omega (arith, h))))

    further_written : (o : Op) (ts : Trees) (depth : ℕ) → FitAll d ts → operands_nesting ts ≤ depth
        → Writes (AreOperands (names_of d) depth o ts) (further_text d o ts)
    further_written o tree.none depth f h = record { symbols = []; within_piece = refl; lexes = λ rest ks stops l. l; reads = λ ks. done }
    further_written o (tree.more t ts) depth f h =
        next_written depth o t ts (operand_written t depth f.0 (omega (arith, h))) (further_written o ts depth f.1 (omega (arith, h)))
