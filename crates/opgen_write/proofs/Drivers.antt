-- The text of each driver is cut into one piece of symbols, which is its statement in the grammar.
use Rattle.std.proofs.Common.{◌≡◌, ℕ, ◌<◌, ◌≤◌, Bool, true, false, List, [], ◌∷◌, ◌++◌, length, flat_map, codes, Option, Some, None, IsTrue, refl, ap, ◌∙◌, subst, append_assoc, true≢false}
use Rattle.opgen_design.specs.declared.expr.TheConstants.{MAX_NESTING}
use Rattle.opgen_design.specs.declared.design.Design.{Design}
use Rattle.opgen_design.specs.declared.design.Driver.{Driver}
use Rattle.opgen_design.specs.declared.design.Driver.TheVariants.{Assign, Choice, Table, Register, Output}
use Rattle.opgen_design.specs.Order.{is_register}
use Rattle.opgen_names.specs.Names.{is_allowed_name}
use Rattle.opgen_design.specs.Tree.{Tree}
use Rattle.opgen_design.specs.Value.{IsWidth, nesting}
use Rattle.opgen_vhdl.specs.Symbols.{Symbol, word, string, mark}
use Rattle.opgen_vhdl.specs.ExpressionText.{signal_name, port_name, word_text, expression_text}
use Rattle.opgen_vhdl.specs.DesignText.{row_text, other_text, further_indent, driver_text}
use Rattle.opgen_vhdl.specs.Shaped.{IsPart}
use Rattle.opgen_vhdl.specs.Grammar.{IsExpression}
use Rattle.opgen_vhdl.specs.Statements.{names_of, end_of_piece, AreRows, others, row, IsConcurrent, assignment, output, choice, table, IsClocked, clocked}
use Rattle.opgen_vhdl.specs.declared.kind.TokenKind.TheVariants.{LeftParen, RightParen, Semicolon, Comma, Equal, LessEqual}
use Rattle.opgen_write.proofs.Lexing.{Lexes, lexes_found}
use Rattle.opgen_write.proofs.Words.{lexes_name, lexes_word}
use Rattle.opgen_write.proofs.Expressions.{AreWithin, within-append, Writes, AreFound, Fits, signal_part_written, expression_written}

-- The text is cut into one piece, which is what P says, whatever follows it.
pub record WritesPiece (P : List Symbol → Type 0) (text : List ℕ) : Type 0 where
  pub symbols : List Symbol
  pub within_piece : AreWithin symbols
  pub lexes : (rest : List ℕ) (ks : List Symbol) → Lexes rest ks → Lexes (text ++ rest) (symbols ++ mark Semicolon ∷ ks)
  pub says : P (symbols ++ end_of_piece)

-- an expression that fits and nests no deeper than the grammar allows
pub record FitsWhole (d : Design) (e : Tree) : Type 0 where
  pub fits : Fits d e
  pub nests : nesting e ≤ MAX_NESTING

-- the addresses and words of rows can be written
abbrev pub AreShort : List (List Bool × List Bool) → Type 0
AreShort [] = Unit {0}
AreShort (r ∷ rows) = IsWidth (length r.0) × IsWidth (length r.1) × AreShort rows

-- a driver whose parts can be written
abbrev pub DriverFits : Design → Driver → Type 0
DriverFits d (Assign to e) = (to < length d.signals) × FitsWhole d e
DriverFits d (Choice to on one other) = (to < length d.signals) × IsPart on × Fits d on × FitsWhole d one × FitsWhole d other
DriverFits d (Table to on rows other) = (to < length d.signals) × IsPart on × Fits d on × AreShort rows × IsWidth (length other)
DriverFits d (Register to e) = (to < length d.signals) × FitsWhole d e
DriverFits d (Output p e) = (p < length d.ports) × FitsWhole d e

lexes_ended : (rest : List ℕ) (ks : List Symbol) → Lexes rest ks → Lexes (codes ";\n" ++ rest) (mark Semicolon ∷ ks)
lexes_ended rest ks l = lexes_found 2 (codes ";\n" ++ rest) rest (mark Semicolon ∷ []) ks refl l

-- a name and `<=`
lexes_target : (n rest : List ℕ) (ks : List Symbol) → IsTrue (is_allowed_name n) → Lexes rest ks
    → Lexes (n ++ (codes " <= " ++ rest)) (word n ∷ mark LessEqual ∷ ks)
lexes_target n rest ks allowed l = lexes_name n (codes " <= " ++ rest) allowed refl _
    (lexes_found 3 (codes " <= " ++ rest) rest (mark LessEqual ∷ []) ks refl l)

lexes_indent : (rest : List ℕ) (ks : List Symbol) → Lexes rest ks → Lexes (codes "  " ++ rest) ks
lexes_indent rest ks l = lexes_found 2 (codes "  " ++ rest) rest [] ks refl l

lexes_further : (e : Option ℕ) (rest : List ℕ) (ks : List Symbol) → Lexes rest ks → Lexes (further_indent e ++ rest) ks
lexes_further None rest ks l = l
lexes_further (Some p) rest ks l = lexes_indent rest ks l

-- the rows of a table

lexes_row : (r : List Bool × List Bool) (rest : List ℕ) (ks : List Symbol) → IsWidth (length r.0) → IsWidth (length r.1) → Lexes rest ks
    → Lexes (row_text r ++ rest) (string r.1 ∷ word (codes "when") ∷ string r.0 ∷ mark Comma ∷ ks)
unfolding row_text
lexes_row r rest ks a w l =
    let ended = lexes_found 2 (codes ",\n" ++ rest) rest (mark Comma ∷ []) ks refl l in
    let address = lexes_word r.0 (codes ",\n" ++ rest) _ a ended in
    let behind = lexes_found 3 (codes " when " ++ (word_text r.0 ++ (codes ",\n" ++ rest))) _ (word (codes "when") ∷ []) _ refl address in
    let here = lexes_word r.1 (codes " when " ++ (word_text r.0 ++ (codes ",\n" ++ rest))) _ w behind in
    let whole =
    lexes_found 4
    (codes "    " ++ (word_text r.1 ++ (codes " when " ++ (word_text r.0 ++ (codes ",\n" ++ rest))))) _ [] _ refl here in
    let text : row_text r ++ rest ≡ codes "    " ++ (word_text r.1 ++ (codes " when " ++ (word_text r.0 ++ (codes ",\n" ++ rest)))) =
    simp append_assoc in
    rw text whole

lexes_other : (w : List Bool) (rest : List ℕ) (ks : List Symbol) → IsWidth (length w) → Lexes rest ks
    → Lexes (other_text w ++ rest) (string w ∷ word (codes "when") ∷ word (codes "others") ∷ mark Semicolon ∷ ks)
unfolding other_text
lexes_other w rest ks s l =
    let behind = lexes_found 6 (codes " when others;\n" ++ rest) rest
    (word (codes "when") ∷ word (codes "others") ∷ mark Semicolon ∷ []) ks refl l in
    let here = lexes_word w (codes " when others;\n" ++ rest) _ s behind in
    let whole = lexes_found 4 (codes "    " ++ (word_text w ++ (codes " when others;\n" ++ rest))) _ [] _ refl here in
    let text : other_text w ++ rest ≡ codes "    " ++ (word_text w ++ (codes " when others;\n" ++ rest)) = simp append_assoc in
    rw text whole

rows_written : (rows : List (List Bool × List Bool)) (other : List Bool) → AreShort rows → IsWidth (length other)
    → WritesPiece (AreRows rows other) (flat_map row_text rows ++ other_text other)
rows_written [] other rs s = record {
  symbols = string other ∷ word (codes "when") ∷ word (codes "others") ∷ [];
  within_piece = refl;
  lexes = λ rest ks l. lexes_other other rest ks s l;
  says = others;
}
rows_written (r ∷ rows) other rs s =
    let more = rows_written rows other rs.2 s in
    record {
      symbols = string r.1 ∷ word (codes "when") ∷ string r.0 ∷ mark Comma ∷ more.symbols;
      within_piece = more.within_piece;
      lexes = λ rest ks l.
          let text : (flat_map row_text (r ∷ rows) ++ other_text other) ++ rest
          ≡ row_text r ++ ((flat_map row_text rows ++ other_text other) ++ rest) = simp append_assoc in
          rw text (lexes_row r _ _ rs.0 rs.1 (more.lexes rest ks l));
      says = row more.says;
    }

module _ (d : Design) (found : AreFound d) where
  abbrev whole_written : (e : Tree) → FitsWhole d e → Writes (IsExpression (names_of d) MAX_NESTING e) (expression_text d e)
  whole_written e f = expression_written d found e MAX_NESTING f.fits f.nests

  -- an assignment behind its indent, and the `;` behind it
  assigned : (s : ℕ) (e : Tree) (rest : List ℕ) (ks : List Symbol) → s < length d.signals
      → (w : Writes (IsExpression (names_of d) MAX_NESTING e) (expression_text d e)) → Lexes rest ks
      → Lexes (signal_name d s ++ (codes " <= " ++ (expression_text d e ++ (codes ";\n" ++ rest))))
      (word (signal_name d s) ∷ mark LessEqual ∷ (w.symbols ++ mark Semicolon ∷ ks))
  assigned s e rest ks h w l = lexes_target (signal_name d s) _ _ (found.signals s h).allowed
      (w.lexes (codes ";\n" ++ rest) _ refl (lexes_ended rest ks l))

  assignment_written : (s : ℕ) (e : Tree) → DriverFits d (Assign s e)
      → WritesPiece (IsConcurrent (names_of d) (Assign s e)) (driver_text d (Assign s e))
  unfolding driver_text
  assignment_written s e f =
      let n = signal_name d s in
      let w = whole_written e f.1 in
      let at = found.signals s f.0 in
      record {
        symbols = word n ∷ mark LessEqual ∷ w.symbols;
        within_piece = w.within_piece;
        lexes = λ rest ks l.
            let text : driver_text d (Assign s e) ++ rest ≡ codes "  " ++
            (n ++ (codes " <= " ++ (expression_text d e ++ (codes ";\n" ++ rest)))) = simp append_assoc in
            rw text (lexes_indent _ _ (assigned s e rest ks f.0 w l));
        says = subst (λ k. IsConcurrent (names_of d) (Assign k e) (word n ∷ mark LessEqual ∷ (w.symbols ++ end_of_piece))) at.first
            (assignment at.allowed (w.reads end_of_piece));
      }

  pub register_written : (s : ℕ) (e : Tree) → DriverFits d (Register s e)
      → WritesPiece (IsClocked (names_of d) (Register s e)) (driver_text d (Register s e))
  unfolding driver_text
  register_written s e f =
      let n = signal_name d s in
      let w = whole_written e f.1 in
      let at = found.signals s f.0 in
      record {
        symbols = word n ∷ mark LessEqual ∷ w.symbols;
        within_piece = w.within_piece;
        lexes = λ rest ks l.
            let text : driver_text d (Register s e) ++ rest ≡ further_indent d.enable ++
            (codes "      " ++ (n ++ (codes " <= " ++ (expression_text d e ++ (codes ";\n" ++ rest))))) = simp append_assoc in
            rw text (lexes_further d.enable _ _ (lexes_indent _ _ (lexes_indent _ _ (lexes_indent _ _ (assigned s e rest ks f.0 w l)))));
        says = subst (λ k. IsClocked (names_of d) (Register k e) (word n ∷ mark LessEqual ∷ (w.symbols ++ end_of_piece))) at.first
            (clocked at.allowed (w.reads end_of_piece));
      }

  output_written : (p : ℕ) (e : Tree) → DriverFits d (Output p e)
      → WritesPiece (IsConcurrent (names_of d) (Output p e)) (driver_text d (Output p e))
  unfolding driver_text
  output_written p e f =
      let n = port_name d p in
      let w = whole_written e f.1 in
      let at = found.ports p f.0 in
      record {
        symbols = word n ∷ mark LessEqual ∷ word (codes "std_logic_vector") ∷ mark LeftParen ∷ (w.symbols ++ mark RightParen ∷ []);
        within_piece = within-append w.symbols (mark RightParen ∷ []) w.within_piece refl;
        lexes = λ rest ks l.
            let behind = codes ");\n" ++ rest in
            let ended = lexes_found 3 (codes ");\n" ++ rest) rest (mark RightParen ∷ mark Semicolon ∷ []) ks refl l in
            let inner = w.lexes behind _ refl ended in
            let opened = lexes_found 2 (codes "std_logic_vector(" ++ (expression_text d e ++ behind)) _
            (word (codes "std_logic_vector") ∷ mark LeftParen ∷ []) _ refl inner in
            let text : driver_text d (Output p e) ++ rest ≡ codes "  " ++
            (n ++ (codes " <= " ++ (codes "std_logic_vector(" ++ (expression_text d e ++ (codes ");\n" ++ rest))))) =
            simp append_assoc in
            rw (text, append_assoc w.symbols (mark RightParen ∷ []) (mark Semicolon ∷ ks))
            (lexes_indent _ _ (lexes_target n _ _ at.allowed opened));
        says =
            rw (append_assoc w.symbols (mark RightParen ∷ []) end_of_piece)
            (subst
            (λ k. IsConcurrent (names_of d) (Output k e)
            (word n ∷ mark LessEqual ∷ word (codes "std_logic_vector") ∷ mark LeftParen ∷
            (w.symbols ++ mark RightParen ∷ end_of_piece)))
            at.first
            (output at.allowed (w.reads (mark RightParen ∷ end_of_piece))));
      }

  choice_symbols : (n : List ℕ) (one on other ks : List Symbol)
      → (word n ∷ mark LessEqual ∷ (one ++ word (codes "when") ∷ (on ++ mark Equal ∷ string (true ∷ []) ∷ word (codes "else") ∷ other)))
      ++ ks
      ≡ word n ∷ mark LessEqual ∷
      (one ++ word (codes "when") ∷ (on ++ mark Equal ∷ string (true ∷ []) ∷ word (codes "else") ∷ (other ++ ks)))
  choice_symbols n one on other ks =
      ap (λ u. word n ∷ mark LessEqual ∷ u)
      (append_assoc one (word (codes "when") ∷ (on ++ mark Equal ∷ string (true ∷ []) ∷ word (codes "else") ∷ other)) ks
      ∙ ap (λ u. one ++ word (codes "when") ∷ u) (append_assoc on (mark Equal ∷ string (true ∷ []) ∷ word (codes "else") ∷ other) ks))

  choice_written : (s : ℕ) (on one other : Tree) → DriverFits d (Choice s on one other)
      → WritesPiece (IsConcurrent (names_of d) (Choice s on one other)) (driver_text d (Choice s on one other))
  unfolding driver_text
  choice_written s on one other f =
      let n = signal_name d s in
      let first = whole_written one f.3 in
      let test = signal_part_written d found on f.1 f.2 in
      let second = whole_written other f.4 in
      let at = found.signals s f.0 in
      record {
        symbols =
            word n ∷ mark LessEqual ∷ (first.symbols ++ word (codes "when") ∷
            (test.symbols ++ mark Equal ∷ string (true ∷ []) ∷ word (codes "else") ∷ second.symbols));
        within_piece = within-append first.symbols _ first.within_piece
            (within-append test.symbols (mark Equal ∷ string (true ∷ []) ∷ word
            (codes "else") ∷ second.symbols) test.within_piece second.within_piece);
        lexes = λ rest ks l.
            let three = second.lexes (codes ";\n" ++ rest) _ refl (lexes_ended rest ks l) in
            let behind = codes " = \"1\" else " ++ (expression_text d other ++ (codes ";\n" ++ rest)) in
            let two =
            test.lexes behind _ refl
            (lexes_found 7 behind _ (mark Equal ∷ string (true ∷ []) ∷ word (codes "else") ∷ []) _ refl three) in
            let chosen = codes " when " ++ (expression_text d on ++ behind) in
            let all = first.lexes chosen _ refl (lexes_found 3 chosen _ (word (codes "when") ∷ []) _ refl two) in
            let text : driver_text d (Choice s on one other) ++ rest
            ≡ codes "  " ++
            (n ++ (codes " <= " ++
            (expression_text d one ++
            (codes " when " ++
            (expression_text d on ++ (codes " = \"1\" else " ++ (expression_text d other ++ (codes ";\n" ++ rest))))))))
            = simp append_assoc in
            rw (text, choice_symbols n first.symbols test.symbols second.symbols (mark Semicolon ∷ ks))
            (lexes_indent _ _ (lexes_target n _ _ at.allowed all));
        says =
            rw (choice_symbols n first.symbols test.symbols second.symbols end_of_piece)
            (subst
            (λ k. IsConcurrent (names_of d) (Choice k on one other)
            (word n ∷ mark LessEqual ∷ (first.symbols ++ word (codes "when") ∷
            (test.symbols ++ mark Equal ∷ string (true ∷ []) ∷ word (codes "else") ∷ (second.symbols ++ end_of_piece)))))
            at.first
            (choice at.allowed (first.reads _) (test.reads _) (second.reads end_of_piece)));
      }

  table_symbols : (n : List ℕ) (on rows ks : List Symbol)
      → (word (codes "with") ∷ (on ++ word (codes "select") ∷ word n ∷ mark LessEqual ∷ rows)) ++ ks
      ≡ word (codes "with") ∷ (on ++ word (codes "select") ∷ word n ∷ mark LessEqual ∷ (rows ++ ks))
  table_symbols n on rows ks =
      ap (λ u. word (codes "with") ∷ u) (append_assoc on (word (codes "select") ∷ word n ∷ mark LessEqual ∷ rows) ks)

  table_written : (s : ℕ) (on : Tree) (rows : List (List Bool × List Bool)) (other : List Bool) → DriverFits d (Table s on rows other)
      → WritesPiece (IsConcurrent (names_of d) (Table s on rows other)) (driver_text d (Table s on rows other))
  unfolding driver_text
  table_written s on rows other f =
      let n = signal_name d s in
      let test = signal_part_written d found on f.1 f.2 in
      let listed = rows_written rows other f.3 f.4 in
      let at = found.signals s f.0 in
      record {
        symbols = word (codes "with") ∷ (test.symbols ++ word (codes "select") ∷ word n ∷ mark LessEqual ∷ listed.symbols);
        within_piece = within-append test.symbols _ test.within_piece listed.within_piece;
        lexes = λ rest ks l.
            let lines = codes " <=\n" ++ ((flat_map row_text rows ++ other_text other) ++ rest) in
            let named =
            lexes_name n lines at.allowed refl _ (lexes_found 3 lines _ (mark LessEqual ∷ []) _ refl (listed.lexes rest ks l)) in
            let behind = codes " select " ++ (n ++ lines) in
            let tested = test.lexes behind _ refl (lexes_found 3 behind (n ++ lines) (word (codes "select") ∷ []) _ refl named) in
            let text : driver_text d (Table s on rows other) ++ rest
            ≡ codes "  with " ++
            (expression_text d on ++
            (codes " select " ++ (n ++ (codes " <=\n" ++ ((flat_map row_text rows ++ other_text other) ++ rest)))))
            = simp append_assoc in
            rw (text, table_symbols n test.symbols listed.symbols (mark Semicolon ∷ ks))
            (lexes_found 4 (codes "  with " ++ (expression_text d on ++ behind)) _ (word (codes "with") ∷ []) _ refl tested);
        says =
            rw (table_symbols n test.symbols listed.symbols end_of_piece)
            (subst
            (λ k. IsConcurrent (names_of d) (Table k on rows other)
            (word (codes "with") ∷ (test.symbols ++ word (codes "select") ∷ word n ∷ mark LessEqual ∷
            (listed.symbols ++ end_of_piece))))
            at.first
            (table (test.reads _) at.allowed listed.says));
      }

  pub concurrent_written : (k : Driver) → is_register k ≡ false → DriverFits d k
      → WritesPiece (IsConcurrent (names_of d) k) (driver_text d k)
  concurrent_written (Assign s e) h f = assignment_written s e f
  concurrent_written (Choice s on one other) h f = choice_written s on one other f
  concurrent_written (Table s on rows other) h f = table_written s on rows other f
  concurrent_written (Register s e) h f = absurd (true≢false h)
  concurrent_written (Output p e) h f = output_written p e f
