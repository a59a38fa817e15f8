-- The texts of ports and of signals are cut into their declarations.
use Rattle.std.proofs.Common.{◌≡◌, ℕ, ◌+◌, ◌-◌, ◌<◌, Bool, false, List, [], ◌∷◌, ◌++◌, length, codes, decimal, Option, Some, None, IsTrue, refl, subst, arith, append_assoc, lit<}
use Rattle.std.proofs.lemmas.Fmt.{decimal_digit}
use Rattle.opgen_num.specs.declared.format.TheConstants.{MAX_WIDTH}
use Rattle.opgen_design.specs.declared.design.Dir.{Dir}
use Rattle.opgen_design.specs.declared.design.Dir.TheVariants.{In, Out}
use Rattle.opgen_design.specs.declared.design.Port.{Port}
use Rattle.opgen_design.specs.declared.design.Signal.{Signal}
use Rattle.opgen_names.specs.Names.{is_allowed_name}
use Rattle.opgen_design.specs.Value.{IsWidth}
use Rattle.opgen_vhdl.specs.Tokens.{is_word_byte, begins}
use Rattle.opgen_vhdl.specs.Symbols.{Symbol, word, number, string, mark}
use Rattle.opgen_vhdl.specs.ExpressionText.{word_text, range_text}
use Rattle.opgen_vhdl.specs.DesignText.{direction_text, port_text, initial_text, signal_text}
use Rattle.opgen_vhdl.specs.Grammar.{value}
use Rattle.opgen_vhdl.specs.Statements.{Reading, with_signal, direction, range_to_zero, end_of_piece, IsPort, port_line, IsInitial, absent, written, Takes, signal}
use Rattle.opgen_vhdl.specs.declared.kind.TokenKind.TheVariants.{LeftParen, RightParen, Semicolon, Colon, Becomes}
use Rattle.opgen_vhdl.specs.declared.place.Place.TheVariants.{Declarations}
use Rattle.opgen_write.proofs.Lexing.{Lexes, lexes_found}
use Rattle.opgen_write.proofs.Words.{lexes_name, lexes_keyword, lexes_range, lexes_word, value_of-decimal}
use Rattle.opgen_write.proofs.Expressions.{range-begins}
use Rattle.opgen_write.proofs.Drivers.{WritesPiece}

zero_digit : decimal 0 ≡ codes "0"
zero_digit = decimal_digit 0 (lit< tt)

-- the range of a width, down to 0
lexes_width : (w : ℕ) (rest : List ℕ) (ks : List Symbol) → IsWidth w → Lexes rest ks
    → Lexes (range_text (w - 1) 0 ++ rest) (range_to_zero (decimal (w - 1)) ks)
lexes_width w rest ks h l =
    subst (λ u. Lexes (range_text (w - 1) 0 ++ rest) (mark LeftParen ∷ number (decimal (w - 1)) ∷ word
    (codes "downto") ∷ number u ∷ mark RightParen ∷ ks)) zero_digit
    (lexes_range (w - 1) 0 rest ks (omega (arith, h.0, h.1)) (omega (arith, h.0, h.1)) l)

width-value : (w : ℕ) → IsWidth w → value (decimal (w - 1)) + 1 ≡ w
width-value w h = omega (arith, h.0, value_of-decimal (w - 1) (omega (arith, h.0, h.1)))

width-index : (w : ℕ) → IsWidth w → value (decimal (w - 1)) < MAX_WIDTH
width-index w h = omega (arith, h.0, h.1, value_of-decimal (w - 1) (omega (arith, h.0, h.1)))

-- ports

-- a port whose name and width can be written
pub record PortFits (p : Port) : Type 0 where
  pub allowed : IsTrue (is_allowed_name p.name)
  pub wide : IsWidth p.width

-- the text of a port behind the `;` in front of it
abbrev pub port_behind : Port → List ℕ
port_behind p =
    codes "\n    " ++ (p.name ++ (codes " : " ++ (direction_text p.dir ++ (codes " std_logic_vector" ++ range_text (p.width - 1) 0))))

pub port_text-behind : (p : Port) → port_text p ≡ codes ";" ++ port_behind p
unfolding port_text
port_text-behind p = simp append_assoc

abbrev pub port_symbols : Port → List Symbol
port_symbols p = word p.name ∷ mark Colon ∷ word (direction p.dir) ∷ word (codes "std_logic_vector") ∷ range_to_zero
    (decimal (p.width - 1)) []

lexes_direction : (dir : Dir) (rest : List ℕ) (ks : List Symbol) → begins is_word_byte rest ≡ false → Lexes rest ks
    → Lexes (codes " : " ++ (direction_text dir ++ (codes " std_logic_vector" ++ rest)))
    (mark Colon ∷ word (direction dir) ∷ word (codes "std_logic_vector") ∷ ks)
lexes_direction dir rest ks stops l = at dir (lexes_keyword (codes "std_logic_vector") rest ks refl refl refl refl refl stops l)
  where
    at : (dir : Dir) → Lexes (codes "std_logic_vector" ++ rest) (word (codes "std_logic_vector") ∷ ks)
        → Lexes (codes " : " ++ (direction_text dir ++ (codes " std_logic_vector" ++ rest)))
        (mark Colon ∷ word (direction dir) ∷ word (codes "std_logic_vector") ∷ ks)
    at In k = lexes_found 5 (codes " : in " ++ (codes "std_logic_vector" ++ rest)) _ (mark Colon ∷ word (codes "in") ∷ []) _ refl k
    at Out k = lexes_found 5 (codes " : out " ++ (codes "std_logic_vector" ++ rest)) _ (mark Colon ∷ word (codes "out") ∷ []) _ refl k

pub lexes_port : (p : Port) (rest : List ℕ) (ks : List Symbol) → PortFits p → Lexes rest ks
    → Lexes (port_behind p ++ rest) (port_symbols p ++ ks)
lexes_port p rest ks f l =
    let range = range_text (p.width - 1) 0 ++ rest in
    let typed = lexes_direction p.dir range _ (range-begins (p.width - 1) 0 rest) (lexes_width p.width rest ks f.wide l) in
    let behind = codes " : " ++ (direction_text p.dir ++ (codes " std_logic_vector" ++ range)) in
    let named = lexes_name p.name behind f.allowed refl _ typed in
    let text : port_behind p ++ rest ≡ codes "\n    " ++
    (p.name ++ (codes " : " ++ (direction_text p.dir ++ (codes " std_logic_vector" ++ (range_text (p.width - 1) 0 ++ rest))))) =
    simp append_assoc in
    rw text (lexes_found 5 (codes "\n    " ++ (p.name ++ behind)) _ [] _ refl named)

pub port_is : (p : Port) (rest : List Symbol) → PortFits p → IsPort p (port_symbols p ++ rest) rest
port_is p rest f =
    subst (λ w. IsPort (record { name = p.name; dir = p.dir; width = w }) (port_symbols p ++ rest) rest) (width-value p.width f.wide)
    (port_line {dir = p.dir} f.allowed (width-index p.width f.wide))

-- signals

abbrev pub InitialFits : Option (List Bool) → Type 0
InitialFits None = Unit {0}
InitialFits (Some w) = IsWidth (length w)

-- a signal whose name, width and initial value can be written
pub record SignalFits (s : Signal) : Type 0 where
  pub allowed : IsTrue (is_allowed_name s.name)
  pub wide : IsWidth s.width
  pub initial : InitialFits s.initial

initial_written : (width : ℕ) (initial : Option (List Bool)) → InitialFits initial
    → WritesPiece (IsInitial width initial) (initial_text initial ++ codes ";\n")
initial_written width None f =
    record {
      symbols = [];
      within_piece = refl;
      lexes = λ rest ks l. lexes_found 2 (codes ";\n" ++ rest) rest
          (mark Semicolon ∷ []) ks refl l;
      says = absent;
    }
initial_written width (Some w) f = record {
  symbols = mark Becomes ∷ string w ∷ [];
  within_piece = refl;
  lexes = λ rest ks l.
      let ended = lexes_found 2 (codes ";\n" ++ rest) rest (mark Semicolon ∷ []) ks refl l in
      let text : (initial_text (Some w) ++ codes ";\n") ++ rest ≡ codes " := " ++ (word_text w ++ (codes ";\n" ++ rest)) =
      simp append_assoc in
      rw text (lexes_found 3 (codes " := " ++ (word_text w ++ (codes ";\n" ++ rest))) _ (mark Becomes ∷ []) _ refl
      (lexes_word w (codes ";\n" ++ rest) _ f ended));
  says = written;
}

-- a declaration of the signal
abbrev pub Declares : Signal → List Symbol → Type 0
Declares s ss = (r : Reading) → Takes Declarations r ss Declarations (with_signal r s)

pub signal_written : (s : Signal) → SignalFits s → WritesPiece (Declares s) (signal_text s)
unfolding signal_text
signal_written s f =
    let initial = initial_written (value (decimal (s.width - 1)) + 1) s.initial f.initial in
    record {
      symbols = word (codes "signal") ∷ word s.name ∷ mark Colon ∷ word (codes "unsigned") ∷ range_to_zero
          (decimal (s.width - 1)) initial.symbols;
      within_piece = initial.within_piece;
      lexes = λ rest ks l.
          let behind = (initial_text s.initial ++ codes ";\n") ++ rest in
          let range = range_text (s.width - 1) 0 ++ behind in
          let ranged = lexes_width s.width behind _ f.wide (initial.lexes rest ks l) in
          let typed = lexes_keyword (codes "unsigned") range _ refl refl refl refl refl (range-begins (s.width - 1) 0 behind) ranged in
          let colon = lexes_found 3 (codes " : " ++ (codes "unsigned" ++ range)) _ (mark Colon ∷ []) _ refl typed in
          let named = lexes_name s.name (codes " : " ++ (codes "unsigned" ++ range)) f.allowed refl _ colon in
          let text : signal_text s ++ rest ≡ codes "  signal " ++
          (s.name ++
          (codes " : " ++
          (codes "unsigned" ++
          (range_text (s.width - 1) 0 ++ ((initial_text s.initial ++ codes ";\n") ++ rest))))) = simp append_assoc in
          rw text (lexes_found 4 (codes "  signal " ++ (s.name ++ (codes " : " ++ (codes "unsigned" ++ range)))) _
          (word (codes "signal") ∷ []) _ refl named);
      says = λ r. subst
          (λ w. Takes Declarations r
          (word (codes "signal") ∷ word s.name ∷ mark Colon ∷ word (codes "unsigned") ∷ range_to_zero (decimal (s.width - 1))
          (initial.symbols ++ end_of_piece))
          Declarations (with_signal r (record { name = s.name; width = w; initial = s.initial })))
          (width-value s.width f.wide)
          (signal f.allowed (width-index s.width f.wide) initial.says);
    }
