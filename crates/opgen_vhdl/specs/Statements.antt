-- The table of places of a text: which piece each place takes, what is read there, and which place comes next. A text is
-- one entity and its architecture (IEEE 1076-1993, 1.1, 1.2, 4.3.1.2, 8.4, 8.7, 9.2, 9.5, 10.4 and 11.2).
use Rattle.std.specs.Prelude.{◌≡◌, ◌≢◌, ℕ, ◌+◌, ◌&&◌, Bool, true, false, List, [], ◌∷◌, ◌++◌, map, replicate, codes, Option, Some, None}
use Rattle.std.specs.Str.{bytes_eq}
use Rattle.opgen_design.specs.declared.expr.TheConstants.{MAX_NESTING}
use Rattle.opgen_vhdl.specs.declared.kind.TokenKind.TheVariants.{ZeroChar, LeftParen, RightParen, Semicolon, Colon, Comma, Dot, Equal, LessEqual, Arrow, Becomes}
use Rattle.opgen_vhdl.specs.declared.place.Place.{Place}
use Rattle.opgen_vhdl.specs.declared.place.Place.TheVariants as at
use Rattle.opgen_design.specs.declared.design.Design.{Design}
use Rattle.opgen_design.specs.declared.design.Dir.{Dir}
use Rattle.opgen_design.specs.declared.design.Dir.TheVariants.{In, Out}
use Rattle.opgen_design.specs.declared.design.Port.{Port}
use Rattle.opgen_design.specs.declared.design.Signal.{Signal}
use Rattle.opgen_design.specs.declared.design.Driver.{Driver}
use Rattle.opgen_design.specs.declared.design.Driver.TheVariants.{Assign, Choice, Table, Register, Output}
use Rattle.opgen_design.specs.Tree.{Tree}
use Rattle.opgen_vhdl.specs.Symbols.{Symbol, word, number, string, mark}
use Rattle.opgen_vhdl.specs.Grammar.{Names, place_of, IsName, IsIndex, value, IsSignalPart, IsExpression}

-- What was read so far: a design, the architecture's name, and whether the names that have to agree do.
pub record Reading : Type 0 where
  pub design : Design
  pub architecture : List ℕ
  pub agrees : Bool

abbrev pub nothing : Reading
nothing = record { design = record { name = []; ports = []; signals = []; drivers = []; enable = None }; architecture = []; agrees = true }

abbrev pub names_of : Design → Names
names_of d = record { signals = map (λ s. s.name) d.signals; ports = map (λ p. p.name) d.ports }

abbrev pub scope : Reading → Names
scope r = names_of r.design

abbrev pub with_entity : Reading → List ℕ → Reading
with_entity r n = record r { design = record r.design { name = n } }

abbrev pub with_port : Reading → Port → Reading
with_port r p = record r { design = record r.design { ports = r.design.ports ++ p ∷ [] } }

abbrev pub with_signal : Reading → Signal → Reading
with_signal r s = record r { design = record r.design { signals = r.design.signals ++ s ∷ [] } }

abbrev pub with_driver : Reading → Driver → Reading
with_driver r k = record r { design = record r.design { drivers = r.design.drivers ++ k ∷ [] } }

abbrev pub with_enable : Reading → Option ℕ → Reading
with_enable r e = record r { design = record r.design { enable = e } }

-- where a name is written, it has to be this one
abbrev pub with_name : Reading → List ℕ → Option (List ℕ) → Reading
with_name r own None = r
with_name r own (Some n) = record r { agrees = r.agrees && bytes_eq own n }

-- the architecture's own name, and the name of its entity
abbrev pub with_architecture : Reading → List ℕ → List ℕ → Reading
with_architecture r a n = with_name (record r { architecture = a }) r.design.name (Some n)

abbrev pub direction : Dir → List ℕ
direction In = codes "in"
direction Out = codes "out"

-- ( K downto 0 )
abbrev pub range_to_zero : List ℕ → List Symbol → List Symbol
range_to_zero high rest = mark LeftParen ∷ number high ∷ word (codes "downto") ∷ number (codes "0") ∷ mark RightParen ∷ rest

abbrev pub end_of_piece : List Symbol
end_of_piece = mark Semicolon ∷ []

abbrev pub parenthesized_clock : List Symbol → List Symbol
parenthesized_clock rest = mark LeftParen ∷ word (codes "clk") ∷ mark RightParen ∷ rest

-- a port without the `;` behind it
pub data IsPort : Port → List Symbol → List Symbol → Type 0 where
  port_line : {n high : List ℕ} {dir : Dir} {rest : List Symbol} → IsName n → IsIndex high →
      IsPort (record { name = n; dir = dir; width = value high + 1 })
      (word n ∷ mark Colon ∷ word (direction dir) ∷ word (codes "std_logic_vector") ∷ range_to_zero high rest) rest

-- the end of an entity or an architecture, with its name where it is written
pub data IsEnd (unit : List ℕ) : Option (List ℕ) → List Symbol → Type 0 where
  bare : IsEnd unit None (word (codes "end") ∷ end_of_piece)
  of_unit : IsEnd unit None (word (codes "end") ∷ word unit ∷ end_of_piece)
  named : {n : List ℕ} → IsName n → IsEnd unit (Some n) (word (codes "end") ∷ word n ∷ end_of_piece)
  of_unit_named : {n : List ℕ} → IsName n → IsEnd unit (Some n) (word (codes "end") ∷ word unit ∷ word n ∷ end_of_piece)

-- `;`, or an initial value for a signal of a width and `;`
pub data IsInitial (width : ℕ) : Option (List Bool) → List Symbol → Type 0 where
  absent : IsInitial width None end_of_piece
  written : {w : List Bool} → IsInitial width (Some w) (mark Becomes ∷ string w ∷ end_of_piece)
  zeros : IsInitial width (Some (replicate width false))
      (mark Becomes ∷ mark LeftParen ∷ word (codes "others") ∷ mark Arrow ∷ mark ZeroChar ∷ mark RightParen ∷ end_of_piece)

-- the rows of a table, an address behind its word, and the word of every other address
pub data AreRows : List (List Bool × List Bool) → List Bool → List Symbol → Type 0 where
  others : {w : List Bool} → AreRows [] w (string w ∷ word (codes "when") ∷ word (codes "others") ∷ end_of_piece)
  row : {address w other : List Bool} {rows : List (List Bool × List Bool)} {ss : List Symbol} → AreRows rows other ss →
      AreRows ((address, w) ∷ rows) other (string w ∷ word (codes "when") ∷ string address ∷ mark Comma ∷ ss)

-- a statement outside the process
pub data IsConcurrent (names : Names) : Driver → List Symbol → Type 0 where
  assignment : {n : List ℕ} {t : Tree} {ss : List Symbol} → IsName n → IsExpression names MAX_NESTING t ss end_of_piece →
      IsConcurrent names (Assign (place_of names.signals n) t) (word n ∷ mark LessEqual ∷ ss)
  output : {n : List ℕ} {t : Tree} {ss : List Symbol} → IsName n → IsExpression names MAX_NESTING t ss (mark RightParen ∷ end_of_piece) →
      IsConcurrent names (Output (place_of names.ports n) t)
      (word n ∷ mark LessEqual ∷ word (codes "std_logic_vector") ∷ mark LeftParen ∷ ss)
  choice : {n : List ℕ} {on one other : Tree} {ss ps rs : List Symbol} → IsName n →
      IsExpression names MAX_NESTING one ss (word (codes "when") ∷ ps) →
      IsSignalPart names on ps (mark Equal ∷ string (true ∷ []) ∷ word (codes "else") ∷ rs) →
      IsExpression names MAX_NESTING other rs end_of_piece →
      IsConcurrent names (Choice (place_of names.signals n) on one other) (word n ∷ mark LessEqual ∷ ss)
  table : {n : List ℕ} {on : Tree} {rows : List (List Bool × List Bool)} {other : List Bool} {ps rs : List Symbol} →
      IsSignalPart names on ps (word (codes "select") ∷ word n ∷ mark LessEqual ∷ rs) → IsName n → AreRows rows other rs →
      IsConcurrent names (Table (place_of names.signals n) on rows other) (word (codes "with") ∷ ps)

-- an assignment within the process
pub data IsClocked (names : Names) : Driver → List Symbol → Type 0 where
  clocked : {n : List ℕ} {t : Tree} {ss : List Symbol} → IsName n → IsExpression names MAX_NESTING t ss end_of_piece →
      IsClocked names (Register (place_of names.signals n) t) (word n ∷ mark LessEqual ∷ ss)

-- the `if` round the assignments of a process that has an enable, which is the port that the name stands for; or nothing
pub data IsEnable (names : Names) : Option ℕ → List Symbol → List Symbol → Type 0 where
  always : {rest : List Symbol} → IsEnable names None rest rest
  enabled : {n : List ℕ} {rest : List Symbol} → IsName n →
      IsEnable names (Some (place_of names.ports n))
      (word (codes "if") ∷ word n ∷ mark Equal ∷ string (true ∷ []) ∷ word (codes "then") ∷ rest) rest

-- the process up to its enable or its first assignment, behind the clock and `is`
abbrev pub at_edge : List Symbol → List Symbol
at_edge rest = word (codes "begin") ∷ word (codes "if") ∷ word (codes "rising_edge") ∷ parenthesized_clock (word (codes "then") ∷ rest)

abbrev pub end_of_if : List Symbol
end_of_if = word (codes "end") ∷ word (codes "if") ∷ end_of_piece

-- A place takes a piece: what was read before it, what is read with it, and the next place. A text has one process at most,
-- since the place behind the process takes no other. As in the grammar, a fact over two lists speaks of what begins the first
-- and is followed by the second.
pub data Takes : Place → Reading → List Symbol → Place → Reading → Type 0 where
  library_clause : {r : Reading} →
      Takes at.Library r (word (codes "library") ∷ word (codes "ieee") ∷ end_of_piece) at.UseLogic r
  use_logic : {r : Reading} →
      Takes at.UseLogic r
      (word (codes "use") ∷ word (codes "ieee") ∷ mark Dot ∷ word (codes "std_logic_1164") ∷ mark Dot ∷ word (codes "all") ∷ end_of_piece)
      at.UseNumeric r
  use_numeric : {r : Reading} →
      Takes at.UseNumeric r
      (word (codes "use") ∷ word (codes "ieee") ∷ mark Dot ∷ word (codes "numeric_std") ∷ mark Dot ∷ word (codes "all") ∷ end_of_piece)
      at.Entity r
  entity : {r : Reading} {n : List ℕ} → IsName n →
      Takes at.Entity r
      (word (codes "entity") ∷ word n ∷ word (codes "is") ∷ word (codes "port") ∷ mark LeftParen ∷ word (codes "clk") ∷ mark Colon
      ∷ word (codes "in") ∷ word (codes "std_logic") ∷ end_of_piece)
      at.Ports (with_entity r n)
  port : {r : Reading} {p : Port} {ss : List Symbol} → IsPort p ss end_of_piece → Takes at.Ports r ss at.Ports (with_port r p)
  last_port : {r : Reading} {p : Port} {ss : List Symbol} → IsPort p ss (mark RightParen ∷ end_of_piece) →
      Takes at.Ports r ss at.EndEntity (with_port r p)
  end_entity : {r : Reading} {n : Option (List ℕ)} {ss : List Symbol} → IsEnd (codes "entity") n ss →
      Takes at.EndEntity r ss at.Architecture (with_name r r.design.name n)
  architecture : {r q : Reading} {a n : List ℕ} {ss : List Symbol} {next : Place} → IsName a → IsName n →
      Takes at.Declarations (with_architecture r a n) ss next q →
      Takes at.Architecture r (word (codes "architecture") ∷ word a ∷ word (codes "of") ∷ word n ∷ word (codes "is") ∷ ss) next q
  signal : {r : Reading} {n high : List ℕ} {initial : Option (List Bool)} {ss : List Symbol} → IsName n → IsIndex high →
      IsInitial (value high + 1) initial ss →
      Takes at.Declarations r
      (word (codes "signal") ∷ word n ∷ mark Colon ∷ word (codes "unsigned") ∷ range_to_zero high ss)
      at.Declarations (with_signal r (record { name = n; width = value high + 1; initial = initial }))
  begin : {r q : Reading} {ss : List Symbol} {next : Place} → Takes at.Body r ss next q →
      Takes at.Declarations r (word (codes "begin") ∷ ss) next q
  statement : {r : Reading} {k : Driver} {ss : List Symbol} → IsConcurrent (scope r) k ss →
      Takes at.Body r ss at.Body (with_driver r k)
  process : {r : Reading} {e : Option ℕ} {k : Driver} {ss rest : List Symbol} → IsEnable (scope r) e ss rest → IsClocked (scope r) k rest →
      Takes at.Body r (word (codes "process") ∷ parenthesized_clock (at_edge ss)) at.Process (with_driver (with_enable r e) k)
  process_is : {r : Reading} {e : Option ℕ} {k : Driver} {ss rest : List Symbol} → IsEnable (scope r) e ss rest → IsClocked (scope r) k rest →
      Takes at.Body r (word (codes "process") ∷ parenthesized_clock (word (codes "is") ∷ at_edge ss)) at.Process (with_driver (with_enable r e) k)
  register : {r : Reading} {k : Driver} {ss : List Symbol} → IsClocked (scope r) k ss →
      Takes at.Process r ss at.Process (with_driver r k)
  end_if : {r : Reading} → r.design.enable ≡ None → Takes at.Process r end_of_if at.EndProcess r
  end_enabled : {r : Reading} {p : ℕ} → r.design.enable ≡ Some p → Takes at.Process r end_of_if at.EndEdge r
  end_edge : {r : Reading} → Takes at.EndEdge r end_of_if at.EndProcess r
  end_process : {r : Reading} → Takes at.EndProcess r (word (codes "end") ∷ word (codes "process") ∷ end_of_piece) at.AfterProcess r
  later_statement : {r : Reading} {k : Driver} {ss : List Symbol} → IsConcurrent (scope r) k ss →
      Takes at.AfterProcess r ss at.AfterProcess (with_driver r k)
  end_without_process : {r : Reading} {a : Option (List ℕ)} {ss : List Symbol} → IsEnd (codes "architecture") a ss →
      Takes at.Body r ss at.End (with_name r r.architecture a)
  end_after_process : {r : Reading} {a : Option (List ℕ)} {ss : List Symbol} → IsEnd (codes "architecture") a ss →
      Takes at.AfterProcess r ss at.End (with_name r r.architecture a)

-- the pieces lead from one place to another
pub data Follows : Place → Reading → List (List Symbol) → Place → Reading → Type 0 where
  stay : {p : Place} {r : Reading} → Follows p r [] p r
  onward : {p p2 p3 : Place} {r r2 r3 : Reading} {piece : List Symbol} {more : List (List Symbol)} →
      Takes p r piece p2 r2 → Follows p2 r2 more p3 r3 → Follows p r (piece ∷ more) p3 r3

-- no piece leads on from a place: it does not take the next one, or the text ends too early
abbrev pub Stops : Place → Reading → List (List Symbol) → Type 0
Stops p r [] = p ≢ at.End
Stops p r (piece ∷ more) = (p2 : Place) (r2 : Reading) → Takes p r piece p2 r2 → ⊥
