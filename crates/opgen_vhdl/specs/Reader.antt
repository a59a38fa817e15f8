-- Recursive descent as functions of the symbols that are left: what was read and what follows it, or nothing. The contracts of
-- opgen_read cite them; the grammar itself is in Grammar and Statements.
use Rattle.std.specs.Prelude.{ℕ, zero, suc, ◌+◌, Bool, true, false, List, [], ◌∷◌, length, replicate, codes, Option, Some, None, is_some, nat_eq, nat_lt, if◌then◌else◌}
use Rattle.std.specs.Str.{bytes_eq}
use Rattle.opgen_design.specs.declared.expr.TheConstants.{MAX_NESTING}
use Rattle.opgen_num.specs.declared.format.TheConstants.{MAX_WIDTH}
use Rattle.opgen_vhdl.specs.declared.kind.TokenKind.{TokenKind}
use Rattle.opgen_vhdl.specs.declared.kind.TokenKind.TheVariants.{Word, Number, Bits, ZeroChar, LeftParen, RightParen, Semicolon, Colon, Comma, Dot, Ampersand, Plus, Minus, Equal, LessEqual, Arrow, Becomes}
use Rattle.opgen_vhdl.specs.declared.place.Place.{Place}
use Rattle.opgen_vhdl.specs.declared.place.Place.TheVariants as at
use Rattle.opgen_design.specs.declared.design.Dir.{Dir}
use Rattle.opgen_design.specs.declared.design.Dir.TheVariants.{In, Out}
use Rattle.opgen_design.specs.declared.design.Port.{Port}
use Rattle.opgen_design.specs.declared.design.Signal.{Signal}
use Rattle.opgen_design.specs.declared.design.Driver.{Driver}
use Rattle.opgen_design.specs.declared.design.Driver.TheVariants.{Assign, Choice, Table, Register, Output}
use Rattle.opgen_design.specs.declared.expr.Op.{Op}
use Rattle.opgen_design.specs.declared.expr.Op.TheVariants as op
use Rattle.opgen_design.specs.Run.{is_one}
use Rattle.opgen_names.specs.Names.{is_allowed_name}
use Rattle.opgen_design.specs.Tree.{Tree, Trees, name, part, bits, port, inverse, chain, none, more}
use Rattle.opgen_vhdl.specs.Symbols.{Symbol, word, number, string, mark}
use Rattle.opgen_vhdl.specs.Grammar.{Names, place_of, value, operator}
use Rattle.opgen_vhdl.specs.Statements.{Reading, scope, with_entity, with_port, with_signal, with_driver, with_enable, with_name, with_architecture}

unfoldable pub and_then : {A B : Type 0} → Option A → (A → Option B) → Option B
and_then None f = None
and_then (Some x) f = f x

infixl 10 ◌>>=◌
abbrev pub ◌>>=◌ : {A B : Type 0} → Option A → (A → Option B) → Option B
r >>= f = and_then r f

-- the second where there is a value, and else the first
unfoldable pub choice : {A B : Type 0} → Option A → B → (A → B) → B
choice None x f = x
choice (Some a) x f = f a

abbrev pub rank : TokenKind → ℕ
rank Word = 0
rank Number = 1
rank Bits = 2
rank ZeroChar = 3
rank LeftParen = 4
rank RightParen = 5
rank Semicolon = 6
rank Colon = 7
rank Comma = 8
rank Dot = 9
rank Ampersand = 10
rank Plus = 11
rank Minus = 12
rank Equal = 13
rank LessEqual = 14
rank Arrow = 15
rank Becomes = 16

abbrev pub same_kind : TokenKind → TokenKind → Bool
same_kind a b = nat_eq (rank a) (rank b)

-- a kind of tokens whose symbol is the kind
abbrev pub is_mark : TokenKind → Bool
is_mark Word = false
is_mark Number = false
is_mark Bits = false
is_mark _ = true

abbrev pub same_symbol : Symbol → Symbol → Bool
same_symbol (word a) (word b) = bytes_eq a b
same_symbol (number a) (number b) = bytes_eq a b
same_symbol (mark a) (mark b) = same_kind a b
same_symbol _ _ = false

-- what follows this symbol
abbrev pub eat : Symbol → List Symbol → Option (List Symbol)
eat s [] = None
eat s (t ∷ ss) = if same_symbol s t then Some ss else None

-- what follows these symbols
abbrev pub eat_all : List Symbol → List Symbol → Option (List Symbol)
eat_all [] ss = Some ss
eat_all (p ∷ ps) ss = eat p ss >>= eat_all ps

abbrev pub name_at : List Symbol → Option (List ℕ × List Symbol)
name_at (word n ∷ ss) = if is_allowed_name n then Some (n, ss) else None
name_at _ = None

abbrev pub index_at : List Symbol → Option (ℕ × List Symbol)
index_at (number digits ∷ ss) = if nat_lt (value digits) MAX_WIDTH then Some (value digits, ss) else None
index_at _ = None

abbrev pub string_at : List Symbol → Option (List Bool × List Symbol)
string_at (string w ∷ ss) = Some (w, ss)
string_at _ = None

-- the range behind its opening parenthesis
unfoldable pub range_at : List Symbol → Option ((ℕ × ℕ) × List Symbol)
range_at ss = do
  high ← index_at ss
  a ← eat (word (codes "downto")) high.1
  low ← index_at a
  b ← eat (mark RightParen) low.1
  Some ((high.0, low.0), b)

unfoldable pub part_at : Names → List Symbol → Option (Tree × List Symbol)
part_at names ss = name_at ss >>= λ n. choice (eat (mark LeftParen) n.1)
    (Some (name (place_of names.signals n.0), n.1))
    (λ rest. range_at rest >>= λ r. Some (part (place_of names.signals n.0) r.0.0 r.0.1, r.1))

-- a port behind `unsigned`
unfoldable pub input_at : Names → List Symbol → Option (Tree × List Symbol)
input_at names ss = do
  a ← eat (mark LeftParen) ss
  n ← name_at a
  b ← eat (mark RightParen) n.1
  Some (port (place_of names.ports n.0), b)

abbrev pub closed : Option (Tree × List Symbol) → Option (Tree × List Symbol)
closed r = do
  x ← r
  end ← eat (mark RightParen) x.1
  Some (x.0, end)

-- the operator at the front
unfoldable pub op_at : List Symbol → Option Op
op_at ss =
    if is_some (eat (operator op.And) ss) then Some op.And
    else (if is_some (eat (operator op.Or) ss) then Some op.Or
    else (if is_some (eat (operator op.Xor) ss) then Some op.Xor
    else (if is_some (eat (operator op.Cat) ss) then Some op.Cat
    else (if is_some (eat (operator op.Plus) ss) then Some op.Plus
    else (if is_some (eat (operator op.Minus) ss) then Some op.Minus
    else None)))))

module _ (names : Names) (inside : List Symbol → Option (Tree × List Symbol)) where
  unfoldable pub primary_at : List Symbol → Option (Tree × List Symbol)
  primary_at ss = choice (eat (mark LeftParen) ss)
      (choice (eat (word (codes "unsigned")) ss)
      (choice (string_at ss) (part_at names ss) (λ w. Some (bits w.0, w.1)))
      (λ rest. input_at names rest))
      (λ rest. closed (inside rest))

  unfoldable pub factor_at : List Symbol → Option (Tree × List Symbol)
  factor_at ss = choice (eat (word (codes "not")) ss) (primary_at ss) (λ rest. primary_at rest >>= λ x. Some (inverse x.0, x.1))

  -- operands with the operator before each, at most so many
  unfoldable pub operands_at : ℕ → Op → List Symbol → Option (Trees × List Symbol)
  operands_at zero o ss = Some (none, ss)
  operands_at (suc n) o ss = choice (eat (operator o) ss) (Some (none, ss))
      (λ rest. factor_at rest >>= λ x. operands_at n o x.1 >>= λ xs. Some (more x.0 xs.0, xs.1))

  unfoldable pub expression_at : List Symbol → Option (Tree × List Symbol)
  expression_at ss = do
    x ← factor_at ss
    choice (op_at x.1) (Some x) (λ o. operands_at (length x.1) o x.1 >>= λ xs. Some (chain o (more x.0 xs.0), xs.1))

-- what stands between parentheses, at most so many deep
unfoldable pub inside : Names → ℕ → List Symbol → Option (Tree × List Symbol)
inside names zero ss = None
inside names (suc d) ss = expression_at names (inside names d) ss

-- an expression with parentheses at most so deep
abbrev pub expression : Names → ℕ → List Symbol → Option (Tree × List Symbol)
expression names d ss = expression_at names (inside names d) ss

abbrev pub no_more : List Symbol → Option (List Symbol)
no_more [] = Some []
no_more (s ∷ ss) = None

-- a semicolon, and the piece is over
unfoldable pub end_at : List Symbol → Option (List Symbol)
end_at ss = eat (mark Semicolon) ss >>= no_more

-- a phrase, and the piece is over
abbrev pub phrase_at : List Symbol → List Symbol → Option (List Symbol)
phrase_at ps ss = eat_all ps ss >>= end_at

-- ( K downto 0 ), as the width K + 1
unfoldable pub width_at : List Symbol → Option (ℕ × List Symbol)
width_at ss = do
  a ← eat (mark LeftParen) ss
  high ← index_at a
  b ← eat (word (codes "downto")) high.1
  c ← eat (number (codes "0")) b
  d ← eat (mark RightParen) c
  Some (high.0 + 1, d)

unfoldable pub direction_at : List Symbol → Option (Dir × List Symbol)
direction_at ss = choice (eat (word (codes "in")) ss) (eat (word (codes "out")) ss >>= λ r. Some (Out, r)) (λ r. Some (In, r))

abbrev pub clock : List Symbol
clock = mark LeftParen ∷ word (codes "clk") ∷ mark RightParen ∷ []

-- the clock's port behind the name of its entity
abbrev pub clock_port : List Symbol
clock_port =
    word (codes "is") ∷ word (codes "port") ∷ mark LeftParen ∷ word (codes "clk") ∷ mark Colon ∷ word (codes "in") ∷ word (codes "std_logic") ∷ []

unfoldable pub entity_at : List Symbol → Option (List ℕ)
entity_at ss = do
  a ← eat (word (codes "entity")) ss
  n ← name_at a
  e ← phrase_at clock_port n.1
  Some n.0

-- a port, and what follows it
unfoldable pub port_at : List Symbol → Option (Port × List Symbol)
port_at ss = do
  n ← name_at ss
  a ← eat (mark Colon) n.1
  dir ← direction_at a
  b ← eat (word (codes "std_logic_vector")) dir.1
  width ← width_at b
  Some (record { name = n.0; dir = dir.0; width = width.0 }, width.1)

-- the name of a unit at its end, where it is written
unfoldable pub own_name_at : List Symbol → Option (Option (List ℕ))
own_name_at ss = choice (name_at ss) (end_at ss >>= λ e. Some None) (λ n. end_at n.1 >>= λ e. Some (Some n.0))

-- the end of a unit behind `end`
unfoldable pub unit_end_at : List ℕ → List Symbol → Option (Option (List ℕ))
unit_end_at unit ss = choice (eat (word unit) ss) (own_name_at ss) (λ rest. own_name_at rest)

-- the names of an architecture and its entity
unfoldable pub heading_at : List Symbol → Option ((List ℕ × List ℕ) × List Symbol)
heading_at ss = do
  a ← eat (word (codes "architecture")) ss
  own ← name_at a
  b ← eat (word (codes "of")) own.1
  n ← name_at b
  c ← eat (word (codes "is")) n.1
  Some ((own.0, n.0), c)

abbrev pub others_zero : List Symbol
others_zero = word (codes "others") ∷ mark Arrow ∷ mark ZeroChar ∷ mark RightParen ∷ []

-- an initial value behind `:=`, for a signal of a width
unfoldable pub initial_value_at : ℕ → List Symbol → Option (List Bool)
initial_value_at width ss = choice (eat (mark LeftParen) ss)
    (string_at ss >>= λ w. end_at w.1 >>= λ e. Some w.0)
    (λ a. phrase_at others_zero a >>= λ e. Some (replicate width false))

unfoldable pub initial_at : ℕ → List Symbol → Option (Option (List Bool))
initial_at width ss = choice (eat (mark Becomes) ss) (end_at ss >>= λ e. Some None) (λ rest. initial_value_at width rest >>= λ w. Some (Some w))

unfoldable pub signal_at : List Symbol → Option Signal
signal_at ss = do
  a ← eat (word (codes "signal")) ss
  n ← name_at a
  b ← eat (mark Colon) n.1
  c ← eat (word (codes "unsigned")) b
  width ← width_at c
  initial ← initial_at width.0 width.1
  Some (record { name = n.0; width = width.0; initial = initial })

-- a row of a table, an address behind its word, and the comma
unfoldable pub row_at : List Symbol → Option ((List Bool × List Bool) × List Symbol)
row_at ss = do
  w ← string_at ss
  a ← eat (word (codes "when")) w.1
  address ← string_at a
  b ← eat (mark Comma) address.1
  Some ((address.0, w.0), b)

-- the word of every other address, and the piece is over
unfoldable pub other_at : List Symbol → Option (List Bool)
other_at ss = do
  w ← string_at ss
  a ← eat (word (codes "when")) w.1
  b ← eat (word (codes "others")) a
  e ← end_at b
  Some w.0

-- at most so many rows, and the word of every other address
unfoldable pub rows_at : ℕ → List Symbol → Option (List (List Bool × List Bool) × List Bool)
rows_at zero ss = None
rows_at (suc n) ss = choice (row_at ss)
    (other_at ss >>= λ w. Some ([], w))
    (λ x. rows_at n x.1 >>= λ more. Some (x.0 ∷ more.0, more.1))

-- a table behind `with`
unfoldable pub table_at : Names → List Symbol → Option Driver
table_at names ss = do
  on ← part_at names ss
  a ← eat (word (codes "select")) on.1
  n ← name_at a
  b ← eat (mark LessEqual) n.1
  rows ← rows_at (length b) b
  Some (Table (place_of names.signals n.0) on.0 rows.0 rows.1)

-- a comparison with "1" up to a word behind it
unfoldable pub high_at : List ℕ → List Symbol → Option (List Symbol)
high_at next ss = do
  a ← eat (mark Equal) ss
  w ← string_at a
  if is_one w.0 then eat (word next) w.1 else None

-- a conditional assignment behind `when`
unfoldable pub choice_at : Names → ℕ → Tree → List Symbol → Option Driver
choice_at names to one ss = do
  on ← part_at names ss
  a ← high_at (codes "else") on.1
  other ← expression names MAX_NESTING a
  e ← end_at other.1
  Some (Choice to on.0 one other.0)

-- an assignment to a signal, behind `<=`
unfoldable pub valued_at : Names → ℕ → List Symbol → Option Driver
valued_at names to ss = expression names MAX_NESTING ss >>= λ x. choice (eat (word (codes "when")) x.1)
    (end_at x.1 >>= λ e. Some (Assign to x.0))
    (λ rest. choice_at names to x.0 rest)

-- an assignment to an output, behind `std_logic_vector`
unfoldable pub output_at : Names → ℕ → List Symbol → Option Driver
output_at names to ss = do
  a ← eat (mark LeftParen) ss
  x ← expression names MAX_NESTING a
  b ← eat (mark RightParen) x.1
  e ← end_at b
  Some (Output to x.0)

-- the name that is driven, and what follows `<=`
unfoldable pub target_at : List Symbol → Option (List ℕ × List Symbol)
target_at ss = do
  n ← name_at ss
  a ← eat (mark LessEqual) n.1
  Some (n.0, a)

unfoldable pub assignment_at : Names → List Symbol → Option Driver
assignment_at names ss = target_at ss >>= λ n. choice (eat (word (codes "std_logic_vector")) n.1)
    (valued_at names (place_of names.signals n.0) n.1)
    (λ rest. output_at names (place_of names.ports n.0) rest)

unfoldable pub concurrent_at : Names → List Symbol → Option Driver
concurrent_at names ss = choice (eat (word (codes "with")) ss) (assignment_at names ss) (λ rest. table_at names rest)

unfoldable pub clocked_at : Names → List Symbol → Option Driver
clocked_at names ss = do
  n ← target_at ss
  x ← expression names MAX_NESTING n.1
  e ← end_at x.1
  Some (Register (place_of names.signals n.0) x.0)

-- the process behind the clock and `is`
unfoldable pub edge_at : List Symbol → Option (List Symbol)
edge_at ss = do
  a ← eat (word (codes "begin")) ss
  b ← eat (word (codes "if")) a
  c ← eat (word (codes "rising_edge")) b
  d ← eat_all clock c
  eat (word (codes "then")) d

-- the process up to its enable or its first assignment, behind `process`
unfoldable pub process_at : List Symbol → Option (List Symbol)
process_at ss = do
  a ← eat_all clock ss
  choice (eat (word (codes "is")) a) (edge_at a) (λ b. edge_at b)

-- the port that enables the registers, behind `if`
unfoldable pub port_high_at : Names → List Symbol → Option (ℕ × List Symbol)
port_high_at names ss = do
  n ← name_at ss
  a ← high_at (codes "then") n.1
  Some (place_of names.ports n.0, a)

-- the enable of a process, where it has one
unfoldable pub enable_at : Names → List Symbol → Option (Option ℕ × List Symbol)
enable_at names ss = choice (eat (word (codes "if")) ss) (Some (None, ss)) (λ rest. port_high_at names rest >>= λ p. Some (Some p.0, p.1))

abbrev pub Step : Type 0
Step = Option (Place × Reading)

unfoldable pub statement_at : Place → Reading → List Symbol → Step
statement_at p r ss = choice (eat (word (codes "end")) ss)
    (concurrent_at (scope r) ss >>= λ k. Some (p, with_driver r k))
    (λ rest. unit_end_at (codes "architecture") rest >>= λ a. Some (at.End, with_name r r.architecture a))

-- the piece that opens the process, behind `process`
unfoldable pub opening_at : Reading → List Symbol → Step
opening_at r ss = do
  a ← process_at ss
  e ← enable_at (scope r) a
  k ← clocked_at (scope r) e.1
  Some (at.Process, with_driver (with_enable r e.0) k)

unfoldable pub body_at : Reading → List Symbol → Step
body_at r ss = choice (eat (word (codes "process")) ss) (statement_at at.Body r ss) (λ rest. opening_at r rest)

unfoldable pub declarations_at : Reading → List Symbol → Step
declarations_at r ss = choice (eat (word (codes "begin")) ss)
    (signal_at ss >>= λ s. Some (at.Declarations, with_signal r s))
    (λ rest. body_at r rest)

-- what comes behind the first `end if` of a process
abbrev pub behind_if : Option ℕ → Place
behind_if None = at.EndProcess
behind_if (Some p) = at.EndEdge

unfoldable pub clocked_body_at : Reading → List Symbol → Step
clocked_body_at r ss = choice (eat (word (codes "end")) ss)
    (clocked_at (scope r) ss >>= λ k. Some (at.Process, with_driver r k))
    (λ rest. phrase_at (word (codes "if") ∷ []) rest >>= λ e. Some (behind_if r.design.enable, r))

abbrev pub use_clause : List ℕ → List Symbol
use_clause unit = word (codes "use") ∷ word (codes "ieee") ∷ mark Dot ∷ word unit ∷ mark Dot ∷ word (codes "all") ∷ []

unfoldable pub ports_at : Reading → List Symbol → Step
ports_at r ss = port_at ss >>= λ p. choice (eat (mark RightParen) p.1)
    (end_at p.1 >>= λ e. Some (at.Ports, with_port r p.0))
    (λ rest. end_at rest >>= λ e. Some (at.EndEntity, with_port r p.0))

-- the piece in its place
unfoldable pub takes_at : Place → Reading → List Symbol → Step
takes_at at.Library r ss = phrase_at (word (codes "library") ∷ word (codes "ieee") ∷ []) ss >>= λ e. Some (at.UseLogic, r)
takes_at at.UseLogic r ss = phrase_at (use_clause (codes "std_logic_1164")) ss >>= λ e. Some (at.UseNumeric, r)
takes_at at.UseNumeric r ss = phrase_at (use_clause (codes "numeric_std")) ss >>= λ e. Some (at.Entity, r)
takes_at at.Entity r ss = entity_at ss >>= λ n. Some (at.Ports, with_entity r n)
takes_at at.Ports r ss = ports_at r ss
takes_at at.EndEntity r ss =
    eat (word (codes "end")) ss >>= λ a. unit_end_at (codes "entity") a >>= λ n. Some (at.Architecture, with_name r r.design.name n)
takes_at at.Architecture r ss = heading_at ss >>= λ h. declarations_at (with_architecture r h.0.0 h.0.1) h.1
takes_at at.Declarations r ss = declarations_at r ss
takes_at at.Body r ss = body_at r ss
takes_at at.Process r ss = clocked_body_at r ss
takes_at at.EndEdge r ss = phrase_at (word (codes "end") ∷ word (codes "if") ∷ []) ss >>= λ e. Some (at.EndProcess, r)
takes_at at.EndProcess r ss = phrase_at (word (codes "end") ∷ word (codes "process") ∷ []) ss >>= λ e. Some (at.AfterProcess, r)
takes_at at.AfterProcess r ss = statement_at at.AfterProcess r ss
takes_at at.End r ss = None
