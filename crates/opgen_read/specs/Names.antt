-- Declared names as the grammar of expressions sees them, and operands that were read before others.
use Rattle.std.specs.Prelude.{◌≡◌, ◌∷◌, [], ℕ, List, Option, Some, None, Result, Ok, Err, length, map}
use Rattle.opgen_design.specs.declared.expr.Expr.{Expr}
use Rattle.opgen_design.specs.declared.expr.Op.{Op}
use Rattle.opgen_design.specs.Plain.{plain}
use Rattle.opgen_design.specs.Tree.{Tree, Trees, more}
use Rattle.opgen_vhdl.specs.Grammar.{Names, place_of}
use Rattle.opgen_vhdl.specs.Reader.{inside, operands_at}
use Rattle.opgen_vhdl.specs.Symbols.{Symbol}
use Rattle.opgen_lex.specs.declared.cursor.Cursor.{Cursor}
use Rattle.opgen_read.specs.declared.expression.Scope.{Scope}
use Rattle.opgen_read.specs.declared.refusal.Refusal.{Refusal}
use Rattle.opgen_read.specs.Gives.{Fails}
use Rattle.opgen_lex.specs.Left.{left}

abbrev pub names_in : Scope → Names
names_in s = record { signals = map (λ x. x.name) s.signals.now; ports = map (λ x. x.name) s.ports.now }

-- trees in front of others
abbrev pub onto_trees : List Tree → Trees → Trees
onto_trees [] ts = ts
onto_trees (t ∷ front) ts = more t (onto_trees front ts)

-- what was read behind operands that stand already
abbrev pub joined : List Tree → Option (Trees × List Symbol) → Option (Trees × List Symbol)
joined front None = None
joined front (Some x) = Some (onto_trees front x.0, x.1)

-- the operands of a chain: those that were read already, and those that stand next, with parentheses at most so deep
abbrev pub further_at : List Expr → Scope → (depth : ℕ) → Op → List Symbol → Option (Trees × List Symbol)
further_at front scope depth op ss =
    let names = names_in scope in
    joined (map plain front) (operands_at names (inside names depth) (length ss) op ss)

-- the place of the first of the names that is the one that was read, or how many names there are where none is, and what is left
-- behind it
abbrev pub IsPlace : List (List ℕ) → Option (List ℕ × List Symbol) → ℕ × Cursor → Type 0
IsPlace names read x = (n : List ℕ) × (read ≡ Some (n, left x.1)) × (x.0 ≡ place_of names n)

-- that place, unless nothing was read or memory ran out
abbrev pub GivesPlace : List (List ℕ) → Result (ℕ × Cursor) Refusal → Option (List ℕ × List Symbol) → Type 0
GivesPlace names (Ok x) read = IsPlace names read x
GivesPlace names (Err e) read = Fails e read
