-- A text has no more drivers than pieces, and no more pieces than symbols.
use Rattle.std.proofs.Common.{◌≡◌, inl, inr, ℕ, suc, ◌+◌, ◌≤◌, List, [], ◌∷◌, length, Option, Some, None, refl, arith, length-append}
use Rattle.std.proofs.lemmas.Bool.{cases_Bool}
use Rattle.opgen_vhdl.specs.declared.place.Place.{Place}
use Rattle.opgen_vhdl.specs.Symbols.{Symbol, pieces, onto, is_semicolon}
use Rattle.opgen_vhdl.specs.Statements.{Reading, with_name, Takes, library_clause, use_logic, use_numeric, entity, port, last_port, end_entity, architecture, signal, begin, statement, process, process_is, register, end_if, end_enabled, end_edge, end_process, later_statement, end_without_process, end_after_process, Follows, stay, onward}

abbrev count : Reading → ℕ
count r = length r.design.drivers

named_count : (r : Reading) (own : List ℕ) (n : Option (List ℕ)) → count (with_name r own n) ≡ count r
named_count r own None = refl
named_count r own (Some n) = refl

piece_count : {p q : Place} {r r2 : Reading} {ss : List Symbol} → Takes p r ss q r2 → count r2 ≤ suc (count r)
piece_count library_clause = omega arith
piece_count use_logic = omega arith
piece_count use_numeric = omega arith
piece_count (entity m) = omega arith
piece_count (port p) = omega arith
piece_count (last_port p) = omega arith
piece_count (end_entity {r = r} {n = n} e) = omega (arith, named_count r r.design.name n)
piece_count (architecture m o t) = piece_count t
piece_count (signal m h i) = omega arith
piece_count (begin t) = piece_count t
piece_count (statement {r = r} {k = k} c) = omega (arith, length-append r.design.drivers (k ∷ []))
piece_count (process {r = r} {k = k} e c) = omega (arith, length-append r.design.drivers (k ∷ []))
piece_count (process_is {r = r} {k = k} e c) = omega (arith, length-append r.design.drivers (k ∷ []))
piece_count (register {r = r} {k = k} c) = omega (arith, length-append r.design.drivers (k ∷ []))
piece_count (end_if h) = omega arith
piece_count (end_enabled h) = omega arith
piece_count end_edge = omega arith
piece_count end_process = omega arith
piece_count (later_statement {r = r} {k = k} c) = omega (arith, length-append r.design.drivers (k ∷ []))
piece_count (end_without_process {r = r} {a = a} e) = omega (arith, named_count r r.architecture a)
piece_count (end_after_process {r = r} {a = a} e) = omega (arith, named_count r r.architecture a)

follow_count : {p q : Place} {r r2 : Reading} {ps : List (List Symbol)} → Follows p r ps q r2 → count r2 ≤ count r + length ps
follow_count stay = omega arith
follow_count (onward t f) = omega (arith, piece_count t, follow_count f)

onto_count : (s : Symbol) (ps : List (List Symbol)) → length (onto s ps) ≤ suc (length ps)
onto_count s [] = omega arith
onto_count s (p ∷ ps) = omega arith

pieces_count : (ss : List Symbol) → length (pieces ss) ≤ length ss
pieces_count [] = omega arith
pieces_count (s ∷ ss) = elim (cases_Bool (is_semicolon s)) [
  | inl y ↦ rw y (omega (arith, pieces_count ss))
  | inr n ↦ rw n (omega (arith, onto_count s (pieces ss), pieces_count ss))
]

-- what the pieces of some symbols say has no more drivers than there are symbols
pub few_drivers : {p q : Place} {r r2 : Reading} (ss : List Symbol) → Follows p r (pieces ss) q r2 → count r ≡ 0 → count r2 ≤ length ss
few_drivers ss f none = omega (arith, follow_count f, pieces_count ss, none)
