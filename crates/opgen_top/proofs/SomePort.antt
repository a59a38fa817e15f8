-- A design that a text spells has a port.
use Rattle.std.proofs.Common.{ℕ, ◌<◌, List, [], ◌∷◌, length, Option, Some, None, subst, arith, length-append}
use Rattle.opgen_design.specs.declared.design.Design.{Design}
use Rattle.opgen_vhdl.specs.declared.place.Place.{Place}
use Rattle.opgen_vhdl.specs.declared.place.Place.TheVariants as at
use Rattle.opgen_vhdl.specs.Symbols.{Symbol}
use Rattle.opgen_vhdl.specs.Statements.{Reading, with_name, Takes, library_clause, use_logic, use_numeric, entity, port, last_port, end_entity, architecture, signal, begin, statement, process, process_is, register, end_if, end_enabled, end_edge, end_process, later_statement, end_without_process, end_after_process, Follows, stay, onward}
use Rattle.opgen_vhdl.specs.Spelled.{Spells}

abbrev HasPort : Reading → Type 0
HasPort r = 0 < length r.design.ports

-- past the ports of the entity there is one
abbrev HasPortAt : Place → Reading → Type 0
HasPortAt at.Library r = Unit {0}
HasPortAt at.UseLogic r = Unit {0}
HasPortAt at.UseNumeric r = Unit {0}
HasPortAt at.Entity r = Unit {0}
HasPortAt at.Ports r = Unit {0}
HasPortAt at.EndEntity r = HasPort r
HasPortAt at.Architecture r = HasPort r
HasPortAt at.Declarations r = HasPort r
HasPortAt at.Body r = HasPort r
HasPortAt at.Process r = HasPort r
HasPortAt at.EndEdge r = HasPort r
HasPortAt at.EndProcess r = HasPort r
HasPortAt at.AfterProcess r = HasPort r
HasPortAt at.End r = HasPort r

named : (r : Reading) (own : List ℕ) (n : Option (List ℕ)) → HasPort r → HasPort (with_name r own n)
named r own None h = h
named r own (Some n) h = h

taken : {p q : Place} {r r2 : Reading} {ss : List Symbol} → Takes p r ss q r2 → HasPortAt p r → HasPortAt q r2
taken library_clause h = tt
taken use_logic h = tt
taken use_numeric h = tt
taken (entity m) h = tt
taken (port x) h = tt
taken (last_port {r = r} {p = p} x) h = omega (arith, length-append r.design.ports (p ∷ []))
taken (end_entity {r = r} {n = n} e) h = named r r.design.name n h
taken (architecture m o t) h = taken t h
taken (signal m i w) h = h
taken (begin t) h = taken t h
taken (statement c) h = h
taken (process e c) h = h
taken (process_is e c) h = h
taken (register c) h = h
taken (end_if none) h = h
taken (end_enabled e) h = h
taken end_edge h = h
taken end_process h = h
taken (later_statement c) h = h
taken (end_without_process {r = r} {a = a} e) h = named r r.architecture a h
taken (end_after_process {r = r} {a = a} e) h = named r r.architecture a h

followed : {p q : Place} {r r2 : Reading} {ps : List (List Symbol)} → Follows p r ps q r2 → HasPortAt p r → HasPortAt q r2
followed stay h = h
followed (onward t f) h = followed f (taken t h)

pub some_port : (text : List ℕ) (d : Design) → Spells text d → 0 < length d.ports
some_port text d spelled = subst (λ x. 0 < length x.ports) spelled.design (followed spelled.statements.follow tt)
