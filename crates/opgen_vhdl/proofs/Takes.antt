-- A place takes a piece exactly where reading finds what the piece says.
use Rattle.std.specs.Prelude.{◌+◌}
use Rattle.std.proofs.Common.{◌≡◌, ℕ, zero, suc, ◌≤◌, Bool, true, false, List, [], ◌∷◌, codes, length, Option, Some, None, refl, ap, sym, ◌∙◌, arith}
use Rattle.opgen_design.specs.declared.expr.TheConstants.{MAX_NESTING}
use Rattle.std.proofs.lemmas.Option.{same_Some}
use Rattle.opgen_vhdl.specs.declared.kind.TokenKind.TheVariants.{LeftParen, RightParen, Colon, Comma, Equal, LessEqual, Becomes}
use Rattle.opgen_vhdl.specs.declared.place.Place.{Place}
use Rattle.opgen_vhdl.specs.declared.place.Place.TheVariants as at
use Rattle.opgen_design.specs.declared.design.Dir.{Dir}
use Rattle.opgen_design.specs.declared.design.Dir.TheVariants.{In, Out}
use Rattle.opgen_design.specs.declared.design.Port.{Port}
use Rattle.opgen_design.specs.declared.design.Signal.{Signal}
use Rattle.opgen_design.specs.declared.design.Driver.{Driver}
use Rattle.opgen_names.specs.Names.{is_allowed_name}
use Rattle.opgen_design.specs.Tree.{Tree}
use Rattle.opgen_vhdl.specs.Symbols.{Symbol, word, number, string, mark}
use Rattle.opgen_vhdl.specs.Grammar.{Names, place_of, IsName, IsIndex, value, IsSignalPart, whole, slice, IsPrimary, signal as signal_part, literal, input, group, IsFactor, plain, opposite, IsExpression, single, several}
use Rattle.opgen_vhdl.specs.Statements.{Reading, scope, with_entity, with_port, with_signal, with_driver, with_enable, with_name, with_architecture, direction, range_to_zero, end_of_piece, IsPort, port_line, IsEnd, bare, of_unit, named, of_unit_named, IsInitial, absent, written, zeros, AreRows, others, row, IsConcurrent, assignment, output, choice as conditional, table, IsClocked, clocked, IsEnable, always, enabled, at_edge, end_of_if, Takes, library_clause, use_logic, use_numeric, entity, port, last_port, end_entity, architecture, signal, begin, statement, process, process_is, register, end_if, end_enabled, end_edge, end_process, later_statement, end_without_process, end_after_process}
use Rattle.opgen_design.specs.Run.{is_one}
use Rattle.opgen_vhdl.specs.Reader.{◌>>=◌, and_then, choice, eat, op_at, end_at, width_at, direction_at, clock, clock_port, entity_at, port_at, own_name_at, unit_end_at, heading_at, others_zero, initial_value_at, initial_at, signal_at, row_at, other_at, rows_at, table_at, high_at, choice_at, valued_at, output_at, target_at, assignment_at, concurrent_at, clocked_at, edge_at, process_at, port_high_at, enable_at, statement_at, opening_at, body_at, declarations_at, behind_if, clocked_body_at, use_clause, ports_at, takes_at}
use Rattle.opgen_vhdl.proofs.Steps.{bind_then, choice_then, found, found_is, if_some, eat_some, eat_all_some, end_some, phrase_some, name_some, index_then, string_some, name-reads, index-reads, eat-word, no_keyword, refused-end, refused-if, refused-with, refused-vector, refused-process, refused-entity, refused-architecture}
use Rattle.opgen_vhdl.proofs.Expressions.{closes, part-reads, expression-reads, part_some, expression-is}

-- what follows an expression is no operator
after-end : op_at end_of_piece ≡ None
unfolding op_at
after-end = refl

after-when : (ss : List Symbol) → op_at (word (codes "when") ∷ ss) ≡ None
unfolding op_at
after-when ss = refl

-- an expression does not begin with this word
part-not_vector : {names : Names} {t : Tree} {ss rest : List Symbol} → IsSignalPart names t ss rest
    → eat (word (codes "std_logic_vector")) ss ≡ None
part-not_vector (whole {n = n} h) = no_keyword (codes "std_logic_vector") n _ refused-vector h
part-not_vector (slice {n = n} h i j) = no_keyword (codes "std_logic_vector") n _ refused-vector h

primary-not_vector : {names : Names} {d : ℕ} {t : Tree} {ss rest : List Symbol} → IsPrimary names d t ss rest
    → eat (word (codes "std_logic_vector")) ss ≡ None
primary-not_vector (signal_part p) = part-not_vector p
primary-not_vector literal = refl
primary-not_vector (input h) = refl
primary-not_vector (group r) = refl

factor-not_vector : {names : Names} {d : ℕ} {t : Tree} {ss rest : List Symbol} → IsFactor names d t ss rest
    → eat (word (codes "std_logic_vector")) ss ≡ None
factor-not_vector (plain p) = primary-not_vector p
factor-not_vector (opposite p) = refl

expression-not_vector : {names : Names} {d : ℕ} {t : Tree} {ss rest : List Symbol} → IsExpression names d t ss rest
    → eat (word (codes "std_logic_vector")) ss ≡ None
expression-not_vector (single f) = factor-not_vector f
expression-not_vector (several f r) = factor-not_vector f

range-reads : (high : List ℕ) (rest : List Symbol) → IsIndex high → width_at (range_to_zero high rest) ≡ found (value high + 1) rest
unfolding width_at and_then
range-reads high rest h = rw (index-reads high _ h) refl

port-reads : {p : Port} {ss rest : List Symbol} → IsPort p ss rest → port_at ss ≡ found p rest
unfolding port_at direction_at and_then choice
port-reads (port_line {n = n} {high = high} {dir = In} {rest = rest} m h) = rw (name-reads n _ m, range-reads high rest h) refl
port-reads (port_line {n = n} {high = high} {dir = Out} {rest = rest} m h) = rw (name-reads n _ m, range-reads high rest h) refl

-- the end of a unit is read behind `end`
end-reads : {unit : List ℕ} {n : Option (List ℕ)} {ss : List Symbol} → is_allowed_name unit ≡ false → IsEnd unit n ss → (rest : List Symbol)
    × (ss ≡ word (codes "end") ∷ rest) × (unit_end_at unit rest ≡ Some n)
unfolding unit_end_at own_name_at end_at and_then choice
end-reads refused bare = (_, refl, refl)
end-reads {unit = unit} refused of_unit = (_, refl, rw (eat-word unit end_of_piece) refl)
end-reads {unit = unit} refused (named {n = n} h) =
    (_, refl, rw (no_keyword unit n end_of_piece refused h, name-reads n end_of_piece h) refl)
end-reads {unit = unit} refused (of_unit_named {n = n} h) =
    (_, refl, rw (eat-word unit (word n ∷ end_of_piece), name-reads n end_of_piece h) refl)

end-then : {G : Type 0} {unit : List ℕ} {n : Option (List ℕ)} {ss : List Symbol} → is_allowed_name unit ≡ false → IsEnd unit n ss
    → ((rest : List Symbol) → ss ≡ word (codes "end") ∷ rest → unit_end_at unit rest ≡ Some n → G) → G
end-then refused e go = let x = end-reads refused e in go x.0 x.1 x.2

initial-reads : {width : ℕ} {w : Option (List Bool)} {ss : List Symbol} → IsInitial width w ss → initial_at width ss ≡ Some w
unfolding initial_at initial_value_at end_at and_then choice
initial-reads absent = refl
initial-reads written = refl
initial-reads zeros = refl

signal-reads : (n high : List ℕ) {w : Option (List Bool)} {ss : List Symbol} → IsName n → IsIndex high → IsInitial (value high + 1) w ss →
    signal_at (word (codes "signal") ∷ word n ∷ mark Colon ∷ word (codes "unsigned") ∷ range_to_zero high ss)
    ≡ Some (record { name = n; width = value high + 1; initial = w })
unfolding signal_at and_then
signal-reads n high {ss = ss} m h i = rw (name-reads n _ m, range-reads high ss h, initial-reads i) refl

rows-read : {rows : List (List Bool × List Bool)} {other : List Bool} {ss : List Symbol} → AreRows rows other ss → (n : ℕ) → length ss ≤ n
    → rows_at n ss ≡ found rows other
unfolding rows_at row_at other_at end_at and_then choice
rows-read others zero h = absurd (omega arith)
rows-read others (suc n) h = refl
rows-read (row r) zero h = absurd (omega arith)
rows-read (row r) (suc n) h = rw (rows-read r n (omega (arith, h))) refl

target-reads : (n : List ℕ) (ss : List Symbol) → IsName n → target_at (word n ∷ mark LessEqual ∷ ss) ≡ found n ss
unfolding target_at and_then
target-reads n ss m = rw (name-reads n _ m) refl

concurrent-reads : {names : Names} {k : Driver} {ss : List Symbol} → IsConcurrent names k ss → concurrent_at names ss ≡ Some k
unfolding concurrent_at assignment_at valued_at output_at high_at choice_at table_at end_at and_then choice
concurrent-reads (assignment {n = n} {ss = ss} m e) =
    rw (no_keyword (codes "with") n _ refused-with m, target-reads n ss m, expression-not_vector e, expression-reads e refl after-end) refl
concurrent-reads (output {n = n} m e) =
    rw (no_keyword (codes "with") n _ refused-with m, target-reads n _ m, expression-reads e refl (closes end_of_piece)) refl
concurrent-reads (conditional {n = n} {ss = ss} {ps = ps} m e p f) =
    rw (
      no_keyword (codes "with") n _ refused-with m,
      target-reads n ss m,
      expression-not_vector e,
      expression-reads e refl (after-when ps),
      part-reads p refl,
      expression-reads f refl after-end,
    ) refl
concurrent-reads (table {n = n} {rs = rs} p m r) =
    rw (part-reads p refl, name-reads n _ m, rows-read r (length rs) (omega arith)) refl

clocked-reads : {names : Names} {k : Driver} {ss : List Symbol} → IsClocked names k ss → clocked_at names ss ≡ Some k
unfolding clocked_at end_at and_then
clocked-reads (clocked {n = n} {ss = ss} m e) = rw (target-reads n ss m, expression-reads e refl after-end) refl

-- a statement does not begin with such a word
concurrent-not : (k : List ℕ) {names : Names} {d : Driver} {ss : List Symbol} → is_allowed_name k ≡ false
    → ((rest : List Symbol) → eat (word k) (word (codes "with") ∷ rest) ≡ None) → IsConcurrent names d ss → eat (word k) ss ≡ None
concurrent-not k refused no_with (assignment {n = n} m e) = no_keyword k n _ refused m
concurrent-not k refused no_with (output {n = n} m e) = no_keyword k n _ refused m
concurrent-not k refused no_with (conditional {n = n} m e p f) = no_keyword k n _ refused m
concurrent-not k refused no_with (table p m r) = no_with _

clocked-no_if : {names : Names} {d : Driver} {ss : List Symbol} → IsClocked names d ss → eat (word (codes "if")) ss ≡ None
clocked-no_if (clocked {n = n} m e) = no_keyword (codes "if") n _ refused-if m

enable-reads : {names : Names} {e : Option ℕ} {k : Driver} {ss rest : List Symbol} → IsEnable names e ss rest → IsClocked names k rest
    → enable_at names ss ≡ found e rest
unfolding enable_at port_high_at high_at and_then choice
enable-reads always c = rw (clocked-no_if c) refl
enable-reads (enabled {n = n} m) c = rw (name-reads n _ m) refl

clocked-not : {names : Names} {d : Driver} {ss : List Symbol} → IsClocked names d ss → eat (word (codes "end")) ss ≡ None
clocked-not (clocked {n = n} m e) = no_keyword (codes "end") n _ refused-end m

statement-reads : (p : Place) (r : Reading) {k : Driver} {ss : List Symbol} → IsConcurrent (scope r) k ss → statement_at p r ss
    ≡ found p (with_driver r k)
unfolding statement_at and_then choice
statement-reads p r c = rw (concurrent-not (codes "end") refused-end (λ rest. refl) c, concurrent-reads c) refl

ending-reads : (p : Place) (r : Reading) {a : Option (List ℕ)} {ss : List Symbol} → IsEnd (codes "architecture") a ss → statement_at p r ss
    ≡ found at.End (with_name r r.architecture a)
unfolding statement_at and_then choice
ending-reads p r e = end-then refused-architecture e (λ rest s u. rw (s, u) refl)

pub takes-reads : {p q : Place} {r r2 : Reading} {ss : List Symbol} → Takes p r ss q r2 → takes_at p r ss ≡ found q r2
unfolding takes_at entity_at ports_at heading_at declarations_at body_at opening_at clocked_body_at edge_at process_at end_at and_then
    choice
takes-reads library_clause = refl
takes-reads use_logic = refl
takes-reads use_numeric = refl
takes-reads (entity {n = n} m) = rw (name-reads n _ m) refl
takes-reads (port p) = rw (port-reads p) refl
takes-reads (last_port p) = rw (port-reads p) refl
takes-reads (end_entity e) = end-then refused-entity e (λ rest s u. rw (s, u) refl)
takes-reads (architecture {r = r} {a = a} {n = n} {ss = ss} m o t) =
    let e : declarations_at (with_architecture r a n) ss ≡ found _ _ = takes-reads t in
    rw (name-reads a _ m, name-reads n _ o, e) refl
takes-reads (signal {n = n} {high = high} m h i) = rw (signal-reads n high m h i) refl
takes-reads (begin {r = r} {ss = ss} t) = let e : body_at r ss ≡ found _ _ = takes-reads t in rw e refl
takes-reads (statement {r = r} c) = rw (concurrent-not (codes "process") refused-process (λ rest. refl) c, statement-reads at.Body r c) refl
takes-reads (process e c) = rw (enable-reads e c, clocked-reads c) refl
takes-reads (process_is e c) = rw (enable-reads e c, clocked-reads c) refl
takes-reads (register c) = rw (clocked-not c, clocked-reads c) refl
takes-reads (end_if h) = rw h refl
takes-reads (end_enabled h) = rw h refl
takes-reads end_edge = refl
takes-reads end_process = refl
takes-reads (later_statement {r = r} c) = statement-reads at.AfterProcess r c
takes-reads (end_without_process {r = r} e) = end-then refused-architecture e (λ rest s u. rw s (rw s at (ending-reads at.Body r e)))
takes-reads (end_after_process {r = r} e) = ending-reads at.AfterProcess r e

-- what is read is in the grammar
width_then : {G : Type 0} (ss : List Symbol) (w : ℕ) (rest : List Symbol) → width_at ss ≡ found w rest
    → ((high : List ℕ) → ss ≡ range_to_zero high rest → IsIndex high → w ≡ value high + 1 → G) → G
unfolding width_at
width_then ss w rest e go =
    bind_then _ _ _ e (λ a e1 f1.
    bind_then _ _ _ f1 (λ b e2 f2.
    bind_then _ _ _ f2 (λ c e3 f3.
    bind_then _ _ _ f3 (λ d e4 f4.
    bind_then _ _ _ f4 (λ x e5 f5.
    let (p, q) = found_is (b.0 + 1) w x rest f5 in
    let s1 = eat_some (mark LeftParen) ss a e1 in
    let s3 = eat_some (word (codes "downto")) b.1 c e3 in
    let s4 = eat_some (number (codes "0")) c d e4 in
    let s5 = eat_some (mark RightParen) d x e5 in
    index_then a b.0 b.1 e2 (λ high s2 h v.
    let whole : ss ≡ range_to_zero high rest = cc in
    go high whole h (sym p ∙ ap (λ u. u + 1) v)))))))

direction_some : (ss : List Symbol) (dir : Dir) (rest : List Symbol) → direction_at ss ≡ found dir rest → ss ≡ word (direction dir) ∷ rest
unfolding direction_at
direction_some ss dir rest e = choice_then _ _ _ _ e
    (λ h k.
    bind_then _ _ _ k (λ a e1 f1.
    let (p, q) = found_is Out dir a rest f1 in rw (← p, ← q) (eat_some (word (codes "out")) ss a e1)))
    (λ a h k. let (p, q) = found_is In dir a rest k in rw (← p, ← q) (eat_some (word (codes "in")) ss a h))

port_some : (ss : List Symbol) (p : Port) (rest : List Symbol) → port_at ss ≡ found p rest → IsPort p ss rest
unfolding port_at
port_some ss p rest e =
    bind_then _ _ _ e (λ n e1 f1.
    bind_then _ _ _ f1 (λ a e2 f2.
    bind_then _ _ _ f2 (λ dir e3 f3.
    bind_then _ _ _ f3 (λ b e4 f4.
    bind_then _ _ _ f4 (λ w e5 f5.
    let (i, j) = found_is (record { name = n.0; dir = dir.0; width = w.0 }) p w.1 rest f5 in
    let (s1, m) = name_some ss n.0 n.1 e1 in
    let s2 = eat_some (mark Colon) n.1 a e2 in
    let s3 = direction_some a dir.0 dir.1 e3 in
    let s4 = eat_some (word (codes "std_logic_vector")) dir.1 b e4 in
    width_then b w.0 w.1 e5 (λ high s5 h v. rw (← i, s1, s2, s3, s4, s5, v, j) (port_line m h)))))))

own_name_then : {G : Type 0} (ss : List Symbol) (n : Option (List ℕ)) → own_name_at ss ≡ Some n → (n ≡ None → ss ≡ end_of_piece → G)
    → ((m : List ℕ) → n ≡ Some m → ss ≡ word m ∷ end_of_piece → IsName m → G) → G
unfolding own_name_at
own_name_then ss n e without with_own = choice_then _ _ _ _ e
    (λ h k.
    bind_then _ _ _ k (λ a e1 f1.
    without (sym (same_Some _ _ f1)) (end_some ss a e1)))
    (λ m h k.
    bind_then _ _ _ k (λ a e1 f1.
    let (s1, o) = name_some ss m.0 m.1 h in
    with_own m.0 (sym (same_Some _ _ f1)) (s1 ∙ ap (λ u. word m.0 ∷ u) (end_some m.1 a e1)) o))

unit_end_some : (unit : List ℕ) (ss : List Symbol) (n : Option (List ℕ)) → unit_end_at unit ss ≡ Some n
    → IsEnd unit n (word (codes "end") ∷ ss)
unfolding unit_end_at
unit_end_some unit ss n e = choice_then _ _ _ _ e
    (λ h k. own_name_then ss n k (λ i s. rw (i, s) bare) (λ m i s o. rw (i, s) (named o)))
    (λ a h k.
    let t = eat_some (word unit) ss a h in
    own_name_then a n k (λ i s. rw (i, t, s) of_unit) (λ m i s o. rw (i, t, s) (of_unit_named o)))

initial_value_some : (width : ℕ) (ss : List Symbol) (w : List Bool) → initial_value_at width ss ≡ Some w
    → IsInitial width (Some w) (mark Becomes ∷ ss)
unfolding initial_value_at
initial_value_some width ss w e = choice_then _ _ _ _ e
    (λ h k.
    bind_then _ _ _ k (λ v e1 f1.
    bind_then _ _ _ f1 (λ a e2 f2.
    let s1 = string_some ss v.0 v.1 e1 in
    rw (← same_Some _ _ f2, s1, end_some v.1 a e2) written)))
    (λ a h k.
    bind_then _ _ _ k (λ b e1 f1.
    let s0 = eat_some (mark LeftParen) ss a h in
    let s1 = phrase_some others_zero a b e1 in
    rw (← same_Some _ _ f1, s0, s1) zeros))

initial_some : (width : ℕ) (ss : List Symbol) (w : Option (List Bool)) → initial_at width ss ≡ Some w → IsInitial width w ss
unfolding initial_at
initial_some width ss w e = choice_then _ _ _ _ e
    (λ h k.
    bind_then _ _ _ k (λ a e1 f1.
    rw (← same_Some _ _ f1, end_some ss a e1) absent))
    (λ a h k.
    bind_then _ _ _ k (λ v e1 f1.
    rw (← same_Some _ _ f1, eat_some (mark Becomes) ss a h) (initial_value_some width a v e1)))

signal_some : (r : Reading) (ss : List Symbol) (s : Signal) → signal_at ss ≡ Some s
    → Takes at.Declarations r ss at.Declarations (with_signal r s)
unfolding signal_at
signal_some r ss s e =
    bind_then _ _ _ e (λ a e1 f1.
    bind_then _ _ _ f1 (λ n e2 f2.
    bind_then _ _ _ f2 (λ b e3 f3.
    bind_then _ _ _ f3 (λ c e4 f4.
    bind_then _ _ _ f4 (λ w e5 f5.
    bind_then _ _ _ f5 (λ i e6 f6.
    let s1 = eat_some (word (codes "signal")) ss a e1 in
    let (s2, m) = name_some a n.0 n.1 e2 in
    let s3 = eat_some (mark Colon) n.1 b e3 in
    let s4 = eat_some (word (codes "unsigned")) b c e4 in
    width_then c w.0 w.1 e5 (λ high s5 h v. rw (← same_Some _ _ f6, s1, s2, s3, s4, s5, v) (signal m h (rw v at (initial_some w.0 w.1 i
    e6))))))))))

rows_some : (n : ℕ) (ss : List Symbol) (rows : List (List Bool × List Bool)) (other : List Bool) → rows_at n ss ≡ found rows other
    → AreRows rows other ss
unfolding rows_at row_at other_at
rows_some zero ss rows other e = cc
rows_some (suc n) ss rows other e = choice_then _ _ _ _ e
    (λ h k.
    bind_then _ _ _ k (λ x e1 f1.
    bind_then _ _ _ e1 (λ w g1 h1.
    bind_then _ _ _ h1 (λ a g2 h2.
    bind_then _ _ _ h2 (λ b g3 h3.
    bind_then _ _ _ h3 (λ c g4 h4.
    let (k1, k2) = found_is [] rows x other f1 in
    let s1 = string_some ss w.0 w.1 g1 in
    let s2 = eat_some (word (codes "when")) w.1 a g2 in
    let s3 = eat_some (word (codes "others")) a b g3 in
    rw (← k1, ← k2, ← same_Some _ _ h4, s1, s2, s3, end_some b c g4) others))))))
    (λ x h k.
    bind_then _ _ _ k (λ more e2 f2.
    bind_then _ _ _ h (λ w g1 h1.
    bind_then _ _ _ h1 (λ a g2 h2.
    bind_then _ _ _ h2 (λ v g3 h3.
    bind_then _ _ _ h3 (λ b g4 h4.
    let (k1, k2) = found_is (x.0 ∷ more.0) rows more.1 other f2 in
    let (i1, i2) = found_is (v.0, w.0) x.0 b x.1 h4 in
    let s1 = string_some ss w.0 w.1 g1 in
    let s2 = eat_some (word (codes "when")) w.1 a g2 in
    let s3 = string_some a v.0 v.1 g3 in
    let s4 = eat_some (mark Comma) v.1 b g4 in
    rw (← k1, ← k2, ← i1, s1, s2, s3, s4, i2) (row (rows_some n x.1 more.0 more.1 e2))))))))

-- a row that was read is not empty
pub row-shorter : (ss : List Symbol) (r : List Bool × List Bool) (rest : List Symbol) → row_at ss ≡ found r rest
    → suc (length rest) ≤ length ss
unfolding row_at
row-shorter ss r rest e =
    bind_then _ _ _ e (λ w g1 h1.
    bind_then _ _ _ h1 (λ a g2 h2.
    bind_then _ _ _ h2 (λ v g3 h3.
    bind_then _ _ _ h3 (λ b g4 h4.
    let (i1, i2) = found_is (v.0, w.0) r b rest h4 in
    let s1 = string_some ss w.0 w.1 g1 in
    let s2 = eat_some (word (codes "when")) w.1 a g2 in
    let s3 = string_some a v.0 v.1 g3 in
    let s4 = eat_some (mark Comma) v.1 b g4 in
    rw (s1, s2, s3, s4, i2) (omega arith)))))

no_rows : (n : ℕ) → rows_at (suc n) [] ≡ None
unfolding row_at other_at rows_at and_then choice
no_rows n = refl

after_row : (m n : ℕ) (ss : List Symbol) → ((rs : List Symbol) → length rs ≤ m → length rs ≤ n → rows_at m rs ≡ rows_at n rs)
    → length ss ≤ suc m → length ss ≤ suc n →
    (o : Option ((List Bool × List Bool) × List Symbol)) → row_at ss ≡ o →
    choice o (other_at ss >>= λ w. found [] w) (λ x. rows_at m x.1 >>= λ more. found (x.0 ∷ more.0) more.1)
    ≡ choice o (other_at ss >>= λ w. found [] w) (λ x. rows_at n x.1 >>= λ more. found (x.0 ∷ more.0) more.1)
unfolding choice
after_row m n ss same h k None e = refl
after_row m n ss same h k (Some x) e =
    let short = row-shorter ss x.0 x.1 e in
    ap (λ u. u >>= λ more. found (x.0 ∷ more.0) more.1) (same x.1 (omega (arith, short, h)) (omega (arith, short, k)))

-- how many rows are allowed makes no difference where they are enough
pub enough_rows : (m n : ℕ) (ss : List Symbol) → length ss ≤ m → length ss ≤ n → rows_at m ss ≡ rows_at n ss
unfolding rows_at
enough_rows zero zero ss h k = refl
enough_rows (suc m) zero [] h k = no_rows m
enough_rows (suc m) zero (s ∷ ss) h k = absurd (omega arith)
enough_rows zero (suc n) [] h k = sym (no_rows n)
enough_rows zero (suc n) (s ∷ ss) h k = absurd (omega arith)
enough_rows (suc m) (suc n) ss h k = after_row m n ss (λ rs i j. enough_rows m n rs i j) h k (row_at ss) refl

table_some : (names : Names) (ss : List Symbol) (k : Driver) → table_at names ss ≡ Some k → IsConcurrent names k (word (codes "with") ∷ ss)
unfolding table_at
table_some names ss k e =
    bind_then _ _ _ e (λ on e1 f1.
    bind_then _ _ _ f1 (λ a e2 f2.
    bind_then _ _ _ f2 (λ n e3 f3.
    bind_then _ _ _ f3 (λ b e4 f4.
    bind_then _ _ _ f4 (λ rows e5 f5.
    let p = part_some names ss on.0 on.1 e1 in
    let s2 = eat_some (word (codes "select")) on.1 a e2 in
    let (s3, m) = name_some a n.0 n.1 e3 in
    let s4 = eat_some (mark LessEqual) n.1 b e4 in
    rw (← same_Some _ _ f5) (table (rw (s2, s3, s4) at p) m (rows_some (length b) b rows.0 rows.1 e5)))))))

one_is : (w : List Bool) → is_one w ≡ true → w ≡ true ∷ []
one_is [] e = cc
one_is (true ∷ []) e = refl
one_is (false ∷ []) e = cc
one_is (true ∷ b ∷ w) e = cc
one_is (false ∷ b ∷ w) e = cc

high_some : (next : List ℕ) (ss rest : List Symbol) → high_at next ss ≡ Some rest → ss ≡ mark Equal ∷ string (true ∷ []) ∷ word next ∷ rest
unfolding high_at
high_some next ss rest e =
    bind_then _ _ _ e (λ a e1 f1.
    bind_then _ _ _ f1 (λ w e2 f2.
    let (t, g) = if_some (is_one w.0) (eat (word next) w.1) rest f2 in
    let s1 = eat_some (mark Equal) ss a e1 in
    let s2 = string_some a w.0 w.1 e2 in
    let o = one_is w.0 t in
    let s3 = eat_some (word next) w.1 rest g in
    cc))

choice_some : (names : Names) (n : List ℕ) (one : Tree) (rs ss : List Symbol) (k : Driver) → IsName n
    → IsExpression names MAX_NESTING one rs (word (codes "when") ∷ ss) →
    choice_at names (place_of names.signals n) one ss ≡ Some k → IsConcurrent names k (word n ∷ mark LessEqual ∷ rs)
unfolding choice_at
choice_some names n one rs ss k m x e =
    bind_then _ _ _ e (λ on e1 f1.
    bind_then _ _ _ f1 (λ b e2 f2.
    bind_then _ _ _ f2 (λ other e3 f3.
    bind_then _ _ _ f3 (λ c e4 f4.
    let p = part_some names ss on.0 on.1 e1 in
    let s2 = high_some (codes "else") on.1 b e2 in
    let y = expression-is names MAX_NESTING other.0 b other.1 e3 in
    rw (← same_Some _ _ f4) (conditional m x (rw s2 at p) (rw (end_some other.1 c e4) at y))))))

valued_some : (names : Names) (n : List ℕ) (ss : List Symbol) (k : Driver) → IsName n → valued_at names (place_of names.signals n) ss
    ≡ Some k → IsConcurrent names k (word n ∷ mark LessEqual ∷ ss)
unfolding valued_at
valued_some names n ss k m e =
    bind_then _ _ _ e (λ x e1 f1.
    let y = expression-is names MAX_NESTING x.0 ss x.1 e1 in
    choice_then _ _ _ _ f1
    (λ h g.
    bind_then _ _ _ g (λ a e2 f2.
    rw (← same_Some _ _ f2) (assignment m (rw (end_some x.1 a e2) at y))))
    (λ a h g. choice_some names n x.0 ss a k m (rw (eat_some (word (codes "when")) x.1 a h) at y) g))

output_some : (names : Names) (n : List ℕ) (ss : List Symbol) (k : Driver) → IsName n → output_at names (place_of names.ports n) ss ≡ Some k
    → IsConcurrent names k (word n ∷ mark LessEqual ∷ word (codes "std_logic_vector") ∷ ss)
unfolding output_at
output_some names n ss k m e =
    bind_then _ _ _ e (λ a e1 f1.
    bind_then _ _ _ f1 (λ x e2 f2.
    bind_then _ _ _ f2 (λ b e3 f3.
    bind_then _ _ _ f3 (λ c e4 f4.
    let y = expression-is names MAX_NESTING x.0 a x.1 e2 in
    let s1 = eat_some (mark LeftParen) ss a e1 in
    let s3 = eat_some (mark RightParen) x.1 b e3 in
    let s4 = end_some b c e4 in
    rw (← same_Some _ _ f4, s1) (output m (rw (s3, s4) at y))))))

target_then : {G : Type 0} (ss : List Symbol) (n : List ℕ) (rest : List Symbol) → target_at ss ≡ found n rest
    → (ss ≡ word n ∷ mark LessEqual ∷ rest → IsName n → G) → G
unfolding target_at
target_then ss n rest e go =
    bind_then _ _ _ e (λ x e1 f1.
    bind_then _ _ _ f1 (λ a e2 f2.
    let (p, q) = found_is x.0 n a rest f2 in
    let (s1, m) = name_some ss x.0 x.1 e1 in
    let s2 = eat_some (mark LessEqual) x.1 a e2 in
    let whole : ss ≡ word n ∷ mark LessEqual ∷ rest = cc in
    go whole (rw p at m)))

concurrent_some : (names : Names) (ss : List Symbol) (k : Driver) → concurrent_at names ss ≡ Some k → IsConcurrent names k ss
unfolding concurrent_at assignment_at
concurrent_some names ss k e = choice_then _ _ _ _ e
    (λ h g.
    bind_then _ _ _ g (λ n e1 f1.
    target_then ss n.0 n.1 e1 (λ s m. choice_then _ _ _ _ f1
    (λ h g. rw s (valued_some names n.0 n.1 k m g))
    (λ a h g. rw (s, eat_some (word (codes "std_logic_vector")) n.1 a h) (output_some names n.0 a k m g)))))
    (λ a h g. rw (eat_some (word (codes "with")) ss a h) (table_some names a k g))

clocked_some : (names : Names) (ss : List Symbol) (k : Driver) → clocked_at names ss ≡ Some k → IsClocked names k ss
unfolding clocked_at
clocked_some names ss k e =
    bind_then _ _ _ e (λ n e1 f1.
    bind_then _ _ _ f1 (λ x e2 f2.
    bind_then _ _ _ f2 (λ a e3 f3.
    let y = expression-is names MAX_NESTING x.0 n.1 x.1 e2 in
    target_then ss n.0 n.1 e1 (λ s m. rw (← same_Some _ _ f3, s) (clocked m (rw (end_some x.1 a e3) at y))))))

edge_some : (ss rest : List Symbol) → edge_at ss ≡ Some rest → ss ≡ at_edge rest
unfolding edge_at
edge_some ss rest e =
    bind_then _ _ _ e (λ a e1 f1.
    bind_then _ _ _ f1 (λ b e2 f2.
    bind_then _ _ _ f2 (λ c e3 f3.
    bind_then _ _ _ f3 (λ d e4 f4.
    let s1 = eat_some (word (codes "begin")) ss a e1 in
    let s2 = eat_some (word (codes "if")) a b e2 in
    let s3 = eat_some (word (codes "rising_edge")) b c e3 in
    let s4 = eat_all_some clock c d e4 in
    let s5 = eat_some (word (codes "then")) d rest f4 in
    cc))))

port_high_some : (names : Names) (ss : List Symbol) (p : ℕ) (rest : List Symbol) → port_high_at names ss ≡ found p rest
    → IsEnable names (Some p) (word (codes "if") ∷ ss) rest
unfolding port_high_at
port_high_some names ss p rest e =
    bind_then _ _ _ e (λ n e1 f1.
    bind_then _ _ _ f1 (λ a e2 f2.
    let (i, j) = found_is (place_of names.ports n.0) p a rest f2 in
    let (s1, m) = name_some ss n.0 n.1 e1 in
    let s2 = high_some (codes "then") n.1 a e2 in
    rw (← i, s1, s2, j) (enabled m)))

enable_some : (names : Names) (ss : List Symbol) (e : Option ℕ) (rest : List Symbol) → enable_at names ss ≡ found e rest
    → IsEnable names e ss rest
unfolding enable_at
enable_some names ss e rest h = choice_then _ _ _ _ h
    (λ k g. let (i, j) = found_is None e ss rest g in rw (← i, j) always)
    (λ a k g.
    bind_then _ _ _ g (λ p e1 f1.
    let (i, j) = found_is (Some p.0) e p.1 rest f1 in
    rw (← i, ← j, eat_some (word (codes "if")) ss a k) (port_high_some names a p.0 p.1 e1)))

process_some : (r : Reading) (e : Option ℕ) (k : Driver) (ss middle rest : List Symbol) → process_at ss ≡ Some middle
    → IsEnable (scope r) e middle rest →
    IsClocked (scope r) k rest → Takes at.Body r (word (codes "process") ∷ ss) at.Process (with_driver (with_enable r e) k)
unfolding process_at
process_some r enable k ss middle rest e n c =
    bind_then _ _ _ e (λ a e1 f1.
    let s1 = eat_all_some clock ss a e1 in
    choice_then _ _ _ _ f1
    (λ h g. rw (s1, edge_some a middle g) (process n c))
    (λ b h g. rw (s1, eat_some (word (codes "is")) a b h, edge_some b middle g) (process_is n c)))

opening_some : (r : Reading) (ss : List Symbol) (q : Place) (r2 : Reading) → opening_at r ss ≡ found q r2
    → Takes at.Body r (word (codes "process") ∷ ss) q r2
unfolding opening_at
opening_some r ss q r2 h =
    bind_then _ _ _ h (λ a e1 f1.
    bind_then _ _ _ f1 (λ e e2 f2.
    bind_then _ _ _ f2 (λ k e3 f3.
    let (i, j) = found_is at.Process q (with_driver (with_enable r e.0) k) r2 f3 in
    rw (← i, ← j) (process_some r e.0 k ss a e.1 e1 (enable_some (scope r) a e.0 e.1 e2) (clocked_some (scope r) e.1 k e3)))))

statement_some : (p : Place) (r : Reading) (ss : List Symbol) (q : Place) (r2 : Reading) →
    ((k : Driver) (rs : List Symbol) → IsConcurrent (scope r) k rs → Takes p r rs p (with_driver r k)) →
    ((a : Option (List ℕ)) (rs : List Symbol) → IsEnd (codes "architecture") a rs → Takes p r rs at.End (with_name r r.architecture a)) →
    statement_at p r ss ≡ found q r2 → Takes p r ss q r2
unfolding statement_at
statement_some p r ss q r2 said ended e = choice_then _ _ _ _ e
    (λ h g.
    bind_then _ _ _ g (λ k e1 f1.
    let (i, j) = found_is p q (with_driver r k) r2 f1 in
    rw (← i, ← j) (said k ss (concurrent_some (scope r) ss k e1))))
    (λ a h g.
    bind_then _ _ _ g (λ n e1 f1.
    let (i, j) = found_is at.End q (with_name r r.architecture n) r2 f1 in
    rw (← i, ← j, eat_some (word (codes "end")) ss a h) (ended n (word (codes "end") ∷ a) (unit_end_some (codes "architecture") a n e1))))

body_some : (r : Reading) (ss : List Symbol) (q : Place) (r2 : Reading) → body_at r ss ≡ found q r2 → Takes at.Body r ss q r2
unfolding body_at
body_some r ss q r2 e = choice_then _ _ _ _ e
    (λ h g. statement_some at.Body r ss q r2 (λ k rs c. statement c) (λ a rs c. end_without_process c) g)
    (λ a h g. rw (eat_some (word (codes "process")) ss a h) (opening_some r a q r2 g))

declarations_some : (r : Reading) (ss : List Symbol) (q : Place) (r2 : Reading) → declarations_at r ss ≡ found q r2
    → Takes at.Declarations r ss q r2
unfolding declarations_at
declarations_some r ss q r2 e = choice_then _ _ _ _ e
    (λ h g.
    bind_then _ _ _ g (λ s e1 f1.
    let (i, j) = found_is at.Declarations q (with_signal r s) r2 f1 in
    rw (← i, ← j) (signal_some r ss s e1)))
    (λ a h g. rw (eat_some (word (codes "begin")) ss a h) (begin (body_some r a q r2 g)))

end_if-is : (r : Reading) (e : Option ℕ) → r.design.enable ≡ e → Takes at.Process r end_of_if (behind_if e) r
end_if-is r None h = end_if h
end_if-is r (Some p) h = end_enabled h

clocked_body_some : (r : Reading) (ss : List Symbol) (q : Place) (r2 : Reading) → clocked_body_at r ss ≡ found q r2
    → Takes at.Process r ss q r2
unfolding clocked_body_at
clocked_body_some r ss q r2 e = choice_then _ _ _ _ e
    (λ h g.
    bind_then _ _ _ g (λ k e1 f1.
    let (i, j) = found_is at.Process q (with_driver r k) r2 f1 in
    rw (← i, ← j) (register (clocked_some (scope r) ss k e1))))
    (λ a h g.
    bind_then _ _ _ g (λ b e1 f1.
    let (i, j) = found_is (behind_if r.design.enable) q r r2 f1 in
    let s1 = phrase_some (word (codes "if") ∷ []) a b e1 in
    rw (← i, ← j, eat_some (word (codes "end")) ss a h, s1) (end_if-is r r.design.enable refl)))

entity_some : (r : Reading) (ss : List Symbol) (n : List ℕ) → entity_at ss ≡ Some n → Takes at.Entity r ss at.Ports (with_entity r n)
unfolding entity_at
entity_some r ss n e =
    bind_then _ _ _ e (λ a e1 f1.
    bind_then _ _ _ f1 (λ m e2 f2.
    bind_then _ _ _ f2 (λ b e3 f3.
    let s1 = eat_some (word (codes "entity")) ss a e1 in
    let (s2, o) = name_some a m.0 m.1 e2 in
    let s3 = phrase_some clock_port m.1 b e3 in
    rw (← same_Some _ _ f3, s1, s2, s3) (entity o))))

ports_some : (r : Reading) (ss : List Symbol) (q : Place) (r2 : Reading) → ports_at r ss ≡ found q r2 → Takes at.Ports r ss q r2
unfolding ports_at
ports_some r ss q r2 e =
    bind_then _ _ _ e (λ p e1 f1.
    let t = port_some ss p.0 p.1 e1 in
    choice_then _ _ _ _ f1
    (λ h g.
    bind_then _ _ _ g (λ a e2 f2.
    let (i, j) = found_is at.Ports q (with_port r p.0) r2 f2 in
    rw (← i, ← j) (port (rw (end_some p.1 a e2) at t))))
    (λ b h g.
    bind_then _ _ _ g (λ a e2 f2.
    let (i, j) = found_is at.EndEntity q (with_port r p.0) r2 f2 in
    rw (← i, ← j) (last_port (rw (eat_some (mark RightParen) p.1 b h, end_some b a e2) at t)))))

heading_some : (r : Reading) (ss : List Symbol) (q : Place) (r2 : Reading) (h : List ℕ × List ℕ) (rest : List Symbol) → heading_at ss
    ≡ found h rest →
    declarations_at (with_architecture r h.0 h.1) rest ≡ found q r2 → Takes at.Architecture r ss q r2
unfolding heading_at
heading_some r ss q r2 h rest e g =
    bind_then _ _ _ e (λ a e1 f1.
    bind_then _ _ _ f1 (λ m e2 f2.
    bind_then _ _ _ f2 (λ b e3 f3.
    bind_then _ _ _ f3 (λ n e4 f4.
    bind_then _ _ _ f4 (λ c e5 f5.
    let (i, j) = found_is (m.0, n.0) h c rest f5 in
    let s1 = eat_some (word (codes "architecture")) ss a e1 in
    let (s2, o) = name_some a m.0 m.1 e2 in
    let s3 = eat_some (word (codes "of")) m.1 b e3 in
    let (s4, o2) = name_some b n.0 n.1 e4 in
    let s5 = eat_some (word (codes "is")) n.1 c e5 in
    rw (s1, s2, s3, s4, s5, j) (architecture o o2 (declarations_some (with_architecture r m.0 n.0) rest q r2 (rw (← i) at g))))))))

pub takes-is : (p q : Place) (r r2 : Reading) (ss : List Symbol) → takes_at p r ss ≡ found q r2 → Takes p r ss q r2
unfolding takes_at
takes-is at.Library q r r2 ss e =
    bind_then _ _ _ e (λ a e1 f1.
    let (i, j) = found_is at.UseLogic q r r2 f1 in
    rw (← i, ← j, phrase_some (word (codes "library") ∷ word (codes "ieee") ∷ []) ss a e1) library_clause)
takes-is at.UseLogic q r r2 ss e =
    bind_then _ _ _ e (λ a e1 f1.
    let (i, j) = found_is at.UseNumeric q r r2 f1 in
    rw (← i, ← j, phrase_some (use_clause (codes "std_logic_1164")) ss a e1) use_logic)
takes-is at.UseNumeric q r r2 ss e =
    bind_then _ _ _ e (λ a e1 f1.
    let (i, j) = found_is at.Entity q r r2 f1 in
    rw (← i, ← j, phrase_some (use_clause (codes "numeric_std")) ss a e1) use_numeric)
takes-is at.Entity q r r2 ss e =
    bind_then _ _ _ e (λ n e1 f1.
    let (i, j) = found_is at.Ports q (with_entity r n) r2 f1 in
    rw (← i, ← j) (entity_some r ss n e1))
takes-is at.Ports q r r2 ss e = ports_some r ss q r2 e
takes-is at.EndEntity q r r2 ss e =
    bind_then _ _ _ e (λ a e1 f1.
    bind_then _ _ _ f1 (λ n e2 f2.
    let (i, j) = found_is at.Architecture q (with_name r r.design.name n) r2 f2 in
    rw (← i, ← j, eat_some (word (codes "end")) ss a e1) (end_entity (unit_end_some (codes "entity") a n e2))))
takes-is at.Architecture q r r2 ss e =
    bind_then _ _ _ e (λ h e1 f1.
    heading_some r ss q r2 h.0 h.1 e1 f1)
takes-is at.Declarations q r r2 ss e = declarations_some r ss q r2 e
takes-is at.Body q r r2 ss e = body_some r ss q r2 e
takes-is at.Process q r r2 ss e = clocked_body_some r ss q r2 e
takes-is at.EndEdge q r r2 ss e =
    bind_then _ _ _ e (λ a e1 f1.
    let (i, j) = found_is at.EndProcess q r r2 f1 in
    rw (← i, ← j, phrase_some (word (codes "end") ∷ word (codes "if") ∷ []) ss a e1) end_edge)
takes-is at.EndProcess q r r2 ss e =
    bind_then _ _ _ e (λ a e1 f1.
    let (i, j) = found_is at.AfterProcess q r r2 f1 in
    rw (← i, ← j, phrase_some (word (codes "end") ∷ word (codes "process") ∷ []) ss a e1) end_process)
takes-is at.AfterProcess q r r2 ss e = statement_some at.AfterProcess r ss q r2 (λ k rs c. later_statement c)
    (λ a rs c. end_after_process c) e
takes-is at.End q r r2 ss e = cc
