-- The cycles of a run that count, and their inputs.
use Rattle.std.proofs.Common.{◌≡◌, ℕ, suc, Bool, true, false, List, [], ◌∷◌, length, map, drop, refl, sym, ap, ◌∙◌, arith}
use Rattle.std.specs.Prelude.{All}
use Rattle.std.proofs.lemmas.List.{length-map}
use Rattle.std.proofs.lemmas.List.Elements.{All-nil, All-cons, All-head, All-tail}
use Rattle.opgen_design.specs.declared.design.Design.{Design}
use Rattle.opgen_design.specs.Run.{marked, ones_at, Words, RunsOn, AreWords, at_ports, is_in, input_widths, counted, data_inputs}
use Rattle.opgen_runs.proofs.Rows.{at_ports-map}

-- the inputs of a run have the widths of its input ports
pub run_words : (d : Design) (now : List (List Bool)) (inputs : List (List (List Bool))) (vs : List Words) → RunsOn d now inputs vs
    → All (AreWords (input_widths d)) inputs
run_words d now [] vs r = All-nil (AreWords (input_widths d))
run_words d now (given ∷ inputs) [] r = absurd r
run_words d now (given ∷ inputs) (v ∷ vs) (next, c, r) =
    let words = ap (map length) (sym c.inputs) ∙ at_ports-map length is_in d.ports v.ports ∙ ap (at_ports is_in d.ports) c.port_widths in
    All-cons (AreWords (input_widths d)) given inputs words (run_words d next inputs vs r)

-- a run has a cycle for each of its inputs
pub run_long : (d : Design) (now : List (List Bool)) (inputs : List (List (List Bool))) (vs : List Words) → RunsOn d now inputs vs
    → length vs ≡ length inputs
run_long d now [] [] r = refl
run_long d now [] (v ∷ vs) r = absurd r
run_long d now (given ∷ inputs) [] r = absurd r
run_long d now (given ∷ inputs) (v ∷ vs) (next, c, r) = ap suc (run_long d next inputs vs r)

-- the same items are marked in lists of one length
marked_long : {X Y : Type 0} (marks : List Bool) (xs : List X) (ys : List Y) → length xs ≡ length ys
    → length (marked marks xs) ≡ length (marked marks ys)
marked_long [] xs ys e = refl
marked_long (m ∷ marks) [] [] e = refl
marked_long (m ∷ marks) [] (y ∷ ys) e = absurd (omega (arith, e))
marked_long (m ∷ marks) (x ∷ xs) [] e = absurd (omega (arith, e))
marked_long (true ∷ marks) (x ∷ xs) (y ∷ ys) e = ap suc (marked_long marks xs ys (omega (arith, e)))
marked_long (false ∷ marks) (x ∷ xs) (y ∷ ys) e = marked_long marks xs ys (omega (arith, e))

marked_all : {X : Type 0} (P : X → Type 0) (marks : List Bool) (xs : List X) → All P xs → All P (marked marks xs)
marked_all P [] xs h = All-nil P
marked_all P (m ∷ marks) [] h = h
marked_all P (true ∷ marks) (x ∷ xs) h = All-cons P x (marked marks xs) (All-head P x xs h) (marked_all P marks xs (All-tail P x xs h))
marked_all P (false ∷ marks) (x ∷ xs) h = marked_all P marks xs (All-tail P x xs h)

pub taken_long : (enable : Bool) (inputs : List (List (List Bool))) (vs : List Words) → length vs ≡ length inputs
    → length (data_inputs enable (counted enable vs inputs)) ≡ length (counted enable vs vs)
taken_long false inputs vs e = sym e
taken_long true inputs vs e = length-map (marked (ones_at 0 vs) inputs) (drop 1) ∙ marked_long (ones_at 0 vs) inputs vs (sym e)

-- a word of the enable before others
first_dropped : (w : ℕ) (ws : List ℕ) (given : List (List Bool)) → AreWords (w ∷ ws) given → AreWords ws (drop 1 given)
first_dropped w ws [] e = absurd (cc)
first_dropped w ws (g ∷ given) e = ap (drop 1) e

all_dropped : (w : ℕ) (ws : List ℕ) (inputs : List (List (List Bool))) → All (AreWords (w ∷ ws)) inputs
    → All (AreWords ws) (map (drop 1) inputs)
all_dropped w ws [] h = All-nil (AreWords ws)
all_dropped w ws (given ∷ inputs) h =
    All-cons (AreWords ws) (drop 1 given) (map (drop 1) inputs) (first_dropped w ws given (All-head (AreWords (w ∷ ws)) given inputs h))
    (all_dropped w ws inputs (All-tail (AreWords (w ∷ ws)) given inputs h))

-- the widths of the inputs, after that of the enable
abbrev pub widths_after : (enable : Bool) → List ℕ → List ℕ
widths_after true ws = 1 ∷ ws
widths_after false ws = ws

pub taken_words : (enable : Bool) (ws : List ℕ) (inputs : List (List (List Bool))) (vs : List Words)
    → All (AreWords (widths_after enable ws)) inputs
    → All (AreWords ws) (data_inputs enable (counted enable vs inputs))
taken_words false ws inputs vs h = h
taken_words true ws inputs vs h = all_dropped 1 ws (marked (ones_at 0 vs) inputs) (marked_all (AreWords (1 ∷ ws)) (ones_at 0 vs) inputs h)
