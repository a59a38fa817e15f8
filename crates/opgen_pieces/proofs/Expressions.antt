-- The expression of a sum of given bits: its class, its width, its value, and the delays that it reads.
use Rattle.std.proofs.Common.{◌≡◌, ℕ, ◌+◌, ◌≤◌, Bool, true, false, ◌&&◌, nat_eq, if◌then◌else◌, List, [], ◌∷◌, length, map, Some, None, refl, sym, ap, ◌∙◌, subst, arith}
use Rattle.std.specs.Prelude.{ℤ, All, IsTrue, slice_index, option_and_then}
use Rattle.std.proofs.Math.Nat.{max-le}
use Rattle.std.proofs.lemmas.Bool.{eq-eqb, and_from}
use Rattle.std.proofs.lemmas.List.Elements.{All-head, All-tail}
use Rattle.opgen_design.specs.declared.expr.Slice.{Slice}
use Rattle.opgen_design.specs.Plain.{trees_of}
use Rattle.opgen_design.specs.Run.{AreWords}
use Rattle.opgen_design.specs.Tree.{Tree, name, part, bits, port, inverse, chain, none, more}
use Rattle.opgen_design.specs.Value.{Scope, IsWidth, combined, in_chain, joined, nesting, operands_nesting, value, width_on}
use Rattle.opgen_net.specs.declared.cell.Class.TheVariants.{Wire}
use Rattle.opgen_net.specs.declared.net.Net.{Net}
use Rattle.opgen_net.specs.declared.node.Node.TheVariants.{Constant, Cells}
use Rattle.opgen_net.specs.declared.word_bits.Piece.{Piece}
use Rattle.opgen_net.specs.declared.word_bits.Piece.TheVariants.{Bits, Part}
use Rattle.opgen_net.specs.declared.word_bits.WordBit.{WordBit}
use Rattle.opgen_net.specs.declared.word_bits.WordBit.TheVariants.{Zero, One, Of}
use Rattle.opgen_net.specs.Cells.{is_sum, is_wire}
use Rattle.opgen_net.specs.Delays.{delays_read, operand_delays}
use Rattle.opgen_net.specs.Flow.{Inputs, flow}
use Rattle.opgen_net.specs.Valid.{FitsNodes, IsValid, input_widths, widths}
use Rattle.opgen_net.specs.WordRule.{Found, IsThere, above, alone, is_whole, over, run_tree, runs, with_node, with_runs, word_flow, word_tree}
use Rattle.opgen_net.proofs.Appending.{flow-append_last}
use Rattle.opgen_net.proofs.CellLaws.{word-wire}
use Rattle.opgen_net.proofs.WordLaws.{word-fits, word-has_bits}
use Rattle.opgen_pieces.specs.Law.{bit_delays}
use Rattle.opgen_pieces.specs.Recipe.{operator, sum_tree}

-- a slice, by whether it is its whole node
abbrev either : Slice → Bool → Tree
either s whole = if whole then name s.node else part s.node s.high s.low

-- the class

operands-wires : (m : Bool) (a b : Tree) → IsTrue (is_wire a) → IsTrue (is_wire b) → IsTrue (is_sum (chain (operator m) (more a (more b none))))
operands-wires false a b f g = and_from (is_wire a) (is_wire b) f g
operands-wires true a b f g = and_from (is_wire a) (is_wire b) f g

pub sum-class : (ws : List ℕ) (m : Bool) (first second : List WordBit) → IsTrue (is_sum (sum_tree ws m first second))
sum-class ws m first second =
    operands-wires m (word_tree ws (runs first)) (word_tree ws (runs second)) (word-wire ws (runs first)) (word-wire ws (runs second))

-- the width, and the parentheses

joined-same : (m : Bool) (n : ℕ) → joined (operator m) n n ≡ Some n
joined-same false n = ap (λ c. if c then Some n else None) (eq-eqb n n refl)
joined-same true n = ap (λ c. if c then Some n else None) (eq-eqb n n refl)

in_chain-small : (t : Tree) → in_chain t ≤ 1
in_chain-small (name n) = omega arith
in_chain-small (part n high low) = omega arith
in_chain-small (bits w) = omega arith
in_chain-small (port p) = omega arith
in_chain-small (inverse t) = omega arith
in_chain-small (chain op ts) = omega arith

module _ (ws : List ℕ) where
  -- a word has no parentheses in it
  word-open : (rs : List Piece) → in_chain (word_tree ws rs) + nesting (word_tree ws rs) ≤ 1
  word-open rs = omega (arith, in_chain-small (word_tree ws rs), flat rs)
    where
      either-flat : (c : Bool) (s : Slice) → in_chain (either s c) + nesting (either s c) ≡ 0
      either-flat true s = omega arith
      either-flat false s = omega arith

      run-flat : (r : Piece) → in_chain (run_tree ws r) + nesting (run_tree ws r) ≡ 0
      run-flat (Bits w) = omega arith
      run-flat (Part s) = either-flat (is_whole ws s) s

      operands-flat : (rs : List Piece) → operands_nesting (trees_of (map (run_tree ws) rs)) ≡ 0
      operands-flat [] = refl
      operands-flat (r ∷ rs) = omega (arith, run-flat r, operands-flat rs)

      flat : (rs : List Piece) → nesting (word_tree ws rs) ≡ 0
      flat [] = refl
      flat (r ∷ []) = omega (arith, run-flat r)
      flat (r ∷ q ∷ rs) = operands-flat (r ∷ q ∷ rs)

  pub sum-fits : (m : Bool) (first second : List WordBit) → IsWidth (length first) → length second ≡ length first
      → All (IsThere ws) first → All (IsThere ws) second → FitsNodes ws (length first) (sum_tree ws m first second)
  sum-fits m first second wide alike f g =
      let n = length first in
      let a = word_tree ws (runs first) in
      let b = word_tree ws (runs second) in
      let of_a = word-fits ws first wide f in
      let of_b = word-fits ws second (subst IsWidth (sym alike) wide) g in
      record {
        has_width = ap (option_and_then (λ u. width_on ws [] (operator m) u (more b none))) of_a.has_width
            ∙ ap (option_and_then (λ u. option_and_then (λ x. Some x) (joined (operator m) n u))) (of_b.has_width ∙ ap Some alike)
            ∙ ap (option_and_then (λ x. Some x)) (joined-same m n);
        nests = omega (arith, word-open (runs first), word-open (runs second));
      }

-- the value

module _ (net : Net) (valid : IsValid net) (inputs : Inputs) (t : ℤ) (words : All (AreWords (input_widths net)) inputs) where
  abbrev here : Scope
  here = record { names = λ n. flow net.nodes inputs n t; ports = λ n. [] }

  abbrev ws : List ℕ
  ws = widths net.nodes

  abbrev found : ℕ → Slice → Bool → Found
  found count s whole =
      if whole then record { nodes = net.nodes; place = s.node } else with_node net.nodes (Cells Wire count (either s whole))

  part-value : (count : ℕ) (s : Slice) (c : Bool) → value here (either s c) ≡ flow (found count s c).nodes inputs (found count s c).place t
  part-value count s true = refl
  part-value count s false = sym (flow-append_last net.nodes (Cells Wire count (part s.node s.high s.low)) inputs t)

  runs-value : (count : ℕ) (rs : List Piece)
      → value here (word_tree ws rs) ≡ flow (with_runs net.nodes count rs).nodes inputs (with_runs net.nodes count rs).place t
  runs-value count [] = sym (flow-append_last net.nodes (Cells Wire count (word_tree ws [])) inputs t)
  runs-value count (Bits w ∷ []) = sym (flow-append_last net.nodes (Constant w) inputs t)
  runs-value count (Part s ∷ []) = part-value count s (is_whole ws s)
  runs-value count (Bits w ∷ q ∷ rs) = sym (flow-append_last net.nodes (Cells Wire count (word_tree ws (Bits w ∷ q ∷ rs))) inputs t)
  runs-value count (Part s ∷ q ∷ rs) = sym (flow-append_last net.nodes (Cells Wire count (word_tree ws (Part s ∷ q ∷ rs))) inputs t)

  word-value : (given : List WordBit) → All (IsThere ws) given → value here (word_tree ws (runs given)) ≡ word_flow net.nodes inputs given t
  word-value given there = runs-value (length given) (runs given) ∙ word-has_bits net valid given there inputs t words

  operands-value : (m : Bool) (a b : Tree) → value here (chain (operator m) (more a (more b none))) ≡ combined (operator m) (value here a) (value here b)
  operands-value false a b = refl
  operands-value true a b = refl

  pub sum-value : (m : Bool) (first second : List WordBit) → All (IsThere ws) first → All (IsThere ws) second
      → value here (sum_tree ws m first second)
      ≡ combined (operator m) (word_flow net.nodes inputs first t) (word_flow net.nodes inputs second t)
  sum-value m first second f g =
      operands-value m (word_tree ws (runs first)) (word_tree ws (runs second))
      ∙ ap (λ v. combined (operator m) v (value here (word_tree ws (runs second)))) (word-value first f)
      ∙ ap (combined (operator m) (word_flow net.nodes inputs first t)) (word-value second g)

-- the delays

module _ (ws ds : List ℕ) (most : ℕ) where
  abbrev pub run_delays : Piece → ℕ
  run_delays (Bits w) = 0
  run_delays (Part s) = slice_index ds s.node

  abbrev pub RunsPass : List Piece → Type 0
  RunsPass [] = Unit {0}
  RunsPass (r ∷ rs) = (run_delays r ≤ most) × RunsPass rs

  alone-passes : (b : WordBit) (rs : List Piece) → bit_delays ds b ≤ most → RunsPass rs → RunsPass (alone b ∷ rs)
  alone-passes Zero rs h p = (h, p)
  alone-passes One rs h p = (h, p)
  alone-passes (Of node index) rs h p = (h, p)

  part-passes : (node index : ℕ) (s : Slice) (rs : List Piece) → slice_index ds node ≤ most → RunsPass (Part s ∷ rs) → (c : Bool)
      → RunsPass (over (Of node index) (if c then Some (Part (record { node = node; high = index; low = s.low })) else None) (Part s) rs)
  part-passes node index s rs h p true = (h, p.1)
  part-passes node index s rs h p false = (h, p)

  above-passes : (b : WordBit) (rs : List Piece) → bit_delays ds b ≤ most → RunsPass rs → RunsPass (above b rs)
  above-passes b [] h p = alone-passes b [] h p
  above-passes Zero (Bits w ∷ rs) h p = p
  above-passes One (Bits w ∷ rs) h p = p
  above-passes Zero (Part s ∷ rs) h p = (h, p)
  above-passes One (Part s ∷ rs) h p = (h, p)
  above-passes (Of node index) (Bits w ∷ rs) h p = (h, p)
  above-passes (Of node index) (Part s ∷ rs) h p = part-passes node index s rs h p (nat_eq node s.node && nat_eq index (s.high + 1))

  pub runs-pass : (given : List WordBit) → All (λ b. bit_delays ds b ≤ most) given → RunsPass (runs given)
  runs-pass [] h = tt
  runs-pass (b ∷ bs) h =
      let P = λ (b : WordBit). bit_delays ds b ≤ most in above-passes b (runs bs) (All-head P b bs h) (runs-pass bs (All-tail P b bs h))

  either-reads : (s : Slice) (c : Bool) → delays_read ds (either s c) ≡ slice_index ds s.node
  either-reads s true = refl
  either-reads s false = refl

  run-reads : (r : Piece) → delays_read ds (run_tree ws r) ≡ run_delays r
  run-reads (Bits w) = refl
  run-reads (Part s) = either-reads s (is_whole ws s)

  operands-read : (rs : List Piece) → RunsPass rs → operand_delays ds (trees_of (map (run_tree ws) rs)) ≤ most
  operands-read [] p = omega arith
  operands-read (r ∷ rs) p = max-le (omega (arith, run-reads r, p.0)) (operands-read rs p.1)

  pub word-reads : (rs : List Piece) → RunsPass rs → delays_read ds (word_tree ws rs) ≤ most
  word-reads [] p = omega arith
  word-reads (r ∷ []) p = omega (arith, run-reads r, p.0)
  word-reads (r ∷ q ∷ rs) p = operands-read (r ∷ q ∷ rs) p

  pub sum-reads : (m : Bool) (first second : List WordBit) → All (λ b. bit_delays ds b ≤ most) first
      → All (λ b. bit_delays ds b ≤ most) second → delays_read ds (sum_tree ws m first second) ≤ most
  sum-reads m first second f g =
      max-le (word-reads (runs first) (runs-pass first f)) (max-le (word-reads (runs second) (runs-pass second g)) (omega arith))
