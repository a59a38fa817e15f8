-- No way through a net passes more delays than the net has nodes that are delays.
use Rattle.std.proofs.Common.{◌≡◌, ℕ, zero, suc, ◌+◌, ◌≤◌, List, [], ◌∷◌, ◌++◌, refl, sym, subst, arith}
use Rattle.std.specs.Prelude.{All, slice_index}
use Rattle.std.proofs.Math.Nat.{max-le}
use Rattle.std.proofs.lemmas.List.Elements.{All-append, All-cons, All-head, All-nil, All-tail, All-weaker}
use Rattle.opgen_design.specs.declared.expr.Op.TheVariants.{Plus}
use Rattle.opgen_design.specs.Tree.{Tree, Trees, name, part, bits, port, inverse, chain, none, more}
use Rattle.opgen_net.specs.declared.cell.Class.TheVariants.{Add}
use Rattle.opgen_net.specs.declared.node.Node.{Node}
use Rattle.opgen_net.specs.declared.node.Node.TheVariants.{Input, Constant, Cells, Choice, Table, Delay}
use Rattle.opgen_net.specs.Delays.{delays_read, operand_delays, node_delays, delays_on, delays, delay_count, PassesAtMost}

-- an input, its delays of one and two cycles, and the sum of the input and the later one, which is not delayed further
sum_of_delays : delays
    (Input 0 8 ∷ Delay 0 ∷ Delay 1 ∷ Cells Add 8 (chain Plus (more (name 0) (more (name 2) none))) ∷ Constant [] ∷ []) ≡ 0 ∷ 1 ∷ 2 ∷ 2 ∷ 0 ∷ []
sum_of_delays = refl

pub at-most : (most : ℕ) (ds : List ℕ) (n : ℕ) → All (λ d. d ≤ most) ds → slice_index ds n ≤ most
at-most most [] n h = omega arith
at-most most (d ∷ ds) zero h = All-head (λ e. e ≤ most) d ds h
at-most most (d ∷ ds) (suc n) h = at-most most ds n (All-tail (λ e. e ≤ most) d ds h)

mutual
  read-at_most : (most : ℕ) (ds : List ℕ) → All (λ d. d ≤ most) ds → (e : Tree) → delays_read ds e ≤ most
  read-at_most most ds h (name n) = at-most most ds n h
  read-at_most most ds h (part n high low) = at-most most ds n h
  read-at_most most ds h (bits w) = omega arith
  read-at_most most ds h (port p) = omega arith
  read-at_most most ds h (inverse t) = read-at_most most ds h t
  read-at_most most ds h (chain op ts) = operands-at_most most ds h ts

  operands-at_most : (most : ℕ) (ds : List ℕ) → All (λ d. d ≤ most) ds → (ts : Trees) → operand_delays ds ts ≤ most
  operands-at_most most ds h none = omega arith
  operands-at_most most ds h (more t ts) = max-le (read-at_most most ds h t) (operands-at_most most ds h ts)

node-at_most : (most : ℕ) (ds : List ℕ) → All (λ d. d ≤ most) ds → (n : Node) → node_delays ds n ≤ most + delay_count (n ∷ [])
node-at_most most ds h (Input place w) = omega arith
node-at_most most ds h (Constant w) = omega arith
node-at_most most ds h (Cells class w e) = omega (arith, read-at_most most ds h e)
node-at_most most ds h (Choice on one other) =
    let each = max-le (at-most most ds on h) (max-le (at-most most ds one.node h) (at-most most ds other.node h)) in omega (arith, each)
node-at_most most ds h (Table address rows) = omega (arith, at-most most ds address h)
node-at_most most ds h (Delay of) = omega (arith, at-most most ds of h)

pub delay_count-cons : (n : Node) (ns : List Node) → delay_count (n ∷ ns) ≡ delay_count (n ∷ []) + delay_count ns
delay_count-cons (Input place w) ns = omega arith
delay_count-cons (Constant w) ns = omega arith
delay_count-cons (Cells class w e) ns = omega arith
delay_count-cons (Choice on one other) ns = omega arith
delay_count-cons (Table address rows) ns = omega arith
delay_count-cons (Delay of) ns = omega arith

pub delay_count-append : (a b : List Node) → delay_count (a ++ b) ≡ delay_count a + delay_count b
delay_count-append [] b = omega arith
delay_count-append (n ∷ a) b = omega (arith, delay_count-cons n (a ++ b), delay_count-cons n a, delay_count-append a b)

on-at_most : (most : ℕ) (ds : List ℕ) → All (λ d. d ≤ most) ds → (ns : List Node)
    → All (λ d. d ≤ most + delay_count ns) (delays_on ds ns)
on-at_most most ds h [] = All-weaker (λ d. d ≤ most) (λ d. d ≤ most + 0) (λ d l. omega (arith, l)) ds h
on-at_most most ds h (n ∷ ns) =
    let one = most + delay_count (n ∷ []) in
    let all : All (λ d. d ≤ one) (ds ++ node_delays ds n ∷ []) =
    All-append (λ d. d ≤ one) ds (node_delays ds n ∷ [])
    (All-weaker (λ d. d ≤ most) (λ d. d ≤ one) (λ d l. omega (arith, l)) ds h)
    (All-cons (λ d. d ≤ one) (node_delays ds n) [] (node-at_most most ds h n) (All-nil (λ d. d ≤ one))) in
    All-weaker (λ d. d ≤ one + delay_count ns) (λ d. d ≤ most + delay_count (n ∷ ns)) (λ d l. omega (arith, l, delay_count-cons n ns))
    (delays_on (ds ++ node_delays ds n ∷ []) ns) (on-at_most one (ds ++ node_delays ds n ∷ []) all ns)

pub passes-count : (most : ℕ) (nodes : List Node) → delay_count nodes ≤ most → PassesAtMost most nodes
passes-count most nodes few =
    All-weaker (λ d. d ≤ 0 + delay_count nodes) (λ d. d ≤ most) (λ d l. omega (arith, l, few)) (delays nodes)
    (on-at_most 0 [] (All-nil (λ d. d ≤ 0)) nodes)

delays_on-append : (ds : List ℕ) (a b : List Node) → delays_on ds (a ++ b) ≡ delays_on (delays_on ds a) b
delays_on-append ds [] b = refl
delays_on-append ds (n ∷ a) b = delays_on-append (ds ++ node_delays ds n ∷ []) a b

-- nodes behind a list that are no delays pass no more
pub passes-more : (most : ℕ) (nodes behind : List Node) → delay_count behind ≡ 0 → PassesAtMost most nodes → PassesAtMost most (nodes ++ behind)
passes-more most nodes behind still h =
    subst (λ ds. All (λ d. d ≤ most) ds) (sym (delays_on-append [] nodes behind))
    (All-weaker (λ d. d ≤ most + delay_count behind) (λ d. d ≤ most) (λ d l. omega (arith, l, still)) (delays_on (delays nodes) behind)
    (on-at_most most (delays nodes) h behind))
