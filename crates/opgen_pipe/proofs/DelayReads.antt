-- A node's ways pass at least the delays of those to each node that it reads, and a Delay's one more.
use Rattle.std.proofs.Common.{◌≡◌, ℕ, zero, suc, ◌+◌, ◌<◌, ◌≤◌, List, [], ◌∷◌, ◌++◌, length, length-append, Some, refl, ap, ◌∙◌, subst, arith}
use Rattle.std.specs.Prelude.{max, All, slice_get, slice_index}
use Rattle.std.proofs.lemmas.List.Elements.{All-nil, All-cons, All-append, All-weaker}
use Rattle.opgen_design.specs.Sound.{names_read, operand_names}
use Rattle.opgen_design.specs.Tree.{Tree, Trees, name, part, bits, port, inverse, chain, none, more}
use Rattle.opgen_net.specs.Delays.{delays_read, operand_delays, node_delays, delays_on, delays}
use Rattle.opgen_net.specs.declared.node.Node.{Node}
use Rattle.opgen_net.specs.declared.node.Node.TheVariants.{Input, Constant, Cells, Choice, Table, Delay}
use Rattle.opgen_schedule.specs.Reads.{reads_of}

-- how many delays a node is itself
abbrev pub own_delay : Node → ℕ
own_delay (Delay of) = 1
own_delay _ = 0

module _ (ds : List ℕ) where
  mutual
    tree-reads : (e : Tree) → All (λ j. slice_index ds j ≤ delays_read ds e) (names_read e)
    tree-reads (name n) = let P : ℕ → Type 0 = λ j. slice_index ds j ≤ slice_index ds n in All-cons P n [] (omega arith) (All-nil P)
    tree-reads (part n high low) = let P : ℕ → Type 0 = λ j. slice_index ds j ≤ slice_index ds n in All-cons P n [] (omega arith) (All-nil P)
    tree-reads (bits w) = All-nil (λ j. slice_index ds j ≤ 0)
    tree-reads (port p) = All-nil (λ j. slice_index ds j ≤ 0)
    tree-reads (inverse t) = tree-reads t
    tree-reads (chain op ts) = operands-read ts

    operands-read : (ts : Trees) → All (λ j. slice_index ds j ≤ operand_delays ds ts) (operand_names ts)
    operands-read none = All-nil (λ j. slice_index ds j ≤ 0)
    operands-read (more t ts) =
        let P : ℕ → Type 0 = λ j. slice_index ds j ≤ max (delays_read ds t) (operand_delays ds ts) in
        All-append P (names_read t) (operand_names ts)
        (All-weaker (λ j. slice_index ds j ≤ delays_read ds t) P (λ j l. omega (arith, l)) (names_read t) (tree-reads t))
        (All-weaker (λ j. slice_index ds j ≤ operand_delays ds ts) P (λ j l. omega (arith, l)) (operand_names ts) (operands-read ts))

  node-reads : (n : Node) → All (λ j. slice_index ds j + own_delay n ≤ node_delays ds n) (reads_of n)
  node-reads (Input place w) = All-nil (λ j. slice_index ds j + 0 ≤ 0)
  node-reads (Constant w) = All-nil (λ j. slice_index ds j + 0 ≤ 0)
  node-reads (Cells class w e) =
      All-weaker (λ j. slice_index ds j ≤ delays_read ds e) (λ j. slice_index ds j + 0 ≤ delays_read ds e) (λ j l. omega (arith, l))
      (names_read e) (tree-reads e)
  node-reads (Choice on one other) =
      let most = max (slice_index ds on) (max (slice_index ds one.node) (slice_index ds other.node)) in
      let P : ℕ → Type 0 = λ j. slice_index ds j + 0 ≤ most in
      All-cons P on (one.node ∷ other.node ∷ []) (omega arith) (All-cons P one.node (other.node ∷ []) (omega arith)
      (All-cons P other.node [] (omega arith) (All-nil P)))
  node-reads (Table address rows) =
      let P : ℕ → Type 0 = λ j. slice_index ds j + 0 ≤ slice_index ds address in All-cons P address [] (omega arith) (All-nil P)
  node-reads (Delay of) =
      let P : ℕ → Type 0 = λ j. slice_index ds j + 1 ≤ suc (slice_index ds of) in All-cons P of [] (omega arith) (All-nil P)

-- numbers behind a list leave those before as they are
before-kept : (ds behind : List ℕ) (j : ℕ) → j < length ds → slice_index (ds ++ behind) j ≡ slice_index ds j
before-kept [] behind j l = absurd (omega (arith, l))
before-kept (d ∷ ds) behind zero l = refl
before-kept (d ∷ ds) behind (suc j) l = before-kept ds behind j (omega (arith, l))

last-is : (ds : List ℕ) (d : ℕ) → slice_index (ds ++ d ∷ []) (length ds) ≡ d
last-is [] d = refl
last-is (e ∷ ds) d = last-is ds d

longer : (ds : List ℕ) (d : ℕ) → length (ds ++ d ∷ []) ≡ suc (length ds)
longer ds d = omega (arith, length-append ds (d ∷ []))

on-kept : (ds : List ℕ) (ns : List Node) (j : ℕ) → j < length ds → slice_index (delays_on ds ns) j ≡ slice_index ds j
on-kept ds [] j l = refl
on-kept ds (n ∷ ns) j l =
    let d = node_delays ds n in
    on-kept (ds ++ d ∷ []) ns j (omega (arith, l, longer ds d)) ∙ before-kept ds (d ∷ []) j l

on-reads : (ds : List ℕ) (ns : List Node) (i : ℕ) (n : Node) → slice_get ns i ≡ Some n
    → All (λ j. j < length ds + i → slice_index (delays_on ds ns) j + own_delay n ≤ slice_index (delays_on ds ns) (length ds + i)) (reads_of n)
on-reads ds [] i n h = absurd (cc)
on-reads ds (m ∷ ns) zero n h =
    let is : m ≡ n = cc in
    let d = node_delays ds m in
    let rs = delays_on (ds ++ d ∷ []) ns in
    let e : length ds + 0 ≡ length ds = omega arith in
    let own : slice_index rs (length ds + 0) ≡ d =
    ap (slice_index rs) e ∙ on-kept (ds ++ d ∷ []) ns (length ds) (omega (arith, longer ds d)) ∙ last-is ds d in
    subst (λ n. All (λ j. j < length ds + 0 → slice_index rs j + own_delay n ≤ slice_index rs (length ds + 0)) (reads_of n)) is
    (All-weaker (λ j. slice_index ds j + own_delay m ≤ d) (λ j. j < length ds + 0 → slice_index rs j + own_delay m ≤ slice_index rs (length ds + 0))
    (λ j q l. omega (arith, q, own, on-kept ds (m ∷ ns) j (omega (arith, l)))) (reads_of m) (node-reads ds m))
on-reads ds (m ∷ ns) (suc i) n h =
    let d = node_delays ds m in
    let rs = delays_on (ds ++ d ∷ []) ns in
    let e : length (ds ++ d ∷ []) + i ≡ length ds + suc i = omega (arith, longer ds d) in
    subst (λ p. All (λ j. j < p → slice_index rs j + own_delay n ≤ slice_index rs p) (reads_of n)) e (on-reads (ds ++ d ∷ []) ns i n h)

-- of what a node reads before it
pub delays-read : (nodes : List Node) (i : ℕ) (n : Node) → slice_get nodes i ≡ Some n
    → All (λ j. j < i → slice_index (delays nodes) j + own_delay n ≤ slice_index (delays nodes) i) (reads_of n)
delays-read nodes i n h =
    let e : 0 + i ≡ i = omega arith in
    subst (λ p. All (λ j. j < p → slice_index (delays nodes) j + own_delay n ≤ slice_index (delays nodes) p) (reads_of n)) e
    (on-reads [] nodes i n h)
