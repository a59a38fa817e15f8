-- The design of a net has the form of the subset.
use Rattle.std.proofs.Common.{◌≡◌, ℕ, ◌+◌, Bool, true, false, List, [], ◌∷◌, ◌++◌, length, filter, option_and_then, Some, None, refl, ap, ◌∙◌, arith, append-nil, not, IsTrue}
use Rattle.std.specs.Prelude.{if◌then◌else◌, All, IsSome}
use Rattle.std.specs.List.{list_any}
use Rattle.std.proofs.lemmas.Bool.{not-true}
use Rattle.std.proofs.lemmas.List.Elements.{All-nil, All-cons, All-head, All-tail, All-contains_itself, filter-append}
use Rattle.opgen_num.proofs.Lists.{kept}
use Rattle.opgen_design.specs.declared.design.Driver.{Driver}
use Rattle.opgen_design.specs.declared.design.Driver.TheVariants as driver
use Rattle.opgen_design.specs.declared.expr.Op.{Op}
use Rattle.opgen_design.specs.Order.{is_register}
use Rattle.opgen_design.specs.Tree.{Tree, Trees, name, part, bits, port, inverse, chain, none, more}
use Rattle.opgen_design.specs.Value.{joined, width, width_on, in_chain, in_not, nesting, operands_nesting}
use Rattle.opgen_design.proofs.WidthLaws.{some_before}
use Rattle.opgen_net.specs.declared.net.Output as net_output
use Rattle.opgen_net.specs.declared.node.Node.{Node}
use Rattle.opgen_net.specs.declared.node.Node.TheVariants.{Input, Constant, Cells, Choice, Table, Delay}
use Rattle.opgen_net.specs.Valid.{widths, MayStand}
use Rattle.opgen_net.proofs.Standing.{may_stand}
use Rattle.opgen_vhdl.specs.DesignText.{is_output, is_neither}
use Rattle.opgen_vhdl.specs.Shaped.{AreTwoOrMore, HasFullChains, HaveFullChains, IsShapedExpression, IsShapedDriver}
use Rattle.opgen_design.specs.Run.{enable_inputs}
use Rattle.opgen_pipe.specs.declared.standing.Standing.{Standing}
use Rattle.opgen_pipe.specs.Copies.{net_latency}
use Rattle.opgen_pipe.specs.Laws.{DesignIsShaped}
use Rattle.opgen_pipe.specs.Pipelined.{all_of, own_driver, node_drivers, output_drivers, enable_of, drivers_of}
use Rattle.opgen_pipe.specs.Reading.{part_in, slice_in, tree_in, trees_in}
use Rattle.opgen_pipe.specs.Standings.{standing_of, standings}
use Rattle.opgen_pipe.proofs.Parts.{by_driver, of_nodes}
use Rattle.opgen_pipe.proofs.Trees.{part_cases}

module _ (ps : List Standing) (c : ℕ) where
  -- the form
  pub part-shaped : (n high low : ℕ) → IsShapedExpression (part_in ps c n high low)
  part-shaped n high low = part_cases ps c IsShapedExpression n high low (λ b t. record { chains = tt; nests = omega arith })
      (record { chains = tt; nests = omega arith })

  mutual
    tree-chains : (t : Tree) → HasFullChains t → HasFullChains (tree_in ps c t)
    tree-chains (name n) h = tt
    tree-chains (part n high low) h = (part-shaped n high low).chains
    tree-chains (bits w) h = tt
    tree-chains (port p) h = tt
    tree-chains (inverse t) h = tree-chains t h
    tree-chains (chain op ts) h = (two-or-more ts h.0, trees-chains ts h.1)

    trees-chains : (ts : Trees) → HaveFullChains ts → HaveFullChains (trees_in ps c ts)
    trees-chains none h = tt
    trees-chains (more t ts) h = (tree-chains t h.0, trees-chains ts h.1)

    two-or-more : (ts : Trees) → AreTwoOrMore ts → AreTwoOrMore (trees_in ps c ts)
    two-or-more none h = absurd h
    two-or-more (more t none) h = absurd h
    two-or-more (more t (more u ts)) h = tt

  part-nesting : (n high low : ℕ) → nesting (part_in ps c n high low) ≡ 0
  part-nesting n high low = part_cases ps c (λ t. nesting t ≡ 0) n high low (λ b t. refl) refl

  tree-in_chain : (t : Tree) → in_chain (tree_in ps c t) ≡ in_chain t
  tree-in_chain (name n) = refl
  tree-in_chain (part n high low) = part_cases ps c (λ t. in_chain t ≡ 0) n high low (λ b t. refl) refl
  tree-in_chain (bits w) = refl
  tree-in_chain (port p) = refl
  tree-in_chain (inverse t) = refl
  tree-in_chain (chain op ts) = refl

  tree-in_not : (t : Tree) → in_not (tree_in ps c t) ≡ in_not t
  tree-in_not (name n) = refl
  tree-in_not (part n high low) = part_cases ps c (λ t. in_not t ≡ 0) n high low (λ b t. refl) refl
  tree-in_not (bits w) = refl
  tree-in_not (port p) = refl
  tree-in_not (inverse t) = refl
  tree-in_not (chain op ts) = refl

  mutual
    tree-nesting : (t : Tree) → nesting (tree_in ps c t) ≡ nesting t
    tree-nesting (name n) = refl
    tree-nesting (part n high low) = part-nesting n high low
    tree-nesting (bits w) = refl
    tree-nesting (port p) = refl
    tree-nesting (inverse t) = omega (arith, tree-in_not t, tree-nesting t)
    tree-nesting (chain op ts) = trees-nesting ts

    trees-nesting : (ts : Trees) → operands_nesting (trees_in ps c ts) ≡ operands_nesting ts
    trees-nesting none = refl
    trees-nesting (more t ts) = omega (arith, tree-in_chain t, tree-nesting t, trees-nesting ts)

  pub tree-shaped : (t : Tree) → IsShapedExpression t → IsShapedExpression (tree_in ps c t)
  tree-shaped t h = record { chains = tree-chains t h.chains; nests = omega (arith, tree-nesting t, h.nests) }

-- an expression that has a width has full chains
module _ (ns ps : List ℕ) where
  mutual
    full_chains : (t : Tree) (w : ℕ) → width ns ps t ≡ Some w → HasFullChains t
    full_chains (name n) w h = tt
    full_chains (part n high low) w h = tt
    full_chains (bits v) w h = tt
    full_chains (port p) w h = tt
    full_chains (inverse t) w h = full_chains t w h
    full_chains (chain o none) w h = absurd cc
    full_chains (chain o (more t none)) w h = absurd cc
    full_chains (chain o (more t (more u ts))) w h =
        let a = some_before (width ns ps t) (λ x. width_on ns ps o x (more u ts)) w h in
        (tt, (full_chains t a.0 a.1, full_on o a.0 (more u ts) w a.2))

    full_on : (o : Op) (x : ℕ) (ts : Trees) (w : ℕ) → width_on ns ps o x ts ≡ Some w → HaveFullChains ts
    full_on o x none w h = tt
    full_on o x (more t ts) w h =
        let a = some_before (width ns ps t) (λ v. option_and_then (λ u. width_on ns ps o u ts) (joined o x v)) w h in
        let b = some_before (joined o x a.0) (λ u. width_on ns ps o u ts) w a.2 in
        (full_chains t a.0 a.1, full_on o b.0 ts w b.2)

own_shaped : (ws : List ℕ) (first : ℕ) (ps : List Standing) (o : Standing) (n : Node) → MayStand ws n
    → IsShapedDriver (own_driver first ps o n)
own_shaped ws first ps o (Input place w) h = record { chains = tt; nests = omega arith }
own_shaped ws first ps o (Constant w) h = record { chains = tt; nests = omega arith }
own_shaped ws first ps o (Cells class w e) h = tree-shaped ps o.slot.cycle e
    (record { chains = full_chains ws [] e w h.1.has_width; nests = h.1.nests })
own_shaped ws first ps o (Choice on one other) h =
    (tt, part-shaped ps o.slot.cycle one.node one.high one.low, part-shaped ps o.slot.cycle other.node other.high other.low)
own_shaped ws first ps o (Table address rows) h = tt
own_shaped ws first ps o (Delay of) h = record { chains = tt; nests = omega arith }

own-no_output : (first : ℕ) (ps : List Standing) (o : Standing) (n : Node) → is_output (own_driver first ps o n) ≡ false
own-no_output first ps o (Input place w) = refl
own-no_output first ps o (Constant w) = refl
own-no_output first ps o (Cells class w e) = refl
own-no_output first ps o (Choice on one other) = refl
own-no_output first ps o (Table address rows) = refl
own-no_output first ps o (Delay of) = refl

abbrev IsLast : Driver → Type 0
IsLast k = (is_output k ≡ true) × (is_register k ≡ false)

outputs-last : (ps : List Standing) (l p : ℕ) (os : List net_output.Output) → All IsLast (output_drivers ps l p os)
outputs-last ps l p [] = All-nil IsLast
outputs-last ps l p (o ∷ os) = All-cons IsLast (driver.Output p (slice_in ps l o.from)) (output_drivers ps l (p + 1) os) (refl, refl)
    (outputs-last ps l (p + 1) os)

-- the order of the drivers
module _ {X : Type 0} (p : X → Bool) where
  filter_all : (P : X → Type 0) (xs : List X) → ((x : X) → P x → p x ≡ true) → All P xs → filter p xs ≡ xs
  filter_all P [] f h = refl
  filter_all P (x ∷ xs) f h = rw (f x (All-head P x xs h)) (ap (λ u. x ∷ u) (filter_all P xs f (All-tail P x xs h)))

  filter_none : (P : X → Type 0) (xs : List X) → ((x : X) → P x → p x ≡ false) → All P xs → filter p xs ≡ []
  filter_none P [] f h = refl
  filter_none P (x ∷ xs) f h = rw (f x (All-head P x xs h)) (filter_none P xs f (All-tail P x xs h))

abbrev IsPlain : Driver → Type 0
IsPlain k = (is_register k ≡ false) × (is_output k ≡ false)

abbrev IsClocked : Driver → Type 0
IsClocked k = (is_register k ≡ true) × (is_output k ≡ false)

module _ (plain registers outputs : List Driver) (p : All IsPlain plain) (r : All IsClocked registers) (o : All IsLast outputs) where
  abbrev all : List Driver
  all = plain ++ registers ++ outputs

  split : (test : Driver → Bool) → filter test all ≡ filter test plain ++ filter test registers ++ filter test outputs
  split test = filter-append test (plain ++ registers) outputs ∙ ap (λ u. u ++ filter test outputs) (filter-append test plain registers)

  plain-kept : filter is_neither all ≡ plain
  plain-kept =
      split is_neither
      ∙ ap (λ u. u ++ filter is_neither registers ++ filter is_neither outputs)
      (filter_all is_neither IsPlain plain (λ k h. rw (h.0, h.1) refl) p)
      ∙ ap (λ u. plain ++ u ++ filter is_neither outputs) (filter_none is_neither IsClocked registers (λ k h. rw h.0 refl) r)
      ∙ ap (λ u. plain ++ [] ++ u) (filter_none is_neither IsLast outputs (λ k h. rw (h.0, h.1) refl) o)
      ∙ append-nil (plain ++ []) ∙ append-nil plain

  registers-kept : filter is_register all ≡ registers
  registers-kept =
      split is_register
      ∙ ap (λ u. u ++ filter is_register registers ++ filter is_register outputs) (filter_none is_register IsPlain plain (λ k h. h.0) p)
      ∙ ap (λ u. u ++ filter is_register outputs) (filter_all is_register IsClocked registers (λ k h. h.0) r)
      ∙ ap (λ u. registers ++ u) (filter_none is_register IsLast outputs (λ k h. h.1) o)
      ∙ append-nil registers

  outputs-kept : filter is_output all ≡ outputs
  outputs-kept =
      split is_output
      ∙ ap (λ u. u ++ filter is_output registers ++ filter is_output outputs) (filter_none is_output IsPlain plain (λ k h. h.1) p)
      ∙ ap (λ u. u ++ filter is_output outputs) (filter_none is_output IsClocked registers (λ k h. h.1) r)
      ∙ filter_all is_output IsLast outputs (λ k h. h.0) o

  in_order : all ≡ filter is_neither all ++ filter is_register all ++ filter is_output all
  in_order = rw (plain-kept, registers-kept, outputs-kept) refl

enabled : (enable : Bool) (drivers : List Driver) → IsSome (enable_of enable drivers) → IsTrue (list_any is_register drivers)
enabled true drivers h = by (list_any is_register drivers) h
  where
    by : (b : Bool) → IsSome {T = ℕ} (if b then Some 0 else None) → b ≡ true
    by true h = refl
    by false h = h
enabled false drivers h = absurd (cc)

-- each driver has the form, and they stand in the order of the text
pub design-shaped : DesignIsShaped
design-shaped called enable net s valid =
    let first = length (enable_inputs enable) in
    let ps = standings net s in
    let nodes = all_of (node_drivers first ps) 0 net.nodes in
    let none : All (λ k. is_output k ≡ false) nodes =
    λ i d l. of_nodes net s enable (λ k. is_output k ≡ false) (λ i n h. own-no_output first ps (standing_of net s i n) n)
    (λ i k n h l. refl) _ (All-contains_itself nodes i d l) in
    record {
      drivers = λ i d l. by_driver net s enable IsShapedDriver
          (λ i n h. own_shaped (widths net.nodes) first ps (standing_of net s i n) n (may_stand net.nodes valid.nodes i n h))
          (λ i k n h l. record { chains = tt; nests = omega arith })
          (λ j o h. part-shaped ps (net_latency net s) o.from.node o.from.high o.from.low) _
          (All-contains_itself (drivers_of enable net s) i d l);
      in_order = in_order _ _ (output_drivers ps (net_latency net s) (first + length net.inputs) net.outputs)
          (kept (λ k. not (is_register k)) (λ k. is_output k ≡ false) IsPlain (λ k h e. (not-true (is_register k) h, e)) nodes none)
          (kept is_register (λ k. is_output k ≡ false) IsClocked (λ k h e. (h, e)) nodes none)
          (outputs-last ps (net_latency net s) (first + length net.inputs) net.outputs);
      enabled = enabled enable (drivers_of enable net s);
    }
