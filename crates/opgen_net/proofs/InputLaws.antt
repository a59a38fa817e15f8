-- The Input nodes of a valid net, and the words that they take.
use Rattle.std.proofs.Common.{◌≡◌, ℕ, zero, suc, ◌+◌, Bool, List, [], ◌∷◌, length, map, Some, refl, sym, ap, ◌∙◌, arith}
use Rattle.std.specs.Prelude.{ℤ, pos, negsuc, slice_get, slice_index, All}
use Rattle.std.proofs.lemmas.List.{length-replicate}
use Rattle.std.proofs.lemmas.List.Elements.{All-head, All-tail}
use Rattle.std.proofs.lemmas.Option.{get_or_from_slice_get}
use Rattle.opgen_net.specs.declared.node.Node.{Node}
use Rattle.opgen_net.specs.declared.node.Node.TheVariants.{Input, Constant, Cells, Choice, Table, Delay}
use Rattle.opgen_net.specs.declared.net.Net.{Net}
use Rattle.opgen_design.specs.Value.{word_at}
use Rattle.opgen_net.specs.Flow.{Inputs, input_at, input_from}
use Rattle.opgen_design.specs.Run.{AreWords}
use Rattle.opgen_net.specs.Valid.{input_nodes, numbered, input_widths, IsValid}

-- an Input node is among the Input nodes
among_inputs : (ns : List Node) (j port w : ℕ) → slice_get ns j ≡ Some (Input port w) → (k : ℕ)
    × (slice_get (input_nodes ns) k ≡ Some (port, w))
among_inputs [] j port w h = absurd (cc)
among_inputs (m ∷ ns) zero port w h = let is : m ≡ Input port w = cc in (0, ap (λ x. slice_get (input_nodes (x ∷ ns)) 0) is)
among_inputs (Input p v ∷ ns) (suc j) port w h = let rest = among_inputs ns j port w h in (suc rest.0, rest.1)
among_inputs (Constant v ∷ ns) (suc j) port w h = among_inputs ns j port w h
among_inputs (Cells class v e ∷ ns) (suc j) port w h = among_inputs ns j port w h
among_inputs (Choice on one other ∷ ns) (suc j) port w h = among_inputs ns j port w h
among_inputs (Table address rows ∷ ns) (suc j) port w h = among_inputs ns j port w h
among_inputs (Delay of ∷ ns) (suc j) port w h = among_inputs ns j port w h

-- and each of these is a node
one_of_inputs : (ns : List Node) (k : ℕ) (i : ℕ × ℕ) → slice_get (input_nodes ns) k ≡ Some i → (j : ℕ)
    × (slice_get ns j ≡ Some (Input i.0 i.1))
one_of_inputs [] k i h = absurd (cc)
one_of_inputs (Input p v ∷ ns) zero i h = let is : (p, v) ≡ i = cc in (0, ap (λ x. Some (Input x.0 x.1)) is)
one_of_inputs (Input p v ∷ ns) (suc k) i h = let rest = one_of_inputs ns k i h in (suc rest.0, rest.1)
one_of_inputs (Constant v ∷ ns) k i h = let rest = one_of_inputs ns k i h in (suc rest.0, rest.1)
one_of_inputs (Cells class v e ∷ ns) k i h = let rest = one_of_inputs ns k i h in (suc rest.0, rest.1)
one_of_inputs (Choice on one other ∷ ns) k i h = let rest = one_of_inputs ns k i h in (suc rest.0, rest.1)
one_of_inputs (Table address rows ∷ ns) k i h = let rest = one_of_inputs ns k i h in (suc rest.0, rest.1)
one_of_inputs (Delay of ∷ ns) k i h = let rest = one_of_inputs ns k i h in (suc rest.0, rest.1)

numbered_at : (a : ℕ) (ws : List ℕ) (k : ℕ) (i : ℕ × ℕ) → slice_get (numbered a ws) k ≡ Some i → (i.0 ≡ a + k) × (slice_get ws k ≡ Some i.1)
numbered_at a [] k i h = absurd (cc)
numbered_at a (w ∷ ws) zero i h =
    let is : (a, w) ≡ i = cc in
    (ap (λ x. x.0) (sym is) ∙ omega arith, ap (λ x. Some x.1) is)
numbered_at a (w ∷ ws) (suc k) i h = let rest = numbered_at (a + 1) ws k i h in (rest.0 ∙ omega arith, rest.1)

at_numbered : (a : ℕ) (ws : List ℕ) (k w : ℕ) → slice_get ws k ≡ Some w → slice_get (numbered a ws) k ≡ Some (a + k, w)
at_numbered a [] k w h = absurd (cc)
at_numbered a (v ∷ ws) zero w h =
    let is : v ≡ w = cc in
    let e : a ≡ a + 0 = omega arith in
    ap (λ x. Some (a, x)) is ∙ ap (λ x. Some (x, w)) e
at_numbered a (v ∷ ws) (suc k) w h =
    let e : a + 1 + k ≡ a + suc k = omega arith in
    at_numbered (a + 1) ws k w h ∙ ap (λ x. Some (x, w)) e

-- the Input node of a port has its width
pub input-width : (net : Net) → IsValid net → (j port w : ℕ) → slice_get net.nodes j ≡ Some (Input port w)
    → slice_get (input_widths net) port ≡ Some w
input-width net v j port w h =
    let a = among_inputs net.nodes j port w h in
    let listed : slice_get (numbered 0 (input_widths net)) a.0 ≡ Some (port, w) = ap (λ is. slice_get is a.0) (sym v.inputs) ∙ a.1 in
    let b = numbered_at 0 (input_widths net) a.0 (port, w) listed in
    let e : port ≡ a.0 = b.0 ∙ omega arith in
    ap (slice_get (input_widths net)) e ∙ b.1

-- each port has an Input node
pub input_node : (net : Net) → IsValid net → (port w : ℕ) → slice_get (input_widths net) port ≡ Some w → (j : ℕ)
    × (slice_get net.nodes j ≡ Some (Input port w))
input_node net v port w h =
    let e : 0 + port ≡ port = omega arith in
    let listed : slice_get (input_nodes net.nodes) port ≡ Some (port, w) =
    ap (λ is. slice_get is port) v.inputs ∙ at_numbered 0 (input_widths net) port w h ∙ ap (λ x. Some (x, w)) e in
    one_of_inputs net.nodes port (port, w) listed

-- the width at a place is the length of the word there; past the end both are 0
pub width-at : (words : List (List Bool)) (k : ℕ) → slice_index (map length words) k ≡ length (word_at words k)
width-at [] k = refl
width-at (w ∷ words) zero = refl
width-at (w ∷ words) (suc k) = width-at words k

input_from-width : (ws : List ℕ) (inputs : Inputs) → All (AreWords ws) inputs → (port w : ℕ) → slice_get ws port ≡ Some w → (t : ℕ)
    → length (input_from inputs t port w) ≡ w
input_from-width ws [] a port w h t = length-replicate w _
input_from-width ws (words ∷ later) a port w h zero =
    let is : map length words ≡ ws = All-head (AreWords ws) words later a in
    sym (width-at words port) ∙ ap (λ x. slice_index x port) is ∙ get_or_from_slice_get ws port w 0 h
input_from-width ws (words ∷ later) a port w h (suc t) = input_from-width ws later (All-tail (AreWords ws) words later a) port w h t

-- an input's word has its port's width at all times
pub input_at-width : (ws : List ℕ) (inputs : Inputs) → All (AreWords ws) inputs → (port w : ℕ) → slice_get ws port ≡ Some w → (t : ℤ)
    → length (input_at inputs port w t) ≡ w
input_at-width ws inputs a port w h (pos t) = input_from-width ws inputs a port w h t
input_at-width ws inputs a port w h (negsuc t) = length-replicate w _
