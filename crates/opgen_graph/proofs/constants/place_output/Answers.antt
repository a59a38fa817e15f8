use mir.Val.{of_z, to_z}
use Rattle.std.proofs.Common.{◌≡◌, ℕ, ◌<◌, ◌-◌, length, List, [], ◌∷◌, ◌++◌, codes, get_or, refl, sym, ap, ◌∙◌, subst, arith}
use Rattle.std.specs.Prelude.{ℤ, pos, slice_index, All}
use Rattle.std.specs.Fmt.{decimal}
use Rattle.std.specs.Int.{w64}
use Rattle.opgen_num.specs.declared.format.Format.{Format}
use Rattle.opgen_design.specs.Value.{IsWidth}
use Rattle.opgen_net.specs.declared.net.Net.{Net}
use Rattle.opgen_net.specs.Valid.{widths}
use Rattle.opgen_kinds.specs.declared.several.Several.{Several}
use Rattle.opgen_operator.specs.declared.operator.Operator.TheVariants.{Mcm}
use Rattle.opgen_kinds.specs.Several.{IsAcceptedSeveral, constant_format}
use Rattle.opgen_ports.specs.Ranges.{IsWithin}
use Rattle.opgen_operator.proofs.Accepted.{accepted_ranges}
use Rattle.opgen_graph.specs.Placing.{IsNode, HasOddPart}
use Rattle.opgen_graph.specs.Recipe.{Multiples, with_constant, with_output}
use Rattle.opgen_graph.proofs.Outputs.{output-lies, next-nodes}
use Rattle.opgen_graph.proofs.SmallNumbers.{same_number}
use Rattle.opgen_graph.proofs.constants.place_output.Goals as goal

small_constant : (m : Several) (k : ℕ) → IsAcceptedSeveral m → k < length m.constants → IsWithin 1048575 (get_or m.constants k (pos 0))
small_constant m k accepted there = (accepted_ranges (Mcm m) accepted).constants k (pos 0) there

-- the constant that is read
read_constant : (m : Several) (k : ℕ) (ts : List ℤ) → IsAcceptedSeveral m → k < length m.constants → ts ≡ m.constants
    → to_z w64 (of_z w64 (get_or ts k (pos 0))) ≡ get_or m.constants k (pos 0)
read_constant m k ts accepted there e =
    ap (λ (xs : List ℤ). to_z w64 (of_z w64 (get_or xs k (pos 0)))) e
    ∙ same_number (get_or m.constants k (pos 0)) (small_constant m k accepted there)

-- the output of a constant's node
module _ (input : Format) (k : ℕ) (b : Multiples) (t read : ℤ) (width node : ℕ) (net : Net) (same : width ≡ (constant_format input t).width) (is : read ≡ t) (ok : net ≡ (with_constant input.signed width b read).net) (at : node ≡ (with_constant input.signed width b read).place) where
  node-net : net ≡ (with_constant input.signed (constant_format input t).width b t).net
  node-net = ok ∙ rw (same, is) refl

  node-place : node ≡ (with_constant input.signed (constant_format input t).width b t).place
  node-place = at ∙ rw (same, is) refl

  output-net : (name : List ℕ) → name ≡ codes "y" ++ decimal k → (new : Net)
      → new ≡ record net { outputs = net.outputs ++ record { name = name; from = record { node = node; high = width - 1; low = 0 } } ∷ [] }
      → new ≡ (with_output input k b t).net
  output-net name called new e = e ∙ rw (node-net, node-place, same, called) refl

pub constant_node-requires-clause-small : goal.constant_node-requires-clause-small
constant_node-requires-clause-small c =
    let m = c.args.several.now in
    subst (IsWithin 1048575) (sym (read_constant m c.args.place c.as_slice.result.now c.requires.several c.requires.place c.as_slice.ensures))
    (small_constant m c.args.place c.requires.several c.requires.place)

pub constant_node-requires-clause-odd : goal.constant_node-requires-clause-odd
constant_node-requires-clause-odd c =
    let m = c.args.several.now in
    subst (HasOddPart c.args.known.now)
    (sym (read_constant m c.args.place c.as_slice.result.now c.requires.several c.requires.place c.as_slice.ensures)) c.requires.odd

pub output-requires-clause-lies : goal.output-requires-clause-lies
output-requires-clause-lies c =
    let a = c.args in
    let m = a.several.now in
    let t : ℤ = get_or m.constants a.place (pos 0) in
    let b : Multiples = record { net = a.net.now; known = a.known.now } in
    let bits = (constant_format m.input t).width in
    let w = c.output-width.result.width in
    let same : w ≡ bits = ap (λ (f : Format). f.width) c.output-width.ensures.value in
    let wide : IsWidth bits = subst IsWidth same (c.output-width.ensures.some, omega (arith, c.output-width.ensures.few)) in
    let made = with_constant m.input.signed bits b t in
    let is = read_constant m a.place c.as_slice.result.now c.requires.several c.requires.place c.as_slice.ensures in
    let ok = c.in_ok-node.ensures.ok in
    let at = c.in_ok-node.ensures.place in
    let to = node-net m.input a.place b t _ w c.in_ok-node.node c.constant_node.new.net same is ok at in
    let there = node-place m.input a.place b t _ w c.in_ok-node.node c.constant_node.new.net same is ok at in
    let lies = output-lies m.input a.place b t c.requires.odd wide c.requires.net c.requires.nodes in
    let width : slice_index (widths c.constant_node.new.net.nodes) c.in_ok-node.node ≡ slice_index (widths made.net.nodes) made.place =
    ap (λ (n : Net). slice_index (widths n.nodes) c.in_ok-node.node) to ∙ ap (λ (k : ℕ). slice_index (widths made.net.nodes) k) there in
    (omega arith, omega (arith, lies.1, width, same))

-- the net with the output
made : (c : goal.After-drop-name-2) → c.output.new.self
    ≡ (with_output c.args.several.now.input c.args.place (record { net = c.args.net.now; known = c.args.known.now })
    (get_or c.args.several.now.constants c.args.place (pos 0))).net
made c =
    let a = c.args in
    let m = a.several.now in
    output-net m.input a.place (record { net = a.net.now; known = a.known.now })
    (get_or m.constants a.place (pos 0)) _ c.output-width.result.width c.in_ok-node.node c.constant_node.new.net
    (ap (λ (f : Format). f.width) c.output-width.ensures.value)
    (read_constant m a.place c.as_slice.result.now c.requires.several c.requires.place c.as_slice.ensures) c.in_ok-node.ensures.ok
    c.in_ok-node.ensures.place c.deref.result.now (c.deref.ensures ∙ c.in_ok-name.ensures.ok) c.output.new.self c.in_ok-output.ensures.ok

pub returns-clause-ok : goal.returns-clause-ok
returns-clause-ok c = made c

pub returns-clause-nodes : goal.returns-clause-nodes
returns-clause-nodes c =
    let a = c.args in
    let m = a.several.now in
    let t : ℤ = get_or m.constants a.place (pos 0) in
    let b : Multiples = record { net = a.net.now; known = a.known.now } in
    let bits = (constant_format m.input t).width in
    let same : c.output-width.result.width ≡ bits = ap (λ (f : Format). f.width) c.output-width.ensures.value in
    let wide : IsWidth bits = subst IsWidth same (c.output-width.ensures.some, omega (arith, c.output-width.ensures.few)) in
    subst (λ (n : Net). All (IsNode n) b.known) (sym (made c))
    (next-nodes m.input a.place b t c.requires.odd wide c.requires.net c.requires.nodes)
