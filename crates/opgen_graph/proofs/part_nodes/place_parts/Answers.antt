use Rattle.std.proofs.Common.{◌≡◌, ◌+◌, ◌++◌, ◌∷◌, [], ℕ, List, drop, get_or, sym, ap, ◌∙◌, subst}
use Rattle.std.specs.Prelude.{All}
use Rattle.std.proofs.lemmas.List.{drop_more, drop_all}
use Rattle.std.proofs.lemmas.List.Elements.{All-weaker, All-nil}
use Rattle.opgen_num.specs.declared.format.Format.{Format}
use Rattle.opgen_net.specs.Valid.{IsValid}
use Rattle.opgen_ports.specs.Ranges.{IsInput}
use Rattle.opgen_graph.proofs.PartNodes.{all-made}
use Rattle.opgen_net.specs.declared.net.Net.{Net}
use Rattle.opgen_net.specs.Placed.{Placed}
use Rattle.opgen_graph.specs.declared.multiples.Multiple.{Multiple}
use Rattle.opgen_graph.specs.Parts.{part_width, part_node, with_part, with_parts}
use Rattle.opgen_graph.specs.Placing.{IsNode, IsPart, IsMultiple, AreMultiples, factors}
use Rattle.opgen_graph.specs.Recipe.{Multiples}
use Rattle.opgen_graph.proofs.Kept.{keeps-later, node-kept}
use Rattle.opgen_graph.proofs.Products.{magnitude-placed}
use Rattle.opgen_graph.proofs.part_nodes.place_parts.Goals as goal

pub parts-preserved : goal.parts-preserved
parts-preserved c =
    let input = c.args.input in
    let known = c.args.known.now in
    let all = c.args.parts.now in
    let k = c.parts.part-index in
    let p = get_or all k 0 in
    let is = c.requires.parts k 0 c.parts-test.true in
    let old = c.parts.net in
    let b : Multiples = record { net = old; known = known } in
    let before : Multiples = record { net = old; known = c.parts.made } in
    let made : Placed = part_node input known old p in
    let answers =
    magnitude-placed input.signed b c.parts.invariant.valid c.parts.invariant.nodes (part_width input p) c.in_ok-multiple.ensures.wide p is.made in
    let to : c.place_part.new.net ≡ made.net = c.in_ok-multiple.ensures.ok in
    let next : Multiples = record { net = c.place_part.new.net; known = c.push.new.self } in
    let list : c.push.new.self ≡ (with_part input known before p).known =
    c.in_ok-push.ensures.ok ∙ ap (λ (m : Multiple). c.parts.made ++ m ∷ []) c.in_ok-multiple.ensures.multiple in
    let same : next ≡ with_part input known before p =
    ap (λ (n : Net). record { net = n; known = c.push.new.self }) to
    ∙ ap (λ (ms : List Multiple). record { net = made.net; known = ms }) list in
    record {
      valid = c.in_ok-multiple.ensures.valid;
      nodes = subst (λ (n : Net). All (IsNode n) known) (sym to)
          (All-weaker (IsNode old) (IsNode made.net) (node-kept old made.net (keeps-later old made.net answers.later)) known
          c.parts.invariant.nodes);
      same = ap (λ (x : Multiples). with_parts input known x (drop (k + 1) all)) same
          ∙ ap (with_parts input known before) (sym (drop_more all k 0 c.parts-test.true))
          ∙ c.parts.invariant.same;
    }

-- all that the loop has made
made_all : (input : Format) (known : List Multiple) (old net : Net) (made : List Multiple) (parts : List ℕ) → IsInput input
    → IsValid old → AreMultiples input old known → All (IsPart known) parts
    → record { net = net; known = made } ≡ with_parts input known (record { net = old; known = [] }) parts
    → AreMultiples input net made × (factors made ≡ parts)
made_all input known old net made parts fits valid multiples are same =
    let b : Multiples = record { net = old; known = [] } in
    let done : Multiples = record { net = net; known = made } in
    let is = all-made input fits known b parts
    (record { valid = valid; has_input = multiples.has_input; each = multiples.each }) (All-nil (IsMultiple input old)) are in
    subst (λ (x : Multiples). AreMultiples input x.net x.known × (factors x.known ≡ parts)) (sym same)
    (record { has_input = is.ready.has_input; each = is.each }, is.factors_are)

all : (c : goal.After-parts) → AreMultiples c.args.input c.parts.net c.parts.made × (factors c.parts.made ≡ c.args.parts.now)
all c =
    let input = c.args.input in
    let known = c.args.known.now in
    let done : Multiples = record { net = c.parts.net; known = c.parts.made } in
    let none : drop c.parts.part-index c.args.parts.now ≡ [] = drop_all c.parts.part-index c.args.parts.now c.parts-test.false in
    made_all input known c.args.net.now c.parts.net c.parts.made c.args.parts.now c.requires.input c.requires.net
    c.requires.known c.requires.parts
    (ap (λ (ps : List ℕ). with_parts input known done ps) (sym none) ∙ c.parts.invariant.same)

pub returns-clause-multiples : goal.returns-clause-multiples
returns-clause-multiples c = (all c).0

pub returns-clause-factors : goal.returns-clause-factors
returns-clause-factors c = (all c).1
