use Rattle.std.proofs.Common.{◌≡◌, ◌+◌, List, [], ◌∷◌, ◌++◌, drop, sym, ap, ◌∙◌, subst}
use Rattle.std.specs.Prelude.{All, Contains, slice_index_or}
use Rattle.std.proofs.lemmas.List.{drop_all, drop_more}
use Rattle.std.proofs.lemmas.List.Elements.{All-weaker}
use Rattle.opgen_net.specs.declared.net.Net.{Net}
use Rattle.opgen_net.specs.Valid.{IsValid}
use Rattle.opgen_graph.specs.declared.forms.Form.TheVariants.{A}
use Rattle.opgen_graph.specs.declared.multiples.Multiple.{Multiple}
use Rattle.opgen_graph.specs.declared.ranks.Adder.{Adder}
use Rattle.opgen_graph.specs.Placing.{IsMultiple, IsNode, factors}
use Rattle.opgen_graph.specs.Recipe.{Multiples, input_multiple, with_adder, with_adders}
use Rattle.opgen_graph.proofs.Standing.{AreLeft, is_narrow, can_stand, left-at, left-next, first-left}
use Rattle.opgen_graph.proofs.adders.place_adders.Goals as goal

abbrev none : Adder
none = record { value = 0; u = 0; v = 0; step = record { form = A; shift = 0 } }

pub adders-init : goal.adders-init
adders-init c =
    let input = c.args.input in
    let all = c.args.adders.now in
    let net = c.args.net.now in
    let one : c.push.new.self ≡ input_multiple input ∷ [] =
    c.in_ok-push.ensures.ok ∙ ap (λ (ks : List Multiple). ks ++ input_multiple input ∷ []) c.new-known.ensures in
    let left = first-left input all (subst IsValid c.requires.net c.requires.valid) c.requires.adders in
    record {
      valid = c.requires.valid;
      left = subst (λ (ks : List Multiple). AreLeft input (record { net = net; known = ks }) all) (sym one)
          (subst (λ (n : Net). AreLeft input (record { net = n; known = input_multiple input ∷ [] }) all) (sym c.requires.net) left);
      same = ap (λ (ks : List Multiple). with_adders input (record { net = net; known = ks }) all) one;
    }

pub place_adder-requires-clause-nodes : goal.place_adder-requires-clause-nodes
place_adder-requires-clause-nodes c =
    let net = c.adders.net in
    subst (All (IsNode net)) (sym c.as_slice.ensures)
    (All-weaker (IsMultiple c.args.input net) (IsNode net) (λ m is. is.node) c.adders.known c.adders.invariant.left.stands.each)

pub place_adder-requires-clause-u : goal.place_adder-requires-clause-u
place_adder-requires-clause-u c =
    let known : c.as_slice.result.now ≡ c.adders.known = c.as_slice.ensures in
    let b : Multiples = record { net = c.adders.net; known = c.adders.known } in
    let k = c.adders.adder-index in
    let a = slice_index_or c.args.adders.now k none in
    let left = left-at c.args.input b c.args.adders.now k none c.adders-test.true c.adders.invariant.left in
    subst (λ ks. Contains (factors ks) a.u) (sym known) (can_stand c.args.input b a (drop (k + 1) c.args.adders.now) left).u

pub place_adder-requires-clause-v : goal.place_adder-requires-clause-v
place_adder-requires-clause-v c =
    let known : c.as_slice.result.now ≡ c.adders.known = c.as_slice.ensures in
    let b : Multiples = record { net = c.adders.net; known = c.adders.known } in
    let k = c.adders.adder-index in
    let a = slice_index_or c.args.adders.now k none in
    let left = left-at c.args.input b c.args.adders.now k none c.adders-test.true c.adders.invariant.left in
    subst (λ ks. Contains (factors ks) a.v) (sym known) (can_stand c.args.input b a (drop (k + 1) c.args.adders.now) left).v

pub place_adder-requires-clause-narrow : goal.place_adder-requires-clause-narrow
place_adder-requires-clause-narrow c =
    let b : Multiples = record { net = c.adders.net; known = c.adders.known } in
    let k = c.adders.adder-index in
    let a = slice_index_or c.args.adders.now k none in
    let left = left-at c.args.input b c.args.adders.now k none c.adders-test.true c.adders.invariant.left in
    is_narrow c.args.input b a left.stands (can_stand c.args.input b a (drop (k + 1) c.args.adders.now) left)

pub adders-preserved : goal.adders-preserved
adders-preserved c =
    let input = c.args.input in
    let all = c.args.adders.now in
    let b : Multiples = record { net = c.adders.net; known = c.adders.known } in
    let k = c.adders.adder-index in
    let a = slice_index_or all k none in
    let more = drop (k + 1) all in
    let left : AreLeft input b (a ∷ more) = left-at input b all k none c.adders-test.true c.adders.invariant.left in
    let known : c.as_slice.result.now ≡ c.adders.known = c.as_slice.ensures in
    let pushed : c.push-in-adders.new.self ≡ c.adders.known ++ c.in_ok-made.made ∷ [] = c.in_ok-push-2.ensures.ok in
    let net : c.place_adder.new.net ≡ (with_adder input b a).net =
    c.in_ok-made.ensures.ok ∙ ap (λ (ks : List Multiple). (with_adder input (record { net = c.adders.net; known = ks }) a).net) known in
    let list : c.push-in-adders.new.self ≡ (with_adder input b a).known =
    pushed
    ∙ ap (λ (ks : List Multiple). ks ++ c.in_ok-made.made ∷ []) (sym known)
    ∙ c.in_ok-made.ensures.multiple
    ∙ ap (λ (ks : List Multiple). (with_adder input (record { net = c.adders.net; known = ks }) a).known) known in
    let next : Multiples = record { net = c.place_adder.new.net; known = c.push-in-adders.new.self } in
    let same : next ≡ with_adder input b a =
    ap (λ (n : Net). record { net = n; known = c.push-in-adders.new.self }) net
    ∙ ap (λ (ks : List Multiple). record { net = (with_adder input b a).net; known = ks }) list in
    record {
      valid = c.in_ok-made.ensures.valid;
      left = subst (λ (x : Multiples). AreLeft input x more) (sym same) (left-next input b a more left);
      same = ap (λ (x : Multiples). with_adders input x more) same
          ∙ ap (with_adders input b) (sym (drop_more all k none c.adders-test.true))
          ∙ c.adders.invariant.same;
    }

pub returns-clause-multiples : goal.returns-clause-multiples
returns-clause-multiples c =
    let stands = c.adders.invariant.left.stands in
    record { has_input = stands.has_input; each = stands.each }

pub returns-clause-ok : goal.returns-clause-ok
returns-clause-ok c =
    let b : Multiples = record { net = c.adders.net; known = c.adders.known } in
    sym (ap (with_adders c.args.input b) (drop_all c.adders.adder-index c.args.adders.now c.adders-test.false)) ∙ c.adders.invariant.same
