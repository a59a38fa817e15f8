use Rattle.std.proofs.Common.{◌+◌, ◌<◌, ◌≤◌, drop, sym, ap, ◌∙◌, subst}
use Rattle.std.specs.Prelude.{pos}
use Rattle.std.proofs.lemmas.List.{drop_all, drop_more}
use Rattle.opgen_net.specs.declared.net.Net.{Net}
use Rattle.opgen_graph.specs.Recipe.{Multiples, with_outputs}
use Rattle.opgen_graph.proofs.constants.place_outputs.Goals as goal

pub place_output-requires-clause-odd : goal.place_output-requires-clause-odd
place_output-requires-clause-odd c =
    c.requires.odd c.outputs.place (pos 0) (subst (λ n. c.outputs.place < n) c.len-place-end.ensures c.outputs-test.true)

pub outputs-preserved : goal.outputs-preserved
outputs-preserved c =
    let m = c.args.several.now in
    let k = c.outputs.place in
    let b : Multiples = record { net = c.outputs.net; known = c.args.known.now } in
    let there = subst (λ n. k < n) c.len-place-end.ensures c.outputs-test.true in
    record {
      valid = c.in_ok-place_output.ensures.valid;
      nodes = c.in_ok-place_output.ensures.nodes;
      same = ap (λ (n : Net). with_outputs m.input (k + 1) (record { net = n; known = c.args.known.now }) (drop (k + 1) m.constants))
          c.in_ok-place_output.ensures.ok
          ∙ ap (with_outputs m.input k b) (sym (drop_more m.constants k (pos 0) there))
          ∙ c.outputs.invariant.same;
    }

pub returns-clause-ok : goal.returns-clause-ok
returns-clause-ok c =
    let m = c.args.several.now in
    let k = c.outputs.place in
    let b : Multiples = record { net = c.outputs.net; known = c.args.known.now } in
    let all = subst (λ n. n ≤ k) c.len-place-end.ensures c.outputs-test.false in
    sym (ap (with_outputs m.input k b) (drop_all k m.constants all)) ∙ c.outputs.invariant.same
