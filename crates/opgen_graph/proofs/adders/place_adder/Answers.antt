use Rattle.std.proofs.Common.{ℕ, ◌+◌, ap, ◌∙◌, arith}
use Rattle.std.specs.Prelude.{slice_index}
use Rattle.opgen_design.specs.Value.{IsWidth}
use Rattle.opgen_net.specs.declared.net.Net.{Net}
use Rattle.opgen_net.specs.Valid.{widths}
use Rattle.opgen_graph.specs.Placing.{IsNode}
use Rattle.opgen_graph.specs.Recipe.{multiple_of, with_sum}
use Rattle.opgen_graph.specs.SetCost.{bit_length}
use Rattle.opgen_graph.proofs.Standing.{multiple_of-all}
use Rattle.opgen_graph.proofs.Sums.{sum-placed}
use Rattle.opgen_graph.proofs.adders.place_adder.Goals as goal

pub without_low-requires-clause-sum : goal.without_low-requires-clause-sum
without_low-requires-clause-sum c =
    let a = c.args in
    let bits = a.input.width + bit_length a.adder.value + c.dropped-low.result in
    let wide : IsWidth bits =
    (omega (arith, c.requires.narrow.some), omega (arith, c.requires.narrow.sum, c.dropped-low.ensures)) in
    let u = multiple_of a.known.now a.adder.u in
    let v = multiple_of a.known.now a.adder.v in
    let answers =
    sum-placed a.input.signed bits a.net.now a.adder u v c.requires.net wide
    (multiple_of-all (IsNode a.net.now) a.known.now a.adder.u c.requires.nodes c.requires.u)
    (multiple_of-all (IsNode a.net.now) a.known.now a.adder.v c.requires.nodes c.requires.v) in
    let made = with_sum a.input.signed bits a.net.now a.adder u v in
    ap (λ (n : Net). slice_index (widths n.nodes) c.in_ok-sum.sum) c.in_ok-sum.ensures.ok
    ∙ ap (λ (k : ℕ). slice_index (widths made.net.nodes) k) c.in_ok-sum.ensures.place
    ∙ answers.width
