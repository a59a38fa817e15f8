use Rattle.std.proofs.Common.{◌≡◌, ◌+◌, ◌-◌, ◌%◌, ◌≤◌, [], ◌∷◌, length, length-append, sym, ap, ◌∙◌, subst, arith}
use Rattle.opgen_net.specs.declared.cell.Class.TheVariants.{Logic}
use Rattle.opgen_net.specs.declared.net.Net.{Net}
use Rattle.opgen_net.specs.declared.node.Node.TheVariants.{Cells}
use Rattle.opgen_net.specs.Placed.{with_last}
use Rattle.opgen_net.specs.Valid.{widths}
use Rattle.opgen_saturate.specs.Recipe.{any_node, joins, share, with_joins}
use Rattle.opgen_saturate.specs.Converts.{AreBits}
use Rattle.opgen_saturate.proofs.Groups.{joins-more, share-some}
use Rattle.opgen_saturate.proofs.Joins.{join-bits}
use Rattle.opgen_saturate.proofs.tree.push_joins.Goals as goal

pub joins-preserved : goal.joins-preserved
joins-preserved c =
    let net = c.joins.net in
    let next = c.joins.next in
    let kept = c.joins.invariant in
    let left = length net.nodes - next in
    let count = share left in
    let length_is : c.len-in-joins.result ≡ length net.nodes = c.len-in-joins.ensures in
    let taken : (c.len-in-joins.result - next - 2) % 5 + 2 ≡ count = ap (λ n. share (n - next)) length_is in
    let many : 2 ≤ left = omega (arith, c.joins-test.true, c.len.ensures) in
    let few = share-some (joins (left + 1 - count)) left (sym (joins-more left many)) in
    let cell = Cells Logic 1 (any_node next count) in
    let grown : c.push_join.new.net ≡ with_last net cell =
    c.in_ok-push_join.ensures.ok ∙ ap (λ k. with_last net (Cells Logic 1 (any_node next k))) taken in
    let within : next + count ≤ length net.nodes = omega (arith, few.2, kept.some) in
    let more : length c.push_join.new.net.nodes ≡ length net.nodes + 1 =
    ap (λ (n : Net). length n.nodes) grown ∙ length-append net.nodes (cell ∷ []) in
    let now : length c.push_join.new.net.nodes - (next + count) ≡ left + 1 - count = omega (arith, more, within, kept.some) in
    record {
      valid = c.push_join.ensures.valid;
      some = omega (arith, more, within, taken);
      bits = subst (λ k. AreBits (widths c.push_join.new.net.nodes) (next + k)) (sym taken)
          (subst (λ (n : Net). AreBits (widths n.nodes) (next + count)) (sym grown)
          (join-bits net kept.valid next kept.bits count few.0 few.1 within));
      same = ap (λ k. with_joins (joins (length c.push_join.new.net.nodes - (next + k))) (next + k) c.push_join.new.net) taken
          ∙ ap (λ k. with_joins (joins k) (next + count) c.push_join.new.net) now
          ∙ ap (with_joins (joins (left + 1 - count)) (next + count)) grown
          ∙ ap (λ k. with_joins k next net) (sym (joins-more left many))
          ∙ kept.same;
    }
