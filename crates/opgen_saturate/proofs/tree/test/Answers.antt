use Rattle.std.proofs.Common.{◌≡◌, ℕ, ◌-◌, ◌&&◌, Bool, length, sym, ap, ◌∙◌, subst, arith}
use Rattle.opgen_net.specs.declared.net.Net.{Net}
use Rattle.opgen_net.specs.Valid.{widths}
use Rattle.opgen_num.specs.declared.format.Format.{Format}
use Rattle.opgen_saturate.specs.Recipe.{first_dropped, followed, with_row, joins, with_joins, with_test}
use Rattle.opgen_saturate.specs.Converts.{AreBits}
use Rattle.opgen_saturate.proofs.Tested.{row, row-there, row-bits, tested-some}
use Rattle.opgen_saturate.proofs.tree.test.Goals as goal

-- the row, by the values that the code has for its sign and its lowest bit
row-is : (net made : Net) (node : ℕ) (format to : Format) (low : ℕ) (both : Bool) → low ≡ first_dropped format to
    → both ≡ format.signed && to.signed
    → made ≡ with_row (followed both (format.width - low)) both node low (format.width - low) net
    → made ≡ with_row (followed (format.signed && to.signed) (format.width - first_dropped format to)) (format.signed && to.signed) node
    (first_dropped format to) (format.width - first_dropped format to) net
row-is net made node format to low both e f is =
    is
    ∙ ap (λ b. with_row (followed b (format.width - low)) b node low (format.width - low) net) f
    ∙ ap (λ l. with_row (followed (format.signed && to.signed) (format.width - l)) (format.signed && to.signed) node l (format.width - l) net) e

pub push_joins-requires-clause-some : goal.push_joins-requires-clause-some
push_joins-requires-clause-some c =
    let net = c.args.net.now in
    let there = row-there net c.args.node c.args.format c.args.to c.requires.net c.requires.formats c.requires.narrow in
    let is = row-is net c.push_row.new.net c.args.node c.args.format c.args.to c.first_dropped-low.result c.are_signed.result
    c.first_dropped-low.ensures c.are_signed.ensures c.in_ok-push_row.ensures.ok in
    omega (arith, there, ap (λ (n : Net). length n.nodes) is, c.len-first.ensures)

pub push_joins-requires-clause-bits : goal.push_joins-requires-clause-bits
push_joins-requires-clause-bits c =
    let net = c.args.net.now in
    let bits = row-bits net c.args.node c.args.format c.args.to c.requires.net c.requires.formats c.requires.narrow in
    let is = row-is net c.push_row.new.net c.args.node c.args.format c.args.to c.first_dropped-low.result c.are_signed.result
    c.first_dropped-low.ensures c.are_signed.ensures c.in_ok-push_row.ensures.ok in
    subst (λ k. AreBits (widths c.push_row.new.net.nodes) k) (sym c.len-first.ensures)
    (subst (λ (n : Net). AreBits (widths n.nodes) (length net.nodes)) (sym is) bits)

pub overflow_sub-result : goal.overflow_sub-result
overflow_sub-result c =
    let net = c.args.net.now in
    let some = tested-some net c.args.node c.args.format c.args.to c.requires.net c.requires.formats c.requires.narrow in
    let first = c.len-first.result in
    let is = row-is net c.push_row.new.net c.args.node c.args.format c.args.to c.first_dropped-low.result c.are_signed.result
    c.first_dropped-low.ensures c.are_signed.ensures c.in_ok-push_row.ensures.ok in
    let made : c.push_joins.new.net ≡ with_test c.args.node c.args.format c.args.to net =
    c.in_ok-push_joins.ensures.ok
    ∙ ap (λ (n : Net). with_joins (joins (length n.nodes - first)) first n) is
    ∙ ap (λ k.
    with_joins (joins (length (row net c.args.node c.args.format c.args.to c.requires.net c.requires.formats c.requires.narrow).nodes - k)) k
    (row net c.args.node c.args.format c.args.to c.requires.net c.requires.formats c.requires.narrow)) c.len-first.ensures in
    omega (arith, some, ap (λ (n : Net). length n.nodes) made, c.len.ensures)
