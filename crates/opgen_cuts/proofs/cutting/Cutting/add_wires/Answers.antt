use Rattle.std.proofs.Common.{◌≡◌, length, ap, ◌∙◌, subst, arith}
use Rattle.std.specs.Prelude.{OnOk}
use Rattle.opgen_design.specs.Plain.{plain, plain_all}
use Rattle.opgen_design.specs.Tree.{chain}
use Rattle.opgen_cuts.specs.Stands.{PiecesFollow}
use Rattle.opgen_cuts.specs.Wires.{wire_bits}
use Rattle.opgen_cuts.proofs.Operands.{operands-are, pieces-are, plain-chain, two-operands}
use Rattle.opgen_cuts.proofs.cutting.Cutting.add_wires.Goals as goal

pub index-requires : goal.index-requires
index-requires c =
    let s = c.args.self.now in
    let v = c.in-Chain.operands in
    let chained : plain c.args.expr.now ≡ chain c.in-Chain.op (plain_all v.items) = ap plain c.in-Chain.is ∙ plain-chain c.in-Chain.op v in
    let two : length v.items ≡ 2 = two-operands s c.in-Chain.op v.items (subst (PiecesFollow s) chained c.requires.operands) in
    omega (arith, two)

pub index-requires-2 : goal.index-requires-2
index-requires-2 c =
    let s = c.args.self.now in
    let v = c.in-Chain.operands in
    let chained : plain c.args.expr.now ≡ chain c.in-Chain.op (plain_all v.items) = ap plain c.in-Chain.is ∙ plain-chain c.in-Chain.op v in
    let two : length v.items ≡ 2 = two-operands s c.in-Chain.op v.items (subst (PiecesFollow s) chained c.requires.operands) in
    omega (arith, two)

pub add-requires-clause-operands : goal.add-requires-clause-operands
add-requires-clause-operands c =
    let x = c.index.result.now in
    let y = c.index-2.result.now in
    operands-are c.args.self.now c.args.expr.now c.in-Chain.op c.in-Chain.operands x y c.as_slice-3.result.now c.as_slice-4.result.now
    c.requires.operands c.in-Chain.is c.index.ensures c.index-2.ensures
    (c.as_slice-3.ensures ∙ c.in_ok-first.ensures ∙ ap (λ g. wire_bits g (plain x)) c.as_slice.ensures)
    (c.as_slice-4.ensures ∙ c.in_ok-second.ensures ∙ ap (λ g. wire_bits g (plain y)) c.as_slice-2.ensures)

pub returns : goal.returns
returns c =
    let x = c.index.result.now in
    let y = c.index-2.result.now in
    let is = pieces-are c.args.self.now c.args.expr.now c.in-Chain.op c.in-Chain.operands x y c.as_slice-3.result.now c.as_slice-4.result.now
    c.requires.operands c.in-Chain.is c.index.ensures c.index-2.ensures
    (c.as_slice-3.ensures ∙ c.in_ok-first.ensures ∙ ap (λ g. wire_bits g (plain x)) c.as_slice.ensures)
    (c.as_slice-4.ensures ∙ c.in_ok-second.ensures ∙ ap (λ g. wire_bits g (plain y)) c.as_slice-2.ensures)
    c.args.most c.args.whole c.is_minus.result c.is_minus.ensures in
    subst (λ made. OnOk c.add.result (c.add.new.self ≡ made)) is c.add.ensures
