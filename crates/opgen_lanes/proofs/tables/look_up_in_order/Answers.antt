use Rattle.std.proofs.Common.{◌≡◌, ◌^◌, if◌then◌else◌, length, sym, ap, ◌∙◌, arith}
use Rattle.opgen_num.specs.Words.{nat, word}
use Rattle.opgen_num.proofs.Words.{nat-below}
use Rattle.opgen_num.specs.WordLaws.{length-word, nat-word}
use Rattle.opgen_streams.specs.Streams.{word_in}
use Rattle.opgen_lanes.specs.Tables.{word_of}
use Rattle.opgen_lanes.proofs.TableWords.{in-order}
use Rattle.opgen_lanes.proofs.tables.look_up_in_order.Goals as goal

pub write-requires-clause-same : goal.write-requires-clause-same
write-requires-clause-same c = ap length c.new.ensures ∙ length-word c.width.result 0 ∙ c.width.ensures ∙ c.requires.other

pub write-requires-clause-width : goal.write-requires-clause-width
write-requires-clause-width c =
    let n = ap length c.new.ensures ∙ length-word c.width.result 0 ∙ c.width.ensures in
    omega (arith, n, c.requires.narrow_word)

pub put_rows-requires-clause-zeros : goal.put_rows-requires-clause-zeros
put_rows-requires-clause-zeros c = λ k h e.
    let zeros = word c.width.result 0 in
    let long : 2 ^ length zeros ≡ 2 ^ c.width.result = ap (λ n. 2 ^ n) (length-word c.width.result 0) in
    ap nat (c.write.ensures k h ∙ c.new.ensures) ∙ nat-word c.width.result 0 (omega (arith, nat-below zeros, long))

pub returns : goal.returns
returns c = λ k h.
    let rows = c.args.rows.now in
    let other = c.args.other in
    let address = word_in c.args.address.now k in
    c.put_rows.ensures k h
    ∙ ap (λ b. if b then word_of rows other (nat address) else word_in c.write.new.vectors k) (c.splat.ensures k h)
    ∙ sym (in-order rows other address c.requires.order)
