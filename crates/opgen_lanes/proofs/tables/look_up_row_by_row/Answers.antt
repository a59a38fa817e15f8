use Rattle.std.proofs.Common.{◌-◌, if◌then◌else◌, length, get_or, sym, ap, ◌∙◌}
use Rattle.std.specs.Prelude.{nat_eq}
use Rattle.opgen_num.specs.Words.{nat}
use Rattle.opgen_lanes.proofs.TableWords.{all-rows, row-before, no-rows-left}
use Rattle.opgen_streams.specs.Streams.{word_in}
use Rattle.opgen_lanes.proofs.tables.look_up_row_by_row.Goals as goal

pub loop-past-init : goal.loop-past-init
loop-past-init c = λ k h. c.write.ensures k h ∙ sym (all-rows c.args.rows.now c.args.other (word_in c.args.address.now k))

pub loop-past-preserved : goal.loop-past-preserved
loop-past-preserved c = λ k h.
    let rows = c.args.rows.now in
    let j = length rows - 1 - c.loop-past.past in
    let row = get_or rows j c.index-rows-rows-in-loop-past.result in
    let address = word_in c.args.address.now k in
    c.write_where.ensures k h
    ∙ ap (λ b. if b then row.1 else word_in c.loop-past.out k) (c.equal.ensures k h)
    ∙ ap (λ w. if nat_eq (nat (get_or rows j c.index-rows-rows.result).0) (nat address) then row.1 else w) (c.loop-past.invariant k h)
    ∙ row-before rows c.args.other address c.index-rows-rows.result c.index-rows-rows-in-loop-past.result c.loop-past.past
    c.loop-past-test.true

pub returns : goal.returns
returns c = λ k h. c.loop-past.invariant k h ∙ no-rows-left c.args.rows.now c.args.other (word_in c.args.address.now k) c.loop-past.past c.loop-past-test.false
