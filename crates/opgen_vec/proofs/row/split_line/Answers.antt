use Rattle.std.proofs.Common.{◌+◌}
use Rattle.std.proofs.lemmas.List.{take_rest}
use Rattle.opgen_vec.proofs.FirstLines.{lines-feed, lines-last}
use Rattle.opgen_vec.proofs.row.split_line.Goals as goal

pub returns-then-len-text-clause-lines : goal.returns-then-len-text-clause-lines
returns-then-len-text-clause-lines c =
    rw (take_rest c.args.text.now (c.line_len-len.result + 1), c.without_return.ensures)
    (lines-feed c.args.text.now c.line_len-len.result c.line_len-len.ensures.value c.if-len-text.true)

pub returns-else-len-text-clause-lines : goal.returns-else-len-text-clause-lines
returns-else-len-text-clause-lines c = lines-last c.args.text.now c.line_len-len.result c.line_len-len.ensures.value c.if-len-text.false
    c.line_len-len.ensures.within c.requires
