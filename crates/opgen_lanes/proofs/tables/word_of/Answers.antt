use Rattle.std.proofs.Common.{sym, ap, ◌∙◌}
use Rattle.opgen_lanes.proofs.TableWords.{word-past, word-there}
use Rattle.opgen_lanes.proofs.tables.word_of.Goals as goal

pub returns-in-Some : goal.returns-in-Some
returns-in-Some c =
    let there = c.in-Some.ensures.lookup in
    ap (λ r. r.1) there.1 ∙ word-there c.args.rows.now c.args.other c.args.place c.in-Some.row.now there.3.0

pub returns-in-None : goal.returns-in-None
returns-in-None c = sym (word-past c.args.rows.now c.args.other c.args.place c.in-None.ensures.lookup.3)
