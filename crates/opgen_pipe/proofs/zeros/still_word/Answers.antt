use Rattle.std.proofs.Common.{◌<◌, [], length, map, refl, sym, ap, ◌∙◌, subst, arith}
use Rattle.std.specs.Prelude.{IsSome}
use Rattle.opgen_design.specs.Value.{value, word_at, width}
use Rattle.opgen_net.specs.Valid.{MayStand}
use Rattle.opgen_num.specs.Words.{nat}
use Rattle.opgen_num.proofs.Words.{word-zeros}
use Rattle.opgen_runs.specs.Fitting.{scope_of}
use Rattle.opgen_net.proofs.FlowLaws.{index_within}
use Rattle.opgen_pipe.specs.Zeros.{still_word}
use Rattle.opgen_pipe.proofs.Still.{read-word, row-there, node-there}
use Rattle.opgen_pipe.proofs.zeros.still_word.Goals as goal
use Rattle.opgen_pipe.proofs.Follows.{chosen_same}

pub row-requires : goal.row-requires
row-requires c =
    let words = c.args.words.now in
    let h = subst (MayStand (map length words)) c.in-Table.is c.requires.stands in
    omega (
      arith,
      row-there words c.in-Table.rows c.in-Table.address c.index-words-address.result h c.index-words-address.is,
      ap length c.as_slice.ensures,
    )

pub returns-in-Input : goal.returns-in-Input
returns-in-Input c = c.new.ensures ∙ word-zeros c.in-Input.width ∙ sym (ap (still_word c.args.words.now) c.in-Input.is)

pub returns-in-Choice : goal.returns-in-Choice
returns-in-Choice c =
    let words = c.args.words.now in
    let h = subst (MayStand (map length words)) c.in-Choice.is c.requires.stands in
    let there : c.in-Choice.on < length words = node-there words c.in-Choice.on
    (index_within (map length words) c.in-Choice.on 0 (omega (arith, h.one_bit))) in
    c.chosen.ensures
    ∙ chosen_same _ _ _ _ _ _ (read-word words c.in-Choice.on c.index-words-on.result there c.index-words-on.is) c.part.ensures
    c.part-in-Choice.ensures
    ∙ sym (ap (still_word words) c.in-Choice.is)

pub part-requires-clause-lies : goal.part-requires-clause-lies
part-requires-clause-lies c = (subst (MayStand (map length c.args.words.now)) c.in-Choice.is c.requires.stands).one_lies

pub part-requires-in-Choice-clause-lies : goal.part-requires-in-Choice-clause-lies
part-requires-in-Choice-clause-lies c = (subst (MayStand (map length c.args.words.now)) c.in-Choice.is c.requires.stands).other_lies

pub bounds-words-on : goal.bounds-words-on
bounds-words-on c =
    let words = c.args.words.now in
    let h = subst (MayStand (map length words)) c.in-Choice.is c.requires.stands in
    omega (arith, node-there words c.in-Choice.on (index_within (map length words) c.in-Choice.on 0 (omega (arith, h.one_bit))))

pub bounds-words-address : goal.bounds-words-address
bounds-words-address c =
    let words = c.args.words.now in
    let address = c.in-Table.address in
    let h = subst (MayStand (map length words)) c.in-Table.is c.requires.stands in
    omega (arith, node-there words address (index_within (map length words) address 0 (omega (arith, h.address_width.0))))

pub bounds-words-of : goal.bounds-words-of
bounds-words-of c =
    let words = c.args.words.now in
    omega (arith, node-there words c.in-Delay.of (subst (MayStand (map length words)) c.in-Delay.is c.requires.stands))

pub value-requires-clause-fits : goal.value-requires-clause-fits
value-requires-clause-fits c =
    let ws = map length c.args.words.now in
    let h = subst (MayStand ws) c.in-Cells.is c.requires.stands in
    subst IsSome (sym (ap (width ws []) c.expr.ensures ∙ h.1.has_width)) refl

pub returns-in-Cells : goal.returns-in-Cells
returns-in-Cells c =
    let words = c.args.words.now in
    c.value.ensures ∙ ap (value (scope_of words [])) c.expr.ensures ∙ sym (ap (still_word words) c.in-Cells.is)

pub returns-in-Table : goal.returns-in-Table
returns-in-Table c =
    let words = c.args.words.now in
    let rows = c.in-Table.rows in
    let address = c.in-Table.address in
    let w = c.index-words-address.result in
    let h = subst (MayStand (map length words)) c.in-Table.is c.requires.stands in
    let there = node-there words address (index_within (map length words) address 0 (omega (arith, h.address_width.0))) in
    c.row.ensures ∙ ap (λ rs. word_at rs (nat w)) c.as_slice.ensures
    ∙ ap (λ v. word_at rows (nat v)) (read-word words address w there c.index-words-address.is)
    ∙ sym (ap (still_word words) c.in-Table.is)

pub returns-in-Delay : goal.returns-in-Delay
returns-in-Delay c =
    let words = c.args.words.now in
    let there = node-there words c.in-Delay.of (subst (MayStand (map length words)) c.in-Delay.is c.requires.stands) in
    read-word words c.in-Delay.of c.index-words-of.result there c.index-words-of.is ∙ sym (ap (still_word words) c.in-Delay.is)
