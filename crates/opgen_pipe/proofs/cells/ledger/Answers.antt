use Rattle.std.proofs.Common.{◌≡◌, length, map, get_or, set, refl, sym, ap, ◌∙◌, arith}
use Rattle.std.proofs.lemmas.List.{ext_get_or, get_or-map, length-map, length-set}
use Rattle.std.proofs.lemmas.List.Edits.{fill_by_more}
use Rattle.opgen_net.specs.declared.cell.Class.TheVariants.{Wire}
use Rattle.opgen_net.specs.Classes.{classes}
use Rattle.opgen_pipe.proofs.cells.ledger.Goals as goal

pub classes-preserved : goal.classes-preserved
unfolding classes
classes-preserved g c =
    let table = (goal.Target-dyn g (c.args.target.now.vtable, c.args.target.now.value)).ledger c.args.target.now.value in
    let count = c.classes.invariant.count in
    record {
      count = length-set c.classes.numbers c.classes.place c.charged.result ∙ count;
      each = λ k l.
          ap (λ v. get_or (set c.classes.numbers c.classes.place v) k 0) c.charged.ensures
          ∙ fill_by_more (λ i. table (get_or classes i Wire)) c.classes.numbers c.classes.place 0
          (omega (arith, c.classes-test.true, count)) c.classes.invariant.each k l;
    }

pub returns : goal.returns
unfolding classes
returns g c =
    let table = (goal.Target-dyn g (c.args.target.now.vtable, c.args.target.now.value)).ledger c.args.target.now.value in
    let count = c.classes.invariant.count in
    let six : length classes ≡ 6 = refl in
    ext_get_or 0 c.classes.numbers (map table classes) (count ∙ sym six ∙ sym (length-map classes table))
    (λ i l. c.classes.invariant.each i (omega (arith, l, count, c.classes-test.false))
    ∙ sym (get_or-map table classes i Wire 0 (omega (arith, l, count, six))))
