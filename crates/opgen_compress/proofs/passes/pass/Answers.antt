use Rattle.std.proofs.Common.{◌≡◌, List, [], ◌∷◌, ◌++◌, length, append_assoc, sym, ap, ◌∙◌, subst, arith, rules}
use Rattle.std.specs.Prelude.{All}
use Rattle.std.proofs.lemmas.List.{append-nil}
use Rattle.opgen_net.specs.Valid.{widths}
use Rattle.opgen_net.specs.WordRule.{IsThere}
use Rattle.opgen_compress.specs.Adder.{Work}
use Rattle.opgen_compress.specs.Recipe.{Column, State, is_none, pass}
use Rattle.opgen_heap.specs.Standing.{AllThere}
use Rattle.opgen_compress.proofs.Firsts.{rest_columns}
use Rattle.opgen_compress.proofs.Passed.{passed, with_carries, one_column, others-there, no_columns}
use Rattle.opgen_compress.proofs.passes.pass.Goals as goal

pub reduce-requires-clause-there : goal.reduce-requires-clause-there
reduce-requires-clause-there c =
    let i = c.columns.invariant in
    let net = c.columns.net in
    let column = c.first-column.result in
    let rest = c.first-column.new.columns.items in
    let queue : c.append.new.self ≡ column ++ c.columns.carries = search rules in
    subst (All (IsThere (widths net.nodes))) (sym queue)
    (with_carries net column c.columns.carries rest (subst (AllThere net) c.first-column.ensures i.1) i.2)

pub columns-preserved : goal.columns-preserved
columns-preserved c =
    let i = c.columns.invariant in
    let h = c.args.height in
    let net = c.columns.net in
    let column = c.first-column.result in
    let rest = c.first-column.new.columns.items in
    let carries = c.columns.carries in
    let lower = c.columns.lower in
    let w : Work = record { net = c.reduce.new.net; column = c.reduce.new.column; carries = c.in_ok-carries.carries } in
    let after : State = pass h w.net w.carries rest in
    let queue : c.append.new.self ≡ column ++ carries = search rules in
    let here : AllThere net (column ∷ rest) = subst (AllThere net) c.first-column.ensures i.1 in
    let there : All (IsThere (widths net.nodes)) c.append.new.self = subst (All (IsThere (widths net.nodes))) (sym queue)
    (with_carries net column carries rest here i.2) in
    let last : c.is_last.result ≡ is_none rest = search rules in
    let next = one_column h net carries column rest c.is_last.result c.append.new.self w last queue c.in_ok-carries.ensures.ok in
    let more : c.push.new.self ≡ lower ++ w.column ∷ [] = c.in_ok-push.ensures.ok in (
      i.0
          ∙ ap (λ (cs : List Column). let s : State = pass h net carries cs in (record { net = s.net; columns = lower ++ s.columns }))
          c.first-column.ensures
          ∙ ap (λ (s : State). (record { net = s.net; columns = lower ++ s.columns })) next
          ∙ ap (λ cs. (record { net = after.net; columns = cs }))
          (sym (append_assoc lower (w.column ∷ []) after.columns) ∙ ap (λ ls. ls ++ after.columns) (sym more)),
      others-there h net c.append.new.self rest c.is_last.result w i.3 there
          (rest_columns (All (IsThere (widths net.nodes))) column rest here) c.in_ok-carries.ensures.ok,
      c.in_ok-carries.ensures.there.carries,
      c.reduce.ensures.valid,
    )

pub returns-clause-there : goal.returns-clause-there
returns-clause-there c =
    let h = c.args.height in
    let net = c.columns.net in
    let lower = c.columns.lower in
    let law = passed h c.args.net.now [] c.args.columns.items c.requires.net (λ k d l. absurd (omega (arith, l))) c.requires.there in
    let count : length c.columns.rest.items ≡ 0 = search rules in
    let none : c.columns.rest.items ≡ [] = no_columns c.columns.rest.items count in
    let vec : lower ≡ c.into_vec.result.items = search rules in
    let ok = c.columns.invariant.0
    ∙ ap (λ (cs : List Column). let s : State = pass h net c.columns.carries cs in (record { net = s.net; columns = lower ++ s.columns }))
    none
    ∙ ap (λ cs. (record { net = net; columns = cs })) (append-nil lower ∙ vec) in
    subst (λ (s : State). AllThere s.net s.columns) ok law.there
