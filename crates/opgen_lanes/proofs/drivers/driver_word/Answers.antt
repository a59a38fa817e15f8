use Rattle.std.proofs.Common.{◌≡◌, length, sym, ◌∙◌, subst, All, inl, inr}
use Rattle.std.specs.Prelude.{slice_index}
use Rattle.opgen_design.specs.Plain.{plain}
use Rattle.opgen_design.specs.Sound.{HasWidth, WidthsAgree, signal_widths, target}
use Rattle.opgen_runs.specs.Evaluate.{IsThere}
use Rattle.opgen_lanes.specs.Banks.{stream_words}
use Rattle.opgen_runs.proofs.Widths.{agree-at}
use Rattle.opgen_lanes.proofs.DriverWords.{has-width, has-some, fits-width, there-at, other-narrow}
use Rattle.opgen_lanes.proofs.drivers.driver_word.Goals as goal

pub choice-requires-clause-on : goal.choice-requires-clause-on
choice-requires-clause-on c =
    let d = c.args.design.now in
    let a = subst (WidthsAgree d) c.in-Choice.is (agree-at d c.requires.sound c.args.place c.get.result.now c.get.ensures) in
    has-width d c.args.banks.now.signals c.args.banks.now.ports c.requires.banks (plain c.expr.result.now) c.in-Choice.on 1 c.expr.ensures a.0

pub choice-requires-clause-yes : goal.choice-requires-clause-yes
choice-requires-clause-yes c =
    let d = c.args.design.now in
    let a = subst (WidthsAgree d) c.in-Choice.is (agree-at d c.requires.sound c.args.place c.get.result.now c.get.ensures) in
    fits-width d c.args.banks.now.signals c.args.banks.now.ports c.requires.banks (plain c.expr-in-Choice.result.now) c.in-Choice.yes
    _ c.expr-in-Choice.ensures a.1

pub choice-requires-clause-no : goal.choice-requires-clause-no
choice-requires-clause-no c =
    let d = c.args.design.now in
    let s = c.args.banks.now.signals in
    let p = c.args.banks.now.ports in
    let a = subst (WidthsAgree d) c.in-Choice.is (agree-at d c.requires.sound c.args.place c.get.result.now c.get.ensures) in
    has-width d s p c.requires.banks (plain c.expr-in-Choice-2.result.now) c.in-Choice.no _ c.expr-in-Choice-2.ensures a.2
    ∙ sym (has-width d s p c.requires.banks (plain c.expr-in-Choice.result.now) c.in-Choice.yes _ c.expr-in-Choice.ensures a.1)

pub table-requires-clause-on : goal.table-requires-clause-on
table-requires-clause-on c =
    let d = c.args.design.now in
    let a = subst (WidthsAgree d) c.in-Table.is (agree-at d c.requires.sound c.args.place c.get.result.now c.get.ensures) in
    has-some d c.args.banks.now.signals c.args.banks.now.ports c.requires.banks (plain c.expr-in-Table.result.now) c.in-Table.on c.expr-in-Table.ensures
    a.1

pub table-requires-clause-addresses : goal.table-requires-clause-addresses
table-requires-clause-addresses c =
    let d = c.args.design.now in
    let a = subst (WidthsAgree d) c.in-Table.is (agree-at d c.requires.sound c.args.place c.get.result.now c.get.ensures) in
    λ k r l. has-width d c.args.banks.now.signals c.args.banks.now.ports c.requires.banks (plain c.expr-in-Table.result.now) c.in-Table.on _ c.expr-in-Table.ensures
    (subst (λ rows. All (λ r. HasWidth d c.in-Table.on (length r.0) × (length r.1 ≡ slice_index (signal_widths d) c.in-Table.to)) rows) (sym c.as_slice.ensures) a.0 k r l).0

pub table-requires-clause-words : goal.table-requires-clause-words
table-requires-clause-words c =
    let d = c.args.design.now in
    let a = subst (WidthsAgree d) c.in-Table.is (agree-at d c.requires.sound c.args.place c.get.result.now c.get.ensures) in
    λ k r l. (subst (λ rows. All (λ r. HasWidth d c.in-Table.on (length r.0) × (length r.1 ≡ slice_index (signal_widths d) c.in-Table.to)) rows) (sym c.as_slice.ensures) a.0 k r l).1
    ∙ sym a.2

pub table-requires-clause-narrow : goal.table-requires-clause-narrow
table-requires-clause-narrow c =
    let d = c.args.design.now in
    let s = c.args.banks.now.signals in
    let p = c.args.banks.now.ports in
    let a = subst (WidthsAgree d) c.in-Table.is (agree-at d c.requires.sound c.args.place c.get.result.now c.get.ensures) in
    let t = there-at d s p c.requires.banks c.requires.sound c.args.place c.get.result.now c.get.ensures in
    other-narrow d s p c.requires.banks c.requires.sound c.in-Table.to c.in-Table.other a.2
    (subst (λ k. IsThere (stream_words s p 0) (target k)) c.in-Table.is t)

pub evaluate-requires-clause-fits : goal.evaluate-requires-clause-fits
evaluate-requires-clause-fits c =
    let d = c.args.design.now in
    let a = agree-at d c.requires.sound c.args.place c.get.result.now c.get.ensures in
    let fits = fits-width d c.args.banks.now.signals c.args.banks.now.ports c.requires.banks (plain c.expr-in-Assign.result.now) c.in-Assign.expr in
    elim c.in-Assign.is [
      | inl p ↦ fits _ c.expr-in-Assign.ensures (subst (WidthsAgree d) p.1 a)
      | inr q ↦ elim q [
        | inl p ↦ fits _ c.expr-in-Assign.ensures (subst (WidthsAgree d) p.1 a)
        | inr p ↦ fits _ c.expr-in-Assign.ensures (subst (WidthsAgree d) p.1 a)
      ]
    ]
