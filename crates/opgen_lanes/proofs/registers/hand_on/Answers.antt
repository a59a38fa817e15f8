use Rattle.std.proofs.Common.{◌≡◌, ◌++◌, ◌≤◌, Some, length, take, drop, get_or, sym, ap, ◌∙◌, subst, arith}
use Rattle.std.specs.Prelude.{slice_set}
use Rattle.std.proofs.lemmas.List.{length-take-le, length-append, length-drop, take_at}
use Rattle.std.proofs.lemmas.Option.{same_Some}
use Rattle.opgen_design.specs.declared.design.Driver.TheVariants.{Register}
use Rattle.opgen_design.specs.Plain.{plain}
use Rattle.opgen_design.specs.Run.{moved, scope}
use Rattle.opgen_design.specs.Sound.{WidthsAgree, signal_widths, target}
use Rattle.opgen_design.specs.Value.{value, word_at}
use Rattle.opgen_runs.specs.Evaluate.{hand_on}
use Rattle.opgen_runs.proofs.Widths.{agree-at}
use Rattle.opgen_streams.specs.Streams.{word_in}
use Rattle.opgen_lanes.specs.Banks.{stream_words, width_at, widths_of, words_at}
use Rattle.opgen_lanes.proofs.DriverWords.{has-width, fits-width, signal-there, target-narrow, there-at}
use Rattle.opgen_lanes.proofs.Fits.{within}
use Rattle.opgen_lanes.proofs.RegisterWords.{enable-bit, enable-place}
use Rattle.opgen_lanes.proofs.registers.hand_on.Goals as goal

pub evaluate-width-requires-clause-fits : goal.evaluate-width-requires-clause-fits
evaluate-width-requires-clause-fits c =
    let d = c.args.design.now in
    let a = subst (WidthsAgree d) c.in-Register.is (agree-at d c.requires.sound c.args.place c.get.result.now c.get.ensures) in
    fits-width d c.args.banks.now.signals c.args.banks.now.ports c.requires.banks (plain c.expr.result.now) c.in-Register.expr
    (get_or (signal_widths d) c.in-Register.to 0) c.expr.ensures a

pub slice_bounds-moved-end : goal.slice_bounds-moved-end
slice_bounds-moved-end c = within (widths_of c.args.banks.now.signals) (widths_of c.args.banks.now.ports) (plain c.expr.result.now) c.evaluate-width.result
    c.evaluate-width.new.out c.evaluate-width.ensures.width (omega (arith, c.evaluate-width.auto.out, c.requires.room))

pub slice_bounds-moved-end-in-Register : goal.slice_bounds-moved-end-in-Register
slice_bounds-moved-end-in-Register c = sym (length-take-le c.evaluate-width.result c.evaluate-width.new.out
    (within (widths_of c.args.banks.now.signals) (widths_of c.args.banks.now.ports) (plain c.expr.result.now) c.evaluate-width.result
    c.evaluate-width.new.out c.evaluate-width.ensures.width (omega (arith, c.evaluate-width.auto.out, c.requires.room))))

pub moved-requires-clause-enable : goal.moved-requires-clause-enable
moved-requires-clause-enable c = enable-place c.args.design.now c.requires.sound c.args.banks.now.signals c.args.banks.now.ports c.requires.banks

pub moved-requires-clause-one_bit : goal.moved-requires-clause-one_bit
moved-requires-clause-one_bit c = enable-bit c.args.design.now c.requires.sound c.args.banks.now.signals c.args.banks.now.ports c.requires.banks

pub moved-requires-clause-to : goal.moved-requires-clause-to
moved-requires-clause-to c = signal-there c.args.banks.now.signals c.args.banks.now.ports (target c.get.result.now) c.in-Register.to
    (ap target c.in-Register.is)
    (there-at c.args.design.now c.args.banks.now.signals c.args.banks.now.ports c.requires.banks c.requires.sound c.args.place c.get.result.now
    c.get.ensures)

pub moved-requires-clause-width : goal.moved-requires-clause-width
moved-requires-clause-width c =
    let d = c.args.design.now in
    let s = c.args.banks.now.signals in
    let p = c.args.banks.now.ports in
    let e = plain c.expr.result.now in
    let w = c.evaluate-width.result in
    let a = subst (WidthsAgree d) c.in-Register.is (agree-at d c.requires.sound c.args.place c.get.result.now c.get.ensures) in
    let n : w ≡ get_or (signal_widths d) c.in-Register.to 0 = same_Some _ _ (sym c.evaluate-width.ensures.width
    ∙ has-width d s p c.requires.banks e c.in-Register.expr (get_or (signal_widths d) c.in-Register.to 0) c.expr.ensures a) in
    length-take-le w c.evaluate-width.new.out (within (widths_of s) (widths_of p) e w c.evaluate-width.new.out c.evaluate-width.ensures.width
    (omega (arith, c.evaluate-width.auto.out, c.requires.room)))
    ∙ n ∙ ap (λ ws. get_or ws c.in-Register.to 0) (sym c.requires.banks.signal_widths)

pub store-requires-clause-at : goal.store-requires-clause-at
store-requires-clause-at c = signal-there c.args.next.now c.args.banks.now.ports (target c.get.result.now) c.in-Register.to
    (ap target c.in-Register.is)
    (there-at c.args.design.now c.args.next.now c.args.banks.now.ports c.requires.next c.requires.sound c.args.place c.get.result.now
    c.get.ensures)

pub store-requires-clause-room : goal.store-requires-clause-room
store-requires-clause-room c =
    let d = c.args.design.now in
    let s = c.args.next.now in
    let p = c.args.banks.now.ports in
    let k = c.get.result.now in
    let w = c.evaluate-width.result in
    let out = c.evaluate-width.new.out in
    let n = target-narrow d s p c.requires.next c.requires.sound k (there-at d s p c.requires.next c.requires.sound c.args.place k c.get.ensures)
    (agree-at d c.requires.sound c.args.place k c.get.ensures) in
    let m = subst (λ k. width_at s p (target k) ≤ 96) c.in-Register.is n in
    let l = within (widths_of c.args.banks.now.signals) (widths_of p) (plain c.expr.result.now) w out c.evaluate-width.ensures.width
    (omega (arith, c.evaluate-width.auto.out, c.requires.room)) in
    omega (
      arith,
      m,
      l,
      length-append c.moved.new.new (drop w out),
      length-drop w out,
      length-take-le w out l,
      c.moved.auto.new,
      c.evaluate-width.auto.out,
      c.requires.room,
    )

pub returns-in-Register-clause-words : goal.returns-in-Register-clause-words
returns-in-Register-clause-words c = λ driver g k h.
    let d = c.args.design.now in
    let s = c.args.banks.now.signals in
    let p = c.args.banks.now.ports in
    let to = c.in-Register.to in
    let e = plain c.expr.result.now in
    let w = c.evaluate-width.result in
    let out = c.evaluate-width.new.out in
    let v = stream_words s p k in
    let next = words_at c.args.next.now k in
    let same : Some driver ≡ Some (Register to c.in-Register.expr) = sym g ∙ c.get.ensures ∙ ap Some c.in-Register.is in
    let is : driver ≡ Register to c.in-Register.expr = cc in
    let l = within (widths_of s) (widths_of p) e w out c.evaluate-width.ensures.width
    (omega (arith, c.evaluate-width.auto.out, c.requires.room)) in
    let a = subst (WidthsAgree d) c.in-Register.is (agree-at d c.requires.sound c.args.place c.get.result.now c.get.ensures) in
    let n : w ≡ get_or (signal_widths d) to 0 = same_Some _ _ (sym c.evaluate-width.ensures.width
    ∙ has-width d s p c.requires.banks e c.in-Register.expr (get_or (signal_widths d) to 0) c.expr.ensures a) in
    let m : get_or (widths_of c.args.next.now) to 0 ≡ w = ap (λ ws. get_or ws to 0) c.requires.next.signal_widths ∙ sym n in
    let long : length c.moved.new.new ≡ w = c.moved.auto.new ∙ length-take-le w out l in
    let word : word_in (take w (c.moved.new.new ++ drop w out)) k
    ≡ moved d.enable v (value (scope v) c.in-Register.expr) (word_at v.signals to) =
    ap (λ xs. word_in xs k) (take_at c.moved.new.new (drop w out) w long)
    ∙ c.moved.ensures k h
    ∙ ap (λ x. moved d.enable v x (word_at v.signals to)) (c.evaluate-width.ensures.value k h ∙ ap (value (scope v)) c.expr.ensures) in
    c.store.ensures.words k h
    ∙ ap (λ i. slice_set next to (word_in (take i (c.moved.new.new ++ drop w out)) k)) m
    ∙ ap (slice_set next to) word
    ∙ sym (ap (λ x. hand_on d.enable x v next) is)
