use Rattle.std.proofs.Common.{◌≡◌, ◌<◌, ◌+◌, ◌-◌, ℕ, List, length, map, take, drop, get_or, not, Some, sym, ap, ◌∙◌, subst, arith}
use Rattle.std.specs.Prelude.{IsSome}
use Rattle.std.proofs.lemmas.List.{length-map, length-take-le, take_at}
use Rattle.std.proofs.lemmas.Option.{same_Some}
use Rattle.opgen_design.specs.declared.expr.Expr.{Expr}
use Rattle.opgen_design.specs.declared.expr.Op.{Op}
use Rattle.opgen_design.specs.Plain.{plain, plain_all}
use Rattle.opgen_design.specs.Run.{scope}
use Rattle.opgen_design.specs.Value.{value, chain_value, value_on, combined, IsWidth, joined, width, width_on, chain_width}
use Rattle.opgen_design.proofs.WidthLaws.{joined-is_width, width-is_width, some_width}
use Rattle.opgen_streams.specs.Streams.{word_in}
use Rattle.opgen_runs.proofs.Plain.{plain-name, plain-part, plain-port, plain-not, plain-bits, more-at, first-and-rest}
use Rattle.opgen_lanes.specs.Banks.{stream_words, widths_of}
use Rattle.opgen_lanes.proofs.Fits.{name-read, port-read, part-read, bits-narrow, narrow-of, Next, chain-start, chain-next, within}
use Rattle.opgen_lanes.proofs.evaluate.+evaluate.Goals as goal

pub evaluate-word-requires-clause-at : goal.evaluate-word-requires-clause-at
evaluate-word-requires-clause-at t c =
    let ns = widths_of c.args.signals.now in
    let r = name-read ns (widths_of c.args.ports.now) (plain c.args.expr.now) c.in-Name.signal
    (ap plain c.in-Name.is ∙ plain-name c.in-Name.signal) c.requires.fits in
    omega (arith, r.there, length-map c.args.signals.now.places.items (λ p. p.width))

pub evaluate-put-requires : goal.evaluate-put-requires
evaluate-put-requires t c =
    let r = name-read (widths_of c.args.signals.now) (widths_of c.args.ports.now) (plain c.args.expr.now) c.in-Name.signal
    (ap plain c.in-Name.is ∙ plain-name c.in-Name.signal) c.requires.fits in
    omega (arith, r.narrow, c.word.ensures.width, c.requires.room)

pub evaluate-returns-in-Name-clause-width : goal.evaluate-returns-in-Name-clause-width
evaluate-returns-in-Name-clause-width t c =
    let r = name-read (widths_of c.args.signals.now) (widths_of c.args.ports.now) (plain c.args.expr.now) c.in-Name.signal
    (ap plain c.in-Name.is ∙ plain-name c.in-Name.signal) c.requires.fits in
    r.is ∙ ap Some (sym (c.put.ensures.width ∙ c.word.ensures.width))

pub evaluate-part-requires-clause-node : goal.evaluate-part-requires-clause-node
evaluate-part-requires-clause-node t c =
    let s = c.in-Part.slice in
    let r = part-read (widths_of c.args.signals.now) (widths_of c.args.ports.now) (plain c.args.expr.now) s.node s.high s.low
    (ap plain c.in-Part.is ∙ plain-part s) c.requires.fits in
    omega (arith, r.there, length-map c.args.signals.now.places.items (λ p. p.width))

pub evaluate-part-requires-clause-low : goal.evaluate-part-requires-clause-low
evaluate-part-requires-clause-low t c =
    let s = c.in-Part.slice in
    (part-read (widths_of c.args.signals.now) (widths_of c.args.ports.now) (plain c.args.expr.now) s.node s.high s.low
    (ap plain c.in-Part.is ∙ plain-part s) c.requires.fits).in_order

pub evaluate-part-requires-clause-high : goal.evaluate-part-requires-clause-high
evaluate-part-requires-clause-high t c =
    let s = c.in-Part.slice in
    (part-read (widths_of c.args.signals.now) (widths_of c.args.ports.now) (plain c.args.expr.now) s.node s.high s.low
    (ap plain c.in-Part.is ∙ plain-part s) c.requires.fits).within

pub evaluate-word-requires-in-Port-clause-at : goal.evaluate-word-requires-in-Port-clause-at
evaluate-word-requires-in-Port-clause-at t c =
    let r = port-read (widths_of c.args.signals.now) (widths_of c.args.ports.now) (plain c.args.expr.now) c.in-Port.place
    (ap plain c.in-Port.is ∙ plain-port c.in-Port.place) c.requires.fits in
    omega (arith, r.there, length-map c.args.ports.now.places.items (λ p. p.width))

pub evaluate-put-requires-in-Port : goal.evaluate-put-requires-in-Port
evaluate-put-requires-in-Port t c =
    let r = port-read (widths_of c.args.signals.now) (widths_of c.args.ports.now) (plain c.args.expr.now) c.in-Port.place
    (ap plain c.in-Port.is ∙ plain-port c.in-Port.place) c.requires.fits in
    omega (arith, r.narrow, c.word-in-Port.ensures.width, c.requires.room)

pub evaluate-returns-in-Port-clause-width : goal.evaluate-returns-in-Port-clause-width
evaluate-returns-in-Port-clause-width t c =
    let r = port-read (widths_of c.args.signals.now) (widths_of c.args.ports.now) (plain c.args.expr.now) c.in-Port.place
    (ap plain c.in-Port.is ∙ plain-port c.in-Port.place) c.requires.fits in
    r.is ∙ ap Some (sym (c.put-in-Port.ensures.width ∙ c.word-in-Port.ensures.width))

pub evaluate-returns-in-Bits-clause-value : goal.evaluate-returns-in-Bits-clause-value
evaluate-returns-in-Bits-clause-value t c = λ k h.
    let v = scope (stream_words c.args.signals.now c.args.ports.now k) in
    let m = bits-narrow (widths_of c.args.signals.now) (widths_of c.args.ports.now) (plain c.args.expr.now) c.in-Bits.word
    (ap plain c.in-Bits.is ∙ plain-bits c.in-Bits.word) c.requires.fits in
    let l = length-take-le c.width-width.result c.args.out.now (omega (arith, m, c.requires.room, c.width-width.ensures)) in
    let n : length c.write.new.vectors ≡ c.width-width.result = omega (arith, c.write.auto.vectors, l) in
    ap (λ xs. word_in xs k) (take_at c.write.new.vectors (drop c.width-width.result c.args.out.now) c.width-width.result n)
    ∙ c.write.ensures k h
    ∙ sym (ap (value v) (ap plain c.in-Bits.is ∙ plain-bits c.in-Bits.word))

pub evaluate-slice_bounds-turn-end : goal.evaluate-slice_bounds-turn-end
evaluate-slice_bounds-turn-end t c =
    let n = narrow-of (widths_of c.args.signals.now) (widths_of c.args.ports.now) (plain c.deref.result.now) c.evaluate-width.result
    c.evaluate-width.ensures.width in
    omega (arith, n, c.requires.room, c.evaluate-width.auto.out)

pub evaluate-slice_bounds-turn-end-in-Not : goal.evaluate-slice_bounds-turn-end-in-Not
evaluate-slice_bounds-turn-end-in-Not t c =
    let n = narrow-of (widths_of c.args.signals.now) (widths_of c.args.ports.now) (plain c.deref.result.now) c.evaluate-width.result
    c.evaluate-width.ensures.width in
    omega (arith, length-take-le c.evaluate-width.result c.evaluate-width.new.out (omega (arith, n, c.requires.room, c.evaluate-width.auto.out)))

pub evaluate-returns-in-Not-clause-value : goal.evaluate-returns-in-Not-clause-value
evaluate-returns-in-Not-clause-value t c = λ k h.
    let v = scope (stream_words c.args.signals.now c.args.ports.now k) in
    let w = c.evaluate-width.result in
    let out = c.evaluate-width.new.out in
    let m = narrow-of (widths_of c.args.signals.now) (widths_of c.args.ports.now) (plain c.deref.result.now) w
    c.evaluate-width.ensures.width in
    let n : length c.turn.new.word ≡ w = omega
    (arith, c.turn.auto.word, length-take-le w out (omega (arith, m, c.requires.room, c.evaluate-width.auto.out))) in
    ap (λ xs. word_in xs k) (take_at c.turn.new.word (drop w out) w n)
    ∙ c.turn.ensures k h
    ∙ ap (map not) (c.evaluate-width.ensures.value k h ∙ ap (λ e. value v (plain e)) c.deref.ensures)
    ∙ sym (ap (value v) (ap plain c.in-Not.is ∙ plain-not c.in-Not.operand))

pub evaluate_chain-loop-operand-init : goal.evaluate_chain-loop-operand-init
evaluate_chain-loop-operand-init t c =
    let ns = widths_of c.args.signals.now in
    let ps = widths_of c.args.ports.now in
    let xs = c.args.operands.now in
    let op = c.args.op in
    let ts = plain_all (take (length xs - 1) (drop 1 xs)) in
    let e = plain c.first-item.result in
    let split = first-and-rest xs c.first-item.result c.in-len1-up.len_at_least c.first-item.is in
    let f = chain-start ns ps op e ts (subst (λ l. IsSome (chain_width ns ps op l)) split c.requires.fits) in
    let w = c.evaluate-width.ensures.width in
    let whole = f.rest c.evaluate-width.result w in
    record {
      value = λ k h.
          let v = scope (stream_words c.args.signals.now c.args.ports.now k) in
          ap (λ x. value_on v op x ts) (c.evaluate-width.ensures.value k h) ∙ sym (ap (chain_value v op) split);
      fits = subst IsSome (ap (chain_width ns ps op) split ∙ whole) c.requires.fits;
      whole = sym (ap (chain_width ns ps op) split ∙ whole);
      width = width-is_width ns ps e c.evaluate-width.result w;
    }

next : (ns ps : List ℕ) (op : Op) (w : ℕ) (xs : List Expr) (i : ℕ) (x : Expr) → i < length xs → x ≡ get_or xs i x
    → IsSome (width_on ns ps op w (plain_all (drop i xs))) → Next ns ps op w (plain x) (plain_all (drop (i + 1) xs))
next ns ps op w xs i x l e h = chain-next ns ps op w (plain x) (plain_all (drop (i + 1) xs))
    (subst (λ ts. IsSome (width_on ns ps op w ts)) (more-at xs i x l e) h)

pub evaluate_chain-loop-operand-preserved : goal.evaluate_chain-loop-operand-preserved
evaluate_chain-loop-operand-preserved t c =
    let ns = widths_of c.args.signals.now in
    let ps = widths_of c.args.ports.now in
    let xs = take (length c.args.operands.now - 1) (drop 1 c.args.operands.now) in
    let op = c.args.op in
    let i = c.loop-operand.operand-index in
    let x = c.operand-item.result in
    let ts = plain_all (drop (i + 1) xs) in
    let old = c.loop-operand.invariant in
    let n = next ns ps op c.loop-operand.width xs i x c.loop-operand-test.true c.operand-item.is old.fits in
    let a = some_width (width ns ps (plain x)) n.fits in
    let j = c.take_in-width.ensures.width a.0 a.1 in
    let more = more-at xs i x c.loop-operand-test.true c.operand-item.is in
    let step : width_on ns ps op c.loop-operand.width (plain_all (drop i xs)) ≡ width_on ns ps op c.take_in-width.result ts =
    ap (width_on ns ps op c.loop-operand.width) more ∙ n.rest a.0 c.take_in-width.result a.1 j in
    record {
      value = λ k h.
          let v = scope (stream_words c.args.signals.now c.args.ports.now k) in
          ap (λ y. value_on v op y ts) (c.take_in-width.ensures.value k h)
          ∙ sym (ap (value_on v op (word_in (take c.loop-operand.width c.loop-operand.out) k)) more)
          ∙ old.value k h;
      fits = subst IsSome step old.fits;
      whole = sym step ∙ old.whole;
      width = joined-is_width op c.loop-operand.width a.0 c.take_in-width.result old.width j;
    }

pub take_in-combine-requires-clause-fits : goal.take_in-combine-requires-clause-fits
take_in-combine-requires-clause-fits t c = c.requires.fits (length c.in-Some.word.now) c.in-Some.ensures.width

pub take_in-combine-requires-clause-second : goal.take_in-combine-requires-clause-second
take_in-combine-requires-clause-second t c = width-is_width (widths_of c.args.signals.now) (widths_of c.args.ports.now)
    (plain c.args.operand.now) (length c.in-Some.word.now) c.in-Some.ensures.width

pub take_in-returns-in-Some : goal.take_in-returns-in-Some
take_in-returns-in-Some t c = record {
  width = λ a e.
      subst (λ n. joined c.args.op c.args.before n ≡ Some c.combine.result) (same_Some _ _ (sym c.in-Some.ensures.width ∙ e))
      c.combine.ensures.width;
  value = λ k h.
      c.combine.ensures.word k h
      ∙ ap (combined c.args.op (word_in (take c.args.before c.args.out.now) k)) (c.in-Some.ensures.value k h);
}

pub take_in_nested-slice_bounds-combine-end : goal.take_in_nested-slice_bounds-combine-end
take_in_nested-slice_bounds-combine-end t c = within (widths_of c.args.signals.now) (widths_of c.args.ports.now) (plain c.args.operand.now)
    c.evaluate-added.result c.evaluate-added.new.out c.evaluate-added.ensures.width
    (omega (arith, c.evaluate-added.auto.out, c.if-spare.false))

pub take_in_nested-slice_bounds-combine-end-2 : goal.take_in_nested-slice_bounds-combine-end-2
take_in_nested-slice_bounds-combine-end-2 t c = sym (length-take-le c.evaluate-added.result c.evaluate-added.new.out
    (within (widths_of c.args.signals.now) (widths_of c.args.ports.now) (plain c.args.operand.now)
    c.evaluate-added.result c.evaluate-added.new.out c.evaluate-added.ensures.width
    (omega (arith, c.evaluate-added.auto.out, c.if-spare.false))))

pub take_in_nested-combine-requires-clause-second : goal.take_in_nested-combine-requires-clause-second
take_in_nested-combine-requires-clause-second t c =
    let w = c.evaluate-added.result in
    let out = c.evaluate-added.new.out in
    let l = within (widths_of c.args.signals.now) (widths_of c.args.ports.now) (plain c.args.operand.now) w out c.evaluate-added.ensures.width
    (omega (arith, c.evaluate-added.auto.out, c.if-spare.false)) in
    subst IsWidth (sym (length-take-le w out l))
    (width-is_width (widths_of c.args.signals.now) (widths_of c.args.ports.now) (plain c.args.operand.now) w c.evaluate-added.ensures.width)

pub take_in_apart-slice_bounds-second-end : goal.take_in_apart-slice_bounds-second-end
take_in_apart-slice_bounds-second-end t c = within (widths_of c.args.signals.now) (widths_of c.args.ports.now) (plain c.args.operand.now)
    c.evaluate-added.result c.evaluate-added.new.out c.evaluate-added.ensures.width
    (omega (arith, c.evaluate-added.auto.out, c.room-second.ensures))

pub take_in_apart-combine-requires-clause-second : goal.take_in_apart-combine-requires-clause-second
take_in_apart-combine-requires-clause-second t c =
    let w = c.evaluate-added.result in
    let out = c.evaluate-added.new.out in
    let l = within (widths_of c.args.signals.now) (widths_of c.args.ports.now) (plain c.args.operand.now) w out c.evaluate-added.ensures.width
    (omega (arith, c.evaluate-added.auto.out, c.room-second.ensures)) in
    subst IsWidth (sym (length-take-le w out l))
    (width-is_width (widths_of c.args.signals.now) (widths_of c.args.ports.now) (plain c.args.operand.now) w c.evaluate-added.ensures.width)
