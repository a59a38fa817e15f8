use Rattle.std.proofs.Common.{◌≡◌, ◌<◌, ◌+◌, ◌-◌, get_or, ℕ, Bool, List, take, drop, refl, length, ap, sym, ◌∙◌, subst, arith}
use Rattle.opgen_design.specs.declared.expr.Expr.{Expr, Part}
use Rattle.opgen_design.specs.declared.expr.Slice.{Slice}
use Rattle.opgen_design.proofs.WidthLaws.{PartFits}
use Rattle.opgen_design.specs.Plain.{plain, plain_all}
use Rattle.std.specs.Prelude.{IsSome}
use Rattle.opgen_design.specs.declared.expr.Op.{Op}
use Rattle.opgen_design.specs.Value.{IsWidth, joined, width_on, chain_width, value, value_on, combined, word_at}
use Rattle.opgen_runs.specs.Fitting.{Fits, scope_of, widths_of}
use Rattle.opgen_runs.proofs.Plain.{plain-name, plain-part, plain-port, plain-not, more-at, first-and-rest}
use Rattle.opgen_runs.proofs.Fitting.{name-there, port-there, part-there, part-lies, narrow-at, value-is_width, Step, chain-start, chain-step}
use Rattle.opgen_runs.proofs.evaluate.+value.Goals as goal

pub value-word_at-requires : goal.value-word_at-requires
value-word_at-requires t c = name-there c.args.names.now c.args.ports.now (plain c.args.expr.now) c.in-Name.signal
    (ap plain c.in-Name.is ∙ plain-name c.in-Name.signal) c.requires.fits

in_part : (names ports : List (List Bool)) (x : Expr) (s : Slice) → x ≡ Part s → Fits names ports (plain x) → (v : ℕ)
    × PartFits s.high s.low (length (word_at names s.node)) v
in_part names ports x s is h = part-lies names ports (plain x) s.node s.high s.low (ap plain is ∙ plain-part s) h

pub value-word_at-requires-in-Part : goal.value-word_at-requires-in-Part
value-word_at-requires-in-Part t c =
    let s = c.in-Part.slice in
    part-there c.args.names.now c.args.ports.now (plain c.args.expr.now) s.node s.high s.low
    (ap plain c.in-Part.is ∙ plain-part s) c.requires.fits

pub value-cut-requires-clause-within : goal.value-cut-requires-clause-within
value-cut-requires-clause-within t c =
    let p = in_part c.args.names.now c.args.ports.now c.args.expr.now c.in-Part.slice c.in-Part.is c.requires.fits in
    omega (arith, p.1.within, ap length c.word_at-in-Part.ensures)

pub value-cut-requires-clause-width : goal.value-cut-requires-clause-width
value-cut-requires-clause-width t c =
    let s = c.in-Part.slice in
    let l = part-there c.args.names.now c.args.ports.now (plain c.args.expr.now) s.node s.high s.low
    (ap plain c.in-Part.is ∙ plain-part s) c.requires.fits in
    let n = narrow-at c.args.names.now s.node c.requires.narrow l in
    omega (arith, n, ap length c.word_at-in-Part.ensures)

pub value-cut-requires-clause-order : goal.value-cut-requires-clause-order
value-cut-requires-clause-order t c =
    let p = in_part c.args.names.now c.args.ports.now c.args.expr.now c.in-Part.slice c.in-Part.is c.requires.fits in
    p.1.in_order

pub value-word_at-requires-in-Port : goal.value-word_at-requires-in-Port
value-word_at-requires-in-Port t c = port-there c.args.names.now c.args.ports.now (plain c.args.expr.now) c.in-Port.place
    (ap plain c.in-Port.is ∙ plain-port c.in-Port.place) c.requires.fits

pub value-turned-requires : goal.value-turned-requires
value-turned-requires t c =
    let f : Fits c.args.names.now c.args.ports.now (plain c.in-Not.operand.value) = subst (Fits c.args.names.now c.args.ports.now)
    (ap plain c.in-Not.is ∙ plain-not c.in-Not.operand) c.requires.fits in
    let w = value-is_width c.args.names.now c.args.ports.now (plain c.in-Not.operand.value) f in
    let l = ap length (c.value.ensures ∙ ap (λ e. value (scope_of c.args.names.now c.args.ports.now) (plain e)) c.deref.ensures) in
    omega (arith, w.1, l)

pub chain_value-loop-operand-init : goal.chain_value-loop-operand-init
chain_value-loop-operand-init t c =
    let ns = widths_of c.args.names.now in
    let ps = widths_of c.args.ports.now in
    let xs = c.args.operands.now in
    let ts = plain_all (take (length xs - 1) (drop 1 xs)) in
    let split = first-and-rest xs c.first-item.result c.in-len1-up.len_at_least c.first-item.is in
    let f = chain-start c.args.names.now c.args.ports.now c.args.op (plain c.first-item.result) ts
    (subst (λ l. IsSome (chain_width ns ps c.args.op l)) split c.requires.fits) in
    record {
      value = refl;
      fits = subst (λ w. IsSome (width_on ns ps c.args.op (length w) ts)) (sym c.value-word.ensures) f.1;
      width = subst (λ w. IsWidth (length w)) (sym c.value-word.ensures)
          (value-is_width c.args.names.now c.args.ports.now (plain c.first-item.result) f.0);
    }

stepped : (names ports : List (List Bool)) (op : Op) (w : List Bool) (xs : List Expr) (i : ℕ) (x : Expr) → IsWidth (length w)
    → IsSome (width_on (widths_of names) (widths_of ports) op (length w) (plain_all (drop i xs))) → i < length xs → x ≡ get_or xs i x
    → Step names ports op w (plain x) (plain_all (drop (i + 1) xs))
stepped names ports op w xs i x k h l e = chain-step names ports op w (plain x) (plain_all (drop (i + 1) xs)) k
    (subst (λ ts. IsSome (width_on (widths_of names) (widths_of ports) op (length w) ts)) (more-at xs i x l e) h)

pub chain_value-combined-word-requires-clause-same : goal.chain_value-combined-word-requires-clause-same
chain_value-combined-word-requires-clause-same t c =
    let xs = c.args.operands.now in
    let s = stepped c.args.names.now c.args.ports.now c.args.op c.loop-operand.word
    (take (length xs - 1) (drop 1 xs)) c.loop-operand.operand-index c.operand-item.result c.loop-operand.invariant.width
    c.loop-operand.invariant.fits c.loop-operand-test.true c.operand-item.is in
    (s.joins.0, ap (λ v. joined c.args.op (length c.loop-operand.word) (length v)) c.value.ensures ∙ s.joins.1)

pub chain_value-loop-operand-preserved : goal.chain_value-loop-operand-preserved
chain_value-loop-operand-preserved t c =
    let ns = widths_of c.args.names.now in
    let ps = widths_of c.args.ports.now in
    let v = scope_of c.args.names.now c.args.ports.now in
    let xs = take (length c.args.operands.now - 1) (drop 1 c.args.operands.now) in
    let i = c.loop-operand.operand-index in
    let ts = plain_all (drop (i + 1) xs) in
    let s = stepped c.args.names.now c.args.ports.now c.args.op c.loop-operand.word xs i c.operand-item.result
    c.loop-operand.invariant.width c.loop-operand.invariant.fits c.loop-operand-test.true c.operand-item.is in
    let e : c.combined-word.result ≡ combined c.args.op c.loop-operand.word (value v (plain c.operand-item.result)) =
    c.combined-word.ensures ∙ ap (combined c.args.op c.loop-operand.word) c.value.ensures in
    record {
      value =
          ap (λ w. value_on v c.args.op w ts) e
          ∙ sym (ap (value_on v c.args.op c.loop-operand.word)
          (more-at xs i c.operand-item.result c.loop-operand-test.true c.operand-item.is))
          ∙ c.loop-operand.invariant.value;
      fits = subst (λ w. IsSome (width_on ns ps c.args.op (length w) ts)) (sym e) s.rest;
      width = subst (λ w. IsWidth (length w)) (sym e) s.is_width;
    }
