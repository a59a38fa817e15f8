use Rattle.std.proofs.Common.{◌≡◌, ◌+◌, ◌-◌, ◌^◌, ◌≤◌, ℕ, [], ◌∷◌, ◌++◌, length, take, drop, Some, refl, sym, ap, ◌∙◌, subst, arith, rules, List, Result}
use Rattle.std.specs.Prelude.{IfOk, IsSome}
use Rattle.std.proofs.Math.ListN.{drop_of_length-le}
use Rattle.opgen_design.specs.Tree.{Tree, bits, inverse, more, name, part, port}
use Rattle.opgen_design.specs.Plain.{plain, plain_all}
use Rattle.opgen_design.specs.Value.{chain_width}
use Rattle.opgen_design.proofs.WidthLaws.{joined-is_width, width-is_width}
use Rattle.opgen_runs.proofs.Plain.{plain-bits, plain-name, plain-not, plain-part, plain-port, more-at, first-and-rest}
use Rattle.opgen_machine.specs.Layout.{spots_of}
use Rattle.opgen_machine.specs.declared.step.Step.{Step}
use Rattle.opgen_machine.specs.declared.step.Step.TheVariants.{Turn}
use Rattle.opgen_machine.specs.declared.step.Spot.{Spot}
use Rattle.opgen_machine.specs.Programs.{Spots, widths_of}
use Rattle.opgen_machine.specs.Emit.{Emitted, Chained, IsNarrow, width_over}
use Rattle.opgen_machine.proofs.Emitted.{emitted-not, chained-first, chained-more, chained-last}
use Rattle.opgen_machine.proofs.Gives.{spots-along, there-along}
use Rattle.opgen_machine.proofs.Narrow.{narrow-of, narrow-some, chain-first, chain-rest, chain-join}
use Rattle.opgen_machine.proofs.Puts.{put-gives}
use Rattle.opgen_machine.proofs.expression.+emit.Goals as goal

turned-narrow : (spots : Spots) (t e : Tree) (w : ℕ) → inverse e ≡ t → IsNarrow (width_over spots t) → width_over spots e ≡ Some w → w ≤ 64
turned-narrow spots t e w is h k =
    let n = narrow-of (width_over spots (inverse e)) (subst (λ x. IsNarrow (width_over spots x)) (sym is) h) in
    let s : Some n.0 ≡ Some w = sym n.1 ∙ k in
    let same : n.0 ≡ w = cc in
    omega (arith, same, n.2)

as-some : (spots : Spots) (t e : Tree) → t ≡ e → IsNarrow (width_over spots t) → IsSome (width_over spots e)
as-some spots t e is h = narrow-some (width_over spots e) (subst (λ x. IsNarrow (width_over spots x)) is h)

as-plain : (base : ℕ) (spots : Spots) (t e : Tree) (old new : List Step) {E : Type 0} (r : Result Spot E) → t ≡ e
    → IfOk r (λ s. Emitted base spots e old new s) → IfOk r (λ s. Emitted base spots t old new s)
as-plain base spots t e old new r is h = subst (λ x. IfOk r (λ s. Emitted base spots x old new s)) (sym is) h

pub emit-name-requires-clause-fits : goal.emit-name-requires-clause-fits
emit-name-requires-clause-fits t c = as-some (spots_of c.args.spots.now) (plain c.args.expr.now) (name c.in-Name.node)
    (ap plain c.in-Name.is ∙ plain-name c.in-Name.node) c.requires.fits

pub emit-returns-in-Name : goal.emit-returns-in-Name
emit-returns-in-Name t c =
    let old = c.args.steps.now.items in
    subst (λ x. Emitted c.args.base (spots_of c.args.spots.now) x old old c.name.result)
    (sym (ap plain c.in-Name.is ∙ plain-name c.in-Name.node)) c.name.ensures

pub emit-port-requires-clause-fits : goal.emit-port-requires-clause-fits
emit-port-requires-clause-fits t c = as-some (spots_of c.args.spots.now) (plain c.args.expr.now) (port c.in-Port.place)
    (ap plain c.in-Port.is ∙ plain-port c.in-Port.place) c.requires.fits

pub emit-returns-in-Port : goal.emit-returns-in-Port
emit-returns-in-Port t c =
    let old = c.args.steps.now.items in
    subst (λ x. Emitted c.args.base (spots_of c.args.spots.now) x old old c.port.result)
    (sym (ap plain c.in-Port.is ∙ plain-port c.in-Port.place)) c.port.ensures

pub emit-emit_part-requires-clause-fits : goal.emit-emit_part-requires-clause-fits
emit-emit_part-requires-clause-fits t c =
    let s = c.in-Part.slice in
    as-some (spots_of c.args.spots.now) (plain c.args.expr.now) (part s.node s.high s.low) (ap plain c.in-Part.is ∙ plain-part s)
    c.requires.fits

pub emit-returns-in-Part : goal.emit-returns-in-Part
emit-returns-in-Part t c =
    let s = c.in-Part.slice in
    as-plain c.args.base (spots_of c.args.spots.now) (plain c.args.expr.now) (part s.node s.high s.low) c.args.steps.now.items
    c.emit_part.new.steps.items c.emit_part.result (ap plain c.in-Part.is ∙ plain-part s) c.emit_part.ensures

pub emit-constant-requires-clause-fits : goal.emit-constant-requires-clause-fits
emit-constant-requires-clause-fits t c = subst (λ x. IsNarrow (width_over (spots_of c.args.spots.now) x))
    (ap plain c.in-Bits.is ∙ plain-bits c.in-Bits.word) c.requires.fits

pub emit-returns-in-Bits : goal.emit-returns-in-Bits
emit-returns-in-Bits t c =
    let w = c.in-Bits.word in
    as-plain c.args.base (spots_of c.args.spots.now) (plain c.args.expr.now) (bits w) c.args.steps.now.items c.constant.new.steps.items
    c.constant.result (ap plain c.in-Bits.is ∙ plain-bits w) c.constant.ensures

pub emit-emit_not-requires-clause-width : goal.emit-emit_not-requires-clause-width
emit-emit_not-requires-clause-width t c =
    let spots : Spots = spots_of c.args.spots.now in
    turned-narrow spots (plain c.args.expr.now) (plain c.deref.result.now) c.in_ok-of-in-Not.of.width
    (ap (λ x. inverse (plain x)) c.deref.ensures ∙ sym (ap plain c.in-Not.is ∙ plain-not c.in-Not.operand)) c.requires.fits
    c.in_ok-of-in-Not.ensures.width

pub emit-returns-in_ok-of-in-Not : goal.emit-returns-in_ok-of-in-Not
emit-returns-in_ok-of-in-Not t c =
    let base = c.args.base in
    let spots : Spots = spots_of c.args.spots.now in
    let before = c.args.steps.now.items in
    let after = c.emit.new.steps.items in
    let of = c.in_ok-of-in-Not.of in
    let e = plain c.deref.result.now in
    let is : inverse e ≡ plain c.args.expr.now = ap (λ x. inverse (plain x)) c.deref.ensures
    ∙ sym (ap plain c.in-Not.is ∙ plain-not c.in-Not.operand) in
    let narrow = turned-narrow spots (plain c.args.expr.now) e of.width is c.requires.fits c.in_ok-of-in-Not.ensures.width in
    put-gives c.emit_not.result (Emitted base spots (plain c.args.expr.now) before) after c.emit_not.new.steps.items
    (Turn of.place (2 ^ of.width - 1)) (Turn of.place (2 ^ of.width - 1)) (base + length after) of.width of.width
    c.emit_not.ensures.steps c.emit_not.ensures.spot refl refl
    (subst (λ x. Emitted base spots x before (after ++ Turn of.place (2 ^ of.width - 1) ∷ [])
    (record { place = base + length after; width = of.width })) is
    (emitted-not base spots e before after of c.requires.spots c.in_ok-of-in-Not.ensures narrow))

pub emit_chain-emit-requires : goal.emit_chain-emit-requires
emit_chain-emit-requires t c =
    let xs = c.args.operands.now in
    let narrow = chain-first (widths_of c.args.spots.now.signals.items) (widths_of c.args.spots.now.ports.items) c.args.op xs c.first-item.result
    c.in-len1-up.len_at_least c.first-item.is c.requires.fits in
    (search rules, (c.requires.base, (c.requires.spots, (c.requires.fine, narrow))))

pub emit_chain-loop-operand-init : goal.emit_chain-loop-operand-init
emit_chain-loop-operand-init t c =
    let base = c.args.base in
    let spots : Spots = spots_of c.args.spots.now in
    let ns = widths_of spots.signals in
    let ps = widths_of spots.ports in
    let before = c.args.steps.now.items in
    let after = c.emit.new.steps.items in
    let spot = c.in_ok-spot-in-len1-up.spot in
    let xs = c.args.operands.now in
    let x = c.first-item.result in
    let ts = plain_all (take (length xs - 1) (drop 1 xs)) in
    let split : plain_all xs ≡ more (plain x) ts = first-and-rest xs x c.in-len1-up.len_at_least c.first-item.is in
    let some = narrow-some (chain_width ns ps c.args.op (more (plain x) ts))
    (subst (λ all. IsNarrow (chain_width ns ps c.args.op all)) split c.requires.fits) in
    let first = chained-first base spots c.args.op before (plain x) ts after spot c.in_ok-spot-in-len1-up.ensures some in
    let h = subst IsNarrow (sym first.width) (subst (λ all. IsNarrow (chain_width ns ps c.args.op all)) split c.requires.fits) in
    record {
      chained = subst (λ all. Chained base spots c.args.op all before after spot ts) (sym split) first;
      narrow = chain-rest ns ps c.args.op spot.width (take (length xs - 1) (drop 1 xs)) h;
      are = spots-along base spots before after c.requires.spots c.in_ok-spot-in-len1-up.ensures.extends;
    }

pub emit_chain-combine-requires-clause-fine : goal.emit_chain-combine-requires-clause-fine
emit_chain-combine-requires-clause-fine t c = c.in_ok-second-in-len1-up.ensures.fine

pub emit_chain-combine-requires-clause-first : goal.emit_chain-combine-requires-clause-first
emit_chain-combine-requires-clause-first t c = there-along c.args.base c.loop-operand.spot.place c.loop-operand.steps.items
    c.emit-in-loop-operand.new.steps.items c.in_ok-second-in-len1-up.ensures.extends c.loop-operand.invariant.chained.gives.there

pub emit_chain-combine-requires-clause-joins : goal.emit_chain-combine-requires-clause-joins
emit_chain-combine-requires-clause-joins t c =
    let ns = widths_of c.args.spots.now.signals.items in
    let ps = widths_of c.args.spots.now.ports.items in
    let op = c.args.op in
    let all = plain_all c.args.operands.now in
    let xs = take (length c.args.operands.now - 1) (drop 1 c.args.operands.now) in
    let h = subst IsNarrow (sym c.loop-operand.invariant.chained.width) c.requires.fits in
    chain-join ns ps op c.loop-operand.spot.width c.in_ok-second-in-len1-up.second.width xs c.loop-operand.operand-index
    c.operand-item.result c.loop-operand-test.true c.operand-item.is h c.in_ok-second-in-len1-up.ensures.width

pub emit_chain-combine-requires-clause-second_width : goal.emit_chain-combine-requires-clause-second_width
emit_chain-combine-requires-clause-second_width t c =
    width-is_width (widths_of c.args.spots.now.signals.items) (widths_of c.args.spots.now.ports.items) (plain c.operand-item.result)
    c.in_ok-second-in-len1-up.second.width c.in_ok-second-in-len1-up.ensures.width

pub emit_chain-loop-operand-preserved : goal.emit_chain-loop-operand-preserved
emit_chain-loop-operand-preserved t c =
    let base = c.args.base in
    let spots : Spots = spots_of c.args.spots.now in
    let op = c.args.op in
    let before = c.args.steps.now.items in
    let mid = c.loop-operand.steps.items in
    let acc = c.loop-operand.spot in
    let second = c.in_ok-second-in-len1-up.second in
    let last = c.in_ok-spot-in-len1-up-2.spot in
    let all = plain_all c.args.operands.now in
    let xs = take (length c.args.operands.now - 1) (drop 1 c.args.operands.now) in
    let i = c.loop-operand.operand-index in
    let x = c.operand-item.result in
    let ts = plain_all (drop (i + 1) xs) in
    let two = c.emit-in-loop-operand.new.steps.items in
    let are = spots-along base spots mid two c.loop-operand.invariant.are c.in_ok-second-in-len1-up.ensures.extends in
    let together = c.in_ok-spot-in-len1-up-2.ensures spots are in
    record {
      chained = chained-more base spots op before all mid two c.combine.new.steps.items acc second last
          (plain x) ts
          c.loop-operand.invariant.are
          (subst (Chained base spots op all before mid acc) (more-at xs i x c.loop-operand-test.true c.operand-item.is)
          c.loop-operand.invariant.chained)
          c.in_ok-second-in-len1-up.ensures together
          (joined-is_width op acc.width second.width last.width c.loop-operand.invariant.chained.is_width together.width);
      narrow = c.loop-operand.invariant.narrow;
      are = spots-along base spots two c.combine.new.steps.items are together.extends;
    }

pub emit_chain-returns : goal.emit_chain-returns
emit_chain-returns t c =
    let spots : Spots = spots_of c.args.spots.now in
    let xs = take (length c.args.operands.now - 1) (drop 1 c.args.operands.now) in
    let i = c.loop-operand.operand-index in
    let l : length xs ≤ i = omega (arith, c.loop-operand-test.false) in
    let all = plain_all c.args.operands.now in
    chained-last c.args.base spots c.args.op c.args.steps.now.items all c.loop-operand.steps.items c.loop-operand.spot
    (subst (λ ts. Chained c.args.base spots c.args.op all c.args.steps.now.items c.loop-operand.steps.items c.loop-operand.spot ts)
    (ap plain_all (drop_of_length-le xs l)) c.loop-operand.invariant.chained)
