use Rattle.std.proofs.Common.{◌≡◌, ◌+◌, ℕ, ◌∷◌, [], ◌++◌, if◌then◌else◌, length, map, take, drop, refl, sym, ap, ◌∙◌, subst, arith}
use Rattle.std.proofs.lemmas.List.{length-map}
use Rattle.opgen_streams.proofs.Rows.{length-words_in}
use Rattle.opgen_design.specs.Run.{at_ports, is_in}
use Rattle.opgen_streams.specs.Streams.{word_in, words_in}
use Rattle.opgen_lanes.specs.Banks.{widths_of, words_at}
use Rattle.opgen_lanes.proofs.PortWords.{Taken, taken-room, taken-step, taken-all, widths-split, ports-set}
use Rattle.opgen_lanes.proofs.ports.take_inputs.Goals as goal

pub take_one-at-requires-clause-at : goal.take_one-at-requires-clause-at
take_one-at-requires-clause-at c =
    let ps = c.args.ports.now in
    let i = c.loop-place.place in
    let p = c.index-ports-place.result in
    let all = at_ports is_in ps (map (λ p. p.width) ps) in
    let front : ℕ → _ = λ k. at_ports is_in (take i ps) (take i (words_at c.loop-place.bank k)) in
    taken-room (is_in p.dir) all c.args.inputs.now p.width (at_ports is_in (drop (i + 1) ps) (drop (i + 1) (map (λ p. p.width) ps)))
    c.loop-place.at front
    (subst (λ r. Taken all c.args.inputs.now r c.loop-place.at front)
    (widths-split ps i p c.loop-place-test.true c.index-ports-place.is is_in) c.loop-place.invariant.taken)

pub loop-place-preserved : goal.loop-place-preserved
loop-place-preserved c =
    let ps = c.args.ports.now in
    let i = c.loop-place.place in
    let p = c.index-ports-place.result in
    let m = c.loop-place-test.true in
    let e = c.index-ports-place.is in
    let at = c.loop-place.at in
    let inputs = c.args.inputs.now in
    let bank = c.loop-place.bank in
    let widths = map (λ p. p.width) ps in
    let all = at_ports is_in ps widths in
    let rest = at_ports is_in (drop (i + 1) ps) (drop (i + 1) widths) in
    let front : ℕ → _ = λ k. at_ports is_in (take i ps) (take i (words_at bank k)) in
    let here : ℕ → _ = λ k. word_in (take p.width (drop at inputs)) k in
    let s = taken-step (is_in p.dir) all inputs p.width rest at front
    (subst (λ r. Taken all inputs r at front) (widths-split ps i p m e is_in) c.loop-place.invariant.taken) in
    let t = subst (λ n. Taken all inputs rest n (λ k. front k ++ (if is_in p.dir then here k ∷ [] else [])))
    (sym c.take_one-at.ensures.at) s in
    record {
      taken = record {
        whole = λ k h.
            let n : length ps ≡ length (words_at bank k) = omega (
              arith,
              length-words_in (widths_of bank) bank.vectors.items k,
              ap length c.loop-place.invariant.widths,
              length-map ps (λ p. p.width),
            ) in
            ap (λ ws. at_ports is_in (take (i + 1) ps) (take (i + 1) ws) ++ words_in rest (drop c.take_one-at.result inputs) k)
            (c.take_one-at.ensures.words k h)
            ∙ ap (λ f. f ++ words_in rest (drop c.take_one-at.result inputs) k) (ports-set is_in ps (words_at bank k) i p (here k) m e n)
            ∙ t.whole k h;
        room = t.room;
      };
      bank = c.take_one-at.ensures.bank;
      widths = c.take_one-at.ensures.widths ∙ c.loop-place.invariant.widths;
    }

pub returns-clause-inputs : goal.returns-clause-inputs
returns-clause-inputs c = λ k h.
    let ps = c.args.ports.now in
    let bank = c.loop-place.bank in
    let n : length ps ≡ length (words_at bank k) = omega (
      arith,
      length-words_in (widths_of bank) bank.vectors.items k,
      ap length c.loop-place.invariant.widths,
      length-map ps (λ p. p.width),
    ) in
    taken-all is_in ps (words_at bank k) c.loop-place.place c.loop-place-test.false n
    (λ rest. words_in rest (drop c.loop-place.at c.args.inputs.now) k) (map (λ p. p.width) ps) refl ∙ c.loop-place.invariant.taken.whole k h
