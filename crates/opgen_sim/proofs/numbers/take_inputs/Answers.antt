use Rattle.std.proofs.Common.{◌≡◌, ◌+◌, [], ◌∷◌, ◌++◌, if◌then◌else◌, take, drop, length, map, get_or, sym, ap, ◌∙◌, subst, arith}
use Rattle.std.proofs.lemmas.List.{length-map}
use Rattle.opgen_num.specs.Words.{word, words_of}
use Rattle.opgen_design.specs.Run.{at_ports, is_in}
use Rattle.opgen_lanes.proofs.PortWords.{ports-set}
use Rattle.opgen_sim.proofs.Ports.{Taken, taken-now, taken-room, taken-below, taken-step, widths-stay}
use Rattle.opgen_sim.proofs.numbers.take_inputs.Goals as goal

pub take_one-at-requires-clause-at : goal.take_one-at-requires-clause-at
take_one-at-requires-clause-at c =
    let ps = c.args.ports.now in
    let i = c.loop-place.place in
    let p = c.index-ports-place.result in
    let all = words_of (at_ports is_in ps (map (λ p. p.width) ps)) c.args.inputs.now in
    let front = at_ports is_in (take i ps) (take i c.loop-place.words) in
    taken-room (is_in p.dir) all front p.width (at_ports is_in (drop (i + 1) ps) (drop (i + 1) (map (λ p. p.width) ps))) c.loop-place.at
    c.args.inputs.now
    (taken-now ps i p c.loop-place-test.true c.index-ports-place.is all front (drop c.loop-place.at c.args.inputs.now)
    c.loop-place.invariant.taken)

pub take_one-at-requires-clause-fits : goal.take_one-at-requires-clause-fits
take_one-at-requires-clause-fits c =
    let ps = c.args.ports.now in
    let i = c.loop-place.place in
    let p = c.index-ports-place.result in
    let all = words_of (at_ports is_in ps (map (λ p. p.width) ps)) c.args.inputs.now in
    let front = at_ports is_in (take i ps) (take i c.loop-place.words) in
    taken-below (is_in p.dir) all front p.width (at_ports is_in (drop (i + 1) ps) (drop (i + 1) (map (λ p. p.width) ps))) c.loop-place.at
    c.args.inputs.now
    (taken-now ps i p c.loop-place-test.true c.index-ports-place.is all front (drop c.loop-place.at c.args.inputs.now)
    c.loop-place.invariant.taken)

pub loop-place-preserved : goal.loop-place-preserved
loop-place-preserved c =
    let ps = c.args.ports.now in
    let i = c.loop-place.place in
    let p = c.index-ports-place.result in
    let ws = c.loop-place.words in
    let ns = c.args.inputs.now in
    let at = c.loop-place.at in
    let all = words_of (at_ports is_in ps (map (λ p. p.width) ps)) ns in
    let front = at_ports is_in (take i ps) (take i ws) in
    let rest = at_ports is_in (drop (i + 1) ps) (drop (i + 1) (map (λ p. p.width) ps)) in
    let w = word p.width (get_or ns at 0) in
    let t = taken-step (is_in p.dir) all front p.width rest at ns
    (taken-now ps i p c.loop-place-test.true c.index-ports-place.is all front (drop at ns) c.loop-place.invariant.taken) in
    let same : length ws ≡ length ps = omega
    (arith, ap length c.loop-place.invariant.widths, length-map ws length, length-map ps (λ p. p.width)) in
    let f = ports-set is_in ps ws i p w c.loop-place-test.true c.index-ports-place.is (sym same) in
    let e : at_ports is_in (take (i + 1) ps) (take (i + 1) c.take_one-at.new.words) ≡ front ++ (if is_in p.dir then w ∷ [] else []) = ap
    (λ xs. at_ports is_in (take (i + 1) ps) (take (i + 1) xs)) c.take_one-at.ensures.words ∙ f in
    record {
      taken = subst (λ k. Taken all (at_ports is_in (take (i + 1) ps) (take (i + 1) c.take_one-at.new.words)) rest (drop k ns))
          (sym c.take_one-at.ensures.at) (subst (λ xs. Taken all xs rest (drop (if is_in p.dir then at + 1 else at) ns)) (sym e) t);
      widths = ap (map length) c.take_one-at.ensures.words
          ∙ widths-stay ps i p c.loop-place-test.true c.index-ports-place.is (is_in p.dir) ws (get_or ns at 0)
          c.loop-place.invariant.widths;
    }
