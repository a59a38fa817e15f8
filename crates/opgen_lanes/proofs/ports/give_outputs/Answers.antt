use Rattle.std.proofs.Common.{◌≡◌, ◌+◌, ℕ, ◌∷◌, [], ◌++◌, if◌then◌else◌, length, map, take, drop, get_or, refl, sum, sym, ap, ◌∙◌, subst, arith}
use Rattle.std.proofs.Math.ListN.{drop_of_length-le}
use Rattle.std.proofs.lemmas.List.{length-map}
use Rattle.opgen_streams.proofs.Rows.{length-words_in}
use Rattle.opgen_design.specs.Run.{at_ports, is_out}
use Rattle.opgen_streams.specs.Streams.{words_in}
use Rattle.opgen_lanes.specs.Banks.{widths_of, words_at}
use Rattle.opgen_lanes.proofs.PortWords.{Given, given-step, all-taken, widths-split, width-here, ports-more}
use Rattle.opgen_lanes.proofs.ports.give_outputs.Goals as goal

pub loop-place-preserved : goal.loop-place-preserved
loop-place-preserved c =
    let ps = c.args.ports.now in
    let i = c.loop-place.place in
    let p = c.index-ports-place.result in
    let m = c.loop-place-test.true in
    let e = c.index-ports-place.is in
    let at = c.loop-place.at in
    let outputs = c.loop-place.outputs in
    let bank = c.args.bank.now in
    let b = is_out p.dir in
    let widths = map (λ p. p.width) ps in
    let ws = at_ports is_out (take i ps) (take i widths) in
    let rest = at_ports is_out (drop (i + 1) ps) (drop (i + 1) widths) in
    let words : ℕ → _ = λ k. at_ports is_out (take i ps) (take i (words_at bank k)) in
    let word = c.word.result.now in
    let here = width-here ps i p m e in
    let w : get_or widths i 0 ≡ length word = sym (c.word.ensures.width ∙ ap (λ xs. get_or xs i 0) c.requires.widths) in
    let now = subst (λ r. Given ws r at outputs words) (widths-split ps i p m e is_out ∙ ap (λ n. if b then n ∷ rest else rest) (sym here ∙ w))
    c.loop-place.invariant in
    let s = given-step b ws (length word) rest at outputs word words refl now in
    let more : at_ports is_out (take (i + 1) ps) (take (i + 1) widths) ≡ ws ++ (if b then length word ∷ [] else []) =
    ports-more is_out ps widths i p 0 m e (sym (length-map ps (λ p. p.width)))
    ∙ ap (λ n. ws ++ (if b then n ∷ [] else [])) w in
    record {
      counted = c.give_one-at.ensures.at ∙ s.counted ∙ ap sum (sym more);
      room = ap (λ n. n + sum rest) c.give_one-at.ensures.at ∙ s.room ∙ ap length (sym c.give_one-at.ensures.outputs);
      same = λ k h.
          let n : length ps ≡ length (words_at bank k) = omega (
            arith,
            length-words_in (widths_of bank) bank.vectors.items k,
            ap length c.requires.widths,
            length-map ps (λ p. p.width),
          ) in
          ap (λ us. words_in us c.give_one-at.new.outputs k) more
          ∙ ap (λ vs. words_in (ws ++ (if b then length word ∷ [] else [])) vs k) c.give_one-at.ensures.outputs
          ∙ s.same k h
          ∙ ap (λ x. words k ++ (if b then x ∷ [] else [])) (c.word.ensures.word k h)
          ∙ sym (ports-more is_out ps (words_at bank k) i p [] m e n);
    }

pub returns-clause-words : goal.returns-clause-words
returns-clause-words c = λ k h.
    let ps = c.args.ports.now in
    let widths = map (λ p. p.width) ps in
    let bank = c.args.bank.now in
    let n : length ps ≡ length (words_at bank k) = omega (
      arith,
      length-words_in (widths_of bank) bank.vectors.items k,
      ap length c.requires.widths,
      length-map ps (λ p. p.width),
    ) in
    ap (λ us. words_in us c.loop-place.outputs k)
    (sym (all-taken is_out ps widths c.loop-place.place c.loop-place-test.false (sym (length-map ps (λ p. p.width)))))
    ∙ c.loop-place.invariant.same k h
    ∙ all-taken is_out ps (words_at bank k) c.loop-place.place c.loop-place-test.false n

pub returns-clause-length : goal.returns-clause-length
returns-clause-length c =
    let ps = c.args.ports.now in
    let widths = map (λ p. p.width) ps in
    let i = c.loop-place.place in
    let end = c.loop-place-test.false in
    let all = all-taken is_out ps widths i end (sym (length-map ps (λ p. p.width))) in
    let none : sum (at_ports is_out (drop i ps) (drop i widths)) ≡ 0 =
    ap (λ qs. sum (at_ports is_out qs (drop i widths))) (drop_of_length-le ps end) in
    omega (arith, c.loop-place.invariant.room, c.loop-place.invariant.counted, ap sum all, none, c.requires.room)
