use Rattle.std.proofs.Common.{◌≡◌, ◌+◌, ◌<◌, suc, length, drop, ap, ◌∙◌, arith}
use Rattle.opgen_runs.specs.Evaluate.{hand_all_on}
use Rattle.opgen_lanes.specs.Banks.{stream_words, words_at}
use Rattle.opgen_lanes.proofs.RegisterWords.{handed-one}
use Rattle.opgen_lanes.proofs.registers.hand_all_on.Goals as goal

pub loop-place-preserved : goal.loop-place-preserved
loop-place-preserved c =
    let d = c.args.design.now in
    let i = c.loop-place.place in
    let l : i < length d.drivers = omega (arith, c.loop-place-test.true, c.len-place-end.ensures) in
    let n : i + 1 ≡ suc i = omega arith in
    record {
      same = λ k h.
          let v = stream_words c.args.banks.now.signals c.args.banks.now.ports k in
          ap (λ j. hand_all_on d.enable (drop j d.drivers) v (words_at c.hand_on.new.next k)) n
          ∙ handed-one d.enable d.drivers i v (words_at c.loop-place.next k) (words_at c.hand_on.new.next k) l
          (λ m e. c.hand_on.ensures.words m e k h)
          ∙ c.loop-place.invariant.same k h;
      next = c.hand_on.ensures.next;
    }
