use Rattle.std.proofs.Common.{sym, ap, ◌∙◌, arith}
use Rattle.opgen_design.specs.Sound.{target}
use Rattle.opgen_runs.specs.Evaluate.{put_at, put_option}
use Rattle.opgen_runs.proofs.Widths.{agree-at}
use Rattle.opgen_lanes.specs.Banks.{stream_words}
use Rattle.opgen_lanes.proofs.DriverWords.{there-at, target-narrow, driven-word}
use Rattle.opgen_lanes.proofs.drivers.put.Goals as goal

pub put_at-requires-clause-there : goal.put_at-requires-clause-there
put_at-requires-clause-there c = there-at c.args.design.now c.args.banks.now.signals c.args.banks.now.ports c.requires.banks c.requires.sound
    c.args.place c.get.result.now c.get.ensures

pub put_at-requires-clause-room : goal.put_at-requires-clause-room
put_at-requires-clause-room c =
    let d = c.args.design.now in
    let s = c.args.banks.now.signals in
    let p = c.args.banks.now.ports in
    let k = c.get.result.now in
    let n = target-narrow d s p c.requires.banks c.requires.sound k
    (there-at d s p c.requires.banks c.requires.sound c.args.place k c.get.ensures)
    (agree-at d c.requires.sound c.args.place k c.get.ensures) in
    omega (arith, n, c.driver_word.auto.out, c.requires.room)

pub returns-clause-words : goal.returns-clause-words
returns-clause-words c = λ k h.
    let d = c.args.design.now in
    let s = c.args.banks.now.signals in
    let p = c.args.banks.now.ports in
    let m = c.get.result.now in
    let v = stream_words s p k in
    let e = driven-word d s p c.requires.banks c.requires.sound m (agree-at d c.requires.sound c.args.place m c.get.ensures)
    c.driver_word.result c.driver_word.new.out k (c.driver_word.ensures m c.get.ensures k h) in
    c.put_at.ensures.words k h
    ∙ ap (λ w. put_at (target m) w v) e
    ∙ sym (ap (λ o. put_option o v) c.get.ensures)
