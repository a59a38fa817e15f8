use Rattle.std.proofs.Common.{◌+◌, get_or, drop, sym, ap, ◌∙◌}
use Rattle.std.proofs.lemmas.List.{drop_more}
use Rattle.std.proofs.lemmas.Option.{slice_get-get_or}
use Rattle.opgen_runs.specs.Evaluate.{settle}
use Rattle.opgen_lanes.specs.Banks.{stream_words}
use Rattle.opgen_lanes.proofs.drivers.settle.Goals as goal

pub put-requires-clause-place : goal.put-requires-clause-place
put-requires-clause-place c =
    let order = c.args.order.now in
    let i = c.loop-place.place-index in
    c.requires.places i (get_or order i 0) (slice_get-get_or order i 0 c.loop-place-test.true)

pub loop-place-preserved : goal.loop-place-preserved
loop-place-preserved c =
    let drivers = c.args.design.now.drivers in
    let order = c.args.order.now in
    let i = c.loop-place.place-index in
    let banks = c.loop-place.banks in
    record {
      same = λ k h.
          ap (settle drivers (drop (i + 1) order)) (c.put.ensures.words k h)
          ∙ sym (ap (λ xs. settle drivers xs (stream_words banks.signals banks.ports k)) (drop_more order i 0 c.loop-place-test.true))
          ∙ c.loop-place.invariant.same k h;
      banks = c.put.ensures.banks;
    }
