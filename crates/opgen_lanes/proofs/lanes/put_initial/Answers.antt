use Rattle.std.proofs.Common.{◌≡◌, ◌++◌, length, take, drop, get_or, sym, ap, ◌∙◌, arith}
use Rattle.std.specs.Prelude.{slice_set}
use Rattle.std.proofs.lemmas.List.{length-take-le, take_at}
use Rattle.opgen_runs.proofs.Starts.{start}
use Rattle.opgen_streams.specs.Streams.{word_in}
use Rattle.opgen_lanes.specs.Banks.{widths_of, words_at}
use Rattle.opgen_lanes.proofs.Beginning.{initial-narrow}
use Rattle.opgen_lanes.proofs.lanes.put_initial.Goals as goal

pub slice_bounds-vectors-end : goal.slice_bounds-vectors-end
slice_bounds-vectors-end c =
    let n = initial-narrow c.args.signal.now c.requires.wide c.initial_word-word.result c.initial_word-word.ensures in
    omega (arith, n.same, n.narrow, c.width.ensures, c.room-vectors.ensures)

pub slice_bounds-write-end : goal.slice_bounds-write-end
slice_bounds-write-end c =
    let n = initial-narrow c.args.signal.now c.requires.wide c.initial_word-word.result c.initial_word-word.ensures in
    sym (length-take-le c.width.result c.room-vectors.result (omega (arith, n.same, n.narrow, c.width.ensures, c.room-vectors.ensures)))

pub write-requires-clause-same : goal.write-requires-clause-same
write-requires-clause-same c =
    let n = initial-narrow c.args.signal.now c.requires.wide c.initial_word-word.result c.initial_word-word.ensures in
    sym c.width.ensures
    ∙ sym (length-take-le c.width.result c.room-vectors.result (omega (arith, n.same, n.narrow, c.width.ensures, c.room-vectors.ensures)))

pub write-requires-clause-width : goal.write-requires-clause-width
write-requires-clause-width c =
    let n = initial-narrow c.args.signal.now c.requires.wide c.initial_word-word.result c.initial_word-word.ensures in
    omega (arith, n.same, n.narrow)

pub returns-clause-words : goal.returns-clause-words
returns-clause-words c = λ k h.
    let s = c.args.signal.now in
    let bank = c.args.bank.now in
    let w = c.width.result in
    let vectors = c.room-vectors.result in
    let n = initial-narrow s c.requires.wide c.initial_word-word.result c.initial_word-word.ensures in
    let l = length-take-le w vectors (omega (arith, n.same, n.narrow, c.width.ensures, c.room-vectors.ensures)) in
    let long : length c.write.new.vectors ≡ w = c.write.auto.vectors ∙ l in
    let here : get_or (widths_of bank) c.args.place 0 ≡ w = c.requires.width ∙ sym n.same ∙ sym c.width.ensures in
    let is : word_in (take (get_or (widths_of bank) c.args.place 0) (c.write.new.vectors ++ drop w vectors)) k ≡ start s =
    ap (λ j. word_in (take j (c.write.new.vectors ++ drop w vectors)) k) here
    ∙ ap (λ xs. word_in xs k) (take_at c.write.new.vectors (drop w vectors) w long)
    ∙ c.write.ensures k h
    ∙ c.initial_word-word.ensures in
    c.store.ensures.words k h ∙ ap (slice_set (words_at bank k) c.args.place) is
