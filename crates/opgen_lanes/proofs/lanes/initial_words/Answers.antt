use Rattle.std.proofs.Common.{◌≡◌, ◌<◌, ◌≤◌, ◌+◌, All, length, take, get_or, sym, ap, ◌∙◌, subst, arith}
use Rattle.std.proofs.lemmas.List.{length-map, get_or-map}
use Rattle.opgen_streams.proofs.Rows.{length-words_in}
use Rattle.opgen_num.specs.declared.format.TheConstants.{MAX_WIDTH}
use Rattle.opgen_design.specs.Sound.{IsSignalWide}
use Rattle.opgen_lanes.specs.Banks.{widths_of, words_at}
use Rattle.opgen_lanes.proofs.Beginning.{narrow-signals, one-more, all-begun}
use Rattle.opgen_lanes.proofs.lanes.initial_words.Goals as goal

pub new-requires-clause-narrow : goal.new-requires-clause-narrow
new-requires-clause-narrow c = subst (λ ws. All (λ w. w ≤ MAX_WIDTH) ws) (sym (c.deref.ensures.value ∙ c.in_ok-widths.ensures))
    (narrow-signals c.args.signals.now c.requires.wide)

pub put_initial-requires-clause-wide : goal.put_initial-requires-clause-wide
put_initial-requires-clause-wide c =
    let s = c.index-signals-place.result in
    subst IsSignalWide (sym c.index-signals-place.is) (c.requires.wide c.loop-place.place s c.loop-place-test.true)

pub put_initial-requires-clause-place : goal.put_initial-requires-clause-place
put_initial-requires-clause-place c =
    let bank = c.loop-place.bank in
    omega (
      arith,
      c.loop-place-test.true,
      ap length c.loop-place.invariant.widths,
      length-map bank.places.items (λ p. p.width),
      length-map c.args.signals.now (λ s. s.width),
    )

pub put_initial-requires-clause-width : goal.put_initial-requires-clause-width
put_initial-requires-clause-width c =
    let i = c.loop-place.place in
    let s = c.index-signals-place.result in
    ap (λ ws. get_or ws i 0) c.loop-place.invariant.widths
    ∙ get_or-map (λ s. s.width) c.args.signals.now i s 0 c.loop-place-test.true
    ∙ ap (λ q. q.width) (sym c.index-signals-place.is)

pub loop-place-preserved : goal.loop-place-preserved
loop-place-preserved c =
    let ss = c.args.signals.now in
    let i = c.loop-place.place in
    let m = c.loop-place-test.true in
    let bank = c.loop-place.bank in
    record {
      bank = c.put_initial.ensures.bank;
      widths = c.put_initial.ensures.widths ∙ c.loop-place.invariant.widths;
      words = λ k h.
          let there : i < length (words_at bank k) = omega (
            arith,
            m,
            length-words_in (widths_of bank) bank.vectors.items k,
            ap length c.loop-place.invariant.widths,
            length-map ss (λ s. s.width),
          ) in
          ap (take (i + 1)) (c.put_initial.ensures.words k h)
          ∙ one-more ss (words_at bank k) i c.index-signals-place.result m c.index-signals-place.is there (c.loop-place.invariant.words k h);
    }

pub returns-clause-words : goal.returns-clause-words
returns-clause-words c = λ k h.
    let ss = c.args.signals.now in
    let bank = c.loop-place.bank in
    let n : length (words_at bank k) ≡ length ss = omega (
      arith,
      length-words_in (widths_of bank) bank.vectors.items k,
      ap length c.loop-place.invariant.widths,
      length-map ss (λ s. s.width),
    ) in
    all-begun ss (words_at bank k) c.loop-place.place c.loop-place-test.false n (c.loop-place.invariant.words k h)
