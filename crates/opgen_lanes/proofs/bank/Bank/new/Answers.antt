use Rattle.std.proofs.Common.{ap, ◌∙◌, sym, map, ◌≡◌, sum, arith}
use Rattle.opgen_lanes.specs.Banks.{places_from}
use Rattle.opgen_lanes.proofs.Places.{sum-narrow, widths-places, all-placed}
use Rattle.opgen_lanes.proofs.bank.Bank.new.Goals as goal

pub overflow_add-start : goal.overflow_add-start
overflow_add-start c = omega (
  arith,
  c.requires.narrow c.loop-width.width-index 0 c.loop-width-test.true,
  sum-narrow c.args.widths.now c.requires.narrow,
  c.loop-width.invariant.total,
  c.requires.few,
)

pub returns-clause-bank : goal.returns-clause-bank
returns-clause-bank c =
    let ws = c.args.widths.now in
    let all = all-placed ws c.loop-width.places.items c.loop-width.start c.loop-width.width-index c.loop-width.invariant.places
    c.loop-width.invariant.total c.loop-width-test.false in
    let e : map (λ p. p.width) c.loop-width.places.items ≡ ws = ap (map (λ p. p.width)) all.0 ∙ widths-places 0 ws in
    record {
      places = all.0 ∙ ap (places_from 0) (sym e);
      room = sym c.in_ok-vectors.vectors.ok.0 ∙ c.in_ok-vectors.ensures.len ∙ all.1 ∙ ap sum (sym e);
    }

pub returns-clause-widths : goal.returns-clause-widths
returns-clause-widths c =
    let ws = c.args.widths.now in
    let all = all-placed ws c.loop-width.places.items c.loop-width.start c.loop-width.width-index c.loop-width.invariant.places
    c.loop-width.invariant.total c.loop-width-test.false in
    ap (map (λ p. p.width)) all.0 ∙ widths-places 0 ws
