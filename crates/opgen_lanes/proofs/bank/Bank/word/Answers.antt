use Rattle.std.proofs.Common.{ap, ◌∙◌, length, drop, take, ◌+◌, ◌-◌, ◌≡◌, arith}
use Rattle.opgen_streams.specs.Streams.{word_in}
use Rattle.opgen_lanes.proofs.Places.{stands, word-stands}
use Rattle.opgen_lanes.proofs.bank.Bank.word.Goals as goal

pub overflow_add-result : goal.overflow_add-result
overflow_add-result c =
    let s = stands c.args.self.now c.args.at c.index-place.result.now c.requires.bank c.requires.at c.index-place.ensures in
    omega (arith, s.ends, c.args.self.now.vectors.ok.0, c.args.self.now.vectors.ok.1, c.args.self.now.vectors.small)

pub offset_bounds-deref-place : goal.offset_bounds-deref-place
offset_bounds-deref-place c =
    let s = stands c.args.self.now c.args.at c.index-place.result.now c.requires.bank c.requires.at c.index-place.ensures in
    omega (arith, s.ends, ap length c.deref.ensures.value)

pub slice_bounds-result-end : goal.slice_bounds-result-end
slice_bounds-result-end c =
    let s = stands c.args.self.now c.args.at c.index-place.result.now c.requires.bank c.requires.at c.index-place.ensures in
    omega (arith, s.ends, ap length c.deref.ensures.value)

pub returns-clause-word : goal.returns-clause-word
returns-clause-word c = λ k h.
    let p = c.index-place.result.now in
    let s = stands c.args.self.now c.args.at p c.requires.bank c.requires.at c.index-place.ensures in
    let n : p.start + p.width - p.start ≡ p.width = omega arith in
    ap (λ vs. word_in (take (p.start + p.width - p.start) (drop p.start vs)) k) c.deref.ensures.value
    ∙ word-stands c.args.self.now c.args.at p s (p.start + p.width - p.start) n k
