use Rattle.std.proofs.Common.{ap, ◌∙◌, length, get_or, sum, take, drop, ◌++◌, ◌+◌, ◌-◌, ◌≡◌, arith}
use Rattle.std.specs.Prelude.{slice_set}
use Rattle.std.proofs.lemmas.List.{length-take-le, with_items_is}
use Rattle.opgen_streams.specs.Streams.{word_in, words_in}
use Rattle.opgen_lanes.specs.Banks.{widths_of, words_at}
use Rattle.opgen_lanes.proofs.Places.{stands, put_in, words-put, length-put_in}
use Rattle.opgen_lanes.proofs.bank.Bank.store.Goals as goal

pub overflow_add-place : goal.overflow_add-place
overflow_add-place c =
    let s = stands c.args.self.now c.args.at c.index-place.result.now c.requires.bank c.requires.at c.index-place.ensures in
    omega (arith, s.ends, c.args.self.now.vectors.ok.0, c.args.self.now.vectors.ok.1, c.args.self.now.vectors.small)

pub offset_bounds-deref_mut-place : goal.offset_bounds-deref_mut-place
offset_bounds-deref_mut-place c =
    let s = stands c.args.self.now c.args.at c.index-place.result.now c.requires.bank c.requires.at c.index-place.ensures in
    omega (arith, s.ends, ap length c.deref_mut.ensures.value)

pub slice_bounds-copy_from_slice-end : goal.slice_bounds-copy_from_slice-end
slice_bounds-copy_from_slice-end c =
    let s = stands c.args.self.now c.args.at c.index-place.result.now c.requires.bank c.requires.at c.index-place.ensures in
    omega (arith, s.ends, ap length c.deref_mut.ensures.value)

pub returns-clause-words : goal.returns-clause-words
returns-clause-words c = λ k h.
    let b = c.args.self.now in
    let p = c.index-place.result.now in
    let ws = widths_of b in
    let old = b.vectors.items in
    let at = c.args.at in
    let s = stands b at p c.requires.bank c.requires.at c.index-place.ensures in
    let ys = take p.width c.args.word.now in
    let w = get_or ws at 0 in
    let long : length ys ≡ p.width = length-take-le p.width c.args.word.now (omega (arith, c.requires.room, s.width)) in
    let n : p.start + p.width - p.start ≡ p.width = omega arith in
    let put = take p.start c.deref_mut.result.now
    ++ (c.copy_from_slice.new.self ++ drop (p.start + p.width - p.start) (drop p.start c.deref_mut.result.now)) in
    let e : put ≡ put_in p.start p.width old ys =
    ap (λ n. take p.start c.deref_mut.result.now ++ (c.copy_from_slice.new.self ++ drop n (drop p.start c.deref_mut.result.now))) n
    ∙ ap (λ xs. take p.start c.deref_mut.result.now ++ (xs ++ drop p.width (drop p.start c.deref_mut.result.now))) c.copy_from_slice.ensures.after
    ∙ ap (λ vs. put_in p.start p.width vs ys) c.deref_mut.ensures.value in
    let m : length put ≡ b.vectors.len = omega (arith, ap length e, length-put_in p.start p.width old ys s.ends long, b.vectors.ok.0) in
    ap (λ vs. words_in ws vs k) (with_items_is b.vectors put m ∙ e)
    ∙ ap (λ n. words_in ws (put_in n p.width old ys) k) s.start
    ∙ ap (λ n. words_in ws (put_in (sum (take at ws)) n old ys) k) s.width
    ∙ words-put ws old ys at k s.there (long ∙ s.width) s.within
    ∙ ap (λ n. slice_set (words_at b k) at (word_in (take n c.args.word.now) k)) s.width
