use Rattle.std.proofs.Common.{◌≡◌, ◌+◌, ◌-◌, ◌^◌, ◌&&◌, if◌then◌else◌, length, take, drop, get_or, [], ap, ◌∙◌, arith}
use Rattle.std.proofs.lemmas.List.{take_min, drop_min}
use Rattle.opgen_num.specs.Words.{nat}
use Rattle.opgen_streams.specs.Streams.{bit_in, word_in}
use Rattle.opgen_lanes.specs.Tables.{word_of}
use Rattle.opgen_lanes.proofs.TableWords.{halves, lower-word, upper-word, word-width}
use Rattle.opgen_lanes.proofs.tables.+put_rows.Goals as goal

pub put_pair-requires-then-top-eq0-clause-first : goal.put_pair-requires-then-top-eq0-clause-first
put_pair-requires-then-top-eq0-clause-first t c =
    ap length c.word_of-first.ensures ∙ word-width c.args.rows.now c.args.other 0 c.requires.words ∙ c.requires.other

pub put_pair-requires-then-top-eq0-clause-second : goal.put_pair-requires-then-top-eq0-clause-second
put_pair-requires-then-top-eq0-clause-second t c =
    ap length c.word_of-second.ensures ∙ word-width c.args.rows.now c.args.other 1 c.requires.words ∙ c.requires.other

pub returns : goal.returns
returns t c = λ k h.
    let rows = c.args.rows.now in
    let other = c.args.other in
    let address = c.args.address.now in
    let top = length address - 1 in
    let n : length address ≡ top + 1 = omega (arith, c.requires.some) in
    let here = bit_in c.args.here k in
    let high = bit_in (get_or address top []) k in
    let place = nat (word_in (take top address) k) in
    let last = word_in c.put_rows-2.new.out k in
    let mid = word_in c.put_rows.new.out k in
    let old = word_in c.args.out.now k in
    let lower = word_of c.split_at.result.0.now other place in
    let upper = word_of c.split_at.result.1.now other place in
    let front : c.split_at.result.0.now ≡ take (2 ^ top) rows =
    c.split_at.ensures.front ∙ ap (λ i. take i rows) c.count_below.ensures ∙ take_min (2 ^ top) rows in
    let back : c.split_at.result.1.now ≡ drop (2 ^ top) rows =
    c.split_at.ensures.back ∙ ap (λ i. drop i rows) c.count_below.ensures ∙ drop_min (2 ^ top) rows in
    halves here high last mid old lower upper (word_of rows other (nat (word_in address k)))
    (c.put_rows-2.ensures k h ∙ ap (λ b. if b then upper else mid) (c.both-2.ensures k h))
    (c.put_rows.ensures k h
    ∙ ap (λ b. if b then lower else old) (c.both.ensures k h ∙ ap (λ b. here && b) (c.turned.ensures k h)))
    (λ e. ap (λ rs. word_of rs other place) front ∙ lower-word rows other address top k n e)
    (λ e. ap (λ rs. word_of rs other place) back ∙ upper-word rows other address top k n e)
