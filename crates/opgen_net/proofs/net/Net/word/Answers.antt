use Rattle.std.proofs.Common.{◌∙◌}
use Rattle.opgen_net.specs.Valid.{widths}
use Rattle.opgen_net.proofs.WordLaws.{word-fits, runs-all_there, word-has_bits, word-found_width}
use Rattle.opgen_net.proofs.net.Net.word.Goals as goal

pub word_of_runs-requires-clause-there : goal.word_of_runs-requires-clause-there
word_of_runs-requires-clause-there c =
    let found = c.deref.ensures.value ∙ c.in_ok-found.ensures in
    rw found (runs-all_there (widths c.args.self.now.nodes) c.args.bits.now c.requires.there)

pub word_of_runs-requires-clause-fits : goal.word_of_runs-requires-clause-fits
word_of_runs-requires-clause-fits c =
    let found = c.deref.ensures.value ∙ c.in_ok-found.ensures in
    rw found (word-fits (widths c.args.self.now.nodes) c.args.bits.now c.requires.width c.requires.there)

pub returns-clause-bits : goal.returns-clause-bits
returns-clause-bits c =
    let found = c.deref.ensures.value ∙ c.in_ok-found.ensures in
    let ok = c.in_ok-place.ensures.ok in
    let place = c.in_ok-place.ensures.place in
    rw (ok, place, found) (word-has_bits c.args.self.now c.requires.net c.args.bits.now c.requires.there)

pub returns-clause-width : goal.returns-clause-width
returns-clause-width c =
    let found = c.deref.ensures.value ∙ c.in_ok-found.ensures in
    rw (c.in_ok-place.ensures.ok, c.in_ok-place.ensures.place, found)
    (word-found_width c.args.self.now c.requires.net c.args.bits.now c.requires.there)
