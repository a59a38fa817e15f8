use Rattle.std.proofs.Common.{rules, sym, ◌∙◌}
use Rattle.opgen_io.proofs.Places.{found-place, found-absent}
use Rattle.opgen_io.proofs.memory.find.Goals as goal

pub returns-in_err-place : goal.returns-in_err-place
returns-in_err-place c =
    let absent = found-absent c.args.name.now c.args.files.now (sym c.place_of.ensures ∙ c.in_err-place.was) in
    rw absent (search rules)

pub returns : goal.returns
returns c =
    sym (found-place c.args.name.now c.args.files.now c.in_ok-place.place c.index-files-place.result
    (sym c.place_of.ensures ∙ c.in_ok-place.was))
