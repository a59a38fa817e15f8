use Rattle.std.proofs.Common.{◌∙◌, Ok, sym, ap, arith}
use Rattle.std.specs.Option.{option_map_or}
use Rattle.clap.specs.Words.{found_of, one_text}
use Rattle.clap.proofs.WalkLemmas.{one_text-rows}
use Rattle.opgen_command.specs.Command.{number_in}
use Rattle.opgen_command.proofs.Numbers.{number_found, none_found, no_number_found}
use Rattle.opgen_command.proofs.values.number.Goals as goal

pub returns-in-Ok-Some-clause-value : goal.returns-in-Ok-Some-clause-value
returns-in-Ok-Some-clause-value c =
    let text = one_text (found_of c.args.found.now) c.args.name.now in
    sym c.ok_or.ensures.ok_part ∙ c.within.ensures.value
    ∙ number_found c.args.least c.args.most (omega (arith, c.ranges.most.fits)) _ c.args.default text c.in-Ok-Some.number
    (λ e. sym (ap Ok c.in-Ok-Some.field-0-is) ∙ c.in-Ok-Some.ensures.none e)
    (λ t e. let said = rw c.in-Ok-Some.field-0-is at c.in-Ok-Some.ensures.value t e in said.0)
    ∙ ap (λ o. option_map_or (number_in c.args.least c.args.most) o c.args.default)
    (one_text-rows (found_of c.args.found.now) c.args.name.now)

pub returns-in-Ok-None-clause-value : goal.returns-in-Ok-None-clause-value
returns-in-Ok-None-clause-value c =
    let text = one_text (found_of c.args.found.now) c.args.name.now in
    sym c.ok_or-in-Ok-None.ensures.ok_part
    ∙ none_found c.args.least c.args.most c.args.default text (λ t e. rw c.in-Ok-None.field-0-is at c.in-Ok-None.ensures.value t e)
    ∙ ap (λ o. option_map_or (number_in c.args.least c.args.most) o c.args.default)
    (one_text-rows (found_of c.args.found.now) c.args.name.now)

pub returns-in-Err-clause-value : goal.returns-in-Err-clause-value
returns-in-Err-clause-value c =
    let text = one_text (found_of c.args.found.now) c.args.name.now in
    no_number_found c.args.least c.args.most (omega (arith, c.ranges.most.fits)) _ c.args.default text c.in-Err.field-0
    (λ e. c.in-Err.ensures.none e) (λ t e. (c.in-Err.ensures.value t e).0)
    ∙ ap (λ o. option_map_or (number_in c.args.least c.args.most) o c.args.default)
    (one_text-rows (found_of c.args.found.now) c.args.name.now)
