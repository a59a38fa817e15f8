use Rattle.std.proofs.Common.{◌∙◌}
use Rattle.std.specs.Str.{bytes_eq}
use Rattle.opgen_entries.specs.kinds.Sop.{name_in}
use Rattle.opgen_entries.proofs.InputNames.{position_view}
use Rattle.opgen_entries.proofs.kinds.sop.input_named.Goals as goal

pub returns-clause-value : goal.returns-clause-value
returns-clause-value c =
    c.place_named.ensures.value ∙ position_view (λ d. bytes_eq (name_in d) c.args.name.now) c.args.inputs.now
