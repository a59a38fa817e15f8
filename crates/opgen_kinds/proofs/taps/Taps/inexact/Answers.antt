use Rattle.opgen_kinds.proofs.of_kind.Taps.{wide_taps}
use Rattle.opgen_kinds.proofs.taps.Taps.inexact.Goals as goal

pub first_inexact_of-requires-clause-coefs : goal.first_inexact_of-requires-clause-coefs
first_inexact_of-requires-clause-coefs c = rw c.as_slice.ensures (wide_taps c.args.self.now c.requires)
