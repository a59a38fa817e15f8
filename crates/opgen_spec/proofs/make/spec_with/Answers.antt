use Rattle.std.proofs.Common.{refl}
use Rattle.opgen_spec.specs.Spec.{spec_with}
use Rattle.opgen_entries.specs.kinds.{entry}
use Rattle.opgen_spec.proofs.make.spec_with.Goals as goal

pub returns : goal.returns
unfolding spec_with entry
returns c =
    rw (
      c.count_at.ensures,
      c.in_ok-texts.ensures.name,
      c.in_ok-op.ensures,
      c.flag_at.ensures,
      c.rounding_at.ensures,
      c.optional_count_at.ensures,
      c.optional_flag_at.ensures,
      c.overflow_at.ensures,
      c.in_ok-texts.ensures.target,
      c.count_at-2.ensures,
      c.in_ok-texts.ensures.delays,
    ) refl
