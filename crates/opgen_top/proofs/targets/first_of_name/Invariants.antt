use Rattle.std.proofs.Common.{◌≡◌, vec_len}
use Rattle.std.specs.Prelude.{find}
use Rattle.std.specs.Str.{bytes_eq}
use Rattle.opgen_top.proofs.targets.first_of_name.Given as goal

abbrev pub invariant-loop-targets : goal.invariant-loop-targets
invariant-loop-targets g l =
    find (λ t. bytes_eq ((goal.Target-dyn g (t.vtable, t.value)).target_name t.value) l.name) l.targets.items
    ≡ find (λ t. bytes_eq ((goal.Target-dyn g (t.vtable, t.value)).target_name t.value) l.name) l.initial.targets.items

abbrev pub decreases-loop-targets : goal.decreases-loop-targets
decreases-loop-targets g l = vec_len l.targets
