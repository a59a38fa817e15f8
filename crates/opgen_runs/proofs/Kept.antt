-- A cycle speaks of the words before it at registers alone.
use Rattle.std.proofs.Common.{◌≡◌, ℕ, Bool, List, get_or, Some, ap, ◌∙◌}
use Rattle.std.specs.Prelude.{slice_get}
use Rattle.std.proofs.lemmas.Option.{slice_get-get_or}
use Rattle.opgen_design.specs.declared.design.Design.{Design}
use Rattle.opgen_design.specs.declared.design.Driver.{Driver}
use Rattle.opgen_design.specs.declared.design.Driver.TheVariants.{Assign, Choice, Table, Register, Output}
use Rattle.opgen_design.specs.Run.{Words, scope, moved, Cycle, Meets}
use Rattle.opgen_design.specs.Value.{value}
use Rattle.opgen_runs.specs.Registers.{SameRegisters}

module _ (d : Design) (now others : List (List Bool)) (same : SameRegisters d now others) where
  meets-kept : (k : Driver) (i : ℕ) (v : Words) (next : List (List Bool)) → slice_get d.drivers i ≡ Some k → Meets d.enable now v next k
      → Meets d.enable others v next k
  meets-kept (Assign to e) i v next g m = m
  meets-kept (Choice to on one other) i v next g m = m
  meets-kept (Table to on rows other) i v next g m = m
  meets-kept (Register to e) i v next g m = (m.0 ∙ same i to e g, m.1 ∙ ap (moved d.enable v (value (scope v) e)) (same i to e g))
  meets-kept (Output place e) i v next g m = m

  pub cycle-kept : (given : List (List Bool)) (v : Words) (next : List (List Bool)) → Cycle d now given v next → Cycle d others given v next
  cycle-kept given v next h = record {
    signal_widths = h.signal_widths;
    port_widths = h.port_widths;
    inputs = h.inputs;
    equations = λ n x l. meets-kept (get_or d.drivers n x) n v next (slice_get-get_or d.drivers n x l) (h.equations n x l);
  }
