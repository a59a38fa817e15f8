-- What a walk over the drivers of a design holds, and the cycle that it runs.
use Rattle.std.specs.Prelude.{ℕ, ◌≡◌, Bool, List, length, map}
use Rattle.std.specs.HashMap.{HashMap}
use Rattle.opgen_design.specs.declared.design.Design.{Design}
use Rattle.opgen_design.specs.Order.{IsOrderOf}
use Rattle.opgen_design.specs.Run.{Words, Cycle, at_ports, is_in}
use Rattle.opgen_design.specs.Sound.{IsSound, signal_widths}
use Rattle.opgen_runs.specs.Evaluate.{HaveWidths}
use Rattle.opgen_sim.specs.Tables.{AreTables}

-- the words of the signals and of the ports
abbrev pub all_words : (signals ports : List (List Bool)) → Words
all_words signals ports = record { signals = signals; ports = ports }

-- a cycle of a design: the old words have its registers and inputs, the new ones are settled, and the next words are handed on
abbrev pub RunsCycle : Design → (old new : Words) → (next : List (List Bool)) → Type 0
RunsCycle d old new next = Cycle d old.signals (at_ports is_in d.ports old.ports) new next

-- what runs a sound design by its drivers: an order of evaluation, its tables by their addresses and all its room
pub record IsReady {S : Type 0} (d : Design) (places : List ℕ) (rows : List (HashMap ℕ (List Bool) S))
    (words next ports : List (List Bool)) : Type 0 where
  pub sound : IsSound d
  pub order : IsOrderOf d places
  pub tables : AreTables d.drivers rows
  pub widths : HaveWidths d (all_words words ports)
  pub room : map length next ≡ signal_widths d
