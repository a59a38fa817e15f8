-- The drivers of a design, evaluated one after another.
use Rattle.std.specs.Prelude.{ℕ, ◌≡◌, ◌<◌, Bool, List, [], ◌∷◌, map, length, slice_get, slice_set, Option, Some, None, unwrap_or}
use Rattle.opgen_num.specs.Words.{nat}
use Rattle.opgen_design.specs.declared.design.Design.{Design}
use Rattle.opgen_design.specs.declared.design.Driver.{Driver}
use Rattle.opgen_design.specs.declared.design.Driver.TheVariants.{Assign, Choice, Table, Register, Output}
use Rattle.opgen_design.specs.Run.{Words, scope, moved}
use Rattle.opgen_design.specs.declared.design.Target.{Target}
use Rattle.opgen_design.specs.declared.design.Target.TheVariants.{Signal as signal, Port as port_of}
use Rattle.opgen_design.specs.Sound.{target, signal_widths, port_widths}
use Rattle.opgen_design.specs.Value.{Scope, value, chosen, word_at}
use Rattle.opgen_runs.specs.Fitting.{Fits}
use Rattle.opgen_runs.specs.Tables.{Row, row_word}

-- the word of the first row of an address, and else the other word
abbrev pub table_word : List Row → (other address : List Bool) → List Bool
table_word rows other address = unwrap_or (row_word rows (nat address)) other

-- what a driver's right side says over words
abbrev pub driver_word : Scope → Driver → List Bool
driver_word s (Assign to e) = value s e
driver_word s (Choice to on one other) = chosen (value s on) (value s one) (value s other)
driver_word s (Table to on rows other) = table_word rows other (value s on)
driver_word s (Register to e) = value s e
driver_word s (Output place e) = value s e

-- the expressions of a driver have widths over words of their widths
abbrev pub DriverFits : (signals ports : List (List Bool)) → Driver → Type 0
DriverFits signals ports (Assign to e) = Fits signals ports e
DriverFits signals ports (Choice to on one other) = Fits signals ports on × Fits signals ports one × Fits signals ports other
DriverFits signals ports (Table to on rows other) = Fits signals ports on
DriverFits signals ports (Register to e) = Fits signals ports e
DriverFits signals ports (Output place e) = Fits signals ports e

abbrev pub put_at : Target → List Bool → Words → Words
put_at (signal s) w v = record { signals = slice_set v.signals s w; ports = v.ports }
put_at (port_of p) w v = record { signals = v.signals; ports = slice_set v.ports p w }

-- a driver's word stands at what it drives
abbrev pub put : Driver → Words → Words
put k v = put_at (target k) (driver_word (scope v) k) v

abbrev pub put_option : Option Driver → Words → Words
put_option None v = v
put_option (Some k) v = put k v

-- the drivers at these places, in order
abbrev pub settle : List Driver → List ℕ → Words → Words
settle drivers [] v = v
settle drivers (i ∷ order) v = settle drivers order (put_option (slice_get drivers i) v)

-- a word for each signal and each port of a design, of its width
pub record HaveWidths (d : Design) (v : Words) : Type 0 where
  pub signals : map length v.signals ≡ signal_widths d
  pub ports : map length v.ports ≡ port_widths d

-- what is driven is there
abbrev pub IsThere : Words → Target → Type 0
IsThere v (signal s) = s < length v.signals
IsThere v (port_of p) = p < length v.ports

-- a register's next word
abbrev pub hand_on : (enable : Option ℕ) → Driver → Words → List (List Bool) → List (List Bool)
hand_on enable (Register to e) v next = slice_set next to (moved enable v (value (scope v) e) (word_at v.signals to))
hand_on enable (Assign to e) v next = next
hand_on enable (Choice to on one other) v next = next
hand_on enable (Table to on rows other) v next = next
hand_on enable (Output place e) v next = next

abbrev pub hand_all_on : (enable : Option ℕ) → List Driver → Words → List (List Bool) → List (List Bool)
hand_all_on enable [] v next = next
hand_all_on enable (k ∷ ks) v next = hand_all_on enable ks v (hand_on enable k v next)
