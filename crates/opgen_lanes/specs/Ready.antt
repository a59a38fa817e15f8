-- What runs a design in each stream.
use Rattle.std.specs.Prelude.{ℕ, ◌≡◌, List}
use Rattle.opgen_design.specs.declared.design.Design.{Design}
use Rattle.opgen_design.specs.Order.{IsOrderOf}
use Rattle.opgen_design.specs.Sound.{IsSound, port_widths, signal_widths}
use Rattle.opgen_lanes.specs.declared.bank.Bank.{Bank}
use Rattle.opgen_lanes.specs.Banks.{IsBank, widths_of}

-- a vector for each bit of a design's signals, and of its ports
pub record AreBanksOf (d : Design) (names places : Bank) : Type 0 where
  pub signals : IsBank names
  pub ports : IsBank places
  pub signal_widths : widths_of names ≡ signal_widths d
  pub port_widths : widths_of places ≡ port_widths d

-- a sound design with an order of evaluation and all its room
pub record IsReady (d : Design) (drivers : List ℕ) (names places ahead : Bank) : Type 0 where
  pub sound : IsSound d
  pub order : IsOrderOf d drivers
  pub banks : AreBanksOf d names places
  pub next : AreBanksOf d ahead places
