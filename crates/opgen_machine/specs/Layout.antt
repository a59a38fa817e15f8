-- Where the words of a design are in a machine's memory: first those of the signals, then those of the inputs.
use Rattle.std.specs.Prelude.{ℕ, ◌+◌, if◌then◌else◌, List, [], ◌∷◌, ◌++◌, length, map, replicate, unwrap_or}
use Rattle.opgen_num.specs.Words.{nat}
use Rattle.opgen_design.specs.declared.design.Design.{Design}
use Rattle.opgen_design.specs.declared.design.Port.{Port}
use Rattle.opgen_design.specs.declared.design.Signal.{Signal}
use Rattle.opgen_design.specs.Run.{is_in, input_widths}
use Rattle.opgen_design.specs.Sound.{signal_widths}
use Rattle.opgen_machine.specs.declared.layout.WordSpots.{WordSpots}
use Rattle.opgen_machine.specs.declared.step.Spot.{Spot}
use Rattle.opgen_machine.specs.Programs.{Spots}

-- the spots of words, as lists
abbrev pub spots_of : WordSpots → Spots
spots_of s = record { signals = s.signals.items; ports = s.ports.items }

-- spots one after another, from a place on
abbrev pub spots_from : ℕ → List ℕ → List Spot
spots_from n [] = []
spots_from n (w ∷ ws) = record { place = n; width = w } ∷ spots_from (n + 1) ws

-- the spots of ports before a cycle: those of inputs one after another from a place on, and those of outputs all at one place
abbrev pub port_spots : (at rest : ℕ) → List Port → List Spot
port_spots at rest [] = []
port_spots at rest (p ∷ ps) = if is_in p.dir then record { place = at; width = p.width } ∷ port_spots (at + 1) rest ps else record
    { place = rest; width = p.width } ∷ port_spots at rest ps

-- the place of the outputs before a cycle, behind the signals and the inputs
abbrev pub rest_of : Design → ℕ
rest_of d = length d.signals + length (input_widths d)

-- the spots of a design's words before a cycle
abbrev pub first_spots : Design → Spots
first_spots d = record { signals = spots_from 0 (signal_widths d); ports = port_spots (length d.signals) (rest_of d) d.ports }

-- the number of a signal's initial word; 0 where it has none
abbrev pub start_number : Signal → ℕ
start_number s = nat (unwrap_or s.initial [])

-- the numbers before the first cycle: those of the initial words, zeros at the inputs, and one more 0, which stands for all outputs
abbrev pub start_of : Design → List ℕ
start_of d = map start_number d.signals ++ replicate (length (input_widths d) + 1) 0
