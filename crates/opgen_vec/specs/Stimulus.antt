-- The stimulus of a specification: numbers of a linear congruential generator modulo 2 ^ 64, with the multiplier and the
-- increment of Knuth's MMIX.
use Rattle.std.specs.Prelude.{ℕ, zero, suc, ◌+◌, ◌-◌, ◌*◌, ◌/◌, ◌%◌, ◌^◌, ◌==◌, ◌&&◌, Bool, false, List, [], ◌∷◌, ◌++◌, Option, Some, None, if◌then◌else◌}
use Rattle.opgen_ports.specs.declared.ports.PortFormat.{PortFormat}
use Rattle.opgen_operator.specs.declared.spec.Spec.{Spec}
use Rattle.opgen_operator.specs.Operator.{divisor}
use Rattle.opgen_operator.specs.Outputs.{inputs_of}

abbrev pub next : (state : ℕ) → ℕ
next state = (state * 6364136223846793005 + 1442695040888963407) % 2 ^ 64

-- the highest bits of a state
abbrev pub drawn : (width state : ℕ) → ℕ
drawn width state = state / 2 ^ (64 - width)

-- what a port is given: what is drawn, but 1 for a divisor of 0
abbrev pub given : (divides : Bool) → PortFormat → (state : ℕ) → ℕ
given divides port state = if divides && drawn port.format.width state == 0 then 1 else drawn port.format.width state

-- whether the port at a place is the divisor
abbrev pub divides : (divisor : Option ℕ) → (place : ℕ) → Bool
divides None place = false
divides (Some port) place = port == place

-- one draw after another for the ports from a place on, each from the next state
abbrev pub draws_from : (divisor : Option ℕ) (place : ℕ) → List PortFormat → (state : ℕ) → List ℕ
draws_from divisor place [] state = []
draws_from divisor place (port ∷ ports) state =
    given (divides divisor place) port (next state) ∷ draws_from divisor (place + 1) ports (next state)

-- the state after a draw for each port
abbrev pub state_after : List PortFormat → (state : ℕ) → ℕ
state_after [] state = state
state_after (port ∷ ports) state = state_after ports (next state)

-- the ports, cycle after cycle
abbrev pub cycles_from : (divisor : Option ℕ) → List PortFormat → (cycles state : ℕ) → List ℕ
cycles_from divisor ports zero state = []
cycles_from divisor ports (suc cycles) state =
    draws_from divisor 0 ports state ++ cycles_from divisor ports cycles (state_after ports state)

abbrev pub stimulus_cells : Spec → (seed cycles : ℕ) → List ℕ
stimulus_cells spec seed cycles = cycles_from (divisor spec.op) (inputs_of spec) cycles seed
