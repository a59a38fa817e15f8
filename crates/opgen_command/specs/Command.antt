-- Which command a command line means: its first word names the command, and `clap` parses the others.
use Rattle.std.specs.Prelude.{ℕ, ◌≡◌, ◌≤◌, ◌&&◌, nat_le, Bool, false, List, [], ◌∷◌, Option, Some, None, codes, option_map, option_and_then, Result, Ok, Err, if◌then◌else◌}
use Rattle.std.specs.Option.{option_map_or}
use Rattle.std.specs.Str.{bytes_eq}
use Rattle.std.specs.Str.Parse.{digits_value, without_leading_plus}
use Rattle.clap.specs.ValueTests.{is_numeral}
use Rattle.clap.specs.Words.{App, Kinds, Row, fault_of, first_of, matches_of, one_of}
use Rattle.opgen_command.specs.Apps.{generate_app, vectors_app, simulate_app, workload_app, check_app}
use Rattle.opgen_command.specs.declared.command.Command.{Command}
use Rattle.opgen_command.specs.declared.command.Command.TheVariants.{Generate, Vectors, Simulate, Workload, Check}
use Rattle.opgen_command.specs.declared.fault.CommandFault.{CommandFault}
use Rattle.opgen_command.specs.declared.fault.CommandFault.TheVariants as faults

-- what was found, where there is no fault
abbrev pub unless_fault : Kinds → List Row → Option (List Row)
unless_fault [] found = Some found
unless_fault (fault ∷ faults) found = None

-- What a command of `clap` finds in the words. It finds a fault where they ask for help.
abbrev pub found_by : App → (words : List (List ℕ)) → Option (List Row)
found_by app words = unless_fault (fault_of app words) (matches_of app words)

-- the word that was found under a name
abbrev pub word_of : (name : List ℕ) → List Row → Option (List ℕ)
word_of name found = first_of name found

-- a number from `least` to `most`
abbrev pub within : (least most : ℕ) → ℕ → Option ℕ
within least most number = if nat_le least number && nat_le number most then Some number else None

-- the same, of the number that a text writes in decimal, perhaps after a plus
abbrev pub number_in : (least most : ℕ) → List ℕ → Option ℕ
number_in least most text = if is_numeral (without_leading_plus text) then within least most
    (digits_value 10 (without_leading_plus text)) else None

-- the number that was found under a name, or else the default
abbrev pub number_of : (name : List ℕ) (least most : ℕ) (default : Option ℕ) → List Row → Option ℕ
number_of name least most default found = option_map_or (number_in least most) (one_of name found) default

-- whether a flag was found under a name
abbrev pub is_set : (name : List ℕ) → List Row → Bool
is_set name found = option_map_or (λ text. bytes_eq text (codes "true")) (word_of name found) false

-- the command that was found
abbrev pub generate_of : List Row → Option Command
generate_of found = option_and_then (λ spec. option_map (λ workers. Generate spec workers (is_set (codes "enable") found))
    (number_of (codes "workers") 1 32 (Some 1) found)) (word_of (codes "SPEC") found)

abbrev pub vectors_of : List Row → Option Command
vectors_of found = option_and_then (λ spec. option_and_then (λ seed. option_map (λ cycles. Vectors spec seed cycles)
    (number_of (codes "cycles") 1 100000 (Some 16) found)) (number_of (codes "seed") 0 4294967295 (Some 0) found))
    (word_of (codes "SPEC") found)

abbrev pub simulate_of : List Row → Option Command
simulate_of found = option_and_then (λ vhdl. option_and_then (λ vectors. option_map (λ out. Simulate vhdl vectors out)
    (word_of (codes "OUT") found)) (word_of (codes "VECTORS") found)) (word_of (codes "VHDL") found)

abbrev pub workload_of : List Row → Option Command
workload_of found = option_map (λ n. Workload n) (number_of (codes "N") 1 32 None found)

abbrev pub check_of : List Row → Option Command
check_of found = option_and_then (λ spec. option_and_then (λ vhdl. option_and_then (λ vectors. option_map
    (λ latency. Check spec vhdl vectors latency) (number_of (codes "LATENCY") 0 100000 None found)) (word_of (codes "VECTORS") found))
    (word_of (codes "VHDL") found)) (word_of (codes "SPEC") found)

-- the command of a name
abbrev pub command_named : (name : List ℕ) (words : List (List ℕ)) → Option Command
command_named name words =
    if bytes_eq name (codes "generate") then option_and_then generate_of (found_by generate_app words)
    else if bytes_eq name (codes "vectors") then option_and_then vectors_of (found_by vectors_app words)
    else if bytes_eq name (codes "simulate") then option_and_then simulate_of (found_by simulate_app words)
    else if bytes_eq name (codes "workload") then option_and_then workload_of (found_by workload_app words)
    else if bytes_eq name (codes "check") then option_and_then check_of (found_by check_app words)
    else None

-- the command that the words are
abbrev pub command_of : (words : List (List ℕ)) → Option Command
command_of [] = None
command_of (name ∷ words) = command_named name (name ∷ words)

-- the numbers of a command are in their ranges
abbrev pub HasRanges : Command → Type 0
HasRanges (Generate spec workers enable) = (1 ≤ workers) × (workers ≤ 32)
HasRanges (Vectors spec seed cycles) = (seed ≤ 4294967295) × (1 ≤ cycles) × (cycles ≤ 100000)
HasRanges (Simulate vhdl vectors out) = Unit {0}
HasRanges (Workload n) = (1 ≤ n) × (n ≤ 32)
HasRanges (Check spec vhdl vectors latency) = latency ≤ 100000

-- what reading a command line returns, by the command that it means: that command, or a usage error if it means none
abbrev pub IsRead : Option Command → Result Command CommandFault → Type 0
IsRead meant (Ok command) = (meant ≡ Some command) × HasRanges command
IsRead meant (Err fault) = fault ≡ faults.Usage → meant ≡ None
