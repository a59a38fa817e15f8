-- Ports of an operator: their names and formats, in order, as several kinds have them; and the numbers at them by which a cycle
-- is judged, from the words of whole cycles: inputs now and in earlier cycles, and outputs.
use Rattle.std.specs.Prelude.{ℕ, ◌≤◌, Bool, false, ℤ, All, List, [], ◌∷◌, true, codes, nat_lt, ◌≡◌, ◌+◌, ◌*◌, ◌^◌, ◌<◌, pos, length, ◌-◌, if◌then◌else◌, ◌%◌, zero, suc, slice_index, nat_le, ◌+ℤ◌, ◌*ℤ◌}
use Rattle.opgen_num.specs.declared.format.Format.{Format}
use Rattle.opgen_ports.specs.declared.ports.PortFormat.{PortFormat}
use Rattle.opgen_ports.specs.declared.reach.Reach.{Reach}
use Rattle.opgen_ports.specs.Reaches.{width_of}
use Rattle.opgen_num.specs.Words.{val, word}

abbrev pub port : (name : List ℕ) → Format → PortFormat
port name format = record { name = name; format = format }

-- the least format that holds numbers so far below and above 0: it is signed where there are numbers below
abbrev pub covering : Reach → (lsb : ℤ) → Format
covering r lsb = record { signed = nat_lt 0 r.below; width = width_of r; lsb = lsb }

abbrev pub unsigned : (width : ℕ) (lsb : ℤ) → Format
unsigned width lsb = record { signed = false; width = width; lsb = lsb }

-- a quotient or root, and its remainder where it is exact
abbrev pub with_rest : (exact : Bool) (main rest : PortFormat) → List PortFormat
with_rest true main rest = main ∷ rest ∷ []
with_rest false main rest = main ∷ []

-- no port has more bits
abbrev pub AreWithin : (most : ℕ) → List PortFormat → Type 0
AreWithin most ports = All (λ (p : PortFormat). p.format.width ≤ most) ports

-- a port has one bit or more, and so many at most
abbrev pub HasWidth : (most : ℕ) → PortFormat → Type 0
HasWidth most p = (1 ≤ p.format.width) × (p.format.width ≤ most)

abbrev pub one_input : Format → List PortFormat
one_input x = port (codes "x") x ∷ []

abbrev pub two_inputs : (a b : Format) → List PortFormat
two_inputs a b = port (codes "a") a ∷ port (codes "b") b ∷ []

-- the numbers of an input: in the last cycle, one cycle before, and so on
abbrev pub Recent : Type 0
Recent = (ago : ℕ) → ℤ

-- the inputs from some cycles ago back, each times its coefficient
abbrev pub weighted_from : (ago : ℕ) (coefs : List ℤ) → Recent → ℤ
weighted_from ago [] x = pos 0
weighted_from ago (c ∷ cs) x = (x ago *ℤ c) +ℤ weighted_from (ago + 1) cs x

abbrev pub weighted : (coefs : List ℤ) → Recent → ℤ
weighted coefs x = weighted_from 0 coefs x

-- the format of a port, of no bits where there is none
abbrev pub format_at : List PortFormat → (port : ℕ) → Format
format_at [] port = record { signed = false; width = 0; lsb = pos 0 }
format_at (p ∷ ps) zero = p.format
format_at (p ∷ ps) (suc port) = format_at ps port

-- Words as numbers: the words of whole cycles, all ports of cycle 0 first, up to the last cycle. An input before cycle 0
-- is zero.
abbrev pub number_of : Format → ℕ → ℤ
number_of format bits = val (word format.width bits) format

abbrev pub recent_numbers : List PortFormat → (history : List ℕ) → (port : ℕ) → Recent
recent_numbers ports history port ago =
    let back = (ago + 1) * length ports in
    if nat_le back (length history) then number_of (format_at ports port) (slice_index history (length history - back + port))
    else pos 0

abbrev pub output_numbers : List PortFormat → (outputs : List ℕ) → (port : ℕ) → ℤ
output_numbers ports outputs port = number_of (format_at ports port) (slice_index outputs port)

-- the numbers are words of whole cycles, of one at least
pub record IsHistory (ports : List PortFormat) (history : List ℕ) : Type 0 where
  pub some : 0 < length history
  pub whole : length history % length ports ≡ 0
  pub fit : (k : ℕ) → k < length history → slice_index history k < 2 ^ (format_at ports (k % length ports)).width

-- and the words of one cycle
pub record IsCycle (ports : List PortFormat) (words : List ℕ) : Type 0 where
  pub whole : length words ≡ length ports
  pub fit : (k : ℕ) → k < length words → slice_index words k < 2 ^ (format_at ports k).width
