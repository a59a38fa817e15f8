-- The net of a square root: its digits from the highest, one for each two bits of the radicand.
use Rattle.std.specs.Prelude.{ℕ, zero, suc, ◌+◌, ◌*◌, ◌%◌, Bool, ◌||◌, List, [], ◌∷◌, ◌++◌, codes, nat_lt, replicate, slice_index_or}
use Rattle.opgen_net.specs.declared.net.Net.{Net}
use Rattle.opgen_net.specs.declared.node.Node.TheVariants.{Input}
use Rattle.opgen_net.specs.declared.word_bits.WordBit.{WordBit}
use Rattle.opgen_net.specs.declared.word_bits.WordBit.TheVariants.{Zero, One}
use Rattle.opgen_net.specs.WordRule.{bits_from}
use Rattle.opgen_kinds.specs.declared.single.Single.{Single}
use Rattle.opgen_kinds.specs.Single.{root_shift, root_width}
use Rattle.opgen_ports.specs.Reaches.{places_up}
use Rattle.opgen_net.specs.Placed.{with_bits}
use Rattle.opgen_digits.specs.Digit.{Known, tried}
use Rattle.opgen_digits.specs.Results.{with_results}

-- the radicand is node 0
abbrev pub with_input : Single → Net
with_input r = record { inputs = (codes "x", r.input.width) ∷ []; nodes = Input 0 r.input.width ∷ []; outputs = [] }

abbrev pub shifted_width : Single → ℕ
shifted_width r = r.input.width + places_up (root_shift r)

-- the input with as many zeros below it as it is shifted up, and one above it where the number of these bits is odd
abbrev pub radicand : Single → List WordBit
radicand r = replicate (shifted_width r % 2) Zero ++ (bits_from 0 0 r.input.width ++ replicate (places_up (root_shift r)) Zero)

-- A step: what is left, the next two bits of the radicand below it and a zero above it, less four times the root so far and one.
abbrev pub minuend : Known → (high low : WordBit) → List WordBit
minuend known high low = Zero ∷ (known.rest ++ high ∷ low ∷ [])

abbrev pub subtrahend : Known → List WordBit
subtrahend known = Zero ∷ Zero ∷ (known.digits ++ Zero ∷ One ∷ [])

abbrev pub stepped : (keep : Bool) → (rest : ℕ) → Known → (high low : WordBit) → Known
stepped keep rest known high low =
    let a = with_bits known.net (minuend known high low) in
    let b = with_bits a.net (subtrahend known) in
    tried keep rest b.net a.place b.place known.digits

-- what step k leaves is needed for the step after it, or asked for
abbrev pub keeps : Single → (k : ℕ) → Bool
keeps r k = r.exact || nat_lt k (root_width r)

-- After so many steps; before the first what is left is one zero. Each step leaves a bit more.
abbrev pub after : Single → (steps : ℕ) → Known
after r zero = record { net = with_input r; digits = []; rest = Zero ∷ [] }
after r (suc k) =
    stepped (keeps r (suc k)) (k + 2) (after r k) (slice_index_or (radicand r) (2 * k) Zero) (slice_index_or (radicand r) (2 * k + 1) Zero)

abbrev pub net_of_single : Single → Net
net_of_single r = with_results r.exact (codes "y") (after r (root_width r))
