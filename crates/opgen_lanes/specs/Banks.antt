-- The words of each stream, in vectors of bits.
use Rattle.std.specs.Prelude.{ℕ, ◌+◌, ◌≡◌, ◌<◌, Bool, List, [], ◌∷◌, Option, length, map, slice_index}
use Rattle.std.specs.List.{sum}
use Rattle.opgen_design.specs.Run.{Words, at_ports, is_in, scope}
use Rattle.opgen_design.specs.Tree.{Tree}
use Rattle.opgen_design.specs.Value.{value, width}
use Rattle.opgen_design.specs.declared.design.Dir.{Dir}
use Rattle.opgen_design.specs.declared.design.Port.{Port}
use Rattle.opgen_design.specs.declared.design.Target.{Target}
use Rattle.opgen_design.specs.declared.design.Target.TheVariants.{Signal as signal, Port as port_of}
use Rattle.opgen_streams.specs.Streams.{streams, words_in}
use Rattle.opgen_lanes.specs.declared.bank.Bank.{Bank}
use Rattle.opgen_lanes.specs.declared.bank.Banks.{Banks}
use Rattle.opgen_lanes.specs.declared.bank.Place.{Place}

-- words of these widths one after another, the first at a start
abbrev pub places_from : (start : ℕ) → (widths : List ℕ) → List Place
places_from start [] = []
places_from start (width ∷ widths) = record { start = start; width = width } ∷ places_from (start + width) widths

abbrev pub widths_of : Bank → List ℕ
widths_of bank = map (λ p. p.width) bank.places.items

-- a vector for each bit of its words
pub record IsBank (bank : Bank) : Type 0 where
  pub places : bank.places.items ≡ places_from 0 (widths_of bank)
  pub room : length bank.vectors.items ≡ sum (widths_of bank)

-- the words of a stream
abbrev pub words_at : Bank → (k : ℕ) → List (List Bool)
words_at bank k = words_in (widths_of bank) bank.vectors.items k

abbrev pub stream_words : (signals ports : Bank) → (k : ℕ) → Words
stream_words signals ports k = record { signals = words_at signals k; ports = words_at ports k }

abbrev pub words_of : Banks → (k : ℕ) → Words
words_of banks k = stream_words banks.signals banks.ports k

-- the words of a stream at the input ports
abbrev pub inputs_at : List Port → (bank : Bank) → (k : ℕ) → List (List Bool)
inputs_at ports bank k = at_ports is_in ports (words_at bank k)

-- a bank has these words in each stream
abbrev pub HasWords : Bank → (words : (k : ℕ) → List (List Bool)) → Type 0
HasWords bank words = (k : ℕ) → k < streams → words_at bank k ≡ words k

-- so have the banks of signals and of ports
abbrev pub HaveWords : Banks → (words : (k : ℕ) → Words) → Type 0
HaveWords banks words = (k : ℕ) → k < streams → words_of banks k ≡ words k

-- the width of an expression, and its value in a stream
abbrev pub width_in : (signals ports : Bank) → Tree → Option ℕ
width_in signals ports tree = width (widths_of signals) (widths_of ports) tree

abbrev pub value_in : (signals ports : Bank) → Tree → (k : ℕ) → List Bool
value_in signals ports tree k = value (scope (stream_words signals ports k)) tree

-- the widths of the ports of a direction
abbrev pub widths_at : (is : Dir → Bool) → List Port → List ℕ
widths_at is ports = at_ports is ports (map (λ p. p.width) ports)

-- the width of what is driven
abbrev pub width_at : (signals ports : Bank) → Target → ℕ
width_at signals ports (signal s) = slice_index (widths_of signals) s
width_at signals ports (port_of p) = slice_index (widths_of ports) p
