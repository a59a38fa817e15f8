-- The words of a net's nodes at each whole time, also before cycle 0.
use Rattle.std.specs.Prelude.{ℕ, zero, suc, ◌<◌, ◌≡◌, ℤ, pos, negsuc, Bool, false, List, [], ◌∷◌, ◌++◌, length, replicate, slice_index_or}
use Rattle.opgen_num.specs.Words.{nat}
use Rattle.opgen_design.specs.Value.{word_at, cut, value, chosen}
use Rattle.opgen_design.specs.declared.expr.Slice.{Slice}
use Rattle.opgen_net.specs.declared.node.Node.{Node}
use Rattle.opgen_net.specs.declared.node.Node.TheVariants.{Input, Constant, Cells, Choice, Table, Delay}

-- a word at each time
abbrev pub Stream : Type 0
Stream = ℤ → List Bool

abbrev pub before : ℤ → ℤ
before (pos zero) = negsuc 0
before (pos (suc t)) = pos t
before (negsuc t) = negsuc (suc t)

-- from cycle 0 on, a word for each input port; past the list's end an input is zeros, which no run over the list reaches
abbrev pub Inputs : Type 0
Inputs = List (List (List Bool))

abbrev pub input_from : Inputs → (cycle port width : ℕ) → List Bool
input_from [] cycle port width = replicate width false
input_from (words ∷ later) zero port width = word_at words port
input_from (words ∷ later) (suc cycle) port width = input_from later cycle port width

-- an input is zeros before cycle 0
abbrev pub input_at : Inputs → (port width : ℕ) → Stream
input_at inputs port width (pos t) = input_from inputs t port width
input_at inputs port width (negsuc t) = replicate width false

abbrev pub stream_at : List Stream → ℕ → Stream
stream_at ss n = slice_index_or ss n (λ t. [])

abbrev pub part_at : List Stream → Slice → Stream
part_at ss s t = cut s.high s.low (stream_at ss s.node t)

-- the stream of a node over the streams of the nodes before it
abbrev pub stream_of : Inputs → List Stream → Node → Stream
stream_of inputs ss (Input port width) t = input_at inputs port width t
stream_of inputs ss (Constant w) t = w
stream_of inputs ss (Cells class width e) t = value (record { names = λ n. stream_at ss n t; ports = λ n. [] }) e
stream_of inputs ss (Choice on one other) t = chosen (stream_at ss on t) (part_at ss one t) (part_at ss other t)
stream_of inputs ss (Table address rows) t = word_at rows (nat (stream_at ss address t))
stream_of inputs ss (Delay of) t = stream_at ss of (before t)

-- the streams of further nodes, after those of the nodes before them
abbrev pub streams_on : Inputs → List Stream → List Node → List Stream
streams_on inputs ss [] = ss
streams_on inputs ss (n ∷ ns) = streams_on inputs (ss ++ stream_of inputs ss n ∷ []) ns

-- the word of a node at a time
abbrev pub flow : List Node → Inputs → ℕ → Stream
flow nodes inputs n = stream_at (streams_on inputs [] nodes) n

-- a slice of a node at a time
abbrev pub slice_flow : List Node → Inputs → Slice → Stream
slice_flow nodes inputs s t = cut s.high s.low (flow nodes inputs s.node t)

-- the nodes of one list have in another the words that they have there
abbrev pub KeepsFlow : (old new : List Node) → Type 0
KeepsFlow old new = (inputs : Inputs) (n : ℕ) (t : ℤ) → n < length old → flow new inputs n t ≡ flow old inputs n t
