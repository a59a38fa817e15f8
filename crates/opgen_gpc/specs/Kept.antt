-- Counters in a net, and that they keep the sum of the heap.
use Rattle.std.specs.Prelude.{◌≡◌, ℤ, All, List, length}
use Rattle.opgen_design.specs.Run.{AreWords}
use Rattle.opgen_heap.specs.Contents.{Contents}
use Rattle.opgen_heap.specs.Sum.{heap_sum}
use Rattle.opgen_net.specs.declared.net.Net.{Net}
use Rattle.opgen_net.specs.Flow.{Inputs, flow}
use Rattle.opgen_net.specs.declared.word_bits.WordBit.{WordBit}
use Rattle.opgen_net.specs.Valid.{widths, input_widths}
use Rattle.opgen_net.specs.WordRule.{IsThere}
use Rattle.opgen_gpc.specs.declared.counter.Counter.{Counter}

-- a counter of six bits, of each of which something holds
pub record TakesSix (P : WordBit → Type 0) (c : Counter) : Type 0 where
  pub bits : All P c.bits
  pub six : length c.bits ≡ 6

-- the bits of counters are bits of nodes of the net, six of each
abbrev pub CountersThere : Net → List Counter → Type 0
CountersThere net cs = All (TakesSix (IsThere (widths net.nodes))) cs

-- a heap of bits of one net has at every time the sum of another heap of bits of another net, whatever words of their widths the inputs are
abbrev pub KeepsSum : (before : Net) → Contents → (after : Net) → Contents → Type 0
KeepsSum before heap after counted =
    (inputs : Inputs) (t : ℤ) → All (AreWords (input_widths before)) inputs
    → heap_sum (λ n. flow after.nodes inputs n t) counted ≡ heap_sum (λ n. flow before.nodes inputs n t) heap
