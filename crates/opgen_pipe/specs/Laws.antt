-- Laws of the design of every valid net at every schedule that fits a period.
use Rattle.std.specs.Prelude.{ℕ, ◌≡◌, ◌^◌, ◌<◌, ◌≤◌, ◌+◌, Bool, List, length, map, slice_get, Some, All}
use Rattle.opgen_design.specs.Run.{AreWords, Words, Run, words_at_outputs, input_widths, counted, data_inputs, without_enable}
use Rattle.opgen_design.specs.Depth.{LooksBack}
use Rattle.opgen_design.specs.Sound.{IsSound}
use Rattle.opgen_design.specs.Value.{word_at}
use Rattle.opgen_net.specs.declared.net.Net.{Net}
use Rattle.opgen_net.specs.declared.node.Node.TheVariants.{Constant}
use Rattle.opgen_net.specs.Delays.{PassesAtMost}
use Rattle.opgen_net.specs.Flow.{Inputs, flow, slice_flow}
use Rattle.opgen_net.specs.Named.{IsNamed}
use Rattle.opgen_net.specs.Valid.{IsValid}
use Rattle.opgen_schedule.specs.Schedule.{Schedule, Fits}
use Rattle.opgen_vhdl.specs.Shaped.{IsShaped, IsWritable}
use Rattle.opgen_pipe.specs.Copies.{copies, net_latency, signal_count, signal_of}
use Rattle.opgen_pipe.specs.Pipelined.{design_of}
use Rattle.opgen_pipe.specs.Times.{ago}

-- it is sound, where the names of the net can stand in it; numbers below 2 ^ 64 have decimals of their own
abbrev pub DesignIsSound : Type 0
DesignIsSound = (name : List ℕ) (enable : Bool) (net : Net) (delays : List ℕ) (setup period : ℕ) (s : Schedule) → IsValid net
    → IsNamed name net
    → Fits net.nodes delays setup period s → signal_count net s ≤ 2 ^ 64 → IsSound (design_of name enable net s)

-- it has the form of the subset, at any schedule
abbrev pub DesignIsShaped : Type 0
DesignIsShaped = (name : List ℕ) (enable : Bool) (net : Net) (s : Schedule) → IsValid net → IsShaped (design_of name enable net s)

-- it has a run over each list of inputs of its ports' widths
abbrev pub DesignRuns : Type 0
DesignRuns = (name : List ℕ) (enable : Bool) (net : Net) (delays : List ℕ) (setup period : ℕ) (s : Schedule) → IsValid net
    → IsNamed name net
    → Fits net.nodes delays setup period s → signal_count net s ≤ 2 ^ 64
    → (inputs : Inputs) → All (AreWords (input_widths (design_of name enable net s))) inputs
    → (vs : List Words) × Run (design_of name enable net s) inputs vs

-- it can be written: besides, its names are allowed, and it has a port
abbrev pub DesignIsWritable : Type 0
DesignIsWritable = (name : List ℕ) (enable : Bool) (net : Net) (delays : List ℕ) (setup period : ℕ) (s : Schedule) → IsValid net
    → IsNamed name net
    → Fits net.nodes delays setup period s → signal_count net s ≤ 2 ^ 64 → IsWritable (design_of name enable net s)

-- its outputs look back at most so many cycles as the latency has, and as the net's ways pass delays
abbrev pub DesignLooksBack : Type 0
DesignLooksBack = (name : List ℕ) (enable : Bool) (net : Net) (delays : List ℕ) (setup period : ℕ) (s : Schedule) → IsValid net
    → Fits net.nodes delays setup period s → (most : ℕ) → PassesAtMost most net.nodes
    → LooksBack (without_enable (design_of name enable net s)) (net_latency net s + most)

-- in a cycle each copy of a node has the node's word of so many cycles before as it stands later, constants have theirs, and each output its slice's of the latency before
pub record FollowsFlow (name : List ℕ) (enable : Bool) (net : Net) (s : Schedule) (inputs : Inputs) (u : ℕ) (v : Words) : Type 0 where
  pub nodes : (i copy : ℕ) → i < length net.nodes → copy ≤ copies net s i
      → word_at v.signals (signal_of net s i copy) ≡ flow net.nodes inputs i (ago u ((s i).cycle + copy))
  pub constants : (i : ℕ) (w : List Bool) → slice_get net.nodes i ≡ Some (Constant w) → word_at v.signals (signal_of net s i 0) ≡ w
  pub outputs : words_at_outputs (design_of name enable net s) v
      ≡ map (λ o. slice_flow net.nodes inputs o.from (ago u (net_latency net s))) net.outputs

-- in every run it does so in every cycle that counts
abbrev pub RunFollowsFlow : Type 0
RunFollowsFlow = (name : List ℕ) (enable : Bool) (net : Net) (delays : List ℕ) (setup period : ℕ) (s : Schedule) → IsValid net
    → Fits net.nodes delays setup period s
    → (inputs : Inputs) (vs : List Words) → Run (design_of name enable net s) inputs vs
    → (u : ℕ) (v : Words) → slice_get (counted enable vs vs) u ≡ Some v
    → FollowsFlow name enable net s (data_inputs enable (counted enable vs inputs)) u v
