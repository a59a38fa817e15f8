-- Nets to which nodes were appended that are no delays: the earlier nodes keep their widths and words.
use Rattle.std.specs.Prelude.{ℕ, ◌≡◌, ◌<◌, length, take, slice_index}
use Rattle.opgen_net.specs.declared.net.Net.{Net}
use Rattle.opgen_net.specs.Delays.{delay_count}
use Rattle.opgen_net.specs.Flow.{KeepsFlow}
use Rattle.opgen_net.specs.Valid.{widths}

-- nodes that are no delays may have been appended, and nothing else has changed
pub record HasGrown (old new : Net) : Type 0 where
  pub inputs : new.inputs ≡ old.inputs
  pub outputs : new.outputs ≡ old.outputs
  pub nodes : take (length old.nodes) new.nodes ≡ old.nodes
  pub delays : delay_count new.nodes ≡ delay_count old.nodes

-- the nodes of one net have in another the widths and the words that they have there
pub record KeepsNodes (old new : Net) : Type 0 where
  pub widths : (n : ℕ) → n < length old.nodes → slice_index (widths new.nodes) n ≡ slice_index (widths old.nodes) n
  pub flow : KeepsFlow old.nodes new.nodes

-- a net that has grown keeps its nodes
abbrev pub GrownNetsKeepNodes : Type 0
GrownNetsKeepNodes = (old new : Net) → HasGrown old new → KeepsNodes old new
