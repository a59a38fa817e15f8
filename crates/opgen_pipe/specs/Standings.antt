-- What a design has for each node of a net: width, slot, number of copies and signal.
use Rattle.std.specs.Prelude.{ℕ, false, List, slice_index, slice_index_or}
use Rattle.opgen_net.specs.declared.net.Net.{Net}
use Rattle.opgen_net.specs.declared.node.Node.{Node}
use Rattle.opgen_net.specs.Made.{each_node}
use Rattle.opgen_net.specs.Valid.{widths}
use Rattle.opgen_schedule.specs.Reads.{is_constant}
use Rattle.opgen_schedule.specs.Schedule.{Schedule}
use Rattle.opgen_schedule.specs.Stage.{start}
use Rattle.opgen_pipe.specs.declared.standing.Standing.{Standing}
use Rattle.opgen_pipe.specs.Copies.{copies, signals_before}

abbrev pub standing_of : Net → Schedule → ℕ → Node → Standing
standing_of net s i n = record {
  width = slice_index (widths net.nodes) i;
  constant = is_constant n;
  slot = s i;
  copies = copies net s i;
  signal = signals_before (copies net s) i;
}

-- a standing for each node
abbrev pub standings : Net → Schedule → List Standing
standings net s = each_node (standing_of net s) 0 net.nodes

abbrev pub nowhere : Standing
nowhere = record { width = 0; constant = false; slot = start; copies = 0; signal = 0 }

abbrev pub standing_at : List Standing → ℕ → Standing
standing_at ps i = slice_index_or ps i nowhere
