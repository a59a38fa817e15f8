-- What a frame of a net has: a graph in order, and the last read of each of its vertices.
use Rattle.std.specs.Prelude.{◌≡◌, length}
use Rattle.opgen_schedule.specs.declared.frame.Frame.{Frame}
use Rattle.opgen_schedule.specs.Graph.{IsOrdered}

pub record IsFrame (f : Frame) : Type 0 where
  pub ordered : IsOrdered f.graph
  pub one_each : length f.lasts ≡ length f.graph
