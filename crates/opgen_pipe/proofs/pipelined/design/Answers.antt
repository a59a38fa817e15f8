use Rattle.std.proofs.Common.{ap, ◌∙◌}
use Rattle.opgen_pipe.specs.Layouts.{schedule_of}
use Rattle.opgen_pipe.specs.Pipelined.{enable_of}
use Rattle.opgen_pipe.proofs.Fitting.{parts-design}
use Rattle.opgen_pipe.proofs.pipelined.design.Goals as goal

pub returns : goal.returns
returns c =
    parts-design c.args.name.now c.args.enable c.args.net.now (schedule_of c.args.layout.now) record {
      name = c.in_ok-name.name;
      ports = c.in_ok-ports.ports;
      signals = c.in_ok-signals.signals;
      drivers = c.in_ok-signals.drivers;
      enable = c.enable_of-enable.result;
    }
    c.in_ok-name.ensures c.in_ok-ports.ensures c.in_ok-signals.ensures.signals c.in_ok-signals.ensures.drivers
    (c.enable_of-enable.ensures ∙ ap (enable_of c.args.enable) c.as_slice.ensures)
