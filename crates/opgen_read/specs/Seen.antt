-- What a draft contains: the design so far, the architecture's name, and whether repeated names agree.
use Rattle.opgen_vhdl.specs.Statements.{Reading}
use Rattle.opgen_read.specs.declared.draft.Draft.{Draft}

abbrev pub seen : Draft → Reading
seen d = record {
  design = record { name = d.name; ports = d.ports; signals = d.signals; drivers = d.drivers; enable = d.enable };
  architecture = d.architecture;
  agrees = d.agrees;
}
