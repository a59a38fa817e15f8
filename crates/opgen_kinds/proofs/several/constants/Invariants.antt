use Rattle.std.proofs.Common.{◌≡◌, ◌++◌, map, drop}
use Rattle.opgen_kinds.specs.Several.{constant_format, numbered}
use Rattle.opgen_kinds.proofs.several.constants.Given as goal

abbrev pub invariant-constants : goal.invariant-constants
invariant-constants l = record {
  made : l.ports.items ++ numbered l.number (map (constant_format l.several.input) (drop l.constant-index l.several.constants))
      ≡ numbered 0 (map (constant_format l.several.input) l.several.constants);
  place : l.number ≡ l.constant-index;
}
