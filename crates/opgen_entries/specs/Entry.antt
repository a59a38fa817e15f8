-- What a document says of a kind: the form of the definition that each kind gives in its own file.
use Rattle.std.specs.Prelude.{Bool, ℤ, Option}
use Rattle.toml.specs.Data.{Members}
use Rattle.opgen_operator.specs.declared.operator.Operator.{Operator}
use Rattle.opgen_ports.specs.Limits.{most_input}
use Rattle.opgen_document.specs.declared.key.Key.{Key}
use Rattle.opgen_document.specs.declared.key.Key.TheVariants as key
use Rattle.opgen_document.specs.declared.key.Stand.{Stand}
use Rattle.opgen_document.specs.declared.key.Version.{Version}
use Rattle.opgen_document.specs.Document.{count_at}
use Rattle.opgen_document.specs.Ranges.{width_outside}

-- The keys of all kinds are not asked for here: how they stand, and their ranges, are the same for each.
pub record Entry : Type 0 where
  -- version 1 has the kind
  pub first : Bool
  -- how a key stands in its documents of a version
  pub stand : Version → Key → Stand
  -- what stands at a key and is out of range
  pub key_outside : Members → Key → Option ℤ
  -- a key at which nothing may stand beside the values of others
  pub clashes : Members → Key → Bool
  -- the operator that the values of the keys give
  pub make : Members → Operator

-- the width of an input that may have as many bits as the version allows
abbrev pub input_outside : Members → Key → Option ℤ
input_outside ms k = width_outside (most_input (count_at ms key.Version)) ms k
