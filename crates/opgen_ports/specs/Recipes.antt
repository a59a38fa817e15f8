-- Which of several nets is made of an operator, all of which are good.
use Rattle.std.specs.Prelude.{Bool, true, false}
use Rattle.opgen_ports.specs.declared.recipes.Compressor.{Compressor}
use Rattle.opgen_ports.specs.declared.recipes.Compressor.TheVariants.{Dadda, Counters, Rows}
use Rattle.opgen_ports.specs.declared.recipes.Recipe.{Recipe}
use Rattle.opgen_ports.specs.declared.recipes.Recipe.TheVariants.{Third, Fourth}
use Rattle.opgen_ports.specs.declared.recipes.Recurrence.{Recurrence}
use Rattle.opgen_ports.specs.declared.recipes.Recurrence.TheVariants.{Restoring, Nonrestoring}

-- the compressor of a heap of bits, with larger counters or without
abbrev pub compressor_of : (counters : Bool) → Compressor
compressor_of true = Counters
compressor_of false = Dadda

-- larger counters go before the compression of a heap
abbrev pub has_counters : Compressor → Bool
has_counters Dadda = false
has_counters Counters = true
has_counters Rows = false

-- what is added up is a heap of bits, and there are no larger counters
abbrev pub is_dadda : Compressor → Bool
is_dadda Dadda = true
is_dadda Counters = false
is_dadda Rows = false

-- what is added up is a heap of bits
abbrev pub is_of_bits : Compressor → Bool
is_of_bits Dadda = true
is_of_bits Counters = true
is_of_bits Rows = false

-- a difference below 0 is not kept
abbrev pub is_restoring : Recurrence → Bool
is_restoring Restoring = true
is_restoring Nonrestoring = false

-- the net is made as in versions 1 to 3
abbrev pub is_third : Recipe → Bool
is_third Third = true
is_third Fourth = false
