-- What each command takes: the commands of `clap`, with their words, options and ranges.
use Rattle.std.specs.Prelude.{ℕ, true, pos, List, Some, codes}
use Rattle.clap.specs.Words.{App, Rule, new_app, new_rule, with_rule}
use Rattle.clap.specs.declared.builder.action.ArgAction.TheVariants.{SetTrue}
use Rattle.clap.specs.declared.builder.value_parser.ValueParser.TheVariants as parser

-- a word that has to be there
abbrev pub word : (name : List ℕ) → Rule
word name = record (new_rule name) { required = true }

-- the same, for a number
abbrev pub number_word : (name : List ℕ) (least most : ℕ) → Rule
number_word name least most = record (word name) { parser = Some (parser.Signed (pos least) (pos most)) }

-- `--name N`
abbrev pub number_option : (name : List ℕ) (least most : ℕ) → Rule
number_option name least most = record (new_rule name) { long = Some name; parser = Some (parser.Signed (pos least) (pos most)) }

-- `--name`
abbrev pub flag : (name : List ℕ) → Rule
flag name = record (new_rule name) { long = Some name; action = Some SetTrue }

-- the numbers, with their least and their most
abbrev pub workers : Rule
workers = number_option (codes "workers") 1 32

abbrev pub seed : Rule
seed = number_option (codes "seed") 0 4294967295

abbrev pub cycles : Rule
cycles = number_option (codes "cycles") 1 100000

abbrev pub count : Rule
count = number_word (codes "N") 1 32

abbrev pub latency : Rule
latency = number_word (codes "LATENCY") 0 100000

abbrev pub enable : Rule
enable = flag (codes "enable")

-- `generate SPEC [--workers N] [--enable]`
abbrev pub generate_app : App
generate_app = with_rule (with_rule (with_rule (new_app (codes "generate")) (word (codes "SPEC"))) workers) enable

-- `vectors SPEC [--seed N] [--cycles N]`
abbrev pub vectors_app : App
vectors_app = with_rule (with_rule (with_rule (new_app (codes "vectors")) (word (codes "SPEC"))) seed) cycles

-- `simulate VHDL VECTORS OUT`
abbrev pub simulate_app : App
simulate_app = with_rule (with_rule (with_rule (new_app (codes "simulate")) (word (codes "VHDL"))) (word (codes "VECTORS")))
    (word (codes "OUT"))

-- `workload N`
abbrev pub workload_app : App
workload_app = with_rule (new_app (codes "workload")) count

-- `check SPEC VHDL VECTORS LATENCY`
abbrev pub check_app : App
check_app = with_rule (with_rule (with_rule (with_rule (new_app (codes "check")) (word (codes "SPEC"))) (word (codes "VHDL")))
    (word (codes "VECTORS"))) latency
