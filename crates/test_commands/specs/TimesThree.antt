-- Three times a bit: a net, its flow, its design, a cycle of it, and an expression, worked out.
use Rattle.std.specs.Prelude.{◌≡◌, pos, negsuc, true, false, None, Some, [], ◌∷◌, ◌++◌, codes, decimal, List, Bool}
use Rattle.opgen_net.specs.declared.net.Net.{Net}
use Rattle.opgen_net.specs.declared.node.Node.TheVariants as node
use Rattle.opgen_design.specs.declared.expr.Op.TheVariants.{Plus, Minus, Cat}
use Rattle.opgen_design.specs.declared.design.Design.{Design}
use Rattle.opgen_design.specs.declared.design.Dir.TheVariants.{In, Out}
use Rattle.opgen_design.specs.declared.design.Driver.TheVariants.{Assign, Table, Output}
use Rattle.opgen_design.specs.Tree.{Tree, name, part, bits, port, inverse, chain, none, more}
use Rattle.opgen_design.specs.Value.{Scope, value, width, nesting}
use Rattle.opgen_net.specs.Flow.{Inputs, flow}
use Rattle.opgen_design.specs.Run.{Words, Cycle}
use Rattle.opgen_pipe.specs.Pipelined.{design_of}
use Rattle.opgen_schedule.specs.Schedule.{Schedule}

-- the words of two bits, the lowest bit first
abbrev pub zero_word : List Bool
zero_word = false ∷ false ∷ []

abbrev pub three_word : List Bool
three_word = true ∷ true ∷ []

abbrev pub bit_word : Bool → List Bool
bit_word b = b ∷ []

abbrev pub times3_net : Net
times3_net = record {
  inputs = (codes "x", 1) ∷ [];
  nodes = node.Input 0 1 ∷ node.Table 0 (zero_word ∷ three_word ∷ []) ∷ [];
  outputs = record { name = codes "y"; from = record { node = 1; high = 1; low = 0 } } ∷ [];
}

-- the schedule that puts each node at the start of cycle 0
abbrev pub at_once : Schedule
at_once i = record { cycle = 0; time = 0 }

abbrev pub times3_design : Design
times3_design = record {
  name = codes "times3";
  ports = record { name = codes "x"; dir = In; width = 1 } ∷ record { name = codes "y"; dir = Out; width = 2 } ∷ [];
  signals =
      record { name = codes "s" ++ decimal 0; width = 1; initial = None }
      ∷ record { name = codes "s" ++ decimal 1; width = 2; initial = None } ∷ [];
  drivers =
      Assign 0 (port 0)
      ∷ Table 1 (name 0) ((bit_word false, zero_word) ∷ []) three_word
      ∷ Output 1 (name 1) ∷ [];
  enable = None;
}

-- the input is 1 in cycle 0 and 0 in cycle 1
abbrev pub inputs : Inputs
inputs = (bit_word true ∷ []) ∷ (bit_word false ∷ []) ∷ []

-- `a - (a + "01") - not (a & "0")(2 downto 1)`, where a is 2; each part by its words
abbrev pub expression : Tree
expression =
    chain Minus (more (name 0) (more (chain Plus (more (name 0) (more (bits (true ∷ false ∷ [])) none)))
    (more (inverse (part 1 2 1)) none)))

abbrev pub scope : Scope
scope = record { names = λ n. false ∷ true ∷ true ∷ []; ports = λ n. [] }

abbrev pub cycle_words : Words
cycle_words = record { signals = bit_word true ∷ three_word ∷ []; ports = bit_word true ∷ three_word ∷ [] }

pub record TimesThree : Type 0 where
  pub design : design_of (codes "times3") false times3_net at_once ≡ times3_design
  pub flow_now : flow times3_net.nodes inputs 1 (pos 0) ≡ three_word
  pub flow_next : flow times3_net.nodes inputs 1 (pos 1) ≡ zero_word
  pub flow_before : flow times3_net.nodes inputs 1 (negsuc 6) ≡ zero_word
  pub cycle : Cycle times3_design [] (bit_word true ∷ []) cycle_words []
  -- 2 + 1 = 3 and 2 - 3 = -1 on two bits; `not` turns each bit
  pub sum : value (record { names = λ n. false ∷ true ∷ []; ports = λ n. [] })
      (chain Plus (more (name 0) (more (bits (true ∷ false ∷ [])) none))) ≡ true ∷ true ∷ []
  pub difference : value (record { names = λ n. false ∷ true ∷ []; ports = λ n. [] })
      (chain Minus (more (name 0) (more (bits (true ∷ true ∷ [])) none))) ≡ true ∷ true ∷ []
  pub cat : value scope (chain Cat (more (bits (true ∷ [])) (more (part 0 2 1) none))) ≡ true ∷ true ∷ true ∷ []
  pub width_of : width (2 ∷ 3 ∷ []) [] expression ≡ Some 2
  pub nesting_of : nesting expression ≡ 1
