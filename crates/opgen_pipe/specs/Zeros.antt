-- The words of nodes when all inputs are zero, computed from the words of earlier nodes.
use Rattle.std.specs.Prelude.{Bool, false, List, [], replicate}
use Rattle.opgen_num.specs.Words.{nat}
use Rattle.opgen_design.specs.Value.{word_at, cut, value, chosen}
use Rattle.opgen_net.specs.declared.net.Net.{Net}
use Rattle.opgen_net.specs.declared.node.Node.{Node}
use Rattle.opgen_net.specs.declared.node.Node.TheVariants.{Input, Constant, Cells, Choice, Table, Delay}
use Rattle.opgen_net.specs.Made.{each_node}
use Rattle.opgen_pipe.specs.Pipelined.{zero_word}

-- a delay has what its operand has, since nothing moves
abbrev pub still_word : List (List Bool) → Node → List Bool
still_word ws (Input port w) = replicate w false
still_word ws (Constant w) = w
still_word ws (Cells class w e) = value (record { names = word_at ws; ports = word_at [] }) e
still_word ws (Choice on one other) = chosen (word_at ws on) (cut one.high one.low (word_at ws one.node))
    (cut other.high other.low (word_at ws other.node))
still_word ws (Table address rows) = word_at rows (nat (word_at ws address))
still_word ws (Delay of) = word_at ws of

abbrev pub zero_words : Net → List (List Bool)
zero_words net = each_node (λ i n. zero_word net i) 0 net.nodes
