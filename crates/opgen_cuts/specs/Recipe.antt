-- A net made anew with its sums in pieces. The input ports come first. Then the nodes of the old net are taken in their order. Each has
-- bits in the new net, and a place there, a node of these bits, if it is needed whole. Wires read bits, so a reader of some places of a
-- sum reads the pieces that have them. Logic, choices, tables and delays read places.
use Rattle.std.specs.Prelude.{ℕ, Bool, true, false, if◌then◌else◌, List, [], ◌∷◌, ◌++◌, length, map, slice_index, slice_index_or}
use Rattle.opgen_design.specs.declared.expr.Op.{Op}
use Rattle.opgen_design.specs.declared.expr.Op.TheVariants.{Minus}
use Rattle.opgen_design.specs.Tree.{Tree, chain, more, none}
use Rattle.opgen_net.specs.declared.cell.Class.{Class}
use Rattle.opgen_net.specs.declared.cell.Class.TheVariants as class
use Rattle.opgen_net.specs.declared.net.Net.{Net}
use Rattle.opgen_net.specs.declared.node.Node.{Node}
use Rattle.opgen_net.specs.declared.node.Node.TheVariants.{Input, Constant, Cells, Choice, Table, Delay}
use Rattle.opgen_net.specs.declared.word_bits.WordBit.{WordBit}
use Rattle.opgen_net.specs.Placed.{with_bits, with_last, with_port}
use Rattle.opgen_net.specs.Valid.{slice_width}
use Rattle.opgen_net.specs.WordRule.{bits_from}
use Rattle.opgen_pieces.specs.Recipe.{with_sum}
use Rattle.opgen_cuts.specs.declared.cutting.Cutting.{Cutting}
use Rattle.opgen_cuts.specs.Needed.{needed}
use Rattle.opgen_cuts.specs.Renamed.{renamed, renamed_slice, renamed_output}
use Rattle.opgen_cuts.specs.Wires.{constant_bits, bits_at, wire_bits}

-- the bits and the place of one node more
abbrev pub with_entry : List WordBit → (place : ℕ) → Cutting → Cutting
with_entry given place s = record { net = s.net; bits = s.bits ++ given ∷ []; places = s.places ++ place ∷ [] }

-- a node of bits that are there, which is made if it is needed
abbrev pub with_given : (whole : Bool) → List WordBit → Cutting → Cutting
with_given whole given s =
    if whole
    then (let made = with_bits s.net given in with_entry given made.place (record s { net = made.net }))
    else with_entry given 0 s

-- a node of so many bits at the end of the new net
abbrev pub with_new : (width : ℕ) → Node → Cutting → Cutting
with_new width n s = with_entry (bits_from (length s.net.nodes) 0 width) (length s.net.nodes) (record s { net = with_last s.net n })

abbrev pub is_minus : Op → Bool
is_minus Minus = true
is_minus _ = false

-- the sum or the difference of two words of given bits, in pieces
abbrev pub with_operands : (most : ℕ) → (whole minus : Bool) → (first second : List WordBit) → Cutting → Cutting
with_operands most whole minus first second s =
    let made = with_sum most minus first second s.net in with_given whole made.bits (record s { net = made.net })

-- a sum or a difference of two wires
abbrev pub with_pieces : (most : ℕ) → (whole : Bool) → Tree → Cutting → Cutting
with_pieces most whole (chain op (more a (more b none))) s =
    with_operands most whole (is_minus op) (wire_bits s.bits a) (wire_bits s.bits b) s
with_pieces most whole _ s = s

abbrev pub with_cells : (most : ℕ) → (whole : Bool) → Class → (width : ℕ) → Tree → Cutting → Cutting
with_cells most whole class.Wire width e s = with_given whole (wire_bits s.bits e) s
with_cells most whole class.Add width e s = with_pieces most whole e s
with_cells most whole c width e s = with_new width (Cells c width (renamed s.places e)) s

-- one node more
abbrev pub with_copy : (most : ℕ) → (whole : Bool) → Node → Cutting → Cutting
with_copy most whole (Input port width) s = with_entry (bits_from port 0 width) port s
with_copy most whole (Constant w) s = with_given whole (constant_bits w) s
with_copy most whole (Cells c width e) s = with_cells most whole c width e s
with_copy most whole (Choice on one other) s =
    with_new (slice_width one) (Choice (slice_index s.places on) (renamed_slice s.places one) (renamed_slice s.places other)) s
with_copy most whole (Table address rows) s = with_new (length (slice_index_or rows 0 [])) (Table (slice_index s.places address) rows) s
with_copy most whole (Delay of) s = with_new (length (bits_at s.bits of)) (Delay (slice_index s.places of)) s

-- the next node's number is that of the nodes so far
abbrev pub with_copies : (most : ℕ) → (marks : List Bool) → List Node → Cutting → Cutting
with_copies most marks [] s = s
with_copies most marks (n ∷ ns) s = with_copies most marks ns (with_copy most (slice_index_or marks (length s.places) false) n s)

abbrev pub with_ports : List (List ℕ × ℕ) → Net → Net
with_ports [] net = net
with_ports (i ∷ is) net = with_ports is (with_port i.0 i.1 net)

-- the input ports of a net, each with its node, and nothing else
abbrev pub ports_of : Net → Net
ports_of net = with_ports net.inputs (record { inputs = []; nodes = []; outputs = [] })

abbrev pub start_of : Net → Cutting
start_of net = record { net = ports_of net; bits = []; places = [] }

abbrev pub cutting_of : (most : ℕ) → Net → Cutting
cutting_of most net = with_copies most (needed net) net.nodes (start_of net)

-- the outputs are the same slices over the places
abbrev pub with_slices : Net → Cutting → Net
with_slices net s = record { inputs = s.net.inputs; nodes = s.net.nodes; outputs = map (renamed_output s.places) net.outputs }

abbrev pub cut_net : (most : ℕ) → Net → Net
cut_net most net = with_slices net (cutting_of most net)
