-- The node of the least or the greatest number.
use Rattle.std.proofs.Common.{◌≡◌, ℕ, ◌+◌, ◌-◌, ◌^◌, ◌<◌, ◌≤◌, cond, Bool, true, false, List, [], ◌∷◌, length, length-append, ◌&&◌, if◌then◌else◌, refl, sym, ap, ◌∙◌, subst, arith}
use Rattle.std.specs.Prelude.{ℤ, All, slice_index, slice_index_or}
use Rattle.opgen_ports.proofs.InputPorts.{some_bits}
use Rattle.opgen_num.specs.declared.format.Format.{Format}
use Rattle.opgen_num.specs.Words.{highest}
use Rattle.opgen_num.specs.WordLaws.{length-word}
use Rattle.opgen_design.specs.Run.{AreWords}
use Rattle.opgen_design.specs.Value.{cut, chosen, IsWidth}
use Rattle.opgen_net.specs.declared.cell.Class.TheVariants.{Wire}
use Rattle.opgen_net.specs.declared.net.Net.{Net}
use Rattle.opgen_net.specs.declared.node.Node.{Node}
use Rattle.opgen_net.specs.declared.node.Node.TheVariants.{Constant, Cells, Choice}
use Rattle.opgen_net.specs.Flow.{Inputs, flow}
use Rattle.opgen_net.specs.Placed.{Placed, with_last, whole}
use Rattle.opgen_net.specs.Valid.{IsValid, FitsChoice, input_widths, widths}
use Rattle.opgen_net.proofs.Appending.{flow-append_last, width-append_last}
use Rattle.opgen_net.proofs.FlowWidths.{flow-width}
use Rattle.opgen_net.proofs.Grown.{grown-flow, grown-width}
use Rattle.opgen_net.proofs.Later.{Later, later-then, later-node}
use Rattle.opgen_net.proofs.WordLaws.{cut-one, all-bits}
use Rattle.opgen_saturate.specs.Recipe.{bit_of, least_word, greatest_word, counting, with_sign, with_ends, with_limit}
use Rattle.opgen_saturate.specs.Converts.{AreFormats}
use Rattle.opgen_saturate.proofs.Expressions.{bit-fits}
use Rattle.opgen_saturate.proofs.Outside.{is_below_zero, highest-at}

-- a net that has grown by a node that has at every time the number that a value outside becomes
pub record HasLimit (net : Net) (node : ℕ) (format to : Format) (limit : Placed) : Type 0 where
  pub later : Later net limit.net
  pub width : slice_index (widths limit.net.nodes) limit.place ≡ to.width
  pub word :
      (inputs : Inputs) (t : ℤ) → All (AreWords (input_widths net)) inputs
      → flow limit.net.nodes inputs limit.place t
      ≡ cond (is_below_zero (flow net.nodes inputs node t) format) (least_word to) (greatest_word to)

module _ (net : Net) (node : ℕ) (format to : Format) (valid : IsValid net) (are : AreFormats net node format to) where
  abbrev m : ℕ
  m = to.width

  abbrev w : ℕ
  w = format.width

  abbrev n : ℕ
  n = length net.nodes

  pub some : 1 ≤ m
  some = some_bits to.signed m are.to_width.0

  few : 1 ≤ w
  few = some_bits format.signed w are.from_width.0

  pub to-wide : IsWidth m
  to-wide = (some, are.to_width.1)

  abbrev least_node : Node
  least_node = Constant (least_word to)

  abbrev greatest_node : Node
  greatest_node = Constant (greatest_word to)

  least-length : length (least_word to) ≡ m
  least-length = length-word m (if to.signed then 2 ^ (m - 1) else 0)

  greatest-length : length (greatest_word to) ≡ m
  greatest-length = length-word m (2 ^ counting to - 1)

  -- of an unsigned number
  unsigned_limit : format.signed ≡ false
      → HasLimit net node format to (record { net = with_last net greatest_node; place = n })
  unsigned_limit e = record {
    later = later-node net greatest_node valid (subst IsWidth (sym greatest-length) to-wide) refl;
    width = width-append_last net.nodes greatest_node ∙ greatest-length;
    word = λ inputs t words. flow-append_last net.nodes greatest_node inputs t
        ∙ ap (λ (c : Bool). cond (c && highest (flow net.nodes inputs node t)) (least_word to) (greatest_word to)) (sym e);
  }

  -- of a signed one
  abbrev one : Net
  one = with_sign node format net

  abbrev two : Net
  two = with_last one least_node

  abbrev three : Net
  three = with_ends node format to net

  abbrev choice : Node
  choice = Choice n (whole m (n + 1)) (whole m (n + 2))

  abbrev sign_node : Node
  sign_node = Cells Wire 1 (bit_of node (w - 1))

  pub sign-fits : w - 1 < slice_index (widths net.nodes) node
  sign-fits = omega (arith, are.wide, few)

  one-later : Later net one
  one-later = later-node net sign_node valid (refl, bit-fits (widths net.nodes) node (w - 1) sign-fits) refl

  two-after : Later one two
  two-after = later-node one least_node one-later.valid (subst IsWidth (sym least-length) to-wide) refl

  three-after : Later two three
  three-after = later-node two greatest_node two-after.valid (subst IsWidth (sym greatest-length) to-wide) refl

  three-later : Later net three
  three-later = later-then net two three (later-then net one two one-later two-after) three-after

  pub at_one : length one.nodes ≡ n + 1
  at_one = length-append net.nodes (sign_node ∷ []) ∙ omega arith

  pub at_two : length two.nodes ≡ n + 2
  at_two = length-append one.nodes (least_node ∷ []) ∙ omega (arith, at_one)

  pub at_three : length three.nodes ≡ n + 3
  at_three = length-append two.nodes (greatest_node ∷ []) ∙ omega (arith, at_two)

  sign-width : slice_index (widths three.nodes) n ≡ 1
  sign-width =
      grown-width one three (later-then one two three two-after three-after).grown n (omega (arith, at_one))
      ∙ width-append_last net.nodes sign_node

  least-width : slice_index (widths three.nodes) (n + 1) ≡ m
  least-width =
      grown-width two three three-after.grown (n + 1) (omega (arith, at_two))
      ∙ ap (slice_index (widths two.nodes)) (sym at_one)
      ∙ width-append_last one.nodes least_node
      ∙ least-length

  greatest-width : slice_index (widths three.nodes) (n + 2) ≡ m
  greatest-width =
      ap (slice_index (widths three.nodes)) (sym at_two)
      ∙ width-append_last two.nodes greatest_node
      ∙ greatest-length

  pub choice-fits : FitsChoice (widths three.nodes) n (whole m (n + 1)) (whole m (n + 2))
  choice-fits = record {
    one_bit = sign-width;
    one_lies = (omega arith, omega (arith, least-width, some));
    other_lies = (omega arith, omega (arith, greatest-width, some));
    same_width = refl;
  }

  module _ (inputs : Inputs) (t : ℤ) (words : All (AreWords (input_widths net)) inputs) where
    abbrev v : List Bool
    v = flow net.nodes inputs node t

    long : length v ≡ w
    long = flow-width net valid inputs words node t ∙ are.wide

    sign-word : flow three.nodes inputs n t ≡ highest v ∷ []
    sign-word =
        grown-flow one three (later-then one two three two-after three-after).grown inputs n t (omega (arith, at_one))
        ∙ flow-append_last net.nodes sign_node inputs t
        ∙ cut-one v (w - 1) (omega (arith, long, few))
        ∙ ap (λ k. slice_index_or v (k - 1) false ∷ []) (sym long)
        ∙ ap (λ b. b ∷ []) (sym (highest-at v (omega (arith, long, few))))

    least-flow : flow three.nodes inputs (n + 1) t ≡ least_word to
    least-flow =
        grown-flow two three three-after.grown inputs (n + 1) t (omega (arith, at_two))
        ∙ ap (λ k. flow two.nodes inputs k t) (sym at_one)
        ∙ flow-append_last one.nodes least_node inputs t

    greatest-flow : flow three.nodes inputs (n + 2) t ≡ greatest_word to
    greatest-flow = ap (λ k. flow three.nodes inputs k t) (sym at_two) ∙ flow-append_last two.nodes greatest_node inputs t

    picked : (b : Bool) → chosen (b ∷ []) (least_word to) (greatest_word to) ≡ cond b (least_word to) (greatest_word to)
    picked true = refl
    picked false = refl

    choice-flow : flow (with_last three choice).nodes inputs (n + 3) t ≡ cond (highest v) (least_word to) (greatest_word to)
    choice-flow =
        ap (λ k. flow (with_last three choice).nodes inputs k t) (sym at_three)
        ∙ flow-append_last three.nodes choice inputs t
        ∙ ap (λ x. chosen x (cut (m - 1) 0 (flow three.nodes inputs (n + 1) t)) (cut (m - 1) 0 (flow three.nodes inputs (n + 2) t))) sign-word
        ∙ ap (λ x. chosen (highest v ∷ []) (cut (m - 1) 0 x) (cut (m - 1) 0 (flow three.nodes inputs (n + 2) t))) least-flow
        ∙ ap (λ x. chosen (highest v ∷ []) (cut (m - 1) 0 (least_word to)) (cut (m - 1) 0 x)) greatest-flow
        ∙ ap (λ x. chosen (highest v ∷ []) x (cut (m - 1) 0 (greatest_word to))) (all-bits (least_word to) m some least-length)
        ∙ ap (λ x. chosen (highest v ∷ []) (least_word to) x) (all-bits (greatest_word to) m some greatest-length)
        ∙ picked (highest v)

  signed_limit : format.signed ≡ true → HasLimit net node format to (record { net = with_last three choice; place = n + 3 })
  signed_limit e = record {
    later = later-then net three (with_last three choice) three-later (later-node three choice three-later.valid choice-fits refl);
    width = ap (slice_index (widths (with_last three choice).nodes)) (sym at_three)
        ∙ width-append_last three.nodes choice
        ∙ omega (arith, some);
    word = λ inputs t words. choice-flow inputs t words
        ∙ ap (λ (c : Bool). cond (c && highest (flow net.nodes inputs node t)) (least_word to) (greatest_word to)) (sym e);
  }

  pub has_limit : HasLimit net node format to (with_limit node format to net)
  has_limit = go format.signed refl
    where
      go : (signed : Bool) → format.signed ≡ signed
          → HasLimit net node format to (if signed then record { net = with_last three choice; place = n + 3 } else record { net = with_last net greatest_node; place = n })
      go true e = signed_limit e
      go false e = unsigned_limit e
