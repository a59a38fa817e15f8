-- The start of the recipe: the input ports of the old net, each with its node.
use Rattle.std.proofs.Common.{◌≡◌, ℕ, ◌<◌, List, [], ◌∷◌, ◌++◌, length, length-append, map, Some, refl, sym, ap, ◌∙◌, arith, append_assoc, below_more}
use Rattle.std.specs.Prelude.{All, slice_get, slice_index, slice_index_or}
use Rattle.std.proofs.lemmas.List.{append-nil, get_or-map, get_or_append_left, get_or_at, length-map, map-append}
use Rattle.std.proofs.lemmas.List.Elements.{All-append, All-cons, All-head, All-nil, All-tail}
use Rattle.std.proofs.lemmas.Option.{get_or_from_slice_get, slice_get-get_or, slice_get_within}
use Rattle.opgen_design.specs.Value.{IsWidth}
use Rattle.opgen_net.specs.declared.net.Net.{Net}
use Rattle.opgen_net.specs.declared.node.Node.{Node}
use Rattle.opgen_net.specs.declared.node.Node.TheVariants.{Input, Constant}
use Rattle.opgen_net.specs.Delays.{delay_count, delays}
use Rattle.opgen_net.specs.Placed.{with_port}
use Rattle.opgen_net.specs.Valid.{IsValid, LiesWithin, input_widths}
use Rattle.opgen_net.proofs.Appending.{valid-input}
use Rattle.opgen_net.proofs.Delays.{at-most, delay_count-append, passes-count}
use Rattle.opgen_net.proofs.FlowLaws.{flow_equation}
use Rattle.opgen_net.proofs.InputLaws.{input_node}
use Rattle.opgen_net.proofs.Standing.{may_stand, width_at}
use Rattle.opgen_cuts.specs.Recipe.{ports_of, start_of, with_ports}
use Rattle.opgen_cuts.specs.Same.{HasNoWideSum}
use Rattle.opgen_cuts.proofs.State.{IsCut, IsPort}

-- a port as a name and a width
abbrev Port : Type 0
Port = List ℕ × ℕ

abbrev width_of : Port → ℕ
width_of i = i.1

-- a net of input ports alone, whose nodes are theirs
pub record ArePorts (net : Net) : Type 0 where
  pub valid : IsValid net
  pub count : length net.nodes ≡ length net.inputs
  pub each : (p : ℕ) → p < length net.inputs → slice_index_or net.nodes p (Constant []) ≡ Input p (slice_index (input_widths net) p)
  pub still : delay_count net.nodes ≡ 0
  pub narrow : (most : ℕ) → All (HasNoWideSum most) net.nodes

pub port-more : (name : List ℕ) (w : ℕ) (net : Net) → IsWidth w → ArePorts net → ArePorts (with_port name w net)
port-more name w net wide h =
    let n = length net.inputs in
    let i : Port = (name, w) in
    let node : Node = Input n w in
    let ws = input_widths net in
    let long : length ws ≡ n = length-map net.inputs width_of in
    let all : map width_of (net.inputs ++ i ∷ []) ≡ ws ++ w ∷ [] = map-append width_of net.inputs (i ∷ []) in
    let P : ℕ → Type 0 = λ p. slice_index_or (net.nodes ++ node ∷ []) p (Constant []) ≡ Input p (slice_index (map width_of (net.inputs ++ i ∷ [])) p) in
    let before : (p : ℕ) → p < n → P p =
    λ p l.
    get_or_append_left net.nodes (node ∷ []) (Constant []) p (omega (arith, l, h.count))
    ∙ h.each p l
    ∙ ap (Input p) (sym (ap (λ v. slice_index v p) all ∙ get_or_append_left ws (w ∷ []) 0 p (omega (arith, l, long)))) in
    let last : P n =
    get_or_at net.nodes node [] (Constant []) n h.count
    ∙ ap (Input n) (sym (ap (λ v. slice_index v n) all ∙ get_or_at ws w [] 0 n long)) in
    record {
      valid = valid-input net name w h.valid wide;
      count = omega (arith, length-append net.nodes (node ∷ []), length-append net.inputs (i ∷ []), h.count);
      each = λ p l. below_more P n before last p (omega (arith, l, length-append net.inputs (i ∷ [])));
      still = omega (arith, delay_count-append net.nodes (node ∷ []), h.still);
      narrow = λ most. All-append (HasNoWideSum most) net.nodes (node ∷ []) (h.narrow most)
          (All-cons (HasNoWideSum most) node [] tt (All-nil (HasNoWideSum most)));
    }

abbrev HasWidth : Port → Type 0
HasWidth i = IsWidth i.1

pub ports-all : (is : List Port) (net : Net) → All HasWidth is → ArePorts net → ArePorts (with_ports is net)
ports-all [] net wide h = h
ports-all (i ∷ is) net wide h =
    ports-all is (with_port i.0 i.1 net) (All-tail HasWidth i is wide) (port-more i.0 i.1 net (All-head HasWidth i is wide) h)

ports-inputs : (is : List Port) (net : Net) → (with_ports is net).inputs ≡ net.inputs ++ is
ports-inputs [] net = sym (append-nil net.inputs)
ports-inputs (i ∷ is) net = ports-inputs is (with_port i.0 i.1 net) ∙ append_assoc net.inputs (i ∷ []) is

abbrev pub empty : Net
empty = record { inputs = []; nodes = []; outputs = [] }

empty-ports : ArePorts empty
empty-ports = record {
  valid = record { nodes = tt; inputs = refl; outputs = All-nil (λ o. LiesWithin [] o.from) };
  count = refl;
  each = λ p l. absurd (omega (arith, l));
  still = refl;
  narrow = λ most. All-nil (HasNoWideSum most);
}

-- each input of a valid net has the width of a signal
pub inputs-wide : (net : Net) → IsValid net → All HasWidth net.inputs
inputs-wide net valid k d l =
    let i = slice_index_or net.inputs k d in
    let get : slice_get (input_widths net) k ≡ Some i.1 =
    slice_get-get_or (input_widths net) k 0 (omega (arith, l, length-map net.inputs width_of)) ∙ ap Some (get_or-map width_of net.inputs k d 0 l) in
    let node = input_node net valid k i.1 get in
    may_stand net.nodes valid.nodes node.0 (Input k i.1) node.1

module _ (old : Net) (valid : IsValid old) where
  abbrev made : Net
  made = ports_of old

  pub made-ports : ArePorts made
  made-ports = ports-all old.inputs empty (inputs-wide old valid) empty-ports

  made-inputs : made.inputs ≡ old.inputs
  made-inputs = ports-inputs old.inputs empty

  port-is : (p w : ℕ) → slice_get (input_widths old) p ≡ Some w → IsPort made p w
  port-is p w h =
      let l : p < length made.inputs =
      omega (arith, slice_get_within (input_widths old) p w h, length-map old.inputs width_of, ap length made-inputs) in
      let wide : slice_index (input_widths made) p ≡ w =
      ap (λ is. slice_index (map width_of is) p) made-inputs ∙ get_or_from_slice_get (input_widths old) p w 0 h in
      let get : slice_get made.nodes p ≡ Some (Input p w) =
      slice_get-get_or made.nodes p (Constant []) (omega (arith, l, made-ports.count))
      ∙ ap Some (made-ports.each p l ∙ ap (Input p) wide) in
      record {
        there = slice_get_within made.nodes p (Input p w) get;
        wide = width_at made.nodes made-ports.valid.nodes p (Input p w) get;
        words = λ inputs t. flow_equation made.nodes made-ports.valid.nodes inputs p (Input p w) t get;
        late = at-most 0 (delays made.nodes) p (passes-count 0 made.nodes (omega (arith, made-ports.still)));
      }

  pub start-cut : (most : ℕ) → IsCut old most 0 (start_of old)
  start-cut most = record {
    valid = made-ports.valid;
    inputs = made-inputs;
    bits_count = refl;
    places_count = refl;
    ports = port-is;
    bits = λ n l. absurd (omega (arith, l));
    places = λ n l m. absurd (omega (arith, l));
    passes = λ m each. passes-count m made.nodes (omega (arith, made-ports.still));
    narrow = made-ports.narrow most;
  }
