-- In a net's design each name stands once, and none is the clock's.
use Rattle.std.proofs.Common.{◌≡◌, ℕ, zero, suc, ◌+◌, ◌-◌, ◌^◌, ◌/◌, ◌%◌, ◌<◌, ◌≤◌, Bool, true, false, List, [], ◌∷◌, ◌++◌, length, map, get_or, Some, refl, sym, ap, ◌∙◌, arith, inl, inr}
use Rattle.std.specs.Prelude.{nat_le, drop, ◌≢◌, codes, decimal, All, slice_get, slice_index_or}
use Rattle.std.specs.Char.{digit_value}
use Rattle.std.specs.List.{AllPairs}
use Rattle.std.specs.Str.Parse.{AllDigits}
use Rattle.std.proofs.lemmas.Bool.{cases_lt, and_from, le-leb}
use Rattle.std.proofs.lemmas.Bool.Decides.{nat_tests}
use Rattle.std.proofs.lemmas.Fmt.{decimal_by_steps, decimal_injective, decimal_is_IsNumeral}
use Rattle.std.proofs.lemmas.List.{append-nil, append_assoc, length-map, map-append, get_or_append_left, get_or-append_right}
use Rattle.std.proofs.lemmas.List.Elements.{All-cons, All-weaker}
use Rattle.std.proofs.lemmas.List.Kept.{AllPairs-cons}
use Rattle.std.proofs.lemmas.Option.{get_or_from_slice_get, slice_get_within}
use Rattle.opgen_net.specs.declared.node.Node.{Node}
use Rattle.opgen_net.specs.declared.net.Net.{Net}
use Rattle.opgen_net.specs.declared.net.Output as net_output
use Rattle.opgen_net.specs.Named.{port_names, begins_as_signal, IsFree, IsNamed}
use Rattle.opgen_net.specs.Made.{signal_name, input_port, output_port}
use Rattle.opgen_design.specs.declared.sound.Rule.TheVariants.{DeclaredTwice}
use Rattle.opgen_design.specs.Sound.{names_of, IsNewName, Holds}
use Rattle.opgen_schedule.specs.Schedule.{Schedule}
use Rattle.opgen_design.specs.Run.{enable_inputs}
use Rattle.opgen_pipe.specs.Copies.{copies, signal_of, signal_count}
use Rattle.opgen_pipe.specs.Standings.{standing_of, standings}
use Rattle.opgen_pipe.specs.Pipelined.{zero_word, all_of, own_signal, copy_signal, copy_name, node_signals, ports_of, design_of}
use Rattle.opgen_pipe.proofs.Lists.{get-mapped}
use Rattle.opgen_pipe.proofs.Blocks.{before-most, before-within}
use Rattle.opgen_pipe.proofs.Parts.{signal-own, signal-copy, signal_origin}
use Rattle.opgen_pipe.proofs.SoundParts.{holds}

-- a signal's name begins with `s` and a digit
abbrev Begins : ℕ → List ℕ → Type 0
Begins n ds = (more : List ℕ) → begins_as_signal (115 ∷ (ds ++ more)) ≡ true

one_digit : (n : ℕ) → n < 10 → Begins n ((48 + n) ∷ [])
one_digit n h more = and_from (nat_le 48 (48 + n)) (nat_le (48 + n) 57) (le-leb 48 (48 + n) (omega arith))
    (le-leb (48 + n) 57 (omega (arith, h)))

more_digits : (n : ℕ) (ds : List ℕ) → 10 ≤ n → Begins (n / 10) ds → Begins n (ds ++ (48 + n % 10) ∷ [])
more_digits n [] l h more = one_digit (n % 10) (omega arith) more
more_digits n (d ∷ ds) l h more = h []

digits_begin : (i : ℕ) → i < 2 ^ 64 → Begins i (decimal i)
digits_begin i l = decimal_by_steps Begins one_digit more_digits i l

-- the name of a signal: its node's, or a copy's
abbrev label : (i copy : ℕ) → List ℕ
label i zero = signal_name i
label i (suc k) = copy_name i (suc k)

-- what stands in a name after the node's number
abbrev tail_of : ℕ → List ℕ
tail_of zero = []
tail_of (suc k) = codes "_" ++ decimal (suc k)

label-is : (i k : ℕ) → label i k ≡ 115 ∷ (decimal i ++ tail_of k)
label-is i zero = ap (λ ds. 115 ∷ ds) (sym (append-nil (decimal i)))
label-is i (suc k) = ap (λ ds. 115 ∷ ds) (append_assoc (decimal i) (codes "_") (decimal (suc k)))

label_begins : (i k : ℕ) → i < 2 ^ 64 → begins_as_signal (label i k) ≡ true
label_begins i k l = ap begins_as_signal (label-is i k) ∙ digits_begin i l (tail_of k)

no_clock : (i k : ℕ) → label i k ≢ codes "clk"
no_clock i k e = let heads : ◌≡◌ {A = ℕ} 115 99 = ap (λ n. get_or n 0 0) (sym (label-is i k) ∙ e) in omega (arith, heads)

no_underscore : (c : ℕ) → digit_value c < 10 → c ≡ 95 → ⊥
no_underscore c h e = grind (arith, nat_tests)

-- digits end where an underscore stands
module _ where
  same_digits : (ds es : List ℕ) (k m : ℕ) → AllDigits 10 ds → AllDigits 10 es → ds ++ tail_of k ≡ es ++ tail_of m → (ds ≡ es)
      × (tail_of k ≡ tail_of m)
  same_digits [] [] k m a b e = (refl, e)
  same_digits [] (c ∷ es) zero m a b e = absurd (cc)
  same_digits [] (c ∷ es) (suc k) m a b e = absurd (no_underscore c b.0 (ap (λ n. get_or n 0 0) (sym e)))
  same_digits (c ∷ ds) [] k zero a b e = absurd (cc)
  same_digits (c ∷ ds) [] k (suc m) a b e = absurd (no_underscore c a.0 (ap (λ n. get_or n 0 0) e))
  same_digits (c ∷ ds) (x ∷ es) k m a b e =
      let heads : c ≡ x = ap (λ n. get_or n 0 0) e in
      let rest = same_digits ds es k m a.1 b.1 (ap (drop 1) e) in
      (ap (λ y. y ∷ ds) heads ∙ ap (λ ys. x ∷ ys) rest.0, rest.1)

same_tail : (k m : ℕ) → k < 2 ^ 64 → m < 2 ^ 64 → tail_of k ≡ tail_of m → k ≡ m
same_tail zero zero l q e = refl
same_tail zero (suc m) l q e = absurd (cc)
same_tail (suc k) zero l q e = absurd (cc)
same_tail (suc k) (suc m) l q e = decimal_injective (suc k) (suc m) l q (ap (drop 1) e)

-- names of signals differ
labels_differ : (i k j m : ℕ) → i < 2 ^ 64 → k < 2 ^ 64 → j < 2 ^ 64 → m < 2 ^ 64 → label i k ≡ label j m → (i ≡ j) × (k ≡ m)
labels_differ i k j m a b c d e =
    let whole : 115 ∷ (decimal i ++ tail_of k) ≡ 115 ∷ (decimal j ++ tail_of m) = sym (label-is i k) ∙ e ∙ label-is j m in
    let parts = same_digits (decimal i) (decimal j) k m (decimal_is_IsNumeral i a).0.1 (decimal_is_IsNumeral j c).0.1 (ap (drop 1) whole) in
    (decimal_injective i j a c parts.0, same_tail k m b d parts.1)

input_names : (is : List (List ℕ × ℕ)) → map (λ p. p.name) (map input_port is) ≡ map (λ i. i.0) is
input_names [] = refl
input_names (i ∷ is) = ap (λ ns. i.0 ∷ ns) (input_names is)

output_names : (os : List net_output.Output) → map (λ p. p.name) (map output_port os) ≡ map (λ o. o.name) os
output_names [] = refl
output_names (o ∷ os) = ap (λ ns. o.name ∷ ns) (output_names os)

-- the names of the ports, that of the enable among them
abbrev all_names : Bool → Net → List (List ℕ)
all_names enable net = map (λ i. i.0) (enable_inputs enable ++ net.inputs) ++ map (λ o. o.name) net.outputs

record Free (name : List ℕ) : Type 0 where
  no_clock_name : name ≢ codes "clk"
  no_signal_name : begins_as_signal name ≡ true → ⊥

ports_free : (called : List ℕ) (net : Net) → IsNamed called net → All Free (port_names net)
ports_free called net named = All-weaker IsFree Free (λ n f. record { no_clock_name = f.no_clock; no_signal_name = λ b. f.no_signal b })
    (port_names net) named.free

all_free : (enable : Bool) (called : List ℕ) (net : Net) → IsNamed called net → All Free (all_names enable net)
all_free false called net named = ports_free called net named
all_free true called net named =
    All-cons Free (codes "ce") (port_names net)
    (record { no_clock_name = λ e. (let x : ◌≡◌ {A = ℕ} 101 108 = ap (λ n. get_or n 1 0) e in omega (arith, x)); no_signal_name = λ b. cc })
    (ports_free called net named)

all_differ : (enable : Bool) (called : List ℕ) (net : Net) → IsNamed called net → AllPairs (λ a b. a ≢ b) (all_names enable net)
all_differ false called net named = named.differ
all_differ true called net named =
    AllPairs-cons (λ a b. a ≢ b) (codes "ce") (port_names net)
    (All-weaker IsFree (λ n. codes "ce" ≢ n) (λ n f e. f.no_enable (sym e)) (port_names net) named.free) named.differ

module _ (called : List ℕ) (enable : Bool) (net : Net) (s : Schedule) (named : IsNamed called net) (few : signal_count net s ≤ 2 ^ 64) where
  abbrev ports : List (List ℕ)
  ports = map (λ p. p.name) (ports_of enable net)

  abbrev signals : List (List ℕ)
  signals = map (λ x. x.name) (all_of (node_signals net (standings net s)) 0 net.nodes)

  abbrev names : List (List ℕ)
  names = names_of (design_of called enable net s)

  ports-are : map (λ p. p.name) (ports_of enable net) ≡ all_names enable net
  ports-are =
      map-append (λ p. p.name) (map input_port (enable_inputs enable ++ net.inputs)) (map output_port net.outputs)
      ∙ ap (λ ns. ns ++ map (λ p. p.name) (map output_port net.outputs)) (input_names (enable_inputs enable ++ net.inputs))
      ∙ ap (λ ns. map (λ i. i.0) (enable_inputs enable ++ net.inputs) ++ ns) (output_names net.outputs)

  port_count : length (ports_of enable net) ≡ length (all_names enable net)
  port_count = sym (length-map (ports_of enable net) (λ p. p.name)) ∙ ap length ports-are

  -- a node's number and a copy's are numbers of signals
  record Numbered (m : ℕ) : Type 0 where
    node : ℕ
    copy : ℕ
    small_node : node < 2 ^ 64
    small_copy : copy < 2 ^ 64
    place : m ≡ signal_of net s node copy
    labelled : slice_index_or signals m [] ≡ label node copy

  at_label : (i k : ℕ) (n : Node) → slice_get net.nodes i ≡ Some n → k ≤ copies net s i → slice_index_or signals (signal_of net s i k) []
      ≡ label i k
  at_label i zero n h l =
      let x = own_signal (zero_word net i) (standing_of net s i n) i n in
      get_or_from_slice_get signals (signal_of net s i 0) (signal_name i) []
      (get-mapped (λ x. x.name) (all_of (node_signals net (standings net s)) 0 net.nodes) (signal_of net s i 0) x (signal-own net s i n h))
  at_label i (suc k) n h l =
      let x = copy_signal (zero_word net i) (standing_of net s i n) i (1 + k) in
      let e : 1 + k ≡ suc k = omega arith in
      get_or_from_slice_get signals (signal_of net s i (suc k)) (copy_name i (1 + k)) []
      (get-mapped (λ x. x.name) (all_of (node_signals net (standings net s)) 0 net.nodes) (signal_of net s i (suc k)) x
      (signal-copy net s i n h k (omega (arith, l))))
      ∙ ap (copy_name i) e

  numbered : (m : ℕ) → m < length (all_of (node_signals net (standings net s)) 0 net.nodes) → Numbered m
  numbered m l =
      let o = signal_origin net s m l in
      let there = slice_get_within net.nodes o.0 o.2 o.3 in
      let within = before-within (copies net s) o.0 (length net.nodes) there in
      record {
        node = o.0;
        copy = o.1;
        small_node = omega (arith, before-most (copies net s) o.0, within, few);
        small_copy = omega (arith, o.4, within, few);
        place = o.5;
        labelled = ap (λ k. slice_index_or signals k []) o.5 ∙ at_label o.0 o.1 o.2 o.3 o.4;
      }

  -- a name among the ports
  at_port : (i : ℕ) → i < length (all_names enable net) → slice_index_or names i [] ≡ slice_index_or (all_names enable net) i []
  at_port i l = get_or_append_left ports signals [] i (omega (arith, l, ap length ports-are)) ∙ ap (λ ns. get_or ns i []) ports-are

  -- a name among the signals
  at_signal : (i : ℕ) → length (all_names enable net) ≤ i → slice_index_or names i []
      ≡ slice_index_or signals (i - length (all_names enable net)) []
  at_signal i l = get_or-append_right ports signals (length (all_names enable net)) i [] (ap length ports-are) l

  new_port : (i : ℕ) → i < length (all_names enable net) → IsNewName names i
  new_port i l = record {
    not_clock = λ e. (all_free enable called net named i [] l).no_clock_name (sym (at_port i l) ∙ e);
    not_before = λ j m e. all_differ enable called net named j i [] m l (sym (at_port j (omega (arith, m, l))) ∙ e ∙ at_port i l);
  }

  new_signal : (i : ℕ) → length (all_names enable net) ≤ i
      → i - length (all_names enable net) < length (all_of (node_signals net (standings net s)) 0 net.nodes) → IsNewName names i
  new_signal i l m =
      let count = length (all_names enable net) in
      let x = numbered (i - count) m in
      let at : slice_index_or names i [] ≡ label x.node x.copy = at_signal i l ∙ x.labelled in
      record {
        not_clock = λ e. no_clock x.node x.copy (sym at ∙ e);
        not_before = λ j k e. elim (cases_lt j count) [
          | inl a ↦
              let same : label x.node x.copy ≡ slice_index_or (all_names enable net) j [] = sym at ∙ sym e ∙ at_port j a in
              (all_free enable called net named j [] a).no_signal_name
              (ap begins_as_signal (sym same) ∙ label_begins x.node x.copy x.small_node)
          | inr a ↦
              let y = numbered (j - count) (omega (arith, a, k, m)) in
              let same : label y.node y.copy ≡ label x.node x.copy = sym (at_signal j a ∙ y.labelled) ∙ e ∙ at in
              let equal = labels_differ y.node y.copy x.node x.copy y.small_node y.small_copy x.small_node x.small_copy same in
              let place : j - count ≡ i - count = y.place ∙ ap (λ n. signal_of net s n y.copy) equal.0 ∙ ap (signal_of net s x.node) equal.1
              ∙ sym x.place in
              omega (arith, place, a, k)
        ];
      }

  pub declared_once : Holds (design_of called enable net s) DeclaredTwice
  declared_once =
      holds (design_of called enable net s) DeclaredTwice tt
      (λ i p h. new_port i (omega (arith, slice_get_within (ports_of enable net) i p h, port_count)))
      (
      λ i x h.
      let there = slice_get_within (all_of (node_signals net (standings net s)) 0 net.nodes) i x h in
      new_signal (length (ports_of enable net) + i) (omega (arith, port_count)) (omega (arith, there, port_count))
      )
      (λ i k h. tt)
