-- The bits of a wire: they are there, and they have its value.
use Rattle.std.proofs.Common.{◌≡◌, ℕ, suc, ◌+◌, ◌-◌, ◌<◌, ◌≤◌, Bool, true, false, List, [], ◌∷◌, ◌++◌, length, map, take, drop, reverse, Option, Some, None, refl, sym, ap, ◌∙◌, subst, arith, append_assoc}
use Rattle.std.specs.Prelude.{ℤ, All, IsTrue, ◌&&◌, nat_le, nat_lt, if◌then◌else◌, option_and_then, slice_get, slice_index}
use Rattle.std.proofs.lemmas.Bool.{and_parts}
use Rattle.std.proofs.lemmas.List.{drop_at, length-drop, length-take-le, map-append, reverse-append, reverse-reverse, take_at, take-append-drop}
use Rattle.std.proofs.lemmas.List.Elements.{All-append, All-cons, All-drop, All-nil, All-take}
use Rattle.std.proofs.lemmas.Option.{get_or_from_slice_get}
use Rattle.opgen_design.specs.declared.expr.Op.TheVariants.{And, Or, Xor, Cat, Plus, Minus}
use Rattle.opgen_design.specs.Sound.{AllReads, AllOperandsRead}
use Rattle.opgen_design.specs.Tree.{Tree, Trees, name, part, bits, port, inverse, chain, none, more}
use Rattle.opgen_design.specs.Value.{cut, value, chain_value, value_on, as_width, joined, width, chain_width, width_on}
use Rattle.opgen_design.proofs.WidthLaws.{some_before, part_fits}
use Rattle.opgen_net.specs.declared.node.Node.{Node}
use Rattle.opgen_net.specs.declared.word_bits.WordBit.{WordBit}
use Rattle.opgen_net.specs.declared.word_bits.WordBit.TheVariants.{Zero, One}
use Rattle.opgen_net.specs.Cells.{is_wire, are_wires}
use Rattle.opgen_net.specs.Flow.{Inputs}
use Rattle.opgen_net.specs.WordRule.{bit_flow, word_flow}
use Rattle.opgen_net.proofs.BitLists.{length-word_flow}
use Rattle.opgen_pieces.proofs.Carrying.{word-append}
use Rattle.opgen_cuts.specs.Wires.{constant_bit, constant_bits, bits_of_part, bits_at, wire_bits, operand_bits}
use Rattle.opgen_cuts.proofs.Renames.{AnyPort, words_at}

-- what holds of each bit of a constant, of a part and of a wire

module _ (P : WordBit → Type 0) (zeros : P Zero) (ones : P One) where
  constant-all : (b : Bool) → P (constant_bit b)
  constant-all false = zeros
  constant-all true = ones

  each-constant : (w : List Bool) → All P (map constant_bit w)
  each-constant [] = All-nil P
  each-constant (b ∷ w) = All-cons P (constant_bit b) (map constant_bit w) (constant-all b) (each-constant w)

  reversed : (given : List WordBit) → All P given → All P (reverse given)
  reversed [] h = All-nil P
  reversed (b ∷ given) h =
      subst (All P) (sym (reverse-append (b ∷ []) given))
      (All-append P (reverse given) (b ∷ []) (reversed given (λ k d l. h (suc k) d (omega (arith, l))))
      (All-cons P b [] (h 0 b (omega arith)) (All-nil P)))

  pub constant_bits-all : (w : List Bool) → All P (constant_bits w)
  constant_bits-all w = reversed (map constant_bit w) (each-constant w)

  module _ (given : List (List WordBit)) where
    abbrev AllOf : ℕ → Type 0
    AllOf n = All P (bits_at given n)

    mutual
      pub wire-all : (t : Tree) → AllReads AllOf AnyPort t → All P (wire_bits given t)
      wire-all (name n) h = h
      wire-all (part n high low) h =
          let bs = bits_at given n in
          let skipped = length bs - (high + 1) in
          All-take P (high + 1 - low) (drop skipped bs) (All-drop P skipped bs h)
      wire-all (bits w) h = constant_bits-all w
      wire-all (port p) h = All-nil P
      wire-all (inverse t) h = All-nil P
      wire-all (chain op ts) h = operands-all ts h

      operands-all : (ts : Trees) → AllOperandsRead AllOf AnyPort ts → All P (operand_bits given ts)
      operands-all none h = All-nil P
      operands-all (more t ts) h = All-append P (wire_bits given t) (operand_bits given ts) (wire-all t h.0) (operands-all ts h.1)

-- values

module _ (nodes : List Node) (inputs : Inputs) (t : ℤ) where
  abbrev word : List WordBit → List Bool
  word given = word_flow nodes inputs given t

  joined-flow : (high low : List WordBit) → word (high ++ low) ≡ word low ++ word high
  joined-flow = word-append nodes inputs t

  each-flow : (w : List Bool) → map (bit_flow nodes inputs t) (map constant_bit w) ≡ w
  each-flow [] = refl
  each-flow (false ∷ w) = ap (λ v. false ∷ v) (each-flow w)
  each-flow (true ∷ w) = ap (λ v. true ∷ v) (each-flow w)

  map-reverse : (given : List WordBit) → map (bit_flow nodes inputs t) (reverse given) ≡ reverse (map (bit_flow nodes inputs t) given)
  map-reverse [] = refl
  map-reverse (b ∷ given) =
      let f = bit_flow nodes inputs t in
      ap (map f) (reverse-append (b ∷ []) given)
      ∙ map-append f (reverse given) (b ∷ [])
      ∙ ap (λ v. v ++ f b ∷ []) (map-reverse given)
      ∙ sym (reverse-append (f b ∷ []) (map f given))

  pub constant-flow : (w : List Bool) → word (constant_bits w) ≡ w
  constant-flow w =
      let f = bit_flow nodes inputs t in
      ap reverse (map-reverse (map constant_bit w)) ∙ reverse-reverse (map f (map constant_bit w)) ∙ each-flow w

  -- the bits above, of and below a part
  part-flow : (given : List WordBit) (high low : ℕ) → low ≤ high → high < length given
      → word (bits_of_part high low given) ≡ cut high low (word given)
  part-flow given high low order within =
      let count = high + 1 - low in
      let skipped = length given - (high + 1) in
      let above = take skipped given in
      let rest = drop skipped given in
      let mid = take count rest in
      let below = drop count rest in
      let left : length rest ≡ high + 1 = omega (arith, length-drop skipped given, within) in
      let all : above ++ (mid ++ below) ≡ given =
      ap (λ r. above ++ r) (take-append-drop count rest) ∙ take-append-drop skipped given in
      let bottom : length (word below) ≡ low = omega (arith, length-word_flow nodes inputs t below, length-drop count rest, left, order) in
      let middle : length (word mid) ≡ count = length-word_flow nodes inputs t mid ∙ length-take-le count rest (omega (arith, left)) in
      let spelled : word given ≡ word below ++ (word mid ++ word above) =
      ap word (sym all)
      ∙ joined-flow above (mid ++ below)
      ∙ ap (λ v. v ++ word above) (joined-flow mid below)
      ∙ append_assoc (word below) (word mid) (word above) in
      sym (ap (λ v. take count (drop low v)) spelled
      ∙ ap (take count) (drop_at (word below) (word mid ++ word above) low bottom)
      ∙ take_at (word mid) (word above) count middle)

  module _ (given : List (List WordBit)) (ws : List ℕ) (was : ℕ → List Bool) where
    -- the bits of a node have its word
    abbrev pub HaveWordOf : ℕ → Type 0
    HaveWordOf n = (word (bits_at given n) ≡ was n) × (length (bits_at given n) ≡ slice_index ws n)

    mutual
      pub wire-value : (e : Tree) (w : ℕ) → IsTrue (is_wire e) → AllReads HaveWordOf AnyPort e → width ws [] e ≡ Some w
          → word (wire_bits given e) ≡ value (words_at was) e
      wire-value (name n) w wire h e = h.0
      wire-value (part n high low) w wire h e =
          let f : ℕ → Option ℕ = λ v. if nat_le low high && nat_lt high v then as_width (high + 1 - low) else None in
          let a = some_before (slice_get ws n) f w e in
          let fits = part_fits high low a.0 w a.2 in
          let within : high < length (bits_at given n) = omega (arith, fits.within, h.1, get_or_from_slice_get ws n a.0 0 a.1) in
          part-flow (bits_at given n) high low fits.in_order within ∙ ap (cut high low) h.0
      wire-value (bits v) w wire h e = constant-flow v
      wire-value (port p) w wire h e = absurd (cc)
      wire-value (inverse t) w wire h e = absurd (cc)
      wire-value (chain Cat ts) w wire h e = operands-value ts w wire h e
      wire-value (chain And ts) w wire h e = absurd (cc)
      wire-value (chain Or ts) w wire h e = absurd (cc)
      wire-value (chain Xor ts) w wire h e = absurd (cc)
      wire-value (chain Plus ts) w wire h e = absurd (cc)
      wire-value (chain Minus ts) w wire h e = absurd (cc)

      operands-value : (ts : Trees) (w : ℕ) → IsTrue (are_wires ts) → AllOperandsRead HaveWordOf AnyPort ts → chain_width ws [] Cat ts ≡ Some w
          → word (operand_bits given ts) ≡ chain_value (words_at was) Cat ts
      operands-value none w wire h e = absurd (cc)
      operands-value (more t none) w wire h e = absurd (cc)
      operands-value (more t (more u ts)) w wire h e =
          let a = some_before (width ws [] t) (λ x. width_on ws [] Cat x (more u ts)) w e in
          let both = and_parts (is_wire t) (are_wires (more u ts)) wire in
          joined-flow (wire_bits given t) (operand_bits given (more u ts))
          ∙ ap (λ v. word (operand_bits given (more u ts)) ++ v) (wire-value t a.0 both.0 h.0 a.1)
          ∙ on-value (more u ts) (value (words_at was) t) a.0 w both.1 h.1 a.2

      on-value : (ts : Trees) (v : List Bool) (x w : ℕ) → IsTrue (are_wires ts) → AllOperandsRead HaveWordOf AnyPort ts
          → width_on ws [] Cat x ts ≡ Some w → word (operand_bits given ts) ++ v ≡ value_on (words_at was) Cat v ts
      on-value none v x w wire h e = refl
      on-value (more t ts) v x w wire h e =
          let a = some_before (width ws [] t) (λ y. option_and_then (λ u. width_on ws [] Cat u ts) (joined Cat x y)) w e in
          let b = some_before (joined Cat x a.0) (λ u. width_on ws [] Cat u ts) w a.2 in
          let both = and_parts (is_wire t) (are_wires ts) wire in
          ap (λ r. r ++ v) (joined-flow (wire_bits given t) (operand_bits given ts))
          ∙ append_assoc (word (operand_bits given ts)) (word (wire_bits given t)) v
          ∙ ap (λ r. word (operand_bits given ts) ++ (r ++ v)) (wire-value t a.0 both.0 h.0 a.1)
          ∙ on-value ts (value (words_at was) t ++ v) b.0 w both.1 h.1 b.2
