-- A node of the bits of another, in the width of a format: it keeps every number of the format's range, and each other one modulo two
-- to the power of the width.
use Rattle.std.proofs.Common.{◌≡◌, ℕ, ◌^◌, ◌≤◌, Bool, true, List, length, sym, ap, ◌∙◌, subst, arith}
use Rattle.std.specs.Prelude.{ℤ, pos, ◌+ℤ◌, ◌*ℤ◌, All, slice_index}
use Rattle.opgen_num.specs.declared.format.Format.{Format}
use Rattle.opgen_num.specs.declared.mode.Overflow.{Overflow}
use Rattle.opgen_num.specs.declared.mode.Overflow.TheVariants.{Saturate, Wrap}
use Rattle.opgen_num.specs.Formats.{Holds}
use Rattle.opgen_num.specs.Words.{val, nat}
use Rattle.opgen_num.proofs.Values.{val_holds}
use Rattle.opgen_design.specs.Run.{AreWords}
use Rattle.opgen_design.specs.Value.{IsWidth}
use Rattle.opgen_net.specs.declared.net.Net.{Net}
use Rattle.opgen_net.specs.declared.word_bits.WordBit.{WordBit}
use Rattle.opgen_net.specs.Flow.{Inputs, flow}
use Rattle.opgen_net.specs.Placed.{Placed, number_at, with_bits}
use Rattle.opgen_net.specs.Valid.{IsValid, input_widths, widths}
use Rattle.opgen_net.specs.WordRule.{IsThere}
use Rattle.opgen_net.proofs.FlowWidths.{flow-width}
use Rattle.opgen_net.proofs.Later.{Later, bits-later, words-later}
use Rattle.opgen_net.proofs.WordLaws.{word-has_bits, word-found_width}
use Rattle.opgen_ports.specs.Good.{least_of, greatest_of, IsTurned}
use Rattle.opgen_ports.proofs.InputPorts.{some_bits}
use Rattle.opgen_saturate.specs.Recipe.{is_wider, resized}
use Rattle.opgen_saturate.specs.Converts.{AreFormats, Converts}
use Rattle.opgen_saturate.proofs.Ends.{value_is}
use Rattle.opgen_saturate.proofs.Resized.{resized-length, resized-there, residue, turned}
use Rattle.opgen_saturate.proofs.Decision.{stays, wider-holds}

-- a valid net that has grown by such a node
pub record Made (overflow : Overflow) (net : Net) (node : ℕ) (format to : Format) (made : Placed) : Type 0 where
  pub later : Later net made.net
  pub converts : Converts overflow net node format to made.net made.place

-- a node of the bits of another in the width of a format
module _ (net : Net) (node : ℕ) (format to : Format) (valid : IsValid net) (are : AreFormats net node format to) where
  abbrev m : ℕ
  m = to.width

  abbrev given : List WordBit
  given = resized node format m

  abbrev low : Placed
  low = with_bits net given

  some : 1 ≤ m
  some = some_bits to.signed m are.to_width.0

  few : 1 ≤ format.width
  few = some_bits format.signed format.width are.from_width.0

  pub wide : IsWidth (length given)
  wide = subst IsWidth (sym (resized-length node format m)) (some, are.to_width.1)

  pub there : All (IsThere (widths net.nodes)) given
  there = resized-there (widths net.nodes) node format m are.from_width are.wide

  pub low-later : Later net low.net
  low-later = bits-later net valid given wide there

  pub low-width : slice_index (widths low.net.nodes) low.place ≡ m
  low-width = word-found_width net valid given there ∙ resized-length node format m

  module _ (inputs : Inputs) (t : ℤ) (words : All (AreWords (input_widths net)) inputs) where
    abbrev v : List Bool
    v = flow net.nodes inputs node t

    pub long : length v ≡ format.width
    long = flow-width net valid inputs words node t ∙ are.wide

    pub low-long : length (flow low.net.nodes inputs low.place t) ≡ m
    low-long = flow-width low.net low-later.valid inputs (words-later net low.net low-later inputs words) low.place t ∙ low-width

    -- the number is one of its own format
    pub node-held : Holds format.signed format.width (val v format)
    node-held = subst (λ n. Holds format.signed n (val v format)) long (val_holds v format (omega (arith, long, few)))

    abbrev low_word : List Bool
    low_word = flow low.net.nodes inputs low.place t

    low-residue : (k : ℤ) × (val v format +ℤ (pos (2 ^ m) *ℤ k) ≡ pos (nat low_word))
    low-residue =
        let k = residue net.nodes inputs t node format are.from_width long m in
        let n : number_at net.nodes inputs t given ≡ nat low_word = ap nat (sym (word-has_bits net valid given there inputs t words)) in
        (k.0, k.1 ∙ ap pos n)

    -- a number of the range is kept
    pub low-number : Holds to.signed m (val v format) → val low_word to ≡ val v format
    low-number range = value_is low_word to (val v format) low-residue.0 low-long are.to_width low-residue.1 range

    -- each number is kept modulo two to the power of the width
    low-turned : IsTurned m (val v format) (val low_word to)
    low-turned = turned low_word to (val v format) low-residue.0 low-long low-residue.1

  -- where the format is wider
  pub wider : is_wider format to ≡ true → Made Saturate net node format to low
  wider h = record {
    later = low-later;
    converts = record {
      width = low-width;
      number = λ inputs t words.
          let x = flow net.nodes inputs node t in
          let range = wider-holds format to (val x format) few h (node-held inputs t words) in
          low-number inputs t words range ∙ sym (stays (least_of to) (greatest_of to) (val x format) range.0 range.1);
    };
  }

  -- where numbers wrap
  pub wrapped : Made Wrap net node format to low
  wrapped = record { later = low-later; converts = record { width = low-width; number = low-turned } }
