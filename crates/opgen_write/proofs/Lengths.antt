-- The text of a design has a byte for each signal at least.
use Rattle.std.proofs.Common.{◌≡◌, ℕ, ◌≤◌, List, [], ◌∷◌, ◌++◌, length, flat_map, codes, ap, arith, append_assoc, length-append}
use Rattle.opgen_design.specs.declared.design.Design.{Design}
use Rattle.opgen_design.specs.declared.design.Signal.{Signal}
use Rattle.opgen_vhdl.specs.DesignText.{is_neither, is_output, entity_text, signal_text, drivers_text, process_text, architecture_text, text_of}

signal_some : (s : Signal) → 1 ≤ length (signal_text s)
unfolding signal_text
signal_some s = omega arith

signals-short : (ss : List Signal) → length ss ≤ length (flat_map signal_text ss)
signals-short [] = omega arith
signals-short (s ∷ ss) = omega (arith, length-append (signal_text s) (flat_map signal_text ss), signal_some s, signals-short ss)

abbrev before : Design → List ℕ
before d = entity_text d ++ (codes "architecture rtl of " ++ (d.name ++ codes " is\n"))

abbrev behind : Design → List ℕ
behind d = codes "begin\n" ++ (drivers_text d is_neither ++ (process_text d ++ (drivers_text d is_output ++ codes "end architecture;\n")))

text-parts : (d : Design) → text_of d ≡ before d ++ (flat_map signal_text d.signals ++ behind d)
unfolding architecture_text
text-parts d = simp append_assoc

pub signals-fewer : (d : Design) → length d.signals ≤ length (text_of d)
signals-fewer d =
    let signals = flat_map signal_text d.signals in
    omega (
      arith,
      ap length (text-parts d),
      length-append (before d) (signals ++ behind d),
      length-append signals (behind d),
      signals-short d.signals,
    )
