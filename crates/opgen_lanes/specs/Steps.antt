-- Many streams of a design, and a step of each.
use Rattle.std.specs.Prelude.{ℕ, ◌≡◌, ◌<◌, List}
use Rattle.opgen_design.specs.declared.design.Design.{Design}
use Rattle.opgen_design.specs.Run.{Words, Cycle, initial_words, input_widths, output_widths, words_at_outputs}
use Rattle.opgen_design.specs.Sound.{signal_widths}
use Rattle.opgen_runs.specs.Registers.{SameRegisters}
use Rattle.opgen_streams.specs.Streams.{streams, words_in}

-- the design that is run in each stream, and the vectors of the registers' bits now, at the places of their signals
pub record Running : Type 0 where
  pub design : Design
  pub held : List (List ℕ)

-- the registers' bits in each stream are those of the initial words
abbrev pub AreInitial : (d : Design) → (held : List (List ℕ)) → Type 0
AreInitial d held = (k : ℕ) → k < streams → SameRegisters d (words_in (signal_widths d) held k) (initial_words d.signals)

-- streams before the first cycle of a design
pub record AreNew (d : Design) (l : Running) : Type 0 where
  pub design : l.design ≡ d
  pub registers : AreInitial d l.held

-- a cycle of a stream from the registers' bits now to the next ones, with these bits at the input ports and at the output ports
pub record IsStepIn (k : ℕ) (d : Design) (now inputs next outputs : List (List ℕ)) : Type 0 where
  pub words : Words
  pub cycle : Cycle d (words_in (signal_widths d) now k) (words_in (input_widths d) inputs k) words (words_in (signal_widths d) next k)
  pub outputs_are : words_in (output_widths d) outputs k ≡ words_at_outputs d words
