-- Operators that can be built, by what they mean and what their kinds accept: those whose fields, shift, widths and widest signal
-- are within the limits of one version of specifications.
use Rattle.std.specs.Prelude.{ℕ, ◌≡◌, ◌≤◌, ◌≤ℤ◌, IsTrue, Some, None}
use Rattle.opgen_ports.specs.Acceptance.{Acceptance}
use Rattle.opgen_ports.specs.Limits.{most_input, most_signal}
use Rattle.opgen_ports.specs.Meaning.{Meaning}
use Rattle.opgen_ports.specs.Modes.{is_marked}
use Rattle.opgen_ports.specs.Ports.{AreWithin}

pub record IsAcceptedIn (version : ℕ) (m : Meaning) (a : Acceptance) : Type 0 where
  -- the fields are within the ranges of their keys
  pub ranges : a.IsRanged
  pub inputs : AreWithin (most_input version) m.inputs
  pub fine : (a.least_shift ≤ℤ a.shift) × (a.shift ≤ℤ a.most_shift version)
  -- the widest signal is no wider than a signal may be
  pub narrow : (bits : ℕ) → a.need ≡ Some bits → bits ≤ most_signal version
  -- exact outputs are asked for only where the exact values are whole
  pub whole : IsTrue (is_marked a.own_mark) → a.inexact ≡ None

-- some version accepts it
abbrev pub IsAcceptable : Meaning → Acceptance → Type 0
IsAcceptable m a = (version : ℕ) × IsAcceptedIn version m a
