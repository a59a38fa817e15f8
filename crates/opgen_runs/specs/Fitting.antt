-- Expressions over words of signals and ports, and when their widths fit.
use Rattle.std.specs.Prelude.{ℕ, ◌≤◌, Bool, List, length, map, All, IsSome}
use Rattle.opgen_num.specs.declared.format.TheConstants.{MAX_WIDTH}
use Rattle.opgen_design.specs.Tree.{Tree}
use Rattle.opgen_design.specs.Value.{Scope, word_at, width}

abbrev pub widths_of : List (List Bool) → List ℕ
widths_of ws = map length ws

abbrev pub scope_of : (names ports : List (List Bool)) → Scope
scope_of names ports = record { names = word_at names; ports = word_at ports }

-- an expression has a width over words of their widths
abbrev pub Fits : (names ports : List (List Bool)) → Tree → Type 0
Fits names ports e = IsSome (width (widths_of names) (widths_of ports) e)

-- no word is wider than a signal may be
abbrev pub AreNarrow : List (List Bool) → Type 0
AreNarrow ws = All (λ w. length w ≤ MAX_WIDTH) ws
