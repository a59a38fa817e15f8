-- What reading one piece returns: the next place, beside the draft, or the number of the piece that is rejected.
use Rattle.std.specs.Prelude.{◌≡◌, ℕ, Result, Ok, Err, Some, None}
use Rattle.opgen_vhdl.specs.declared.place.Place.{Place}
use Rattle.opgen_vhdl.specs.Reader.{Step}
use Rattle.opgen_read.specs.declared.draft.Draft.{Draft}
use Rattle.opgen_read.specs.declared.fault.ReadFault.{ReadFault}
use Rattle.opgen_read.specs.declared.fault.ReadFault.TheVariants.{Lexical, Syntax, TooLarge, Unsound, Memory}
use Rattle.opgen_read.specs.Seen.{seen}

-- the draft and the next place are what was read with the piece, or the number is that of the piece where its place does not take it
abbrev pub Steps : Draft → Result Place ReadFault → ℕ → Step → Type 0
Steps draft (Ok place) number read = read ≡ Some (place, seen draft)
Steps draft (Err (Lexical offset)) number read = ⊥
Steps draft (Err TooLarge) number read = ⊥
Steps draft (Err (Unsound rule item)) number read = ⊥
Steps draft (Err Memory) number read = Unit {0}
Steps draft (Err (Syntax k)) number read = (read ≡ None) × (k ≡ number)
