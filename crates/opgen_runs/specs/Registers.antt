-- Lists of words that agree at every register of a design.
use Rattle.std.specs.Prelude.{ℕ, ◌≡◌, Bool, List, Some, slice_get}
use Rattle.opgen_design.specs.declared.design.Design.{Design}
use Rattle.opgen_design.specs.declared.design.Driver.TheVariants.{Register}
use Rattle.opgen_design.specs.Tree.{Tree}
use Rattle.opgen_design.specs.Value.{word_at}

-- two lists have the same words at the registers of a design
abbrev pub SameRegisters : Design → (now others : List (List Bool)) → Type 0
SameRegisters d now others = (i to : ℕ) (e : Tree) → slice_get d.drivers i ≡ Some (Register to e) → word_at now to ≡ word_at others to
