-- One operand more of a chain: the word so far is at the front of some vectors, and is joined with the operand's value.
use Rattle.std.specs.Prelude.{ℕ, ◌≡◌, ◌≤◌, List, IsSome, Some, length, take}
use Rattle.opgen_num.specs.declared.format.TheConstants.{MAX_WIDTH}
use Rattle.opgen_design.specs.declared.expr.Op.{Op}
use Rattle.opgen_design.specs.Tree.{Tree}
use Rattle.opgen_design.specs.Value.{combined, IsWidth, joined}
use Rattle.opgen_streams.specs.Streams.{word_in}
use Rattle.opgen_lanes.specs.declared.bank.Bank.{Bank}
use Rattle.opgen_lanes.specs.Banks.{IsBank, value_in, width_in}
use Rattle.opgen_lanes.specs.Words.{HaveWord}

-- the width of the word so far and that of the operand join to one
pub record CanTakeIn (signals ports : Bank) (op : Op) (operand : Tree) (before : ℕ) (out : List (List ℕ)) : Type 0 where
  pub signal_bank : IsBank signals
  pub port_bank : IsBank ports
  pub has_width : IsSome (width_in signals ports operand)
  pub fits : (a : ℕ) → width_in signals ports operand ≡ Some a → (w : ℕ) × (joined op before a ≡ Some w)
  pub is_width : IsWidth before
  pub room : MAX_WIDTH ≤ length out

-- the word so far and the operand's value are joined to a word of a width
pub record IsTakenIn (signals ports : Bank) (op : Op) (operand : Tree) (before after : ℕ) (old new : List (List ℕ)) : Type 0 where
  pub width : (a : ℕ) → width_in signals ports operand ≡ Some a → joined op before a ≡ Some after
  pub value : HaveWord (take after new) (λ k. combined op (word_in (take before old) k) (value_in signals ports operand k))
