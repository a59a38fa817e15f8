-- Slots and copies of a net's nodes as lists, and bounds on the numbers of cycles and signals.
use Rattle.std.specs.Prelude.{ℕ, ◌≡◌, ◌≤◌, ◌<◌, ◌+◌, ◌^◌, List, length, All, slice_index}
use Rattle.opgen_net.specs.declared.net.Net.{Net}
use Rattle.opgen_schedule.specs.declared.slot.Slot.{Slot}
use Rattle.opgen_schedule.specs.Stage.{slot_at}
use Rattle.opgen_pipe.specs.declared.standing.Standing.{Standing}
use Rattle.opgen_pipe.specs.Copies.{copies}

-- the number of copies of each node
pub record AreCopies (net : Net) (slots : List Slot) (counts : List ℕ) : Type 0 where
  pub one_each : length counts ≡ length net.nodes
  pub each : (i : ℕ) → i < length net.nodes → slice_index counts i ≡ copies net (slot_at slots) i

-- a slot for each node, in a cycle of 32 bits
pub record AreSlots (net : Net) (slots : List Slot) : Type 0 where
  pub one_each : length slots ≡ length net.nodes
  pub early : All (λ p. p.cycle ≤ 2 ^ 32) slots

-- cycles and signals of 32 bits
abbrev pub IsSmall : Standing → Type 0
IsSmall p = (p.slot.cycle ≤ 2 ^ 32) × (p.signal + 1 + p.copies ≤ 2 ^ 32)

abbrev pub AreSmall : List Standing → Type 0
AreSmall ps = All IsSmall ps

-- what holds of each port, of which nothing is asked
abbrev pub IsAny : ℕ → Type 0
IsAny _ = Unit {0}
