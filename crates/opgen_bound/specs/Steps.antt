-- The six kinds of step on the shared bound (create, load, publish, split, join, close): only publishing changes the word, and it
-- only lowers it.
use Rattle.std.specs.Prelude.{◌≡◌, ℕ, ◌+◌, ◌-◌, ◌/◌, ◌≤◌, min}
use Rattle.atomic_table.specs.Table.{Me}
use Rattle.opgen_bound.specs.declared.view.View.{View}
use Rattle.opgen_bound.specs.Views.{whole, most}

-- making: the first pass published nothing, saw the start and holds the whole
abbrev pub root : ℕ → View
root start = record { published = most; seen = start; share = whole; start = start }

-- a load: what was found is what was seen
abbrev pub looked : View → ℕ → View
looked v found = record { published = v.published; seen = found; share = v.share; start = v.start }

-- publishing: the cost is noted, and the new word was seen
abbrev pub lowered : View → ℕ → ℕ → View
lowered v cost found = record { published = min v.published cost; seen = min found cost; share = v.share; start = v.start }

-- a split: the old pass keeps all but half of its share
abbrev pub kept : View → View
kept v = record { published = v.published; seen = v.seen; share = v.share - v.share / 2; start = v.start }

-- and the new one, which published nothing, has that half and has seen what the old one saw
abbrev pub given : View → View
given v = record { published = most; seen = v.seen; share = v.share / 2; start = v.start }

-- a join: the lesser of what both published and saw, and both shares
abbrev pub joined : View → View → View
joined v w = record { published = min v.published w.published; seen = min v.seen w.seen; share = v.share + w.share; start = v.start }

-- a pass that holds the whole is the only one: what it finds is the least of the start and what it published
abbrev pub FindsOwn : View → ℕ → Type 0
FindsOwn v found = v.share ≡ whole → found ≡ min v.start v.published

-- what a pass learns where it finds a number: it is at most what it saw, which is at most the start and what it published
abbrev pub Learns : View → ℕ → Type 0
Learns v found = (found ≤ v.seen) × (v.seen ≤ v.start) × (v.seen ≤ v.published) × FindsOwn v found

-- a load and publishing, as steps of a seat of the table
abbrev pub Looks : {S : Type 0} → Me S View → ℕ → Me S View → Type 0
Looks me found next = (next.0 ≡ looked me.0 found) × (next.1 ≡ me.1) × Learns me.0 found

abbrev pub Publishes : {S : Type 0} → ℕ → Me S View → ℕ → Me S View → Type 0
Publishes cost me found next = (next.0 ≡ lowered me.0 cost found) × (next.1 ≡ me.1) × Learns me.0 found
