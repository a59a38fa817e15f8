-- The nodes of odd parts in the net of several constants, without the outputs.
use Rattle.std.specs.Prelude.{◌≡◌, ◌≢◌, ◌==◌, ℕ, List, [], ◌∷◌, ◌++◌, ℤ, pos, unsigned_abs, nat_eq, nat_lt, Contains, if◌then◌else◌}
use Rattle.opgen_num.specs.declared.format.Format.{Format}
use Rattle.opgen_net.specs.declared.net.Net.{Net}
use Rattle.opgen_net.specs.Placed.{Placed}
use Rattle.opgen_kinds.specs.Several.{constant_format}
use Rattle.opgen_ports.specs.OddParts.{odd_part}
use Rattle.opgen_graph.specs.declared.multiples.Multiple.{Multiple}
use Rattle.opgen_graph.specs.Recipe.{Multiples, with_magnitude}

-- x is the odd part of a number other than 0, its sign aside; that of a power of two is 1
pub record HasPart (x : ℕ) (t : ℤ) : Type 0 where
  pub some : t ≢ pos 0
  pub part : odd_part (unsigned_abs t) ≡ x

abbrev pub IsPartOf : (numbers : List ℤ) (x : ℕ) → Type 0
IsPartOf numbers x = (t : ℤ) × Contains numbers t × HasPart x t

-- a number put into its place of an increasing list, unless it stands there
abbrev pub inserted : (x : ℕ) → List ℕ → List ℕ
inserted x [] = x ∷ []
inserted x (y ∷ ys) = if nat_lt x y then x ∷ y ∷ ys else (if nat_eq x y then y ∷ ys else y ∷ inserted x ys)

-- the odd parts of numbers, each once, increasing
unfoldable pub parts_of : List ℤ → List ℕ
parts_of [] = []
parts_of (t ∷ ts) = if unsigned_abs t == 0 then parts_of ts else inserted (odd_part (unsigned_abs t)) (parts_of ts)

abbrev pub part_width : Format → (part : ℕ) → ℕ
part_width input part = (constant_format input (pos part)).width

-- the node of an odd part, by the nodes of a graph
abbrev pub part_node : Format → (known : List Multiple) → Net → (part : ℕ) → Placed
part_node input known net part = with_magnitude input.signed (part_width input part) (record { net = net; known = known }) part

-- the multiple that the node has
abbrev pub part_multiple : Format → (known : List Multiple) → Net → (part : ℕ) → Multiple
part_multiple input known net part =
    record { factor = part; node = (part_node input known net part).place; width = part_width input part }

abbrev pub with_part : Format → (known : List Multiple) → Multiples → (part : ℕ) → Multiples
with_part input known before part =
    let made = part_node input known before.net part in
    record { net = made.net; known = before.known ++ record { factor = part; node = made.place; width = part_width input part } ∷ [] }

-- all of them, in their order
abbrev pub with_parts : Format → (known : List Multiple) → Multiples → List ℕ → Multiples
with_parts input known before [] = before
with_parts input known before (part ∷ more) = with_parts input known (with_part input known before part) more
