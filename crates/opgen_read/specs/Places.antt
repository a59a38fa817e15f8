-- The first place of each name in a list, as the reader's hash map finds it.
use Rattle.std.specs.Prelude.{◌≡◌, ℕ, Bool, List, Option, Some, None, IsTrue, position, if◌then◌else◌}
use Rattle.std.specs.Str.{bytes_eq}
use Rattle.arrayvec.specs.ArrayString.{ArrayString}
use Rattle.indexmap.specs.IndexMap.{IndexMap, get_by}
use Rattle.opgen_names.specs.Names.{is_allowed_name}

-- where the map leads from a name
abbrev pub leads : {S : Type 0} → IndexMap ArrayString ℕ S → List ℕ → Option ℕ
leads first q = get_by (λ k. bytes_eq q k.bytes) first

-- the map leads from each name to its first place in the list, and from no other name to any
abbrev pub FindsEach : {S : Type 0} → IndexMap ArrayString ℕ S → List (List ℕ) → Type 0
FindsEach first names = (q : List ℕ) → leads first q ≡ position (bytes_eq q) names

-- each name that the map knows is an allowed one
abbrev pub KnowsAllowed : {S : Type 0} → IndexMap ArrayString ℕ S → Type 0
KnowsAllowed first = (q : List ℕ) (k : ℕ) → leads first q ≡ Some k → IsTrue (is_allowed_name q)

-- where the map leads from a name after one more declaration, under this name or another, at a place: where it led already, or
-- else to that place from its own name alone
abbrev pub noted_at : Option ℕ → (same : Bool) → (place : ℕ) → Option ℕ
noted_at (Some earlier) same place = Some earlier
noted_at None same place = if same then Some place else None

-- the new map leads from the name to the place, unless the old one led somewhere from it; from all other names it leads as before
abbrev pub IsNoted : {S : Type 0} → (old : IndexMap ArrayString ℕ S) → (name : List ℕ) → (place : ℕ)
    → (new : IndexMap ArrayString ℕ S) → Type 0
IsNoted old name place new = (q : List ℕ) → leads new q ≡ noted_at (leads old q) (bytes_eq q name) place
