-- The place of a name in a list of files, and what the files say by name.
use Rattle.std.proofs.Common.{◌≡◌, ℕ, ◌<◌, ◌+◌, zero, suc, Bool, true, false, cond, List, [], ◌∷◌, ◌++◌, length, Option, Some, None, get_or, set, position, refl, sym, ◌∙◌, ap, arith}
use Rattle.std.specs.Prelude.{string_bytes}
use Rattle.std.specs.List.{position_from}
use Rattle.std.specs.Str.{bytes_eq}
use Rattle.std.proofs.Math.Path.{fun_ext}
use Rattle.std.proofs.lemmas.Iterator.Adapters.{position_from-zero}
use Rattle.std.proofs.lemmas.List.Quantifiers.{position-Some}
use Rattle.std.proofs.lemmas.Slice.Eq.{bytes_eq-Decides}
use Rattle.opgen_io.specs.Files.{stored}
use Rattle.opgen_io.specs.Memory.{Pair, files_of, found, is_named}

-- no pair before the place is of the name
abbrev AbsentBelow : List ℕ → List Pair → ℕ → Pair → Type 0
AbsentBelow name pairs place d = (k : ℕ) → k < place → is_named name (get_or pairs k d) ≡ false

absent_below-rest : (name : List ℕ) (pair : Pair) (pairs : List Pair) (place : ℕ) (d : Pair) → AbsentBelow name (pair ∷ pairs) (suc place) d
    → AbsentBelow name pairs place d
absent_below-rest name pair pairs place d before = λ k h. before (suc k) (omega (arith, h))

found-first : (name : List ℕ) (pairs : List Pair) (place : ℕ) (d : Pair) → place < length pairs → is_named name (get_or pairs place d)
    ≡ true → AbsentBelow name pairs place d → found (files_of pairs) name ≡ Some (get_or pairs place d).1.items
found-first name [] place d within first before = absurd (omega (arith, within))
found-first name (pair ∷ pairs) zero d within first before = rw first refl
found-first name (pair ∷ pairs) (suc place) d within first before =
    let other = before zero (omega arith) in
    rw other (found-first name pairs place d (omega (arith, within)) first
    (absent_below-rest name pair pairs place d before))

-- the first pair of a name has the bytes under it
pub found-place : (name : List ℕ) (pairs : List Pair) (place : ℕ) (d : Pair) → position (is_named name) pairs ≡ Some place
    → found (files_of pairs) name ≡ Some (get_or pairs place d).1.items
found-place name pairs place d h =
    let facts = position-Some (is_named name) pairs place d h in
    found-first name pairs place d facts.0 facts.1 facts.2

-- where a test gives a place at once or later, and none was given, it failed
test_failed : (b : Bool) (k : ℕ) (later : Option ℕ) → cond b (Some k) later ≡ None → (b ≡ false) × (later ≡ None)
test_failed true k later h = cc
test_failed false k later h = (refl, h)

found-absent_from : (name : List ℕ) (k : ℕ) (pairs : List Pair) → position_from (is_named name) k pairs ≡ None → found (files_of pairs) name
    ≡ None
found-absent_from name k [] h = refl
found-absent_from name k (pair ∷ pairs) h =
    let facts = test_failed (is_named name pair) k (position_from (is_named name) (k + 1) pairs) h in
    let other = facts.0 in
    rw other (found-absent_from name (k + 1) pairs facts.1)

from_position : (name : List ℕ) (pairs : List Pair) → position (is_named name) pairs ≡ None → position_from (is_named name) 0 pairs ≡ None
from_position name pairs h = sym (position_from-zero (is_named name) pairs) ∙ h

-- a name of no pair stands for nothing
pub found-absent : (name : List ℕ) (pairs : List Pair) → position (is_named name) pairs ≡ None → found (files_of pairs) name ≡ None
found-absent name pairs h = found-absent_from name 0 pairs (from_position name pairs h)

-- of two tests of which only one can pass, either may come first
exchange : {X : Type 0} (a b : Bool) (x y z : X) → (a ≡ true → b ≡ false) → cond a x (cond b y z) ≡ cond b y (cond a x z)
exchange true b x y z apart = let other = apart refl in rw other refl
exchange false b x y z apart = refl

repeated : {X : Type 0} (b : Bool) (x y z : X) → cond b x z ≡ cond b x (cond b y z)
repeated true x y z = refl
repeated false x y z = refl

false_unless : (b : Bool) → (b ≡ true → ⊥) → b ≡ false
false_unless true h = absurd (h refl)
false_unless false h = refl

-- a text that is one name is not another
apart_names : (other name key : List ℕ) → bytes_eq name key ≡ false → bytes_eq other key ≡ true → bytes_eq other name ≡ false
apart_names other name key apart same =
    false_unless (bytes_eq other name)
    (λ named. let is_key = (bytes_eq-Decides other key).0 same in
    let is_name = (bytes_eq-Decides other name).0 named in
    let together = (bytes_eq-Decides name key).1 (sym is_name ∙ is_key) in
    let clash : false ≡ true = sym apart ∙ together in cc)

-- the files after a new pair took the first place of its name
stored-first : (name : List ℕ) (pairs : List Pair) (place : ℕ) (d pair : Pair) (other : List ℕ) → place < length pairs
    → string_bytes (get_or pairs place d).0 ≡ name → string_bytes pair.0 ≡ name → AbsentBelow name pairs place d
    → found (files_of (set pairs place pair)) other ≡ stored name pair.1.items (found (files_of pairs)) other
stored-first name [] place d pair other within first same before = absurd (omega (arith, within))
stored-first name (p ∷ pairs) zero d pair other within first same before =
    rw (same, first) (repeated (bytes_eq other name) _ _ _)
stored-first name (p ∷ pairs) (suc place) d pair other within first same before =
    ap (λ rest. cond (bytes_eq other (string_bytes p.0)) (Some p.1.items) rest)
    (stored-first name pairs place d pair other (omega (arith, within)) first same (absent_below-rest name p pairs place d before))
    ∙ exchange (bytes_eq other (string_bytes p.0)) (bytes_eq other name) _ _ _
    (apart_names other name (string_bytes p.0) (before zero (omega arith)))

stored-absent : (name : List ℕ) (k : ℕ) (pairs : List Pair) (pair : Pair) (other : List ℕ) → position_from (is_named name) k pairs ≡ None
    → string_bytes pair.0 ≡ name → found (files_of (pairs ++ pair ∷ [])) other ≡ stored name pair.1.items (found (files_of pairs)) other
stored-absent name k [] pair other h same = rw same refl
stored-absent name k (p ∷ pairs) pair other h same =
    let facts = test_failed (is_named name p) k (position_from (is_named name) (k + 1) pairs) h in
    ap (λ rest. cond (bytes_eq other (string_bytes p.0)) (Some p.1.items) rest)
    (stored-absent name (k + 1) pairs pair other facts.1 same)
    ∙ exchange (bytes_eq other (string_bytes p.0)) (bytes_eq other name) _ _ _ (apart_names other name (string_bytes p.0) facts.0)

-- a pair of the name at its first place stores its bytes
pub stored-place : (name : List ℕ) (pairs : List Pair) (place : ℕ) (d pair : Pair) → position (is_named name) pairs ≡ Some place
    → string_bytes pair.0 ≡ string_bytes (get_or pairs place d).0 → found (files_of (set pairs place pair))
    ≡ stored name pair.1.items (found (files_of pairs))
stored-place name pairs place d pair h same =
    let facts = position-Some (is_named name) pairs place d h in
    let first = sym ((bytes_eq-Decides name (string_bytes (get_or pairs place d).0)).0 facts.1) in
    fun_ext (λ other. stored-first name pairs place d pair other facts.0 first (same ∙ first) facts.2)

-- a pair of a name that is not there stores its bytes at the end
pub stored-end : (name : List ℕ) (pairs : List Pair) (pair : Pair) → position (is_named name) pairs ≡ None → string_bytes pair.0 ≡ name
    → found (files_of (pairs ++ pair ∷ [])) ≡ stored name pair.1.items (found (files_of pairs))
stored-end name pairs pair h same =
    fun_ext (λ other. stored-absent name 0 pairs pair other (from_position name pairs h) same)
