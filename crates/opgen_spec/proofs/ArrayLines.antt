-- The lines of an array of a document without a fault.
use Rattle.std.proofs.Common.{◌≡◌, ℕ, zero, suc, ◌+◌, ◌≤◌, ◌<◌, ◌&&◌, ◌||◌, not, Bool, true, false, List, [], ◌∷◌, length, get_or, Option, Some, None, is_some, is_none, option_and_then, find, refl, ap, ◌∙◌, sym, subst, arith, unwrap_or}
use Rattle.std.specs.Prelude.{All, pos}
use Rattle.std.proofs.lemmas.Int.{ints}
use Rattle.std.specs.List.{list_all}
use Rattle.std.specs.Option.{option_map_or}
use Rattle.std.proofs.lemmas.Bool.{or_parts}
use Rattle.toml.specs.Data.{Data, table, Items, no_items, item, Members, as_array}
use Rattle.opgen_operator.specs.declared.kind.Kind.{Kind}
use Rattle.opgen_spec.specs.declared.fault.SpecFault.TheVariants as fault
use Rattle.opgen_spec.specs.declared.lines.Check.TheVariants.{Missing, WrongType, Range}
use Rattle.opgen_document.specs.declared.array.Array.{Array}
use Rattle.opgen_document.specs.declared.array.Array.TheVariants as array
use Rattle.opgen_document.specs.declared.key.Key.{Key}
use Rattle.opgen_document.specs.declared.key.Key.TheVariants as key
use Rattle.opgen_document.specs.declared.key.Stand.{Stand}
use Rattle.opgen_document.specs.declared.key.Stand.TheVariants.{Needed}
use Rattle.opgen_document.specs.declared.key.Version.{Version}
use Rattle.opgen_document.specs.Document.{value_at, items_of, items_in, items_at, list_of, in_tables, AreLinesAsWritten, version_of}
use Rattle.opgen_document.specs.Keys.{line_keys, array_key, shared_stand, has_to_be}
use Rattle.opgen_document.specs.Ranges.{length_outside}
use Rattle.opgen_document.specs.Types.{is_wrong, are_tables}
use Rattle.opgen_document.proofs.Ranges.{inside}
use Rattle.opgen_spec.specs.Faults.{found, value_outside, is_always_asked, out_of_range, outside_among, is_missing, missing_among, kind_clashes, is_wrong_in, wrong_among, among_line, among_lines}
use Rattle.opgen_entries.specs.Stands.{stand_in, is_needed}
use Rattle.opgen_entries.specs.kinds.{kind_of, kinds_of, entry}
use Rattle.opgen_spec.proofs.Fine.{AreFine, IsFine, find_none, first_none, map_none, asked_there, stands, there_inside, typed}
use Rattle.opgen_entries.proofs.Arrays.{or_none}

-- each check finds nothing in a line
pub record IsFineLine (array : Array) (doc : Members) (n : ℕ) (ms : Members) : Type 0 where
  pub missing : missing_among (line_keys array) doc n ms ≡ None
  pub wrong : wrong_among (line_keys array) doc n ms ≡ None
  pub range : outside_among (line_keys array) doc n ms ≡ None

-- a key at a place among those of the array
pub record IsAmong (array : Array) (i : ℕ) (k : Key) : Type 0 where
  pub below : i < length (line_keys array)
  pub is : get_or (line_keys array) i key.Class ≡ k

-- a key that all lines of an array need
needed : (version : Version) (named : Option Kind) (k : Key) → shared_stand k ≡ Some Needed → is_needed version named k ≡ true
needed version (Some one) k h = ap (λ (o : Option Stand). has_to_be (unwrap_or o ((entry one).stand version k))) h
needed version None k h = all (kinds_of version)
  where
    all : (ks : List Kind) → list_all (λ one. has_to_be (stand_in version one k)) ks ≡ true
    all [] = refl
    all (one ∷ ks) =
        ap (λ (o : Option Stand). has_to_be (unwrap_or o ((entry one).stand version k)) && list_all (λ one. has_to_be (stand_in version one k)) ks) h
        ∙ all ks

module _ (array : Array) (doc : Members) (n : ℕ) (ms : Members) (f : IsFineLine array doc n ms) (i : ℕ) (k : Key) (a : IsAmong array i k) where
  pub line_typed : is_wrong ms k ≡ false
  line_typed =
      (or_parts (is_wrong ms k) (is_some (value_at ms k) && kind_clashes doc k) (subst (λ k. is_wrong_in doc ms k ≡ false) a.is
      (find_none (is_wrong_in doc ms) (line_keys array) i key.Class
      (map_none (λ k. fault.WrongType k n) (find (is_wrong_in doc ms) (line_keys array)) f.wrong) a.below))).0

  line_there : shared_stand k ≡ Some Needed → is_none (value_at ms k) ≡ false
  line_there h =
      stands doc ms k (needed (version_of doc) (kind_of doc) k h)
      (subst (λ k. is_missing doc ms k ≡ false) a.is (find_none (is_missing doc ms) (line_keys array) i key.Class
      (map_none (λ k. fault.MissingKey k n) (find (is_missing doc ms) (line_keys array)) f.missing) a.below))

  line_ranged : option_and_then (λ _. value_outside doc n ms k) (value_at ms k) ≡ None
  line_ranged =
      asked_there (value_at ms k) (is_always_asked k) (value_outside doc n ms k)
      (subst (λ k. found doc n ms k ≡ None) a.is (map_none (fault.OutOfRange (get_or (line_keys array) i key.Class) n)
      (found doc n ms (get_or (line_keys array) i key.Class))
      (first_none (λ k. out_of_range n k (found doc n ms k)) (line_keys array) i key.Class f.range a.below)))

  pub line_fine : shared_stand k ≡ Some Needed → IsFine ms k (value_outside doc n ms k)
  line_fine h = record {
    there = line_there h;
    typed = line_typed;
    within = there_inside (value_at ms k) (value_outside doc n ms k) (line_there h) line_ranged;
  }

-- the lines of the items from a number on
pub record AreFineLines (array : Array) (doc : Members) (n : ℕ) (items : Items) : Type 0 where
  pub missing : among_lines Missing (line_keys array) doc n items ≡ None
  pub wrong : among_lines WrongType (line_keys array) doc n items ≡ None
  pub range : among_lines Range (line_keys array) doc n items ≡ None
  pub tables : are_tables items ≡ true

first_line : (array : Array) (doc : Members) (n : ℕ) (ms : Members) (rest : Items) → AreFineLines array doc n (item (table ms) rest)
    → IsFineLine array doc n ms
first_line array doc n ms rest f =
    let ks = line_keys array in
    let d = table ms in
    record {
      missing = (or_none (among_line Missing ks doc n d) (among_lines Missing ks doc (n + 1) rest) f.missing).0;
      wrong = (or_none (among_line WrongType ks doc n d) (among_lines WrongType ks doc (n + 1) rest) f.wrong).0;
      range = (or_none (among_line Range ks doc n d) (among_lines Range ks doc (n + 1) rest) f.range).0;
    }

later_lines : (array : Array) (doc : Members) (n : ℕ) (ms : Members) (rest : Items) → AreFineLines array doc n (item (table ms) rest)
    → AreFineLines array doc (n + 1) rest
later_lines array doc n ms rest f =
    let ks = line_keys array in
    let d = table ms in
    record {
      missing = (or_none (among_line Missing ks doc n d) (among_lines Missing ks doc (n + 1) rest) f.missing).1;
      wrong = (or_none (among_line WrongType ks doc n d) (among_lines WrongType ks doc (n + 1) rest) f.wrong).1;
      range = (or_none (among_line Range ks doc n d) (among_lines Range ks doc (n + 1) rest) f.range).1;
      tables = f.tables;
    }

-- an array that is not of a wrong type is one of tables
tables_typed : (o : Option Data) → option_map_or (λ d. not (are_tables (items_of d) && is_some (as_array d)) || false) o false ≡ false
    → are_tables (items_in o) ≡ true
tables_typed None h = refl
tables_typed (Some d) h = both (are_tables (items_of d)) (is_some (as_array d)) h
  where
    both : (a b : Bool) → (not (a && b) || false) ≡ false → a ≡ true
    both true b h = refl
    both false b h = cc

pub all_fine : (array : Array) (doc : Members) → AreFine doc → AreFineLines array doc 1 (items_at doc (array_key array))
all_fine a doc f = record {
  missing = f.missing_lines a;
  wrong = f.wrong_lines a;
  range = f.lines a;
  tables = by a;
}
  where
    by : (a : Array) → are_tables (items_at doc (array_key a)) ≡ true
    by array.Input = tables_typed (value_at doc key.Input) (typed doc key.Input f refl)
    by array.Scaled = tables_typed (value_at doc key.Scaled) (typed doc key.Scaled f refl)
    by array.Product = tables_typed (value_at doc key.Product) (typed doc key.Product f refl)
    by array.Delay = tables_typed (value_at doc key.Delay) (typed doc key.Delay f refl)

-- what holds of each line holds of what is read of it
pub lines_written : {A : Type 0} (IsWritten : Members → A → Type 0) (read : Members → A) (array : Array) (doc : Members)
    → ((n : ℕ) (ms : Members) → IsFineLine array doc n ms → IsWritten ms (read ms)) → (n : ℕ) (items : Items)
    → AreFineLines array doc n items → AreLinesAsWritten IsWritten items (in_tables read items)
lines_written IsWritten read array doc each n no_items f = tt
lines_written IsWritten read array doc each n (item (table ms) rest) f = (
  each n ms (first_line array doc n ms rest f),
  lines_written IsWritten read array doc each (n + 1) rest (later_lines array doc n ms rest f),
)
lines_written IsWritten read array doc each n (item _ rest) f = let no = f.tables in cc

-- the line at a place of an array, and what is read of it
pub record IsLineAt {A : Type 0} (read : Members → A) (array : Array) (doc : Members) (n : ℕ) (items : Items) (i : ℕ) : Type 0 where
  pub ms : Members
  pub fine : IsFineLine array doc (n + i) ms
  pub item_is : (d : Data) → get_or (list_of items) i d ≡ table ms
  pub read_is : (d : A) → get_or (in_tables read items) i d ≡ read ms

pub line_at : {A : Type 0} (read : Members → A) (array : Array) (doc : Members) (n : ℕ) (items : Items) (i : ℕ) → AreFineLines array doc n items
    → i < length (list_of items) → IsLineAt read array doc n items i
line_at read array doc n no_items i f lt = absurd (omega (arith, lt))
line_at read array doc n (item (table ms) rest) zero f lt = record {
  ms = ms;
  fine = subst (λ m. IsFineLine array doc m ms) (omega arith) (first_line array doc n ms rest f);
  item_is = λ d. refl;
  read_is = λ d. refl;
}
line_at read array doc n (item (table ms) rest) (suc i) f lt =
    let at = line_at read array doc (n + 1) rest i (later_lines array doc n ms rest f) (omega (arith, lt)) in
    record {
      ms = at.ms;
      fine = subst (λ m. IsFineLine array doc m at.ms) (omega arith) at.fine;
      item_is = at.item_is;
      read_is = at.read_is;
    }
line_at read array doc n (item _ rest) i f lt = let no = f.tables in cc

pub read_length : {A : Type 0} (read : Members → A) (items : Items) → are_tables items ≡ true
    → length (in_tables read items) ≡ length (list_of items)
read_length read no_items h = refl
read_length read (item (table ms) rest) h = ap suc (read_length read rest h)
read_length read (item _ rest) h = cc

pub lines_in : {A : Type 0} (Is : A → Type 0) (read : Members → A) (array : Array) (doc : Members) (n : ℕ) (items : Items)
    → AreFineLines array doc n items → ((m : ℕ) (ms : Members) → IsFineLine array doc m ms → Is (read ms)) → All Is (in_tables read items)
lines_in Is read array doc n items f each k d lt =
    let at = line_at read array doc n items k f (omega (arith, lt, read_length read items f.tables)) in
    subst Is (sym (at.read_is d)) (each (n + k) at.ms at.fine)

-- an array that may be left out, and is not too long
pub few_items : (most : ℕ) (o : Option Data) → option_and_then (λ _. length_outside 0 most (items_in o)) o ≡ None
    → length (list_of (items_in o)) ≤ most
few_items most None h = omega arith
few_items most (Some d) h =
    let (_, few) = inside (pos 0) (pos most) (pos (length (list_of (items_in (Some d))))) h in
    omega (arith, ints, few)
