-- What is known of a document whose keys have no fault by themselves.
use Rattle.std.proofs.Common.{◌≡◌, ℕ, zero, suc, ◌<◌, ◌&&◌, position, ◌||◌, Bool, true, false, cond, List, [], ◌∷◌, length, map, get_or, Option, Some, None, is_some, is_none, option_map, option_and_then, find, refl, ap, ◌∙◌, sym, subst, arith, lit<, unwrap_or, if◌then◌else◌}
use Rattle.std.specs.Prelude.{ℤ}
use Rattle.std.specs.Option.{option_map_or}
use Rattle.std.specs.Str.{bytes_eq}
use Rattle.std.proofs.lemmas.Bool.{or_parts}
use Rattle.toml.specs.Data.{Data, Members}
use Rattle.opgen_spec.specs.declared.fault.SpecFault.{SpecFault}
use Rattle.opgen_spec.specs.declared.fault.SpecFault.TheVariants as fault
use Rattle.opgen_document.specs.declared.array.Array.{Array}
use Rattle.opgen_document.specs.declared.array.Array.TheVariants as array
use Rattle.opgen_document.specs.declared.key.Key.{Key}
use Rattle.opgen_document.specs.declared.key.Key.TheVariants as key
use Rattle.opgen_operator.specs.declared.kind.Kind.{Kind}
use Rattle.opgen_spec.specs.declared.lines.Check.{Check}
use Rattle.opgen_spec.specs.declared.lines.Check.TheVariants.{Unknown, Missing, WrongType, Range}
use Rattle.opgen_document.specs.Keys.{document_keys, arrays, key_name, shared_stand, has_to_be}
use Rattle.opgen_document.specs.Document.{value_at, version_of}
use Rattle.opgen_document.specs.declared.key.Version.{Version}
use Rattle.opgen_document.specs.declared.key.Version.TheVariants.{First, Second, Third, Fourth}
use Rattle.opgen_entries.specs.kinds.{kind_of, entry}
use Rattle.opgen_entries.specs.Stands.{stand_in, is_needed}
use Rattle.opgen_document.specs.Types.{is_wrong}
use Rattle.opgen_spec.specs.Faults.{first_of, check_fault, found, kind_outside, value_outside, is_always_asked, out_of_range, outside_among, is_missing, unknown_among, missing_among, kind_clashes, is_wrong_in, wrong_among, among_keys, among_array, line_count, count_on, counted_on, among_arrays, bad_version, bad_name, has_kind, bad_kind, form_fault, value_fault, field_fault}
use Rattle.opgen_entries.proofs.Arrays.{or_none}

pub map_none : {A B : Type 0} (f : A → B) (o : Option A) → option_map f o ≡ None → o ≡ None
map_none f (Some x) h = cc
map_none f None h = refl

-- a search that finds nothing found nothing at each place
pub find_none : (p : Key → Bool) (ks : List Key) (i : ℕ) (d : Key) → find p ks ≡ None → i < length ks → p (get_or ks i d) ≡ false
find_none p [] i d h lt = absurd (omega arith)
find_none p (k ∷ ks) i d h lt = go (p k) refl i (λ j none below. find_none p ks j d none below) lt
  where
    go : (b : Bool) → p k ≡ b → (i : ℕ) → ((j : ℕ) → find p ks ≡ None → j < length ks → p (get_or ks j d) ≡ false) → i < length (k ∷ ks)
        → p (get_or (k ∷ ks) i d) ≡ false
    go true e i later lt =
        let some : Some k ≡ None = ap (λ b. cond b (Some k) (find p ks)) (sym e) ∙ h in
        cc
    go false e zero later lt = e
    go false e (suc i) later lt = later i (ap (λ b. cond b (Some k) (find p ks)) (sym e) ∙ h) (omega arith)

pub first_none : (f : Key → Option SpecFault) (ks : List Key) (i : ℕ) (d : Key) → first_of (map f ks) ≡ None → i < length ks
    → f (get_or ks i d) ≡ None
first_none f [] i d h lt = absurd (omega arith)
first_none f (k ∷ ks) zero d h lt = (or_none (f k) (first_of (map f ks)) h).0
first_none f (k ∷ ks) (suc i) d h lt = first_none f ks i d (or_none (f k) (first_of (map f ks)) h).1 (omega arith)

-- each check finds nothing among the keys of the document and among the lines of its arrays
pub record AreFine (ms : Members) : Type 0 where
  pub unknown : unknown_among document_keys ms 0 ms ≡ None
  pub missing : missing_among document_keys ms 0 ms ≡ None
  pub wrong : wrong_among document_keys ms 0 ms ≡ None
  pub version : bad_version ms ≡ None
  pub name : bad_name ms ≡ None
  pub kind : bad_kind ms ≡ None
  pub range : outside_among document_keys ms 0 ms ≡ None
  pub missing_lines : (array : Array) → among_array Missing ms array ≡ None
  pub wrong_lines : (array : Array) → among_array WrongType ms array ≡ None
  pub lines : (array : Array) → among_array Range ms array ≡ None

-- where nothing is found in the arrays, nothing is in each
each_array : (check : Check) (ms : Members) (before : ℕ) (rest : List Array) (i : ℕ) (d : Array) → among_arrays check ms before rest ≡ None
    → i < length rest → among_array check ms (get_or rest i d) ≡ None
each_array check ms before [] i d h lt = absurd (omega arith)
each_array check ms before (a ∷ rest) i d h lt =
    let after = count_on before (line_count ms a) in
    let (here, later) = or_none (option_map (counted_on before) (among_array check ms a)) (among_arrays check ms after rest) h in
    at i (map_none (counted_on before) (among_array check ms a) here) lt (λ j below. each_array check ms after rest j d later below)
  where
    at : (i : ℕ) → among_array check ms a ≡ None → i < length (a ∷ rest)
        → ((j : ℕ) → j < length rest → among_array check ms (get_or rest j d) ≡ None) → among_array check ms (get_or (a ∷ rest) i d) ≡ None
    at zero here lt later = here
    at (suc i) here lt later = later i (omega arith)

no_lines : (check : Check) (ms : Members) → among_arrays check ms 0 arrays ≡ None → (array : Array) → among_array check ms array ≡ None
unfolding arrays
no_lines check ms h array.Input = each_array check ms 0 arrays 0 array.Input h (lit< tt)
no_lines check ms h array.Scaled = each_array check ms 0 arrays 1 array.Input h (lit< tt)
no_lines check ms h array.Product = each_array check ms 0 arrays 2 array.Input h (lit< tt)
no_lines check ms h array.Delay = each_array check ms 0 arrays 3 array.Input h (lit< tt)

pub fine : (ms : Members) → field_fault ms ≡ None → AreFine ms
fine ms h =
    let (forms, values) = or_none (form_fault ms) (value_fault ms) h in
    let (unknown, later) = or_none (check_fault Unknown ms) (first_of (check_fault Missing ms ∷ check_fault WrongType ms ∷ [])) forms in
    let (missing, last) = or_none (check_fault Missing ms) (first_of (check_fault WrongType ms ∷ [])) later in
    let (wrong, _) = or_none (check_fault WrongType ms) None last in
    let (version, named) = or_none (bad_version ms) (first_of (bad_name ms ∷ bad_kind ms ∷ check_fault Range ms ∷ [])) values in
    let (name, kinds) = or_none (bad_name ms) (first_of (bad_kind ms ∷ check_fault Range ms ∷ [])) named in
    let (kind, ranged) = or_none (bad_kind ms) (first_of (check_fault Range ms ∷ [])) kinds in
    let (range, _) = or_none (check_fault Range ms) None ranged in
    let (known, _) = or_none (among_keys Unknown ms) (among_arrays Unknown ms 0 arrays) unknown in
    let (there, there_lines) = or_none (among_keys Missing ms) (among_arrays Missing ms 0 arrays) missing in
    let (typed, typed_lines) = or_none (among_keys WrongType ms) (among_arrays WrongType ms 0 arrays) wrong in
    let (within, within_lines) = or_none (among_keys Range ms) (among_arrays Range ms 0 arrays) range in
    record {
      unknown = known;
      missing = there;
      wrong = typed;
      version = version;
      name = name;
      kind = kind;
      range = within;
      missing_lines = no_lines Missing ms there_lines;
      wrong_lines = no_lines WrongType ms typed_lines;
      lines = no_lines Range ms within_lines;
    }

-- where a key of the document stands among them
abbrev place : Key → ℕ
place k = unwrap_or (position (λ other. bytes_eq (key_name other) (key_name k)) document_keys) 0

abbrev pub is_of_line : Key → Bool
is_of_line key.Class = true
is_of_line key.Base = true
is_of_line key.PerBit = true
is_of_line key.InputName = true
is_of_line key.InputSigned = true
is_of_line key.InputWidth = true
is_of_line key.InputLsb = true
is_of_line key.ScaledInput = true
is_of_line key.Coefficient = true
is_of_line key.FactorA = true
is_of_line key.FactorB = true
is_of_line key.Negative = true
is_of_line _ = false

listed : (k : Key) → is_of_line k ≡ false → (place k < length document_keys) × (get_or document_keys (place k) key.Version ≡ k)
unfolding document_keys
listed key.Class h = cc
listed key.Base h = cc
listed key.PerBit h = cc
listed key.InputName h = cc
listed key.InputSigned h = cc
listed key.InputWidth h = cc
listed key.InputLsb h = cc
listed key.ScaledInput h = cc
listed key.Coefficient h = cc
listed key.FactorA h = cc
listed key.FactorB h = cc
listed key.Negative h = cc
listed _ h = (lit< tt, refl)

-- a key of the document is not missing, not of a wrong type and not out of range
not_missing : (ms : Members) (k : Key) → AreFine ms → is_of_line k ≡ false → is_missing ms ms k ≡ false
not_missing ms k f h =
    let (lt, same) = listed k h in
    subst (λ k. is_missing ms ms k ≡ false) same (find_none (is_missing ms ms) document_keys (place k) key.Version
    (map_none (λ k. fault.MissingKey k 0) (find (is_missing ms ms) document_keys) f.missing) lt)

pub typed : (ms : Members) (k : Key) → AreFine ms → is_of_line k ≡ false → is_wrong ms k ≡ false
typed ms k f h =
    let (lt, same) = listed k h in
    (or_parts (is_wrong ms k) (is_some (value_at ms k) && kind_clashes ms k) (subst (λ k. is_wrong_in ms ms k ≡ false) same
    (find_none (is_wrong_in ms ms) document_keys (place k) key.Version
    (map_none (λ k. fault.WrongType k 0) (find (is_wrong_in ms ms) document_keys) f.wrong) lt))).0

pub not_found : (ms : Members) (k : Key) → AreFine ms → is_of_line k ≡ false → found ms 0 ms k ≡ None
not_found ms k f h =
    let (lt, same) = listed k h in
    subst (λ k. found ms 0 ms k ≡ None) same (map_none (fault.OutOfRange (get_or document_keys (place k) key.Version) 0)
    (found ms 0 ms (get_or document_keys (place k) key.Version))
    (first_none (λ k. out_of_range 0 k (found ms 0 ms k)) document_keys (place k) key.Version f.range lt))

-- what is not found of a key is not out of range where the key is there
pub asked_there : {A : Type 0} (o : Option Data) (b : Bool) (x : Option A) → (if is_some o || b then x else None) ≡ None
    → option_and_then (λ _. x) o ≡ None
asked_there (Some d) b x h = h
asked_there None b x h = refl

pub ranged : (ms : Members) (k : Key) → AreFine ms → is_of_line k ≡ false
    → option_and_then (λ _. value_outside ms 0 ms k) (value_at ms k) ≡ None
ranged ms k f h = asked_there (value_at ms k) (is_always_asked k) (value_outside ms 0 ms k) (not_found ms k f h)

-- a key that is needed is there
not_absent : (b c : Bool) → b ≡ true → (b && c) ≡ false → c ≡ false
not_absent true c h e = e
not_absent false c h e = cc

pub stands : (doc ms : Members) (k : Key) → is_needed (version_of doc) (kind_of doc) k ≡ true → is_missing doc ms k ≡ false
    → is_none (value_at ms k) ≡ false
stands doc ms k needs there = not_absent (is_needed (version_of doc) (kind_of doc) k) (is_none (value_at ms k)) needs there

pub present : (ms : Members) (one : Kind) (k : Key) → AreFine ms → kind_of ms ≡ Some one → is_of_line k ≡ false
    → has_to_be (stand_in (version_of ms) one k) ≡ true → is_none (value_at ms k) ≡ false
present ms one k f e h needs =
    stands ms ms k (ap (λ named. is_needed (version_of ms) named k) e ∙ needs) (not_missing ms k f h)

pub there_inside : {A : Type 0} (o : Option Data) (x : Option A) → is_none o ≡ false → option_and_then (λ _. x) o ≡ None → x ≡ None
there_inside (Some d) x there h = h
there_inside None x there h = cc

-- the keys that not all kinds share
not_line : (k : Key) → shared_stand k ≡ None → is_of_line k ≡ false
not_line key.Class h = cc
not_line key.Base h = cc
not_line key.PerBit h = cc
not_line key.InputName h = cc
not_line key.InputSigned h = cc
not_line key.InputWidth h = cc
not_line key.InputLsb h = cc
not_line key.ScaledInput h = cc
not_line key.Coefficient h = cc
not_line key.FactorA h = cc
not_line key.FactorB h = cc
not_line key.Negative h = cc
not_line _ h = refl

by_kind : (ms : Members) (k : Key) → shared_stand k ≡ None → value_outside ms 0 ms k ≡ kind_outside ms k
by_kind ms key.Target h = cc
by_kind ms key.Period h = cc
by_kind ms key.Delay h = cc
by_kind ms key.Class h = cc
by_kind ms key.Base h = cc
by_kind ms key.PerBit h = cc
by_kind ms key.InputName h = cc
by_kind ms key.InputSigned h = cc
by_kind ms key.InputWidth h = cc
by_kind ms key.InputLsb h = cc
by_kind ms key.ScaledInput h = cc
by_kind ms key.Coefficient h = cc
by_kind ms key.FactorA h = cc
by_kind ms key.FactorB h = cc
by_kind ms key.Negative h = cc
by_kind ms _ h = refl

-- a key is not out of the range that its kind sets to it
pub own_range : (ms : Members) (one : Kind) (k : Key) → AreFine ms → kind_of ms ≡ Some one → shared_stand k ≡ None
    → option_and_then (λ _. (entry one).key_outside ms k) (value_at ms k) ≡ None
own_range ms one k f e apart =
    ap (λ named. option_and_then (λ _. option_and_then (λ one. (entry one).key_outside ms k) named) (value_at ms k)) (sym e)
    ∙ (ap (λ x. option_and_then (λ _. x) (value_at ms k)) (sym (by_kind ms k apart)) ∙ ranged ms k f (not_line k apart))

-- a key that is there, has a value of its type, and is not out of range
pub record IsFine (ms : Members) (k : Key) (beyond : Option ℤ) : Type 0 where
  pub there : is_none (value_at ms k) ≡ false
  pub typed : is_wrong ms k ≡ false
  pub within : beyond ≡ None

pub own_there : (ms : Members) (one : Kind) (k : Key) → AreFine ms → kind_of ms ≡ Some one → shared_stand k ≡ None
    → is_none (value_at ms k) ≡ false → IsFine ms k ((entry one).key_outside ms k)
own_there ms one k f e apart there = record {
  there = there;
  typed = typed ms k f (not_line k apart);
  within = there_inside (value_at ms k) ((entry one).key_outside ms k) there (own_range ms one k f e apart);
}

-- a key that its kind needs is there
pub needed : (ms : Members) (one : Kind) (k : Key) → AreFine ms → kind_of ms ≡ Some one → shared_stand k ≡ None
    → has_to_be ((entry one).stand (version_of ms) k) ≡ true → is_none (value_at ms k) ≡ false
needed ms one k f e apart needs =
    present ms one k f e (not_line k apart) (ap (λ o. has_to_be (unwrap_or o ((entry one).stand (version_of ms) k))) apart ∙ needs)

pub own : (ms : Members) (one : Kind) (k : Key) → AreFine ms → kind_of ms ≡ Some one → shared_stand k ≡ None
    → has_to_be ((entry one).stand (version_of ms) k) ≡ true → IsFine ms k ((entry one).key_outside ms k)
own ms one k f e apart needs = own_there ms one k f e apart (needed ms one k f e apart needs)

-- what a choice without a fault says of its test
pub passed : (b : Bool) (f : SpecFault) → (if b then None else Some f) ≡ None → b ≡ true
passed true f h = refl
passed false f h = cc

-- the document names a kind, and its version has that kind
pub no_kind : (ms : Members) → bad_kind ms ≡ None → kind_of ms ≡ None → ⊥
no_kind ms h e =
    let has = passed (option_map_or (has_kind (version_of ms)) (kind_of ms) false) fault.BadKind h in
    let no : false ≡ true = sym (ap (λ o. option_map_or (has_kind (version_of ms)) o false) e) ∙ has in
    cc

not_in_first : (version : Version) (one : Kind) → version ≡ First → (entry one).first ≡ false → has_kind version one ≡ true → ⊥
not_in_first First one is none h = let no : false ≡ true = sym none ∙ h in cc
not_in_first Second one is none h = cc
not_in_first Third one is none h = cc
not_in_first Fourth one is none h = cc

pub not_late : (ms : Members) (one : Kind) → AreFine ms → kind_of ms ≡ Some one → (entry one).first ≡ false → version_of ms ≡ First → ⊥
not_late ms one f e none first =
    not_in_first (version_of ms) one first none
    (sym (ap (λ o. option_map_or (has_kind (version_of ms)) o false) e)
    ∙ passed (option_map_or (has_kind (version_of ms)) (kind_of ms) false) fault.BadKind f.kind)
