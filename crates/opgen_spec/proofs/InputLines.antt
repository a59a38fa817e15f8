-- The inputs of a sum of products, in a document without a fault.
use Rattle.std.proofs.Common.{◌≡◌, ℕ, ◌+◌, ◌==◌, ◌≤◌, ◌<◌, ◌&&◌, not, Bool, true, false, List, length, map, Option, Some, None, is_some, option_map, unwrap_or, refl, ap, ◌∙◌, sym, subst, arith, lit<, nat_lt, if◌then◌else◌}
use Rattle.std.specs.Prelude.{pos, negsuc, All, IsTrue, ◌≢◌, slice_get}
use Rattle.std.specs.List.{AllPairs}
use Rattle.std.specs.Option.{option_map_or}
use Rattle.std.specs.Str.{bytes_eq}
use borrow.Author.Tests.{eqb-true}
use Rattle.std.proofs.lemmas.Bool.{and_parts, lt-ltb}
use Rattle.std.proofs.lemmas.Int.{ints}
use Rattle.std.proofs.lemmas.List.Quantifiers.{position-Some}
use Rattle.std.proofs.lemmas.Option.{slice_get-get_or}
use Rattle.std.proofs.lemmas.Slice.Eq.{bytes_eq-Decides}
use Rattle.toml.specs.Data.{string, table, Items, Members, no_members}
use Rattle.opgen_operator.specs.GivenNames.{is_port_name, AreGivenNames}
use Rattle.opgen_operator.proofs.Listed.{given_by}
use Rattle.opgen_ports.specs.declared.ports.PortFormat.{PortFormat}
use Rattle.opgen_ports.specs.Ranges.{IsInput}
use Rattle.opgen_document.specs.declared.array.Array.TheVariants as array
use Rattle.opgen_document.specs.declared.key.Key.TheVariants as key
use Rattle.opgen_document.specs.Document.{value_at, number_at, text_at, flag_at, items_at, list_of, in_tables, count}
use Rattle.opgen_document.specs.Keys.{line_keys}
use Rattle.opgen_document.specs.Ranges.{length_outside}
use Rattle.opgen_document.proofs.Ranges.{inside}
use Rattle.opgen_document.proofs.Values.{text_stands, flag_stands, count_written, small_written}
use Rattle.opgen_entries.specs.kinds.Sop.{name_in, input_named, is_first_named, place_of, input_of, IsInputAsWritten}
use Rattle.opgen_spec.proofs.ArrayLines.{IsFineLine, IsAmong, IsLineAt, line_fine, all_fine, line_at, lines_in, read_length}
use Rattle.opgen_spec.proofs.Fine.{AreFine, IsFine}
use Rattle.opgen_spec.proofs.Ranges.{bits_in, bits_bounds, power_small}

name_among : IsAmong array.Input 0 key.InputName
unfolding line_keys
name_among = record { below = lit< tt; is = refl }

signed_among : IsAmong array.Input 1 key.InputSigned
unfolding line_keys
signed_among = record { below = lit< tt; is = refl }

width_among : IsAmong array.Input 2 key.InputWidth
unfolding line_keys
width_among = record { below = lit< tt; is = refl }

lsb_among : IsAmong array.Input 3 key.InputLsb
unfolding line_keys
lsb_among = record { below = lit< tt; is = refl }

-- a number that is taken
taken : {A : Type 0} (b : Bool) (x : A) → (if b then None else Some x) ≡ None → b ≡ true
taken true x h = refl
taken false x h = cc

-- one line
module _ (doc : Members) (n : ℕ) (ms : Members) (f : IsFineLine array.Input doc n ms) where
  pub narrow : (input_of ms).format.width ≤ 48
  narrow =
      (bits_in (flag_at ms key.InputSigned) 48 (number_at ms key.InputWidth) (omega arith)
      (line_fine array.Input doc n ms f 2 key.InputWidth width_among refl).within).1

  pub input_in : IsInput (input_of ms).format
  input_in =
      let width = (line_fine array.Input doc n ms f 2 key.InputWidth width_among refl).within in
      let lsb = (line_fine array.Input doc n ms f 3 key.InputLsb lsb_among refl).within in
      record {
        fewest = (bits_in (flag_at ms key.InputSigned) 48 (number_at ms key.InputWidth) (omega arith) width).0;
        most = narrow;
        lsb = power_small (number_at ms key.InputLsb) (inside (negsuc 63) (pos 64) (number_at ms key.InputLsb) lsb);
      }

  pub input_written : IsInputAsWritten ms (input_of ms)
  input_written =
      let name = line_fine array.Input doc n ms f 0 key.InputName name_among refl in
      let sign = line_fine array.Input doc n ms f 1 key.InputSigned signed_among refl in
      let width = line_fine array.Input doc n ms f 2 key.InputWidth width_among refl in
      let lsb = line_fine array.Input doc n ms f 3 key.InputLsb lsb_among refl in
      record {
        name_written = text_stands (value_at ms key.InputName) name.there name.typed;
        signed_written = flag_stands (value_at ms key.InputSigned) sign.there sign.typed;
        width_written = count_written (value_at ms key.InputWidth) 1 48 width.there width.typed
            (bits_bounds (flag_at ms key.InputSigned) 48 (number_at ms key.InputWidth) width.within) (omega arith);
        lsb_written = small_written (value_at ms key.InputLsb) lsb.there lsb.typed
            (inside (negsuc 63) (pos 64) (number_at ms key.InputLsb) lsb.within);
      }

  sound_and_apart : (is_port_name (text_at ms key.InputName) && not (bytes_eq (text_at ms key.InputName) (text_at doc key.Name))) ≡ true
  sound_and_apart =
      (and_parts (is_port_name (text_at ms key.InputName) && not (bytes_eq (text_at ms key.InputName) (text_at doc key.Name)))
      (is_first_named (items_at doc key.Input) n (text_at ms key.InputName))
      (taken (is_port_name (text_at ms key.InputName) && not (bytes_eq (text_at ms key.InputName) (text_at doc key.Name))
      && is_first_named (items_at doc key.Input) n (text_at ms key.InputName)) (pos n)
      (line_fine array.Input doc n ms f 0 key.InputName name_among refl).within)).0

  is_first : is_first_named (items_at doc key.Input) n (text_at ms key.InputName) ≡ true
  is_first =
      (and_parts (is_port_name (text_at ms key.InputName) && not (bytes_eq (text_at ms key.InputName) (text_at doc key.Name)))
      (is_first_named (items_at doc key.Input) n (text_at ms key.InputName))
      (taken (is_port_name (text_at ms key.InputName) && not (bytes_eq (text_at ms key.InputName) (text_at doc key.Name))
      && is_first_named (items_at doc key.Input) n (text_at ms key.InputName)) (pos n)
      (line_fine array.Input doc n ms f 0 key.InputName name_among refl).within)).1

  is_sound : IsTrue (is_port_name (input_of ms).name)
  is_sound =
      (and_parts (is_port_name (text_at ms key.InputName)) (not (bytes_eq (text_at ms key.InputName) (text_at doc key.Name)))
      sound_and_apart).0

  is_apart : (input_of ms).name ≢ text_at doc key.Name
  is_apart same =
      other (bytes_eq (text_at ms key.InputName) (text_at doc key.Name))
      ((bytes_eq-Decides (text_at ms key.InputName) (text_at doc key.Name)).1 same)
      (and_parts (is_port_name (text_at ms key.InputName)) (not (bytes_eq (text_at ms key.InputName) (text_at doc key.Name)))
      sound_and_apart).1
    where
      other : (b : Bool) → b ≡ true → not b ≡ true → ⊥
      other true e h = cc
      other false e h = cc

-- the first input of a name is at the place of its line
first_place : (o : Option ℕ) (j : ℕ) → option_map_or (λ place. place + 1 == 1 + j) o false ≡ true → o ≡ Some j
first_place None j h = cc
first_place (Some place) j h =
    let same = eqb-true (place + 1) (1 + j) h in
    let here : place ≡ j = omega (arith, same) in
    ap Some here

count_small : (n : ℕ) → n < 4294967296 → count (pos n) ≡ n
count_small n below = let fits : nat_lt n 4294967296 ≡ true = lt-ltb n 4294967296 below in rw fits refl

-- all of them
module _ (doc : Members) (f : AreFine doc) where
  abbrev pub input_items : Items
  input_items = items_at doc key.Input

  pub input_count : length (in_tables input_of input_items) ≡ length (list_of input_items)
  input_count = read_length input_of input_items (all_fine array.Input doc f).tables

  input_at : (i : ℕ) → i < length (list_of input_items) → IsLineAt input_of array.Input doc 1 input_items i
  input_at i lt = line_at input_of array.Input doc 1 input_items i (all_fine array.Input doc f) lt

  pub all_inputs : (Is : PortFormat → Type 0) → ((n : ℕ) (ms : Members) → IsFineLine array.Input doc n ms → Is (input_of ms))
      → All Is (in_tables input_of input_items)
  all_inputs Is each = lines_in Is input_of array.Input doc 1 input_items (all_fine array.Input doc f) each

  names_differ : AllPairs (λ (p q : PortFormat). p.name ≢ q.name) (in_tables input_of input_items)
  names_differ i j d before below same =
      let first = input_at i (omega (arith, before, below, input_count)) in
      let second = input_at j (omega (arith, below, input_count)) in
      let name = text_at second.ms key.InputName in
      let none = table no_members in
      let place = first_place (input_named input_items name) j (is_first doc (1 + j) second.ms second.fine) in
      let (_, _, earlier) = position-Some (λ d. bytes_eq (name_in d) name) (list_of input_items) j none place in
      let other : bytes_eq (text_at first.ms key.InputName) name ≡ false =
      ap (λ d. bytes_eq (name_in d) name) (sym (first.item_is none)) ∙ earlier i before in
      let names : text_at first.ms key.InputName ≡ name =
      ap (λ (p : PortFormat). p.name) (sym (first.read_is d)) ∙ same ∙ ap (λ (p : PortFormat). p.name) (second.read_is d) in
      let no : false ≡ true = sym other ∙ (bytes_eq-Decides (text_at first.ms key.InputName) name).1 names in
      cc

  pub input_names : AreGivenNames (text_at doc key.Name) (map (λ (p : PortFormat). p.name) (in_tables input_of input_items))
  input_names =
      given_by (text_at doc key.Name) (in_tables input_of input_items) (all_inputs (λ p. IsTrue (is_port_name p.name)) (is_sound doc))
      (all_inputs (λ p. p.name ≢ text_at doc key.Name) (is_apart doc)) names_differ

  -- a name that is an input's, by the place that is read of it
  pub record IsFactor (name : List ℕ) : Type 0 where
    pub below : place_of input_items name < length (in_tables input_of input_items)
    pub named : option_map (λ (p : PortFormat). string p.name) (slice_get (in_tables input_of input_items) (place_of input_items name))
        ≡ Some (string name)

  pub factor : IsFine doc key.Input (length_outside 1 16 (items_at doc key.Input)) → (name : List ℕ)
      → is_some (input_named input_items name) ≡ true → IsFactor name
  factor few name known = by (input_named input_items name) refl known
    where
      by : (o : Option ℕ) → input_named input_items name ≡ o → is_some o ≡ true → IsFactor name
      by None none known = cc
      by (Some i) some known =
          let d = table no_members in
          let p = input_of no_members in
          let inputs = in_tables input_of input_items in
          let (here, same, _) = position-Some (λ d. bytes_eq (name_in d) name) (list_of input_items) i d some in
          let line = input_at i here in
          let (_, most) = inside (pos 1) (pos 16) (pos (length (list_of input_items))) few.within in
          let below : i < 4294967296 = omega (arith, ints, here, most) in
          let place : place_of input_items name ≡ i = ap (λ o. count (pos (unwrap_or o 0))) some ∙ count_small i below in
          let has : text_at line.ms key.InputName ≡ name =
          (bytes_eq-Decides (text_at line.ms key.InputName) name).0 (ap (λ d. bytes_eq (name_in d) name) (sym (line.item_is d)) ∙ same) in
          let there : i < length inputs = omega (arith, here, input_count) in
          record {
            below = subst (λ n. n < length inputs) (sym place) there;
            named = ap (λ n. option_map (λ (p : PortFormat). string p.name) (slice_get inputs n)) place
                ∙ ap (option_map (λ (p : PortFormat). string p.name)) (slice_get-get_or inputs i p there ∙ ap Some (line.read_is p))
                ∙ ap (λ n. Some (string n)) has;
          }
