-- Sums of products of a document without a fault.
use Rattle.std.proofs.Common.{◌≡◌, ℕ, ◌+◌, ◌≤◌, ◌&&◌, ◌||◌, ◌⊎◌, inl, inr, not, Bool, true, false, cond, List, [], ◌∷◌, length, Option, Some, None, is_some, option_and_then, find, refl, ap, sym, subst, ◌∙◌, arith, lit<, nat_le, if◌then◌else◌}
use Rattle.std.specs.Prelude.{ℤ, pos, negsuc, ◌≤ℤ◌, int_le}
use Rattle.std.specs.List.{list_all}
use Rattle.std.specs.Option.{option_map_or}
use Rattle.std.specs.Str.{bytes_eq}
use Rattle.std.proofs.lemmas.Bool.{and_parts, leb-true}
use Rattle.std.proofs.lemmas.Int.{ints}
use Rattle.toml.specs.Data.{Data, integer, Items, no_items, item, Members, as_integer}
use Rattle.opgen_operator.specs.Operator.{kind_name}
use Rattle.opgen_operator.specs.declared.kind.Kind.{Kind}
use Rattle.opgen_operator.specs.declared.kind.Kind.TheVariants as kind
use Rattle.opgen_terms.specs.Sop.{IsScaled, IsTimes, IsSop}
use Rattle.opgen_ports.specs.declared.ports.PortFormat.{PortFormat}
use Rattle.opgen_ports.specs.Limits.{most_input}
use Rattle.opgen_ports.proofs.Marks.{is_exact-of, exact_or_faithful, of_bits}
use Rattle.opgen_ports.specs.Ranges.{IsInput, IsWithin}
use Rattle.opgen_document.specs.declared.array.Array.TheVariants as array
use Rattle.opgen_document.specs.declared.key.Key.{Key}
use Rattle.opgen_document.specs.declared.key.Key.TheVariants as key
use Rattle.opgen_document.specs.declared.key.Version.{Version}
use Rattle.opgen_document.specs.declared.key.Version.TheVariants.{First, Second, Third, Fourth}
use Rattle.opgen_document.specs.Document.{value_at, number_in, number_at, text_at, flag_at, counters_at, items_at, list_of, is_empty, in_tables, IsNumberAsWritten, version_of, version_number}
use Rattle.opgen_document.specs.Keys.{line_keys}
use Rattle.opgen_document.specs.Numbers.{are_texts, given_denominator}
use Rattle.opgen_document.specs.Ranges.{outside, length_outside, power_outside, numerator_outside, denominator_outside}
use Rattle.opgen_document.specs.Types.{is_wrong}
use Rattle.opgen_document.proofs.Ranges.{inside, zero_inside, given_in}
use Rattle.opgen_document.proofs.Values.{IsNumber, number_stands, text_stands}
use Rattle.opgen_entries.specs.kinds.{early_kinds, kind_named, kind_of, entry}
use Rattle.opgen_entries.specs.kinds.Sop.{most_inputs, most_products, has_no_terms, scaled_outside, input_of, scaled_of, times_of, sop_of, factor_outside, IsInputAsWritten, IsScaledAsWritten, IsTimesAsWritten}
use Rattle.opgen_spec.specs.Faults.{kind_outside}
use Rattle.opgen_spec.specs.Made.{is_heap, are_few, has_few_terms}
use Rattle.opgen_spec.proofs.ArrayLines.{IsFineLine, IsAmong, line_fine, line_typed, all_fine, lines_written, lines_in, read_length, few_items}
use Rattle.opgen_spec.proofs.Compressors.{IsTaken, compressor_cases, compressor_written}
use Rattle.opgen_spec.proofs.Fine.{AreFine, IsFine, own, own_range, typed, not_found}
use Rattle.opgen_spec.proofs.Made.{kind_made}
use Rattle.opgen_spec.proofs.InputLines.{narrow, input_in, input_written, input_count, all_inputs, input_names, IsFactor, factor}
use Rattle.opgen_spec.proofs.Ranges.{widest, power_in}
use Rattle.opgen_spec.proofs.Versions.{IsEarly, count_is, in_late, late}
use Rattle.opgen_spec.proofs.Writing.{power_written, optional_flag_written}
use Rattle.opgen_spec.proofs.sound.Sound.{IsFew, IsSound}

-- versions 1 and 2 cannot name the kind
abbrev is_sop : Kind → Bool
is_sop kind.Sop = true
is_sop _ = false

not_named : (p : Kind → Bool) (ks : List Kind) → list_all (λ one. not (is_sop one)) ks ≡ true → find p ks ≡ Some kind.Sop → ⊥
not_named p [] none h = cc
not_named p (one ∷ ks) none h =
    let (here, later) = and_parts (not (is_sop one)) (list_all (λ one. not (is_sop one)) ks) none in
    go (p one) here h (not_named p ks later)
  where
    go : (b : Bool) → not (is_sop one) ≡ true → cond b (Some one) (find p ks) ≡ Some kind.Sop → (find p ks ≡ Some kind.Sop → ⊥) → ⊥
    go true here h later =
        let same : one ≡ kind.Sop = cc in
        let no : false ≡ true = ap (λ k. not (is_sop k)) (sym same) ∙ here in
        cc
    go false here h later = later h

none_early : list_all (λ one. not (is_sop one)) early_kinds ≡ true
unfolding early_kinds
none_early = refl

not_early : (ms : Members) → kind_of ms ≡ Some kind.Sop → IsEarly (version_of ms) → ⊥
not_early ms e is_early = by (version_of ms) e is_early
  where
    by : (version : Version) → kind_named version (text_at ms key.Kind) ≡ Some kind.Sop → IsEarly version → ⊥
    by First e is_early = not_named (λ one. bytes_eq (kind_name one) (text_at ms key.Kind)) early_kinds none_early e
    by Second e is_early = not_named (λ one. bytes_eq (kind_name one) (text_at ms key.Kind)) early_kinds none_early e
    by Third e is_early = is_early
    by Fourth e is_early = is_early

-- of version 4 those are made that have as few inputs and products as version 3 allows
few : (ms : Members) → AreFine ms → kind_of ms ≡ Some kind.Sop → version_of ms ≡ Fourth
    → (are_few (items_at ms key.Input) ≡ true) × (are_few (items_at ms key.Product) ≡ true)
few ms f e fourth =
    and_parts (are_few (items_at ms key.Input)) (are_few (items_at ms key.Product))
    (and_parts (is_heap ms) (has_few_terms ms) (kind_made ms kind.Sop f e fourth)).1

few_only : (least most n : ℕ) → outside (pos least) (pos most) (pos n) ≡ None → nat_le n 16 ≡ true → outside (pos least) (pos 16) (pos n) ≡ None
few_only least most n h small =
    let (fewest, _) = inside (pos least) (pos most) (pos n) h in
    let limit = leb-true n 16 small in
    let above : int_le (pos least) (pos n) ≡ true = grind (arith, ints) in
    let below : int_le (pos n) (pos 16) ≡ true = grind (arith, ints) in
    rw (above, below) refl

few_inputs : (ms : Members) → AreFine ms → kind_of ms ≡ Some kind.Sop
    → length_outside 1 (most_inputs (version_of ms)) (items_at ms key.Input) ≡ None → length_outside 1 16 (items_at ms key.Input) ≡ None
few_inputs ms f e none = by (version_of ms) refl none
  where
    by : (version : Version) → version_of ms ≡ version → length_outside 1 (most_inputs version) (items_at ms key.Input) ≡ None
        → length_outside 1 16 (items_at ms key.Input) ≡ None
    by First is none = none
    by Second is none = none
    by Third is none = none
    by Fourth is none = few_only 1 48 (length (list_of (items_at ms key.Input))) none (few ms f e is).0

few_products : (ms : Members) → AreFine ms → kind_of ms ≡ Some kind.Sop
    → option_and_then (λ _. length_outside 0 (most_products (version_of ms)) (items_at ms key.Product)) (value_at ms key.Product) ≡ None
    → option_and_then (λ _. length_outside 0 16 (items_at ms key.Product)) (value_at ms key.Product) ≡ None
few_products ms f e none = by (version_of ms) refl (value_at ms key.Product) none
  where
    by : (version : Version) → version_of ms ≡ version → (o : Option Data)
        → option_and_then (λ _. length_outside 0 (most_products version) (items_at ms key.Product)) o ≡ None
        → option_and_then (λ _. length_outside 0 16 (items_at ms key.Product)) o ≡ None
    by First is o none = none
    by Second is o none = none
    by Third is o none = none
    by Fourth is None none = refl
    by Fourth is (Some d) none = few_only 0 32 (length (list_of (items_at ms key.Product))) none (few ms f e is).1

record HasSop (ms : Members) : Type 0 where
  fine : AreFine ms
  out_lsb : IsFine ms key.OutLsb (power_outside ms key.OutLsb)
  den : option_and_then (λ _. denominator_outside ms) (value_at ms key.Denominator) ≡ None
  offset : option_and_then (λ _. numerator_outside ms key.Offset) (value_at ms key.Offset) ≡ None
  inputs : IsFine ms key.Input (length_outside 1 16 (items_at ms key.Input))
  scaled : scaled_outside ms ≡ None
  products : option_and_then (λ _. length_outside 0 16 (items_at ms key.Product)) (value_at ms key.Product) ≡ None
  compressor : (value_at ms key.Compressor ≡ None) ⊎ IsTaken ms

-- the key that is always asked
always : {A : Type 0} (b : Bool) (x : Option A) → (if b || true then x else None) ≡ None → x ≡ None
always true x h = h
always false x h = h

keys : (ms : Members) → AreFine ms → kind_of ms ≡ Some kind.Sop → HasSop ms
unfolding entry
keys ms f e = record {
  fine = f;
  out_lsb = own ms kind.Sop key.OutLsb f e refl refl;
  den = own_range ms kind.Sop key.Denominator f e refl;
  offset = own_range ms kind.Sop key.Offset f e refl;
  inputs = let h = own ms kind.Sop key.Input f e refl refl in
      record { there = h.there; typed = h.typed; within = few_inputs ms f e h.within };
  scaled = ap (option_and_then (λ one. (entry one).key_outside ms key.Scaled)) (sym e)
      ∙ always (is_some (value_at ms key.Scaled)) (kind_outside ms key.Scaled) (not_found ms key.Scaled f refl);
  products = few_products ms f e (own_range ms kind.Sop key.Product f e refl);
  compressor = compressor_cases ms kind.Sop f e (record { stands = λ version. refl; range = λ ms. refl; heap = λ ms made. (and_parts (is_heap ms) (has_few_terms ms) made).0 });
}

scaled_among : IsAmong array.Scaled 0 key.ScaledInput
unfolding line_keys
scaled_among = record { below = lit< tt; is = refl }

coefficient_among : IsAmong array.Scaled 1 key.Coefficient
unfolding line_keys
coefficient_among = record { below = lit< tt; is = refl }

a_among : IsAmong array.Product 0 key.FactorA
unfolding line_keys
a_among = record { below = lit< tt; is = refl }

b_among : IsAmong array.Product 1 key.FactorB
unfolding line_keys
b_among = record { below = lit< tt; is = refl }

negative_among : IsAmong array.Product 2 key.Negative
unfolding line_keys
negative_among = record { below = lit< tt; is = refl }

-- whole numbers over the denominator
within : (n : ℤ) → (negsuc 1073741823 ≤ℤ n) × (n ≤ℤ pos 1073741824) → IsWithin 1073741824 n
within (pos n) (least, most) = omega (arith, ints, most)
within (negsuc n) (least, most) = omega (arith, ints, least)

-- a name that is not out of range is that of an input
given : (b : Bool) (n : ℤ) → (if b then None else Some n) ≡ None → b ≡ true
given true n h = refl
given false n h = cc

-- terms
some_terms : (a b : Items) → (is_empty a && is_empty b) ≡ false → 1 ≤ length (list_of a) + length (list_of b)
some_terms no_items no_items h = cc
some_terms no_items (item d ds) h = omega arith
some_terms (item d ds) b h = omega arith

module _ (ms : Members) (h : HasSop ms) where
  abbrev inputs : Items
  inputs = items_at ms key.Input

  abbrev ports : List PortFormat
  ports = in_tables input_of inputs

  named : (n : ℕ) (line : Members) (k : Key) → factor_outside ms n line k ≡ None → IsFactor ms h.fine (text_at line k)
  named n line k none = factor ms h.fine h.inputs (text_at line k) (given _ (pos n) none)

  scaled_in : (n : ℕ) (line : Members) → IsFineLine array.Scaled ms n line → IsScaled (length ports) (scaled_of inputs line)
  scaled_in n line f = record {
    input = (named n line key.ScaledInput (line_fine array.Scaled ms n line f 0 key.ScaledInput scaled_among refl).within).below;
    coefficient = within (number_at line key.Coefficient) (inside (negsuc 1073741823) (pos 1073741824) (number_at line key.Coefficient)
        (line_fine array.Scaled ms n line f 1 key.Coefficient coefficient_among refl).within);
  }

  times_in : (n : ℕ) (line : Members) → IsFineLine array.Product ms n line → IsTimes (length ports) (times_of inputs line)
  times_in n line f = record {
    a = (named n line key.FactorA (line_fine array.Product ms n line f 0 key.FactorA a_among refl).within).below;
    b = (named n line key.FactorB (line_fine array.Product ms n line f 1 key.FactorB b_among refl).within).below;
  }

  scaled_written : (n : ℕ) (line : Members) → IsFineLine array.Scaled ms n line → IsScaledAsWritten ports line (scaled_of inputs line)
  scaled_written n line f =
      let name = line_fine array.Scaled ms n line f 0 key.ScaledInput scaled_among refl in
      let number = line_fine array.Scaled ms n line f 1 key.Coefficient coefficient_among refl in
      record {
        input = text_stands (value_at line key.ScaledInput) name.there name.typed ∙ sym (named n line key.ScaledInput name.within).named;
        coefficient = number_stands (value_at line key.Coefficient) number.there number.typed;
      }

  times_written : (n : ℕ) (line : Members) → IsFineLine array.Product ms n line → IsTimesAsWritten ports line (times_of inputs line)
  times_written n line f =
      let a = line_fine array.Product ms n line f 0 key.FactorA a_among refl in
      let b = line_fine array.Product ms n line f 1 key.FactorB b_among refl in
      record {
        a = text_stands (value_at line key.FactorA) a.there a.typed ∙ sym (named n line key.FactorA a.within).named;
        b = text_stands (value_at line key.FactorB) b.there b.typed ∙ sym (named n line key.FactorB b.within).named;
        negative = optional_flag_written line key.Negative (line_typed array.Product ms n line f 2 key.Negative negative_among);
      }

  -- there are terms, and not too many
  has_terms : (has_no_terms ms ≡ false) × (length_outside 0 64 (items_at ms key.Scaled) ≡ None)
  has_terms = by (has_no_terms ms) refl h.scaled
    where
      by : (b : Bool) → has_no_terms ms ≡ b → (if b then Some (pos 0) else length_outside 0 64 (items_at ms key.Scaled)) ≡ None
          → (has_no_terms ms ≡ false) × (length_outside 0 64 (items_at ms key.Scaled) ≡ None)
      by true is none = cc
      by false is none = (is, none)

  sop_in : IsSop (sop_of ms)
  sop_in =
      let scaled = all_fine array.Scaled ms h.fine in
      let products = all_fine array.Product ms h.fine in
      let (fewest, most) = inside (pos 1) (pos 16) (pos (length (list_of inputs))) h.inputs.within in
      let (some, few) = has_terms in
      let (_, few_scaled) = inside (pos 0) (pos 64) (pos (length (list_of (items_at ms key.Scaled)))) few in
      let scaled_count = read_length (scaled_of inputs) (items_at ms key.Scaled) scaled.tables in
      let product_count = read_length (times_of inputs) (items_at ms key.Product) products.tables in
      let (positive, small) = given_in ms h.den in
      record {
        inputs = record {
          some = omega (arith, ints, fewest, input_count ms h.fine);
          few = omega (arith, ints, most, input_count ms h.fine);
          formats = all_inputs ms h.fine (λ p. IsInput p.format) (input_in ms);
        };
        terms = record {
          few_scaled = omega (arith, ints, few_scaled, scaled_count);
          few_products = omega (arith, few_items 16 (value_at ms key.Product) h.products, product_count);
          any = omega (arith, some_terms (items_at ms key.Scaled) (items_at ms key.Product) some, scaled_count, product_count);
          scaled = lines_in (IsScaled (length ports)) (scaled_of inputs) array.Scaled ms 1 (items_at ms key.Scaled) scaled scaled_in;
          products = lines_in (IsTimes (length ports)) (times_of inputs) array.Product ms 1 (items_at ms key.Product) products times_in;
        };
        numbers = record {
          offset = within (number_at ms key.Offset) (zero_inside (value_at ms key.Offset) (negsuc 1073741823) (pos 1073741824)
              (omega (arith, ints)) (omega (arith, ints)) h.offset);
          out_lsb = power_in ms key.OutLsb h.out_lsb;
          positive = positive;
          small = small;
        };
        built = (exact_or_faithful (flag_at ms key.Exact), of_bits (counters_at ms), refl);
      }

-- numbers that may be left out
offset_written : (ms : Members) → IsNumber (value_at ms key.Offset) → IsNumberAsWritten ms key.Offset (pos 0) (number_at ms key.Offset)
offset_written ms typed = by (value_at ms key.Offset) refl typed
  where
    by : (o : Option Data) → value_at ms key.Offset ≡ o → IsNumber o
        → (value_at ms key.Offset ≡ Some (integer (number_in o))) ⊎ ((value_at ms key.Offset ≡ None) × (number_in o ≡ pos 0))
    by None none typed = inr (none, refl)
    by (Some (integer n)) some typed = inl some
    by (Some _) some typed = cc

den_written : (ms : Members) → is_wrong ms key.Denominator ≡ false → IsNumberAsWritten ms key.Denominator (pos 1) (given_denominator ms)
den_written ms typed = by (value_at ms key.Denominator) refl typed
  where
    by : (o : Option Data) → value_at ms key.Denominator ≡ o
        → option_map_or (λ d. not (is_some (as_integer d)) || are_texts (items_at ms key.Coefficients)) o false ≡ false
        → (value_at ms key.Denominator ≡ Some (integer (option_map_or (λ _. number_in o) o (pos 1))))
        ⊎ ((value_at ms key.Denominator ≡ None) × (option_map_or (λ _. number_in o) o (pos 1) ≡ pos 1))
    by None none typed = inr (none, refl)
    by (Some (integer n)) some typed = inl some
    by (Some _) some typed = cc

-- all versions but the first have inputs of 48 bits
wide : (ms : Members) → AreFine ms → (IsEarly (version_of ms) → ⊥) → 48 ≤ widest ms
wide ms f is_late = subst (λ n. 48 ≤ most_input n) (sym (count_is ms f)) (by (version_of ms) is_late)
  where
    by : (version : Version) → (IsEarly version → ⊥) → 48 ≤ most_input (version_number version)
    by First is_late = absurd (is_late tt)
    by Second is_late = omega arith
    by Third is_late = omega arith
    by Fourth is_late = omega arith

pub sop : IsSound kind.Sop
unfolding entry
sop = record {
  kind_is = λ ms. refl;
  ranges = λ ms f e. sop_in ms (keys ms f e);
  inputs = λ ms f e. all_inputs ms f (IsFew ms) (λ n line fine. omega (arith, narrow ms n line fine, wide ms f (not_early ms e)));
  written = λ ms f e. let h = keys ms f e in record {
    inputs = lines_written IsInputAsWritten input_of array.Input ms (input_written ms) 1 (items_at ms key.Input) (all_fine array.Input ms f);
    scaled = lines_written (IsScaledAsWritten (in_tables input_of (items_at ms key.Input))) (scaled_of (items_at ms key.Input)) array.Scaled ms
        (scaled_written ms h) 1 (items_at ms key.Scaled) (all_fine array.Scaled ms f);
    products = lines_written (IsTimesAsWritten (in_tables input_of (items_at ms key.Input))) (times_of (items_at ms key.Input)) array.Product ms
        (times_written ms h) 1 (items_at ms key.Product) (all_fine array.Product ms f);
    offset = offset_written ms (typed ms key.Offset f refl);
    den = den_written ms (typed ms key.Denominator f refl);
    out_lsb = power_written ms key.OutLsb h.out_lsb h.out_lsb.typed;
    compressor = compressor_written ms h.compressor;
  };
  agrees = λ ms. refl;
  marked = λ ms asked. sym (is_exact-of (flag_at ms key.Exact)) ∙ asked;
  has = λ ms f e. late ms f (not_early ms e);
  names = λ ms f e. input_names ms f;
  chosen = λ ms f e may there. record { late = in_late (version_of ms) may; value = λ ms. refl; range = λ ms. refl };
}
