-- A document without a fault gives a valid specification.
use Rattle.std.proofs.Common.{◌≡◌, ℕ, ◌≤◌, Bool, true, false, [], ◌∷◌, length, Option, Some, None, Ok, subst, option_map, option_and_then, nat_lt, refl, ap, sym, ◌∙◌, arith, lit<, if◌then◌else◌}
use Rattle.std.specs.Prelude.{pos, IsTrue, unwrap_or}
use Rattle.std.proofs.lemmas.Bool.{and_parts}
use Rattle.std.proofs.lemmas.Int.{ints}
use Rattle.toml.specs.Data.{Members}
use Rattle.opgen_spec.specs.declared.fault.SpecFault.{SpecFault}
use Rattle.opgen_spec.specs.declared.fault.SpecFault.TheVariants as fault
use Rattle.opgen_document.specs.declared.array.Array.TheVariants as array
use Rattle.opgen_document.specs.declared.key.Key.TheVariants as key
use Rattle.opgen_operator.specs.declared.kind.Kind.{Kind}
use Rattle.opgen_operator.specs.declared.kind.Kind.TheVariants as kind
use Rattle.opgen_operator.specs.declared.spec.Spec.{Spec}
use Rattle.opgen_ports.specs.Limits.{most_signal}
use Rattle.opgen_operator.specs.Operator.{least_shift, most_shift, inexact, shift}
use Rattle.opgen_operator.proofs.EachMode.{mode_by_mark}
use Rattle.opgen_operator.specs.GivenNames.{is_name_in}
use Rattle.opgen_ports.specs.SpecName.{is_spec_name}
use Rattle.opgen_ports.specs.Modes.{mode_by}
use Rattle.opgen_operator.specs.Valid.{IsDelayLine, IsInexactIf, IsModeOf, IsValidSpec}
use Rattle.opgen_document.specs.Keys.{line_keys}
use Rattle.opgen_document.specs.Document.{value_at, number_at, count_at, text_at, items_at}
use Rattle.opgen_entries.specs.kinds.{kind_of}
use Rattle.opgen_document.specs.Ranges.{outside}
use Rattle.opgen_spec.specs.Spec.{line_of, spec_of, spec_with}
use Rattle.opgen_spec.specs.Faults.{first_of, not_exact, coarse, over_limit, too_wide, field_fault, limit_fault, is_name_of, read}
use Rattle.opgen_entries.proofs.Arrays.{or_none}
use Rattle.opgen_spec.proofs.Reading.{field_first, limit_first, none_first}
use Rattle.opgen_spec.proofs.Fine.{AreFine, fine, passed, no_kind, map_none, present, ranged, there_inside}
use Rattle.opgen_spec.proofs.ArrayLines.{IsFineLine, IsAmong, line_fine, all_fine, lines_in, read_length, few_items}
use Rattle.opgen_document.proofs.Ranges.{inside, counted}
use Rattle.opgen_spec.proofs.Chosen.{choice}
use Rattle.opgen_spec.proofs.Fourth.{no_rounding, overflow_valid}
use Rattle.opgen_spec.proofs.Versions as versions
use Rattle.opgen_spec.proofs.sound.All.{sound}

-- delay lines
pub base_among : IsAmong array.Delay 1 key.Base
unfolding line_keys
base_among = record { below = lit< tt; is = refl }

pub bit_among : IsAmong array.Delay 2 key.PerBit
unfolding line_keys
bit_among = record { below = lit< tt; is = refl }

delay_in : (doc : Members) (n : ℕ) (ms : Members) → IsFineLine array.Delay doc n ms → IsDelayLine (line_of ms)
delay_in doc n ms f =
    let base = line_fine array.Delay doc n ms f 1 key.Base base_among refl in
    let bit = line_fine array.Delay doc n ms f 2 key.PerBit bit_among refl in
    let (base_least, base_most) = inside (pos 0) (pos 1000000) (number_at ms key.Base) base.within in
    let (bit_least, bit_most) = inside (pos 0) (pos 10000) (number_at ms key.PerBit) bit.within in (
      (counted (number_at ms key.Base) 0 1000000 base_least base_most (omega arith)).1,
      (counted (number_at ms key.PerBit) 0 10000 bit_least bit_most (omega arith)).1,
    )

-- exact outputs are asked for only where the exact values are whole
asked_exact : (spec : Spec) → not_exact spec ≡ None → IsTrue spec.exact → inexact spec.op ≡ None
asked_exact spec h asked = map_none fault.NotExact (inexact spec.op)
    (ap (λ b. if b then option_map fault.NotExact (inexact spec.op) else None) (sym asked) ∙ h)

within_limit : (most bits : ℕ) → over_limit most bits ≡ None → bits ≤ most
within_limit most bits h = go (nat_lt most bits) refl
  where
    go : (b : Bool) → nat_lt most bits ≡ b → bits ≤ most
    go true e =
        let some : Some (fault.TooWide bits) ≡ None = ap (λ b. if b then Some (fault.TooWide bits) else None) (sym e) ∙ h in
        cc
    go false e = grind arith

pub valid_in : (ms : Members) (one : Kind) → AreFine ms → kind_of ms ≡ Some one → limit_fault (spec_with one ms) ≡ None → IsValidSpec (spec_with one ms)
unfolding spec_with
valid_in ms one f e h =
    let s = sound one in
    let spec = spec_with one ms in
    let (exact, later) = or_none (not_exact spec) (first_of (coarse spec ∷ too_wide spec ∷ [])) h in
    let (fine, last) = or_none (coarse spec) (first_of (too_wide spec ∷ [])) later in
    let (narrow, _) = or_none (too_wide spec) None last in
    let text = there_inside (value_at ms key.Target) (outside (pos 1) (pos 32) (pos (length (text_at ms key.Target))))
    (present ms one key.Target f e refl refl) (ranged ms key.Target f refl) in
    let (text_least, text_most) = inside (pos 1) (pos 32) (pos (length (text_at ms key.Target))) text in
    let time = there_inside (value_at ms key.Period) (outside (pos 1) (pos 1000000) (number_at ms key.Period))
    (present ms one key.Period f e refl refl) (ranged ms key.Period f refl) in
    let named = and_parts (is_spec_name (text_at ms key.Name)) (is_name_in (count_at ms key.Version) (text_at ms key.Name))
    (passed (is_name_of (count_at ms key.Version) (text_at ms key.Name)) fault.BadName f.name) in
    let delays = all_fine array.Delay ms f in
    let (time_least, time_most) = inside (pos 1) (pos 1000000) (number_at ms key.Period) time in
    record {
      version = versions.counted ms f;
      name = named.0;
      word = named.1;
      op = record {
        ranges = s.ranges ms f e;
        inputs = s.inputs ms f e;
        fine = inside (least_shift spec.op) (most_shift spec.version spec.op) (shift spec.op)
            (map_none fault.Coarse (outside (least_shift spec.op) (most_shift spec.version spec.op) (shift spec.op)) fine);
        narrow = λ bits e. within_limit (most_signal spec.version) bits
            (ap (λ o. option_and_then (over_limit (most_signal spec.version)) o) (sym e) ∙ narrow);
        whole = λ asked. asked_exact spec exact (s.marked ms asked);
      };
      has = s.has ms f e;
      names = s.names ms f e;
      rounding = subst (λ rounding. IsInexactIf rounding spec.exact) (sym (no_rounding ms one f e)) tt;
      mode = subst (λ rounding. IsModeOf (mode_by rounding spec.exact) spec.op) (sym (no_rounding ms one f e))
          (mode_by_mark spec.exact spec.op (s.agrees ms) (asked_exact spec exact));
      output = choice ms one f e;
      overflow = overflow_valid ms one f e;
      target = (omega (arith, ints), omega (arith, ints));
      period = counted (number_at ms key.Period) 1 1000000 time_least time_most (omega arith);
      few_lines = omega (
        arith,
        read_length line_of (items_at ms key.Delay) delays.tables,
        few_items 16 (value_at ms key.Delay) (ranged ms key.Delay f refl),
      );
      lines = lines_in IsDelayLine line_of array.Delay ms 1 (items_at ms key.Delay) delays (delay_in ms);
    }

-- what reading gives is valid
valid_members : (ms : Members) → field_fault ms ≡ None → limit_fault (spec_of ms) ≡ None → IsValidSpec (spec_of ms)
valid_members ms none clear = by (kind_of ms) refl
  where
    by : (o : Option Kind) → kind_of ms ≡ o → IsValidSpec (spec_with (unwrap_or o kind.Scale) ms)
    by (Some one) e =
        valid_in ms one (fine ms none) e (subst (λ k. limit_fault (spec_with (unwrap_or k kind.Scale) ms) ≡ None) e clear)
    by None e = absurd (no_kind ms (fine ms none).kind e)

-- a document without a fault, and the specification that its keys give
pub record IsClear (ms : Members) (spec : Spec) : Type 0 where
  pub none : field_fault ms ≡ None
  pub within : limit_fault (spec_of ms) ≡ None
  pub same : spec_of ms ≡ spec

pub clear_of : (ms : Members) (spec : Spec) → read (Some ms) ≡ Ok spec → IsClear ms spec
clear_of ms spec reads = by (field_fault ms) refl (limit_fault (spec_of ms)) refl
  where
    by : (f : Option SpecFault) → field_fault ms ≡ f → (l : Option SpecFault) → limit_fault (spec_of ms) ≡ l → IsClear ms spec
    by (Some fault) e l d = let both = sym (field_first ms fault e) ∙ reads in let no : ⊥ = cc in absurd no
    by None e (Some fault) d = let both = sym (limit_first ms fault e d) ∙ reads in let no : ⊥ = cc in absurd no
    by None e None d =
        let both = sym (none_first ms e d) ∙ reads in
        record { none = e; within = d; same = cc }

valid_of : (ms : Members) (spec : Spec) → read (Some ms) ≡ Ok spec → IsValidSpec spec
valid_of ms spec reads = let c = clear_of ms spec reads in subst IsValidSpec c.same (valid_members ms c.none c.within)

pub valid_read : (o : Option Members) (spec : Spec) → read o ≡ Ok spec → IsValidSpec spec
valid_read None spec reads = let no : ⊥ = cc in absurd no
valid_read (Some ms) spec reads = valid_of ms spec reads
