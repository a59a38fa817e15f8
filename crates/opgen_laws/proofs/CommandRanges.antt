-- The numbers of the command that words are stand in their ranges.
use Rattle.std.proofs.Common.{◌≡◌, ℕ, ◌≤◌, ◌&&◌, Bool, true, false, if◌then◌else◌, List, [], ◌∷◌, Option, Some, None, IfSome, codes, nat_le, option_and_then, option_map, refl, arith, leb-true}
use Rattle.std.specs.Option.{option_map_or}
use Rattle.std.specs.Str.{bytes_eq}
use Rattle.std.specs.Str.Parse.{digits_value, without_leading_plus}
use Rattle.std.proofs.lemmas.Bool.{and_parts}
use Rattle.clap.specs.ValueTests.{is_numeral}
use Rattle.clap.specs.Words.{Row, one_of}
use Rattle.opgen_command.specs.Apps.{generate_app, vectors_app, simulate_app, workload_app, check_app}
use Rattle.opgen_command.specs.Command.{HasRanges, command_of, found_by, generate_of, is_set, number_in, number_of, simulate_of, vectors_of, within, word_of, workload_of, check_of}
use Rattle.opgen_command.specs.declared.command.Command.{Command}
use Rattle.opgen_command.specs.declared.command.Command.TheVariants.{Generate, Vectors, Simulate, Workload, Check}

abbrev IsBetween : (least most n : ℕ) → Type 0
IsBetween least most n = (least ≤ n) × (n ≤ most)

within-range : (least most n : ℕ) → IfSome (within least most n) (IsBetween least most)
within-range least most n = go (nat_le least n && nat_le n most) refl
  where
    go : (b : Bool) → (nat_le least n && nat_le n most) ≡ b → IfSome (if b then Some n else None) (IsBetween least most)
    go true e =
        let parts = and_parts (nat_le least n) (nat_le n most) e in (leb-true least n parts.0, leb-true n most parts.1)
    go false e = tt

number_in-range : (least most : ℕ) (text : List ℕ) → IfSome (number_in least most text) (IsBetween least most)
number_in-range least most text = go (is_numeral (without_leading_plus text))
  where
    go : (b : Bool) → IfSome (if b then within least most (digits_value 10 (without_leading_plus text)) else None) (IsBetween least most)
    go true = within-range least most (digits_value 10 (without_leading_plus text))
    go false = tt

number_or-range : (least most : ℕ) (default : Option ℕ) (text : Option (List ℕ)) → IfSome default (IsBetween least most)
    → IfSome (option_map_or (number_in least most) text default) (IsBetween least most)
number_or-range least most default None h = h
number_or-range least most default (Some text) h = number_in-range least most text

number_of-range : (name : List ℕ) (least most : ℕ) (default : Option ℕ) (found : List Row) → IfSome default (IsBetween least most)
    → IfSome (number_of name least most default found) (IsBetween least most)
number_of-range name least most default found h = number_or-range least most default (one_of name found) h

-- a command with a number, and one that is made of what was found
with_number : (P : ℕ → Type 0) (make : ℕ → Command) (o : Option ℕ) → IfSome o P → ((n : ℕ) → P n → HasRanges (make n))
    → IfSome (option_map make o) HasRanges
with_number P make None h each = tt
with_number P make (Some n) h each = each n h

after_number : (P : ℕ → Type 0) (make : ℕ → Option Command) (o : Option ℕ) → IfSome o P → ((n : ℕ) → P n → IfSome (make n) HasRanges)
    → IfSome (option_and_then make o) HasRanges
after_number P make None h each = tt
after_number P make (Some n) h each = each n h

after : {X : Type 0} (make : X → Option Command) (o : Option X) → ((x : X) → IfSome (make x) HasRanges)
    → IfSome (option_and_then make o) HasRanges
after make None each = tt
after make (Some x) each = each x

module _ (found : List Row) where
  generate-ranges : IfSome (generate_of found) HasRanges
  generate-ranges =
      let workers = number_of (codes "workers") 1 32 (Some 1) found in
      let enable = is_set (codes "enable") found in
      after (λ spec. option_map (λ n. Generate spec n enable) workers) (word_of (codes "SPEC") found) (λ spec.
      with_number (IsBetween 1 32) (λ n. Generate spec n enable) workers
      (number_of-range (codes "workers") 1 32 (Some 1) found (omega arith, omega arith)) (λ n h. h))

  vectors-ranges : IfSome (vectors_of found) HasRanges
  vectors-ranges =
      let seeds = number_of (codes "seed") 0 4294967295 (Some 0) found in
      let cycles = number_of (codes "cycles") 1 100000 (Some 16) found in
      after (λ spec. option_and_then (λ seed. option_map (λ n. Vectors spec seed n) cycles) seeds) (word_of (codes "SPEC") found) (λ spec.
      after_number (IsBetween 0 4294967295) (λ seed. option_map (λ n. Vectors spec seed n) cycles) seeds
      (number_of-range (codes "seed") 0 4294967295 (Some 0) found (omega arith, omega arith)) (λ seed s.
      with_number (IsBetween 1 100000) (λ n. Vectors spec seed n) cycles
      (number_of-range (codes "cycles") 1 100000 (Some 16) found (omega arith, omega arith)) (λ n h. (s.1, h.0, h.1))))

  simulate-ranges : IfSome (simulate_of found) HasRanges
  simulate-ranges =
      let vectors = word_of (codes "VECTORS") found in
      let out = word_of (codes "OUT") found in
      after (λ v. option_and_then (λ r. option_map (λ o. Simulate v r o) out) vectors) (word_of (codes "VHDL") found) (λ v.
      after (λ r. option_map (λ o. Simulate v r o) out) vectors (λ r. no_number v r out))
    where
      no_number : (v r : List ℕ) (o : Option (List ℕ)) → IfSome (option_map (λ o. Simulate v r o) o) HasRanges
      no_number v r None = tt
      no_number v r (Some o) = tt

  workload-ranges : IfSome (workload_of found) HasRanges
  workload-ranges =
      with_number (IsBetween 1 32) (λ n. Workload n) (number_of (codes "N") 1 32 None found)
      (number_of-range (codes "N") 1 32 None found tt) (λ n h. h)

  check-ranges : IfSome (check_of found) HasRanges
  check-ranges =
      let vhdl = word_of (codes "VHDL") found in
      let vectors = word_of (codes "VECTORS") found in
      let latency = number_of (codes "LATENCY") 0 100000 None found in
      after (λ s. option_and_then (λ v. option_and_then (λ r. option_map (λ n. Check s v r n) latency) vectors) vhdl)
      (word_of (codes "SPEC") found) (λ s.
      after (λ v. option_and_then (λ r. option_map (λ n. Check s v r n) latency) vectors) vhdl (λ v.
      after (λ r. option_map (λ n. Check s v r n) latency) vectors (λ r.
      with_number (IsBetween 0 100000) (λ n. Check s v r n) latency
      (number_of-range (codes "LATENCY") 0 100000 None found tt) (λ n h. h.1))))

one_of_five : (a b c d e : Bool) (g v s w k : Option Command) → IfSome g HasRanges → IfSome v HasRanges → IfSome s HasRanges
    → IfSome w HasRanges → IfSome k HasRanges
    → IfSome (if a then g else if b then v else if c then s else if d then w else if e then k else None) HasRanges
one_of_five true b c d e g v s w k hg hv hs hw hk = hg
one_of_five false true c d e g v s w k hg hv hs hw hk = hv
one_of_five false false true d e g v s w k hg hv hs hw hk = hs
one_of_five false false false true e g v s w k hg hv hs hw hk = hw
one_of_five false false false false true g v s w k hg hv hs hw hk = hk
one_of_five false false false false false g v s w k hg hv hs hw hk = tt

pub ranges : (words : List (List ℕ)) → IfSome (command_of words) HasRanges
ranges [] = tt
ranges (name ∷ words) =
    let generate = found_by generate_app (name ∷ words) in
    let vectors = found_by vectors_app (name ∷ words) in
    let simulate = found_by simulate_app (name ∷ words) in
    let workload = found_by workload_app (name ∷ words) in
    let check = found_by check_app (name ∷ words) in
    one_of_five (bytes_eq name (codes "generate")) (bytes_eq name (codes "vectors")) (bytes_eq name (codes "simulate"))
    (bytes_eq name (codes "workload")) (bytes_eq name (codes "check")) (option_and_then generate_of generate)
    (option_and_then vectors_of vectors) (option_and_then simulate_of simulate) (option_and_then workload_of workload)
    (option_and_then check_of check)
    (after generate_of generate generate-ranges) (after vectors_of vectors vectors-ranges)
    (after simulate_of simulate simulate-ranges) (after workload_of workload workload-ranges) (after check_of check check-ranges)
