-- The words of one cycle at the ports of an operator.
use Rattle.std.proofs.Common.{ℕ, ◌^◌, ◌<◌, List, [], ◌∷◌, length, arith, Bool, true, false, ◌≡◌, ◌+◌, ◌-◌, ◌%◌, ◌/◌, ◌*◌, ◌≤◌, subst, nat_le, ap, ◌∙◌, if◌then◌else◌, zero, suc, get_or, refl}
use Rattle.std.proofs.lemmas.Bool.{le-leb}
use Rattle.std.proofs.lemmas.Nat.{div-add-mod', mod-mul-add}
use Rattle.std.specs.Prelude.{slice_index, pos}
use Rattle.opgen_num.specs.declared.format.Format.{Format}
use Rattle.opgen_ports.specs.declared.ports.PortFormat.{PortFormat}
use Rattle.opgen_ports.specs.Ports.{IsCycle, format_at, IsHistory, number_of, recent_numbers, with_rest, two_inputs}

-- of an only output
pub only_word : (only : PortFormat) (words : List ℕ) → IsCycle (only ∷ []) words
    → (0 < length words) × (slice_index words 0 < 2 ^ only.format.width)
only_word only words cycle =
    let some : 0 < length words = omega (arith, cycle.whole) in
    (some, cycle.fit 0 some)

-- of a quotient or root
pub main_word : (exact : Bool) (main rest : PortFormat) (words : List ℕ) → IsCycle (with_rest exact main rest) words
    → (0 < length words) × (slice_index words 0 < 2 ^ main.format.width)
main_word true main rest words cycle =
    let some : 0 < length words = omega (arith, cycle.whole) in
    (some, cycle.fit 0 some)
main_word false main rest words cycle = only_word main words cycle

-- and of its remainder
pub rest_word : (exact : Bool) (main rest : PortFormat) (words : List ℕ) → exact ≡ true → IsCycle (with_rest exact main rest) words
    → (1 < length words) × (slice_index words 1 < 2 ^ rest.format.width)
rest_word true main rest words e cycle =
    let both : 1 < length words = omega (arith, cycle.whole) in
    (both, cycle.fit 1 both)
rest_word false main rest words e cycle = cc

-- of two inputs in the last cycle
last_places : (n : ℕ) → 0 < n → n % 2 ≡ 0 → (2 ≤ n) × ((n - 2) % 2 ≡ 0) × ((n - 2 + 1) % 2 ≡ 1)
last_places n some even = (omega arith, omega arith, omega arith)

pub last_words : (a b : Format) (history : List ℕ) → IsHistory (two_inputs a b) history
    → (slice_index history (length history - 2) < 2 ^ a.width) × (slice_index history (length history - 2 + 1) < 2 ^ b.width)
last_words a b history words =
    let n = length history in
    let (two, first, second) = last_places n words.some words.whole in
    let fit_a = words.fit (n - 2) (omega (arith, two)) in
    let fit_b = words.fit (n - 2 + 1) (omega (arith, two)) in (
      subst (λ (k : ℕ). slice_index history (n - 2) < 2 ^ (format_at (two_inputs a b) k).width) first fit_a,
      subst (λ (k : ℕ). slice_index history (n - 2 + 1) < 2 ^ (format_at (two_inputs a b) k).width) second fit_b,
    )

pub last_numbers : (a b : Format) (history : List ℕ) → IsHistory (two_inputs a b) history
    → (recent_numbers (two_inputs a b) history 0 0 ≡ number_of a (slice_index history (length history - 2)))
    × (recent_numbers (two_inputs a b) history 1 0 ≡ number_of b (slice_index history (length history - 2 + 1)))
last_numbers a b history words =
    let n = length history in
    let some : nat_le 2 n ≡ true = le-leb 2 n (last_places n words.some words.whole).0 in
    let first : n - 2 + 0 ≡ n - 2 = omega arith in (
      ap (λ (t : Bool). if t then number_of a (slice_index history (n - 2 + 0)) else pos 0) some
          ∙ ap (λ (k : ℕ). number_of a (slice_index history k)) first,
      ap (λ (t : Bool). if t then number_of b (slice_index history (n - 2 + 1)) else pos 0) some,
    )

-- the format of a port that is there is its own
pub format_at-listed : (ports : List PortFormat) (k : ℕ) (d : PortFormat) → k < length ports → (get_or ports k d).format ≡ format_at ports k
format_at-listed [] k d h = absurd (omega arith)
format_at-listed (p ∷ ps) zero d h = refl
format_at-listed (p ∷ ps) (suc k) d h = format_at-listed ps k d (omega arith)

-- of an input in the last cycle
module _ (ports : List PortFormat) (history : List ℕ) (input : ℕ) (words : IsHistory ports history) (there : input < length ports) where
  last_place : (cycles : ℕ) → length history ≡ cycles * length ports → (length ports ≤ length history)
      × ((length history - length ports + input) % length ports ≡ input)
  last_place zero e = absurd (omega (arith, e, words.some))
  last_place (suc before) e =
      let here : length history - length ports + input ≡ before * length ports + input = omega (arith, e) in
      (omega (arith, e), ap (λ k. k % length ports) here ∙ mod-mul-add before (length ports) input there)

  last_cycle : (length ports ≤ length history) × ((length history - length ports + input) % length ports ≡ input)
  last_cycle = last_place (length history / length ports)
      (omega (arith, div-add-mod' (length history) (length ports), words.whole))

  pub port_place : length history - length ports + input < length history
  port_place = omega (arith, last_cycle.0, there)

  pub port_word : slice_index history (length history - length ports + input) < 2 ^ (format_at ports input).width
  port_word = subst (λ k. slice_index history (length history - length ports + input) < 2 ^ (format_at ports k).width) last_cycle.1
      (words.fit (length history - length ports + input) port_place)

  pub port_number : recent_numbers ports history input 0
      ≡ number_of (format_at ports input) (slice_index history (length history - length ports + input))
  port_number = go ((0 + 1) * length ports) (omega arith)
    where
      go : (back : ℕ) → back ≡ length ports
          → (if nat_le back (length history) then number_of (format_at ports input) (slice_index history (length history - back + input)) else pos 0)
          ≡ number_of (format_at ports input) (slice_index history (length history - length ports + input))
      go back e =
          let enough : nat_le back (length history) ≡ true = le-leb back (length history) (omega (arith, e, last_cycle.0)) in
          ap (λ t. if t then number_of (format_at ports input) (slice_index history (length history - back + input)) else pos 0) enough
          ∙ ap (λ k. number_of (format_at ports input) (slice_index history (length history - k + input))) e
