-- In a sound design under allowed names the name of each signal and of each port stands first at its own place.
use Rattle.std.proofs.Common.{◌≡◌, ◌≢◌, ℕ, ◌+◌, ◌<◌, false, List, [], length, map, get_or, Some, None, option_map, unwrap_or, slice_get, IfSome, IsTrue, ap, sym, ◌∙◌, subst, arith, inl, inr}
use Rattle.std.specs.Str.{bytes_eq}
use Rattle.std.proofs.lemmas.Bool.{cases_Bool}
use Rattle.std.proofs.lemmas.List.{get_or-map, get_or-append-add, length-map}
use Rattle.std.proofs.lemmas.List.Sums.{position_or_len_is}
use Rattle.std.proofs.Math.ListN.{get_or-append}
use Rattle.std.proofs.lemmas.Option.{slice_get-get_or}
use Rattle.std.proofs.lemmas.Slice.Eq.{bytes_eq-Decides}
use Rattle.opgen_design.specs.declared.design.Design.{Design}
use Rattle.opgen_design.specs.declared.design.Dir.TheVariants.{In}
use Rattle.opgen_design.specs.declared.design.Port.{Port}
use Rattle.opgen_design.specs.declared.design.Signal.{Signal}
use Rattle.opgen_names.specs.Names.{is_allowed_name}
use Rattle.opgen_design.specs.Sound as sound
use Rattle.opgen_design.specs.declared.sound.Rule.TheVariants.{DeclaredTwice}
use Rattle.opgen_design.specs.Sound.{IsSound, IsNewName, SignalPasses, PortPasses, at_port, at_signal}
use Rattle.opgen_vhdl.specs.ExpressionText.{signal_name, port_name}
use Rattle.opgen_vhdl.specs.Grammar.{place_of}
use Rattle.opgen_vhdl.specs.Shaped.{HasAllowedNames}
use Rattle.opgen_vhdl.specs.Statements.{names_of}
use Rattle.opgen_write.proofs.Expressions.{IsFound, AreFound}

differs : (a b : List ℕ) → b ≢ a → bytes_eq a b ≡ false
differs a b h = elim (cases_Bool (bytes_eq a b)) [
  | inl same ↦ absurd (h (sym ((bytes_eq-Decides a b).0 same)))
  | inr other ↦ other
]

-- a name that stands nowhere before its place is found there
place-is : (names : List (List ℕ)) (n : List ℕ) (i : ℕ) → i < length names → get_or names i [] ≡ n
    → ((k : ℕ) → k < i → get_or names k [] ≢ n) → place_of names n ≡ i
place-is names n i h at before =
    position_or_len_is (bytes_eq n) names i [] (omega (arith, h)) (λ k b. differs n (get_or names k []) (before k b))
    (λ _. (bytes_eq-Decides n (get_or names i [])).1 (sym at))

pub no_signal : Signal
no_signal = record { name = []; width = 0; initial = None }

no_port : Port
no_port = record { name = []; dir = In; width = 0 }

module _ (d : Design) (s : IsSound d) (allowed : HasAllowedNames d) where
  abbrev signal_here : ℕ → Signal
  signal_here i = get_or d.signals i no_signal

  signal_got : (i : ℕ) → i < length d.signals → slice_get d.signals i ≡ Some (signal_here i)
  signal_got i h = slice_get-get_or d.signals i no_signal h

  signal_name-here : (i : ℕ) → i < length d.signals → (signal_here i).name ≡ signal_name d i
  signal_name-here i h = sym (ap (λ o. unwrap_or (option_map (λ q. q.name) o) []) (signal_got i h))

  new_signal : (i : ℕ) → i < length d.signals → IsNewName (sound.names_of d) (length d.ports + i)
  new_signal i h = subst (λ o. IfSome o (SignalPasses d DeclaredTwice i)) (signal_got i h) (s.declared_once (at_signal i))

  declared_signal : (k : ℕ) → get_or (sound.names_of d) (length d.ports + k) [] ≡ get_or (names_of d).signals k []
  declared_signal k =
      ap (λ n. get_or (sound.names_of d) (n + k) []) (sym (length-map d.ports (λ p. p.name)))
      ∙ get_or-append-add (map (λ p. p.name) d.ports) (map (λ q. q.name) d.signals) k []

  named_signal : (i : ℕ) → i < length d.signals → get_or (names_of d).signals i [] ≡ signal_name d i
  named_signal i h = get_or-map (λ q. q.name) d.signals i no_signal [] h ∙ signal_name-here i h

  signal_found : (i : ℕ) → i < length d.signals → IsFound (names_of d).signals (signal_name d i) i
  signal_found i h = record {
    allowed = subst (λ n. IsTrue (is_allowed_name n)) (signal_name-here i h) (allowed.signals i no_signal h);
    first = place-is (names_of d).signals (signal_name d i) i (omega (arith, h, length-map d.signals (λ q. q.name))) (named_signal i h)
        (λ k b e. (new_signal i h).not_before (length d.ports + k) (omega (arith, b)) (declared_signal k ∙ e
        ∙ sym (declared_signal i ∙ named_signal i h)));
  }

  abbrev port_here : ℕ → Port
  port_here i = get_or d.ports i no_port

  port_got : (i : ℕ) → i < length d.ports → slice_get d.ports i ≡ Some (port_here i)
  port_got i h = slice_get-get_or d.ports i no_port h

  port_name-here : (i : ℕ) → i < length d.ports → (port_here i).name ≡ port_name d i
  port_name-here i h = sym (ap (λ o. unwrap_or (option_map (λ q. q.name) o) []) (port_got i h))

  new_port : (i : ℕ) → i < length d.ports → IsNewName (sound.names_of d) i
  new_port i h = subst (λ o. IfSome o (PortPasses d DeclaredTwice i)) (port_got i h) (s.declared_once (at_port i))

  declared_port : (k : ℕ) → k < length d.ports → get_or (sound.names_of d) k [] ≡ get_or (names_of d).ports k []
  declared_port k h = get_or-append (map (λ p. p.name) d.ports) (map (λ q. q.name) d.signals) [] k
      (omega (arith, h, length-map d.ports (λ p. p.name)))

  named_port : (i : ℕ) → i < length d.ports → get_or (names_of d).ports i [] ≡ port_name d i
  named_port i h = get_or-map (λ p. p.name) d.ports i no_port [] h ∙ port_name-here i h

  port_found : (i : ℕ) → i < length d.ports → IsFound (names_of d).ports (port_name d i) i
  port_found i h = record {
    allowed = subst (λ n. IsTrue (is_allowed_name n)) (port_name-here i h) (allowed.ports i no_port h);
    first = place-is (names_of d).ports (port_name d i) i (omega (arith, h, length-map d.ports (λ p. p.name))) (named_port i h)
        (λ k b e. (new_port i h).not_before k b (declared_port k (omega (arith, b, h)) ∙ e ∙ sym (declared_port i h ∙ named_port i h)));
  }

  pub are_found : AreFound d
  are_found = record { signals = signal_found; ports = port_found }
