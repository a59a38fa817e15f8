-- A sound design is sound without its enable.
use Rattle.std.proofs.Common.{◌≡◌, ℕ, List, [], ◌∷◌, Option, Some, None}
use Rattle.std.specs.Prelude.{IfSome, slice_get}
use Rattle.opgen_design.specs.declared.design.Design.{Design}
use Rattle.opgen_design.specs.declared.design.Driver.{Driver}
use Rattle.opgen_design.specs.declared.design.Driver.TheVariants.{Assign, Choice, Table, Register, Output}
use Rattle.opgen_design.specs.declared.design.Target.{Target}
use Rattle.opgen_design.specs.declared.design.Target.TheVariants.{Signal as signal, Port as port_of}
use Rattle.opgen_design.specs.declared.sound.Rule.TheVariants.{Undeclared, DeclaredTwice, Width, DrivenTwice, NotDriven, ReadsOutput, NoInitial, ChoiceTwice, BadEnable}
use Rattle.opgen_design.specs.Run.{without_enable}
use Rattle.opgen_design.specs.Sound.{Names, IsDeclared, WidthsAgree, IsInput, IsOnlyDriver, IsFitForEnable, IsSound, at_port, at_signal, at_driver}
use Rattle.opgen_design.proofs.SoundLaws.{holds-of}

if-weaker : {X : Type 0} (o : Option X) (P Q : X → Type 0) → ((x : X) → P x → Q x) → IfSome o P → IfSome o Q
if-weaker None P Q f h = tt
if-weaker (Some x) P Q f h = f x h

pub if-each : {X : Type 0} (o : Option X) (P : X → Type 0) → ((x : X) → P x) → IfSome o P
if-each None P f = tt
if-each (Some x) P f = f x

module _ (d : Design) (sound : IsSound d) where
  abbrev free : Design
  free = without_enable d

  names : (t : Target) → Names d t → Names (without_enable d) t
  names (signal s) h = h
  names (port_of p) h = h

  input : (t : Target) → IsInput (without_enable d) t → IsInput d t
  input (signal s) h = h
  input (port_of p) h = h

  agree : (k : Driver) → WidthsAgree d k → WidthsAgree (without_enable d) k
  agree (Assign to e) h = h
  agree (Choice to on one other) h = h
  agree (Table to on rows other) h = h
  agree (Register to e) h = h
  agree (Output place e) h = h

  pub sound-free : IsSound (without_enable d)
  sound-free = record {
    declared = holds-of free Undeclared tt (λ i. sound.declared (at_port i)) (λ i. sound.declared (at_signal i)) (λ i.
        if-weaker (slice_get d.drivers i) (IsDeclared d) (IsDeclared free)
        (λ k h. record { target = names _ h.target; reads = h.reads }) (sound.declared (at_driver i)));
    declared_once = holds-of free DeclaredTwice tt (λ i. sound.declared_once (at_port i)) (λ i. sound.declared_once (at_signal i))
        (λ i. sound.declared_once (at_driver i));
    widths = holds-of free Width tt (λ i. sound.widths (at_port i)) (λ i. sound.widths (at_signal i)) (λ i.
        if-weaker (slice_get d.drivers i) (WidthsAgree d) (WidthsAgree free) agree (sound.widths (at_driver i)));
    driven_once = holds-of free DrivenTwice tt (λ i. sound.driven_once (at_port i)) (λ i. sound.driven_once (at_signal i)) (λ i.
        if-weaker (slice_get d.drivers i) (IsOnlyDriver d i) (IsOnlyDriver free i)
        (λ k h. record { not_before = h.not_before; no_input = λ x. h.no_input (input _ x) }) (sound.driven_once (at_driver i)));
    driven = holds-of free NotDriven tt (λ i. sound.driven (at_port i)) (λ i. sound.driven (at_signal i)) (λ i. sound.driven (at_driver i));
    ordered = sound.ordered;
    reads_inputs = holds-of free ReadsOutput tt (λ i. sound.reads_inputs (at_port i)) (λ i. sound.reads_inputs (at_signal i))
        (λ i. sound.reads_inputs (at_driver i));
    initials = holds-of free NoInitial tt (λ i. sound.initials (at_port i)) (λ i. sound.initials (at_signal i))
        (λ i. sound.initials (at_driver i));
    addresses = holds-of free ChoiceTwice tt (λ i. sound.addresses (at_port i)) (λ i. sound.addresses (at_signal i))
        (λ i. sound.addresses (at_driver i));
    enable = holds-of free BadEnable tt (λ i. if-each (slice_get d.ports i) (IsFitForEnable free i) (λ p e. absurd (cc)))
        (λ i. sound.enable (at_signal i)) (λ i. sound.enable (at_driver i));
  }
