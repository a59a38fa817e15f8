-- What the walks of the rules find.
use Rattle.std.proofs.Common.{◌≡◌, ◌≢◌, ℕ, ◌+◌, ◌<◌, ◌↔◌, List, length, get_or, set, Option, Some, None, Result, IfErr, refl, sym, ap, ◌∙◌, subst, inl, inr, arith}
use Rattle.std.specs.Prelude.{slice_get, Contains, All}
use Rattle.std.proofs.lemmas.Bool.{cases_eq, cases_order}
use Rattle.std.proofs.lemmas.List.{get_or-set_same, get_or-set_other, length-set}
use Rattle.std.proofs.lemmas.Option.{slice_get_within, slice_get-get_or, get_or_from_slice_get}
use Rattle.opgen_design.specs.declared.design.Design.{Design}
use Rattle.opgen_design.specs.declared.design.Driver.{Driver}
use Rattle.opgen_design.specs.declared.sound.SoundFault.{SoundFault}
use Rattle.opgen_design.specs.Sound.{driver_names, driver_ports, expressions_read, rule_number, target, DriverReads, Names, IsDeclared, IsInput, IsOnlyDriver, IsDriven, Place, at_design, at_port, at_signal, at_driver, item, Holds, PassesAt, DesignPasses, PortPasses, SignalPasses, DriverPasses}
use Rattle.opgen_design.specs.Rules.{IsFirstFailing, IsFaultAt, PortsPass, SignalsPass, DriversPass, AreFirstDrivers, IsDrivenAt, slot, slot_of, noted, noted_at, fault_at}
use Rattle.opgen_design.specs.declared.design.Target.{Target}
use Rattle.opgen_design.specs.declared.design.Target.TheVariants.{Signal as signal, Port as port_of}
use Rattle.opgen_design.specs.declared.sound.Rule.{Rule}
use Rattle.opgen_design.specs.declared.sound.Rule.TheVariants.{Undeclared, DrivenTwice}
use Rattle.opgen_design.proofs.FirstFailing.{of-item}
use Rattle.opgen_design.proofs.UseLaws.{operands-lists, lists-operands}

-- a rule that holds everywhere, and the fault of one that does not
module _ (d : Design) (r : Rule) where
  pub holds-of : DesignPasses d r → PortsPass d r → SignalsPass d r → DriversPass d r → Holds d r
  holds-of w p s k at_design = w
  holds-of w p s k (at_port i) = p i
  holds-of w p s k (at_signal i) = s i
  holds-of w p s k (at_driver i) = k i

  pub driver-fault : DesignPasses d r → PortsPass d r → SignalsPass d r → (o : Option ℕ) → IsFirstFailing (DriverPasses d r) d.drivers o
      → (res : Result (Unit {0}) SoundFault) → res ≡ fault_at (rule_number r) (length d.ports + length d.signals) o
      → IfErr res (IsFaultAt d r)
  driver-fault w p s None h res e = subst (λ x. IfErr x (IsFaultAt d r)) (sym e) tt
  driver-fault w p s (Some n) h res e =
      let earlier : (q : Place) → item d q < length d.ports + length d.signals + n + 1
      → PassesAt d r q = λ q. elim q as (λ x. item d x < length d.ports + length d.signals + n + 1 → PassesAt d r x) [
        | at_design ↦ λ l. w
        | at_port i ↦ λ l. p i
        | at_signal i ↦ λ l. s i
        | at_driver i ↦ λ l. h.0 i (omega (arith, l))
      ] in
      subst (λ x. IfErr x (IsFaultAt d r)) (sym e) (refl, record { earlier = earlier; fails = (at_driver n, refl, h.2) })

  pub signal-fault : DesignPasses d r → PortsPass d r → (o : Option ℕ) → IsFirstFailing (SignalPasses d r) d.signals o
      → (res : Result (Unit {0}) SoundFault) → res ≡ fault_at (rule_number r) (length d.ports) o → IfErr res (IsFaultAt d r)
  signal-fault w p None h res e = subst (λ x. IfErr x (IsFaultAt d r)) (sym e) tt
  signal-fault w p (Some n) h res e =
      let earlier : (q : Place) → item d q < length d.ports + n + 1
      → PassesAt d r q = λ q. elim q as (λ x. item d x < length d.ports + n + 1 → PassesAt d r x) [
        | at_design ↦ λ l. w
        | at_port i ↦ λ l. p i
        | at_signal i ↦ λ l. h.0 i (omega (arith, l))
        | at_driver i ↦ λ l. absurd (omega (arith, l, h.1))
      ] in
      subst (λ x. IfErr x (IsFaultAt d r)) (sym e) (refl, record { earlier = earlier; fails = (at_signal n, refl, h.2) })

  pub port-fault : DesignPasses d r → (o : Option ℕ) → IsFirstFailing (PortPasses d r) d.ports o
      → (res : Result (Unit {0}) SoundFault) → res ≡ fault_at (rule_number r) 0 o → IfErr res (IsFaultAt d r)
  port-fault w None h res e = subst (λ x. IfErr x (IsFaultAt d r)) (sym e) tt
  port-fault w (Some n) h res e =
      let earlier : (q : Place) → item d q < 0 + n + 1 → PassesAt d r q = λ q. elim q as (λ x. item d x < 0 + n + 1 → PassesAt d r x) [
        | at_design ↦ λ l. w
        | at_port i ↦ λ l. h.0 i (omega (arith, l))
        | at_signal i ↦ λ l. absurd (omega (arith, l, h.1))
        | at_driver i ↦ λ l. absurd (omega (arith, l, h.1))
      ] in
      subst (λ x. IfErr x (IsFaultAt d r)) (sym e) (refl, record { earlier = earlier; fails = (at_port n, omega arith, h.2) })

-- drivers by their places
pub at-contains : {X : Type 0} (xs : List X) (i : ℕ) (x : X) → slice_get xs i ≡ Some x → Contains xs x
at-contains xs i x e = (i, slice_get_within xs i x e, get_or_from_slice_get xs i x x e)

pub contains-at : {X : Type 0} (xs : List X) (x : X) → Contains xs x → (i : ℕ) × (slice_get xs i ≡ Some x)
contains-at xs x c = (c.0, slice_get-get_or xs c.0 x c.1 ∙ ap Some c.2)

pub declared-at : (d : Design) → Holds d Undeclared → (i : ℕ) (k : Driver) → slice_get d.drivers i ≡ Some k → IsDeclared d k
declared-at d h i k e = of-item (DriverPasses d Undeclared) d.drivers i k e (h (at_driver i))

pub once-at : (d : Design) → Holds d DrivenTwice → (i : ℕ) (k : Driver) → slice_get d.drivers i ≡ Some k → IsOnlyDriver d i k
once-at d h i k e = of-item (DriverPasses d DrivenTwice) d.drivers i k e (h (at_driver i))

pub declared-in : (d : Design) → Holds d Undeclared → (k : Driver) → Contains d.drivers k → IsDeclared d k
declared-in d h k c = let a = contains-at d.drivers k c in declared-at d h a.0 k a.1

slot-below : (d : Design) (t : Target) → Names d t → slot (length d.signals) t < length d.signals + length d.ports
slot-below d (signal s) h = omega (arith, h)
slot-below d (port_of p) h = omega (arith, h)

pub slot-within : (d : Design) (k : Driver) → Names d (target k) → slot_of d k < length d.signals + length d.ports
slot-within d k h = slot-below d (target k) h

pub slot-target : (d : Design) (t u : Target) → Names d t → Names d u → slot (length d.signals) t ≡ slot (length d.signals) u → t ≡ u
slot-target d (signal s) (signal r) h k e = ap signal e
slot-target d (signal s) (port_of p) h k e = absurd (omega (arith, h, e))
slot-target d (port_of p) (signal s) h k e = absurd (omega (arith, k, e))
slot-target d (port_of p) (port_of q) h k e = let same : p ≡ q = omega (arith, e) in ap port_of same

pub is-signal : (d : Design) (k : Driver) (s : ℕ) → Names d (target k) → slot_of d k ≡ s → s < length d.signals → target k ≡ signal s
is-signal d k s h e l = slot-target d (target k) (signal s) h l e

-- the first driver of each slot, with one driver more
module _ (d : Design) (n : ℕ) (firsts : List (Option ℕ)) (h : AreFirstDrivers d n firsts) (k : Driver) (at : slice_get d.drivers n ≡ Some k)
    (there : slot_of d k < length firsts) where
  last_missing : (t i : ℕ) (m : Driver) → ((j : ℕ) → j < n → (q : Driver) → slice_get d.drivers j ≡ Some q → slot_of d q ≢ t)
      → slot_of d k ≢ t → i < n + 1 → slice_get d.drivers i ≡ Some m → slot_of d m ≢ t
  last_missing t i m before never l e =
      elim (cases_eq i n) [
        | inl f ↦
            let same : Some m ≡ Some k = sym e ∙ ap (slice_get d.drivers) f ∙ at in
            let is : m ≡ k = cc in
            λ q. never (ap (slot_of d) (sym is) ∙ q)
        | inr f ↦ before i (omega (arith, l, f)) m e
      ]

  noted-by : (o : Option ℕ) → get_or firsts (slot_of d k) None ≡ o → AreFirstDrivers d (n + 1) (noted_at o firsts (slot_of d k) n)
  noted-by (Some j) e = record {
    one_each = h.one_each;
    found = h.found;
    least = h.least;
    missing = λ t i m f l g.
        let other : slot_of d k ≢ t = λ q. let a : Some j ≡ None = sym e ∙ ap (λ x. get_or firsts x None) q ∙ f in absurd (cc) in
        last_missing t i m (λ j' l' q g'. h.missing t j' q f l' g') other l g;
  }
  noted-by None e = record {
    one_each = length-set firsts (slot_of d k) (Some n) ∙ h.one_each;
    found = λ t j f. elim (cases_eq t (slot_of d k)) [
      | inl q ↦
          let a : Some n ≡ Some j = sym (get_or-set_same firsts (slot_of d k) (Some n) None there)
          ∙ ap (λ x. get_or (set firsts (slot_of d k) (Some n)) x None) (sym q) ∙ f in
          let same : n ≡ j = cc in
          (k, ap (slice_get d.drivers) (sym same) ∙ at, sym q)
      | inr q ↦ h.found t j (sym (get_or-set_other firsts (slot_of d k) t (Some n) None q) ∙ f)
    ];
    least = λ t j i m f l g. elim (cases_eq t (slot_of d k)) [
      | inl q ↦
          let a : Some n ≡ Some j = sym (get_or-set_same firsts (slot_of d k) (Some n) None there)
          ∙ ap (λ x. get_or (set firsts (slot_of d k) (Some n)) x None) (sym q) ∙ f in
          let same : n ≡ j = cc in
          h.missing t i m (ap (λ x. get_or firsts x None) q ∙ e) (omega (arith, l, same)) g
      | inr q ↦ h.least t j i m (sym (get_or-set_other firsts (slot_of d k) t (Some n) None q) ∙ f) l g
    ];
    missing = λ t i m f l g. elim (cases_eq t (slot_of d k)) [
      | inl q ↦
          let a : Some n ≡ None = sym (get_or-set_same firsts (slot_of d k) (Some n) None there)
          ∙ ap (λ x. get_or (set firsts (slot_of d k) (Some n)) x None) (sym q) ∙ f in
          absurd (cc)
      | inr q ↦
          last_missing t i m (λ j l' p g'. h.missing t j p (sym (get_or-set_other firsts (slot_of d k) t (Some n) None q) ∙ f) l' g')
          (λ p. q (sym p)) l g
    ];
  }

  pub noted-more : AreFirstDrivers d (n + 1) (noted firsts (slot_of d k) n)
  noted-more = noted-by (get_or firsts (slot_of d k) None) refl

-- with the first driver of each slot
module _ (d : Design) (declared : Holds d Undeclared) (firsts : List (Option ℕ)) (h : AreFirstDrivers d (length d.drivers) firsts) where
  -- there is one exactly where a driver has the slot
  pub driven-some : (t j : ℕ) → get_or firsts t None ≡ Some j → IsDrivenAt d t
  driven-some t j e = let f = h.found t j e in (f.0, at-contains d.drivers j f.0 f.1, f.2)

  pub driven-none : (t : ℕ) → get_or firsts t None ≡ None → IsDrivenAt d t → ⊥
  driven-none t e c = let a = contains-at d.drivers c.0 c.1 in h.missing t a.0 c.0 e (slice_get_within d.drivers a.0 c.0 a.1) a.1 c.2

  pub driven-target : (t : Target) → Names d t → IsDrivenAt d (slot (length d.signals) t) ↔ IsDriven d t
  driven-target t names = (
    (λ c. (c.0, c.1, slot-target d (target c.0) t (declared-in d declared c.0 c.1).target names c.2)),
    (λ c. (c.0, c.1, ap (slot (length d.signals)) c.2)),
  )

  -- a driver is the first of its slot, and the only one of its target
  module _ (i : ℕ) (k : Driver) (at : slice_get d.drivers i ≡ Some k) where
    pub only-first : (IsInput d (target k) → ⊥) → get_or firsts (slot_of d k) None ≡ Some i → IsOnlyDriver d i k
    only-first never e = record {
      not_before = λ j m l f g. h.least (slot_of d k) i j m e l f (ap (slot (length d.signals)) g);
      no_input = never;
    }

    first_by : IsOnlyDriver d i k → (o : Option ℕ) → get_or firsts (slot_of d k) None ≡ o → o ≡ Some i
    first_by only None e = absurd (h.missing (slot_of d k) i k e (slice_get_within d.drivers i k at) at refl)
    first_by only (Some j) e =
        let f = h.found (slot_of d k) j e in
        let same = slot-target d (target f.0) (target k) (declared-at d declared j f.0 f.1).target
        (declared-at d declared i k at).target f.2 in
        elim (cases_order j i) [
          | inl q ↦ ap Some q
          | inr q ↦ elim q [
            | inl l ↦ absurd (only.not_before j f.0 l f.1 same)
            | inr l ↦ absurd (h.least (slot_of d k) j i k e l at refl)
          ]
        ]

    pub first-only : IsOnlyDriver d i k → get_or firsts (slot_of d k) None ≡ Some i
    first-only only = let o = first_by only (get_or firsts (slot_of d k) None) refl in o

  module _ (once : Holds d DrivenTwice) where
    -- the driver of a slot is the first of it
    pub first-at : (k : Driver) → Contains d.drivers k → (j : ℕ) × (slice_get d.drivers j ≡ Some k)
        × (get_or firsts (slot_of d k) None ≡ Some j)
    first-at k c =
        let a = contains-at d.drivers k c in
        (a.0, a.1, first-only a.0 k a.1 (once-at d once a.0 k a.1))

-- what a driver reads, on the lists
module _ (P Q : ℕ → Type 0) where
  pub driver-lists : (k : Driver) → DriverReads P Q k → All P (driver_names k) × All Q (driver_ports k)
  driver-lists k h = operands-lists P Q (expressions_read k) h

  pub lists-driver : (k : Driver) → All P (driver_names k) → All Q (driver_ports k) → DriverReads P Q k
  lists-driver k h g = lists-operands P Q (expressions_read k) h g
