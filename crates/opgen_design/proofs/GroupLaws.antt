-- The needs of signals as a graph, and what its components say of a design.
use Rattle.std.proofs.Common.{◌≡◌, ℕ, ◌<◌, List, [], length, get_or, Option, Some, None, IsTrue, refl, sym, ap, ◌∙◌, subst, inl, inr, arith}
use Rattle.std.specs.Prelude.{Contains}
use Rattle.std.proofs.lemmas.Bool.{cases_lt}
use Rattle.std.proofs.lemmas.List.{get_or_past}
use Rattle.std.proofs.lemmas.List.Elements.{All-contains}
use Rattle.opgen_components.specs.declared.Component.{Component}
use Rattle.opgen_components.specs.Graph.{Graph, IsGraph, Path, links_of, AreComponents, component_of}
use Rattle.opgen_components.specs.Graph as graph
use Rattle.opgen_components.proofs.Laws.{smaller}
use Rattle.opgen_design.specs.declared.design.Design.{Design}
use Rattle.opgen_design.specs.declared.design.Driver.{Driver}
use Rattle.opgen_design.specs.declared.design.Driver.TheVariants.{Assign, Choice, Table, Register, Output}
use Rattle.opgen_design.specs.Sound.{driver_names, expressions_read, target, Needs, Names, IsRegisterOf, IsOffCycles, IsOrdered, DependsOn, at_once, through, Holds}
use Rattle.opgen_design.specs.Order.{is_register}
use Rattle.opgen_design.specs.Rules.{AreFirstDrivers, AreNeeds, AreGroups, IsRegisterAt, IsRegisterIn, slot, needs_of, needs_if, needs_at}
use Rattle.opgen_design.specs.declared.design.Target.TheVariants.{Signal as signal}
use Rattle.opgen_design.specs.declared.sound.Rule.TheVariants.{Undeclared, DrivenTwice}
use Rattle.opgen_design.proofs.UseLaws.{some-contains, contains-some}
use Rattle.opgen_design.proofs.SoundLaws.{at-contains, declared-in, is-signal, first-at, driver-lists}

pub needs-contains : (r : ℕ) (k : Driver) → Needs r k → Contains (needs_of k) r
needs-contains r (Register to e) h = absurd h
needs-contains r k h = some-contains r (expressions_read k) h

pub contains-needs : (r : ℕ) (k : Driver) → Contains (needs_of k) r → Needs r k
contains-needs r (Register to e) h = absurd (omega (arith, h.1))
contains-needs r k h = contains-some r (expressions_read k) h

-- a need is a name that is read
needs-names : (r : ℕ) (k : Driver) → Contains (needs_of k) r → Contains (driver_names k) r
needs-names r (Register to e) h = absurd (omega (arith, h.1))
needs-names r k h = h

register-of : (k : Driver) (s : ℕ) → IsRegisterOf s k → (target k ≡ signal s) × IsTrue (is_register k)
register-of (Assign to e) s h = absurd h
register-of (Choice to on one other) s h = absurd h
register-of (Table to on rows other) s h = absurd h
register-of (Register to e) s h = (ap signal h, refl)
register-of (Output place e) s h = absurd h

of-register : (k : Driver) (s count : ℕ) → IsTrue (is_register k) → slot count (target k) ≡ s → IsRegisterOf s k
of-register (Assign to e) s count h g = absurd (cc)
of-register (Choice to on one other) s count h g = absurd (cc)
of-register (Table to on rows other) s count h g = absurd (cc)
of-register (Register to e) s count h g = g
of-register (Output place e) s count h g = absurd (cc)

module _ (d : Design) (declared : Holds d Undeclared) (once : Holds d DrivenTwice) (firsts : List (Option ℕ))
    (h : AreFirstDrivers d (length d.drivers) firsts) where
  -- a signal's register is its first driver
  pub no-register : (s : ℕ) → (IsRegisterAt d (get_or firsts s None) → ⊥) → (k : Driver) → Contains d.drivers k → IsRegisterOf s k → ⊥
  no-register s never k c r =
      let a = register-of k s r in
      let f = first-at d declared firsts h once k c in
      let e : get_or firsts s None ≡ Some f.0 = ap (λ t. get_or firsts (slot (length d.signals) t) None) (sym a.0) ∙ f.2 in
      never (subst (IsRegisterAt d) (sym e) (subst IsRegisterIn (sym f.1) a.1))

  register_by : (s : ℕ) (o : Option ℕ) → get_or firsts s None ≡ o → IsRegisterAt d o → (k : Driver) × Contains d.drivers k
      × IsRegisterOf s k
  register_by s None e r = absurd r
  register_by s (Some j) e r =
      let f = h.found s j e in
      (f.0, at-contains d.drivers j f.0 f.1, of-register f.0 s (length d.signals) (subst IsRegisterIn f.1 r) f.2)

  pub some-register : (s : ℕ) → IsRegisterAt d (get_or firsts s None) → (k : Driver) × Contains d.drivers k × IsRegisterOf s k
  some-register s r = register_by s (get_or firsts s None) refl r

  module _ (g : Graph) (needs : AreNeeds d firsts g) where
    link-there : (s r : ℕ) → Contains (links_of g s) r → s < length d.signals
    link-there s r c =
        elim (cases_lt s (length d.signals)) [
          | inl l ↦ l
          | inr l ↦ absurd (omega (arith, c.1, ap length (get_or_past g s [] (omega (arith, l, needs.0)))))
        ]

    link_by : (s r : ℕ) → s < length d.signals → (o : Option ℕ) → get_or firsts s None ≡ o → Contains (needs_at d o) r → (k : Driver)
        × Contains d.drivers k × (target k ≡ signal s) × Contains (needs_of k) r
    link_by s r l None e c = absurd (omega (arith, c.1))
    link_by s r l (Some j) e c =
        let f = h.found s j e in
        let k = at-contains d.drivers j f.0 f.1 in
        (f.0, k, is-signal d f.0 s (declared-in d declared f.0 k).target f.2 l, subst (λ x. Contains (needs_if x) r) f.1 c)

    pub link-need : (s r : ℕ) → Contains (links_of g s) r → (k : Driver) × Contains d.drivers k × (target k ≡ signal s)
        × Contains (needs_of k) r
    link-need s r c =
        let l = link-there s r c in
        link_by s r l (get_or firsts s None) refl (subst (λ x. Contains x r) (needs.1 s l) c)

    pub need-link : (s r : ℕ) (k : Driver) → Contains d.drivers k → target k ≡ signal s → Needs r k → Contains (links_of g s) r
    need-link s r k c t n =
        let f = first-at d declared firsts h once k c in
        let there : s < length d.signals = subst (Names d) t (declared-in d declared k c).target in
        let e : get_or firsts s None ≡ Some f.0 = ap (λ x. get_or firsts (slot (length d.signals) x) None) (sym t) ∙ f.2 in
        let a : links_of g s ≡ needs_of k = needs.1 s there ∙ ap (needs_at d) e ∙ ap needs_if f.1 in
        subst (λ x. Contains x r) (sym a) (needs-contains r k n)

    pub is-graph : IsGraph g
    is-graph = λ s r c.
        let a = link-need s r c in
        let names = (driver-lists (λ x. x < length d.signals) (λ p. p < length d.ports) a.0 (declared-in d declared a.0 a.1).reads).0 in
        let l = All-contains (λ x. x < length d.signals) (driver_names a.0) r names (needs-names r a.0 a.3) in
        omega (arith, l, needs.0)

    path-depends : (s r : ℕ) → Path g s r → DependsOn d s r
    path-depends s r (graph.link c) = let a = link-need s r c in at_once a.0 a.1 a.2 (contains-needs r a.0 a.3)
    path-depends s r (graph.through p q) = through (path-depends s _ p) (path-depends _ r q)

    depends-path : (s r : ℕ) → DependsOn d s r → Path g s r
    depends-path s r (at_once k c t n) = graph.link (need-link s r k c t n)
    depends-path s r (through p q) = graph.through (depends-path s _ p) (depends-path _ r q)

    pub are-groups : (cs : List Component) → AreComponents g cs → AreGroups d cs
    are-groups cs a = record {
      one_each = a.one_each ∙ needs.0;
      cyclic = λ s l.
          let c = a.cyclic s (omega (arith, l, needs.0)) in
          (λ t. path-depends s s (c.0 t), λ p. c.1 (depends-path s s p));
      smaller = λ s r k c t n off.
          let l = need-link s r k c t n in
          let m = link-there s r l in
          smaller g cs a s r (omega (arith, m, needs.0)) (is-graph s r l) l (λ p. off (path-depends s s p));
    }

-- an order of signals of which none is on a cycle
pub is-ordered : (d : Design) (cs : List Component) → AreGroups d cs → ((k : Driver) → Contains d.drivers k → IsOffCycles d k) → IsOrdered d
is-ordered d cs a off = ((λ s. (component_of cs s).number), λ s r k c t n. a.smaller s r k c t n (off k c s t))
