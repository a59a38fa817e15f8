use Rattle.std.proofs.Common.{◌<◌, ℕ, List, length, refl, sym, subst}
use Rattle.std.specs.Prelude.{All}
use Rattle.opgen_design.specs.declared.design.Driver.{Driver}
use Rattle.opgen_design.specs.declared.design.Design.{Design}
use Rattle.opgen_design.specs.Sound.{driver_names, driver_ports, IsDeclared, Names, target}
use Rattle.opgen_design.proofs.SoundLaws.{driver-lists, lists-driver}
use Rattle.opgen_design.proofs.design.Design.is_declared.Goals as goal

abbrev AllBelow : ℕ → List ℕ → Type 0
AllBelow n xs = All (λ x. x < n) xs

module _ (d : Design) (k : Driver) (there : Names d (target k)) where
  yes-declared : AllBelow (length d.signals) (driver_names k) → AllBelow (length d.ports) (driver_ports k) → IsDeclared d k
  yes-declared h g = record { target = there; reads = lists-driver (λ s. s < length d.signals) (λ p. p < length d.ports) k h g }

  declared-all : IsDeclared d k → AllBelow (length d.signals) (driver_names k) × AllBelow (length d.ports) (driver_ports k)
  declared-all h = driver-lists (λ s. s < length d.signals) (λ p. p < length d.ports) k h.reads

pub returns : goal.returns
returns c =
    let d = c.args.self.now in
    let k = c.args.driver.now in
    let there : Names d (target k) = c.if-not-has_target.ensures.0 refl in
    let e = c.in_ok-uses.ensures.names in
    let f = c.in_ok-uses.ensures.ports in (
      (λ h.
          let a = c.are_below.ensures.0 h in
          yes-declared d k there
          (subst (λ n. AllBelow n (driver_names k)) c.len.ensures (subst (AllBelow c.len.result) e a.0))
          (subst (λ n. AllBelow n (driver_ports k)) c.len-2.ensures (subst (AllBelow c.len-2.result) f a.1))),
      (λ h.
          let a = declared-all d k there h in
          c.are_below.ensures.1 (
            subst (AllBelow c.len.result) (sym e) (subst (λ n. AllBelow n (driver_names k)) (sym c.len.ensures) a.0),
            subst (AllBelow c.len-2.result) (sym f) (subst (λ n. AllBelow n (driver_ports k)) (sym c.len-2.ensures) a.1),
          )),
    )
