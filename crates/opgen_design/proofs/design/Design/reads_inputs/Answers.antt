use Rattle.std.proofs.Common.{◌≡◌, ◌<◌, length, IfSome, ◌∙◌, sym, subst}
use Rattle.std.specs.Prelude.{slice_get, All}
use Rattle.opgen_design.specs.declared.design.Dir.TheVariants.{In}
use Rattle.opgen_design.proofs.SoundLaws.{driver-lists, lists-driver}
use Rattle.opgen_design.proofs.UseLaws.{all-names}
use Rattle.opgen_design.proofs.design.Design.reads_inputs.Goals as goal

pub are_inputs-requires : goal.are_inputs-requires
are_inputs-requires c =
    let d = c.args.self.now in
    let a = (driver-lists (λ s. s < length d.signals) (λ p. p < length d.ports) c.args.driver.now c.requires.reads).1 in
    let e = c.deref.ensures.value ∙ c.in_ok-uses.ensures.ports in
    subst (λ xs. All (λ p. p < length d.ports) xs) (sym e) a

pub returns : goal.returns
returns c =
    let d = c.args.self.now in
    let e = c.deref.ensures.value ∙ c.in_ok-uses.ensures.ports in (
      (λ h. lists-driver (λ s. Unit {0}) (λ p. IfSome (slice_get d.ports p) (λ q. q.dir ≡ In)) c.args.driver.now
          (all-names (λ s. Unit {0}) _ (λ x. tt))
          (subst (λ xs. All (λ p. IfSome (slice_get d.ports p) (λ q. q.dir ≡ In)) xs) e (c.are_inputs.ensures.0 h))),
      (λ h. c.are_inputs.ensures.1 (subst (λ xs. All (λ p. IfSome (slice_get d.ports p) (λ q. q.dir ≡ In)) xs) (sym e)
          (driver-lists (λ s. Unit {0}) (λ p. IfSome (slice_get d.ports p) (λ q. q.dir ≡ In)) c.args.driver.now h).1)),
    )
