use Rattle.std.proofs.Common.{◌≡◌, Bool, true, false, not, IsTrue, Option, Some, None, refl}
use Rattle.std.specs.Prelude.{IsSome, is_some}
use Rattle.opgen_design.proofs.GroupLaws.{no-register, some-register}
use Rattle.opgen_design.proofs.design.Design.has_initial.Goals as goal

refuse : (b : Bool) → IsTrue (not b) → IsTrue b → ⊥
refuse true h k = absurd (cc)
refuse false h k = absurd (cc)

deny : (b : Bool) → (IsTrue b → ⊥) → IsTrue (not b)
deny true h = absurd (h refl)
deny false h = refl

no-some : {X : Type 0} (o : Option X) → false ≡ is_some o → IsSome o → ⊥
no-some None e h = absurd (cc)
no-some (Some x) e h = absurd (cc)

pub returns-else-is_some : goal.returns-else-is_some
returns-else-is_some c =
    let d = c.args.self.now in
    let r = c.is_register.ensures in (
      (λ h k m s. absurd (no-register d c.requires.declared c.requires.once c.args.firsts.now c.requires.firsts c.args.place
          (λ g. refuse c.is_register.result h (r.1 g)) k m s)),
      (λ h. deny c.is_register.result (λ t.
          let k = some-register d c.requires.declared c.requires.once c.args.firsts.now c.requires.firsts c.args.place (r.0 t) in
          no-some c.args.signal.now.initial c.if-is_some.ensures (h k.0 k.1 k.2))),
    )
