use Rattle.std.proofs.Common.{◌≡◌, None, get_or, true, false, sym, ap, ◌∙◌, arith}
use Rattle.opgen_design.specs.Rules.{slot, slot_of}
use Rattle.opgen_design.specs.Sound.{target, IsInput}
use Rattle.opgen_design.proofs.SoundLaws.{declared-at, slot-within, only-first, first-only}
use Rattle.opgen_design.proofs.design.Design.is_only_driver.Goals as goal

pub slot-slot-requires : goal.slot-slot-requires
slot-slot-requires c =
    let d = c.args.self.now in
    let below = slot-within d c.args.driver.now (declared-at d c.requires.declared c.args.place c.args.driver.now c.requires.at).target in
    let e = ap (λ n. slot n (target c.args.driver.now)) c.len.ensures in
    omega (arith, below, e, c.requires.numbers)

pub drives_input-requires : goal.drives_input-requires
drives_input-requires c = (declared-at c.args.self.now c.requires.declared c.args.place c.args.driver.now c.requires.at).target

pub is_first-requires : goal.is_first-requires
is_first-requires c =
    let d = c.args.self.now in
    let below = slot-within d c.args.driver.now (declared-at d c.requires.declared c.args.place c.args.driver.now c.requires.at).target in
    let e = ap (λ n. slot n (target c.args.driver.now)) c.len.ensures in
    omega (arith, below, e, c.slot-slot.ensures, c.requires.firsts.one_each)

pub returns-then-not-drives_input : goal.returns-then-not-drives_input
returns-then-not-drives_input c =
    let d = c.args.self.now in
    let k = c.args.driver.now in
    let e : c.slot-slot.result ≡ slot_of d k = c.slot-slot.ensures ∙ ap (λ n. slot n (target k)) c.len.ensures in
    let f = ap (λ t. get_or c.args.firsts.now t None) e in
    let never : IsInput d (target k) → ⊥ = λ h. let a : false ≡ true = c.if-not-drives_input.ensures.1 h in absurd (cc) in (
      (λ h. only-first d c.requires.declared c.args.firsts.now c.requires.firsts c.args.place k c.requires.at never
          (sym f ∙ c.is_first.ensures.0 h)),
      (λ h. c.is_first.ensures.1 (f ∙ first-only d c.requires.declared c.args.firsts.now c.requires.firsts c.args.place k c.requires.at h)),
    )
