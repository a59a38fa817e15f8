use Rattle.std.proofs.Common.{◌≡◌, ◌+◌, ap, ◌∙◌, sym, subst, arith}
use Rattle.opgen_design.specs.Rules.{AreFirstDrivers, slot, slot_of, noted}
use Rattle.opgen_design.specs.Sound.{target}
use Rattle.opgen_design.proofs.SoundLaws.{declared-at, slot-within, noted-more}
use Rattle.opgen_design.proofs.design.Design.first_drivers.Goals as goal

pub slot-requires : goal.slot-requires
slot-requires c =
    let d = c.args.self.now in
    let below = slot-within d c.get.result.now (declared-at d c.requires.declared c.loop-i.i c.get.result.now c.get.ensures).target in
    let e = ap (λ n. slot n (target c.get.result.now)) c.len-signals.ensures in
    omega (arith, below, e, c.requires.numbers)

pub note-requires : goal.note-requires
note-requires c =
    let d = c.args.self.now in
    let below = slot-within d c.get.result.now (declared-at d c.requires.declared c.loop-i.i c.get.result.now c.get.ensures).target in
    let e = ap (λ n. slot n (target c.get.result.now)) c.len-signals.ensures in
    omega (arith, below, e, c.slot.ensures, c.loop-i.invariant.one_each)

pub loop-i-preserved : goal.loop-i-preserved
loop-i-preserved c =
    let d = c.args.self.now in
    let k = c.get.result.now in
    let below = slot-within d k (declared-at d c.requires.declared c.loop-i.i k c.get.ensures).target in
    let e : c.slot.result ≡ slot_of d k = c.slot.ensures ∙ ap (λ n. slot n (target k)) c.len-signals.ensures in
    let f = c.note.ensures ∙ ap (λ t. noted c.loop-i.firsts.items t c.loop-i.i) e in
    subst (AreFirstDrivers d (c.loop-i.i + 1)) (sym f)
    (noted-more d c.loop-i.i c.loop-i.firsts.items c.loop-i.invariant k c.get.ensures (omega (arith, below, c.loop-i.invariant.one_each)))
