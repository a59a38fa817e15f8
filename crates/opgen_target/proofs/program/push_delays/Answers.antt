use Rattle.std.proofs.Common.{suc, ◌∷◌, [], sym}
use Rattle.std.proofs.Math.Numerals.{suc-eq-add-one}
use Rattle.std.proofs.lemmas.List.{append-nil, append_assoc}
use Rattle.opgen_target.specs.Program.{fixed_delay, delays_of}
use Rattle.opgen_target.proofs.program.push_delays.Goals as goal

pub widths-init : goal.widths-init
widths-init c = sym (append-nil c.args.delays.now.items)

pub widths-preserved : goal.widths-preserved
widths-preserved c = rw (c.in_ok-push.ensures.items, c.widths.invariant, c.fixed_delay.ensures, ← suc-eq-add-one c.widths.place)
    (append_assoc c.args.delays.now.items (delays_of c.args.class c.widths.place) (fixed_delay c.args.class (suc c.widths.place) ∷ []))
