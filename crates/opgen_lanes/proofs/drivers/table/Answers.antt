use Rattle.std.proofs.Common.{◌≡◌, length, drop, sym, ap, ◌∙◌, arith}
use Rattle.std.proofs.lemmas.List.{length-take-le, take_at}
use Rattle.std.proofs.lemmas.Option.{same_Some}
use Rattle.opgen_streams.specs.Streams.{word_in}
use Rattle.opgen_design.specs.Plain.{plain}
use Rattle.opgen_runs.specs.Evaluate.{table_word}
use Rattle.opgen_lanes.specs.Banks.{widths_of}
use Rattle.opgen_lanes.proofs.Fits.{narrow-of}
use Rattle.opgen_lanes.proofs.drivers.table.Goals as goal

pub look_up-requires-clause-addresses : goal.look_up-requires-clause-addresses
look_up-requires-clause-addresses c = λ k d l. same_Some _ _ (sym (c.requires.addresses k d l) ∙ c.lend-address.ensures.width)

pub look_up-requires-clause-narrow_address : goal.look_up-requires-clause-narrow_address
look_up-requires-clause-narrow_address c = narrow-of (widths_of c.args.banks.now.signals) (widths_of c.args.banks.now.ports) (plain c.args.on.now)
    (length c.lend-address.result.now) c.lend-address.ensures.width

pub returns : goal.returns
returns c = λ k h.
    let w = c.width-places.result in
    let n : length c.look_up.new.out ≡ w = omega (
      arith,
      c.look_up.auto.out,
      length-take-le w c.args.out.now (omega (arith, c.width-places.ensures, c.requires.narrow, c.requires.room)),
    ) in
    ap (λ xs. word_in xs k) (take_at c.look_up.new.out (drop w c.args.out.now) w n)
    ∙ c.look_up.ensures k h
    ∙ ap (table_word c.args.rows.now c.args.other) (c.lend-address.ensures.value k h)
