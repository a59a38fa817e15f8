use Rattle.std.proofs.Common.{◌≡◌, [], if◌then◌else◌, length, take, drop, get_or, sym, ap, ◌∙◌, arith}
use Rattle.std.proofs.lemmas.List.{length-take-le, take_at}
use Rattle.std.proofs.lemmas.Option.{same_Some}
use Rattle.opgen_design.specs.Plain.{plain}
use Rattle.opgen_design.specs.Run.{scope}
use Rattle.opgen_design.specs.Value.{value}
use Rattle.opgen_streams.specs.Streams.{bit_in, word_in}
use Rattle.opgen_lanes.specs.Banks.{stream_words, widths_of}
use Rattle.opgen_lanes.proofs.Fits.{within}
use Rattle.opgen_lanes.proofs.DriverWords.{chosen-in}
use Rattle.opgen_lanes.proofs.drivers.choice.Goals as goal

pub slice_bounds-choose-end : goal.slice_bounds-choose-end
slice_bounds-choose-end c = within (widths_of c.args.banks.now.signals) (widths_of c.args.banks.now.ports) (plain c.args.yes.now) c.evaluate-width.result
    c.evaluate-width.new.out c.evaluate-width.ensures.width (omega (arith, c.requires.room, c.evaluate.auto.out, c.evaluate-width.auto.out))

pub slice_bounds-choose-end-2 : goal.slice_bounds-choose-end-2
slice_bounds-choose-end-2 c = sym (length-take-le c.evaluate-width.result c.evaluate-width.new.out (within (widths_of c.args.banks.now.signals) (widths_of c.args.banks.now.ports) (plain c.args.yes.now) c.evaluate-width.result
    c.evaluate-width.new.out c.evaluate-width.ensures.width (omega (arith, c.requires.room, c.evaluate.auto.out, c.evaluate-width.auto.out))))

pub choose-requires : goal.choose-requires
choose-requires c =
    let l = within (widths_of c.args.banks.now.signals) (widths_of c.args.banks.now.ports) (plain c.args.yes.now) c.evaluate-width.result
    c.evaluate-width.new.out c.evaluate-width.ensures.width (omega (arith, c.requires.room, c.evaluate.auto.out, c.evaluate-width.auto.out)) in
    length-take-le c.evaluate-width.result c.evaluate-width.new.out l
    ∙ same_Some _ _ (sym c.evaluate-width.ensures.width ∙ sym c.requires.no ∙ c.lend-no.ensures.width)

pub returns : goal.returns
returns c = λ k h.
    let v = scope (stream_words c.args.banks.now.signals c.args.banks.now.ports k) in
    let w = c.evaluate-width.result in
    let out = c.evaluate-width.new.out in
    let first = c.evaluate.new.out in
    let bit = bit_in (get_or first 0 []) k in
    let l = within (widths_of c.args.banks.now.signals) (widths_of c.args.banks.now.ports) (plain c.args.yes.now) c.evaluate-width.result
    c.evaluate-width.new.out c.evaluate-width.ensures.width (omega (arith, c.requires.room, c.evaluate.auto.out, c.evaluate-width.auto.out)) in
    let n : length c.choose.new.first ≡ w = omega (arith, c.choose.auto.first, length-take-le w out l) in
    let one : c.evaluate.result ≡ 1 = same_Some _ _ (sym c.evaluate.ensures.width ∙ c.requires.on) in
    let on : word_in (take 1 first) k ≡ value v (plain c.args.on.now) =
    ap (λ m. word_in (take m first) k) (sym one) ∙ c.evaluate.ensures.value k h in
    ap (λ xs. word_in xs k) (take_at c.choose.new.first (drop w out) w n)
    ∙ c.choose.ensures k h
    ∙ ap (λ x. if bit then x else word_in c.lend-no.result.now k) (c.evaluate-width.ensures.value k h)
    ∙ ap (λ x. if bit then value v (plain c.args.yes.now) else x) (c.lend-no.ensures.value k h)
    ∙ chosen-in first k (value v (plain c.args.on.now)) (value v (plain c.args.yes.now)) (value v (plain c.args.no.now))
    (omega (arith, c.requires.room, c.evaluate.auto.out)) on
