use Rattle.std.proofs.lemmas.Result.{IfOk-weaker}
use Rattle.opgen_operator.specs.declared.operator.Operator.TheVariants.{Scale, Fir, Multiply, Divide, Root, Mcm, Constdiv, Poly, Tfir, Sop}
use Rattle.opgen_top.proofs.Building.{accepted_kind, accepted_scale, made_adders, made_net, made_fits, plain_net, plain_fits}
use Rattle.opgen_top.proofs.circuit.build_operator.Goals as goal

pub build-requires : goal.build-requires
build-requires g c = record { sum = accepted_scale c.args.spec.now c.requires.valid c.in-Scale.sum c.in-Scale.is }

pub build_several-requires-clause-several : goal.build_several-requires-clause-several
build_several-requires-clause-several g c κs within = accepted_kind c.args.spec.now c.requires.valid (Mcm c.in-Mcm.several) c.in-Mcm.is

pub build_transposed-requires-clause-taps : goal.build_transposed-requires-clause-taps
build_transposed-requires-clause-taps g c κs within = accepted_kind c.args.spec.now c.requires.valid (Tfir c.in-Tfir.taps) c.in-Tfir.is

pub build-requires-in-Sop : goal.build-requires-in-Sop
build-requires-in-Sop g c = accepted_kind c.args.spec.now c.requires.valid (Sop c.in-Sop.sop) c.in-Sop.is

pub returns-in-Scale-clause-net : goal.returns-in-Scale-clause-net
returns-in-Scale-clause-net g c =
    let built = c.build in
    let made = c.without_adders in
    plain_net c.args.spec.now c.requires.valid (Scale c.in-Scale.sum) built.result made.result c.in-Scale.is made.ensures.net built.ensures.net

pub returns-in-Scale-clause-fits : goal.returns-in-Scale-clause-fits
returns-in-Scale-clause-fits g c =
    let built = c.build in
    let made = c.without_adders in
    plain_fits c.args.spec.now c.requires.valid (Scale c.in-Scale.sum) built.result made.result c.in-Scale.is made.ensures.net
    (IfOk-weaker built.result _ _ (λ net both. both.0) built.ensures.fits)

pub returns-in-Scale-clause-adders : goal.returns-in-Scale-clause-adders
returns-in-Scale-clause-adders g c =
    let made = c.without_adders in
    made_adders c.args.spec.now c.requires.valid (Scale c.in-Scale.sum) made.result c.in-Scale.is made.ensures.adders

pub returns-in-Fir-clause-net : goal.returns-in-Fir-clause-net
returns-in-Fir-clause-net g c =
    let built = c.build-in-Fir in
    let made = c.without_adders-in-Fir in
    plain_net c.args.spec.now c.requires.valid (Fir c.in-Fir.sum) built.result made.result c.in-Fir.is made.ensures.net built.ensures.net

pub returns-in-Fir-clause-fits : goal.returns-in-Fir-clause-fits
returns-in-Fir-clause-fits g c =
    let built = c.build-in-Fir in
    let made = c.without_adders-in-Fir in
    plain_fits c.args.spec.now c.requires.valid (Fir c.in-Fir.sum) built.result made.result c.in-Fir.is made.ensures.net
    (IfOk-weaker built.result _ _ (λ net both. both.1) built.ensures.fits)

pub returns-in-Fir-clause-adders : goal.returns-in-Fir-clause-adders
returns-in-Fir-clause-adders g c =
    let made = c.without_adders-in-Fir in
    made_adders c.args.spec.now c.requires.valid (Fir c.in-Fir.sum) made.result c.in-Fir.is made.ensures.adders

pub returns-in-Multiply-clause-net : goal.returns-in-Multiply-clause-net
returns-in-Multiply-clause-net g c =
    let built = c.build-in-Multiply in
    let made = c.without_adders-in-Multiply in
    plain_net c.args.spec.now c.requires.valid (Multiply c.in-Multiply.product) built.result made.result c.in-Multiply.is made.ensures.net built.ensures.net

pub returns-in-Multiply-clause-fits : goal.returns-in-Multiply-clause-fits
returns-in-Multiply-clause-fits g c =
    let built = c.build-in-Multiply in
    let made = c.without_adders-in-Multiply in
    plain_fits c.args.spec.now c.requires.valid (Multiply c.in-Multiply.product) built.result made.result c.in-Multiply.is made.ensures.net
    built.ensures.fits

pub returns-in-Multiply-clause-adders : goal.returns-in-Multiply-clause-adders
returns-in-Multiply-clause-adders g c =
    let made = c.without_adders-in-Multiply in
    made_adders c.args.spec.now c.requires.valid (Multiply c.in-Multiply.product) made.result c.in-Multiply.is made.ensures.adders

pub returns-in-Divide-clause-net : goal.returns-in-Divide-clause-net
returns-in-Divide-clause-net g c =
    let built = c.build-in-Divide in
    let made = c.without_adders-in-Divide in
    plain_net c.args.spec.now c.requires.valid (Divide c.in-Divide.pair) built.result made.result c.in-Divide.is made.ensures.net built.ensures.net

pub returns-in-Divide-clause-fits : goal.returns-in-Divide-clause-fits
returns-in-Divide-clause-fits g c =
    let built = c.build-in-Divide in
    let made = c.without_adders-in-Divide in
    plain_fits c.args.spec.now c.requires.valid (Divide c.in-Divide.pair) built.result made.result c.in-Divide.is made.ensures.net
    built.ensures.fits

pub returns-in-Divide-clause-adders : goal.returns-in-Divide-clause-adders
returns-in-Divide-clause-adders g c =
    let made = c.without_adders-in-Divide in
    made_adders c.args.spec.now c.requires.valid (Divide c.in-Divide.pair) made.result c.in-Divide.is made.ensures.adders

pub returns-in-Root-clause-net : goal.returns-in-Root-clause-net
returns-in-Root-clause-net g c =
    let built = c.build-in-Root in
    let made = c.without_adders-in-Root in
    plain_net c.args.spec.now c.requires.valid (Root c.in-Root.single) built.result made.result c.in-Root.is made.ensures.net built.ensures.net

pub returns-in-Root-clause-fits : goal.returns-in-Root-clause-fits
returns-in-Root-clause-fits g c =
    let built = c.build-in-Root in
    let made = c.without_adders-in-Root in
    plain_fits c.args.spec.now c.requires.valid (Root c.in-Root.single) built.result made.result c.in-Root.is made.ensures.net
    built.ensures.fits

pub returns-in-Root-clause-adders : goal.returns-in-Root-clause-adders
returns-in-Root-clause-adders g c =
    let made = c.without_adders-in-Root in
    made_adders c.args.spec.now c.requires.valid (Root c.in-Root.single) made.result c.in-Root.is made.ensures.adders

pub returns-in-Mcm-clause-net : goal.returns-in-Mcm-clause-net
returns-in-Mcm-clause-net g c =
    let made = c.build_several in
    made_net c.args.spec.now c.requires.valid (Mcm c.in-Mcm.several) made.result c.in-Mcm.is made.ensures.net

pub returns-in-Mcm-clause-fits : goal.returns-in-Mcm-clause-fits
returns-in-Mcm-clause-fits g c =
    let made = c.build_several in
    made_fits c.args.spec.now c.requires.valid (Mcm c.in-Mcm.several) made.result c.in-Mcm.is made.ensures.fits

pub returns-in-Mcm-clause-adders : goal.returns-in-Mcm-clause-adders
returns-in-Mcm-clause-adders g c =
    let made = c.build_several in
    made_adders c.args.spec.now c.requires.valid (Mcm c.in-Mcm.several) made.result c.in-Mcm.is made.ensures.adders

pub returns-in-Constdiv-clause-net : goal.returns-in-Constdiv-clause-net
returns-in-Constdiv-clause-net g c =
    let built = c.build-in-Constdiv in
    let made = c.without_adders-in-Constdiv in
    plain_net c.args.spec.now c.requires.valid (Constdiv c.in-Constdiv.small) built.result made.result c.in-Constdiv.is made.ensures.net built.ensures.net

pub returns-in-Constdiv-clause-fits : goal.returns-in-Constdiv-clause-fits
returns-in-Constdiv-clause-fits g c =
    let built = c.build-in-Constdiv in
    let made = c.without_adders-in-Constdiv in
    plain_fits c.args.spec.now c.requires.valid (Constdiv c.in-Constdiv.small) built.result made.result c.in-Constdiv.is made.ensures.net
    built.ensures.fits

pub returns-in-Constdiv-clause-adders : goal.returns-in-Constdiv-clause-adders
returns-in-Constdiv-clause-adders g c =
    let made = c.without_adders-in-Constdiv in
    made_adders c.args.spec.now c.requires.valid (Constdiv c.in-Constdiv.small) made.result c.in-Constdiv.is made.ensures.adders

pub returns-in-Poly-clause-net : goal.returns-in-Poly-clause-net
returns-in-Poly-clause-net g c =
    let built = c.build-in-Poly in
    let made = c.without_adders-in-Poly in
    plain_net c.args.spec.now c.requires.valid (Poly c.in-Poly.poly) built.result made.result c.in-Poly.is made.ensures.net built.ensures.net

pub returns-in-Poly-clause-fits : goal.returns-in-Poly-clause-fits
returns-in-Poly-clause-fits g c =
    let built = c.build-in-Poly in
    let made = c.without_adders-in-Poly in
    plain_fits c.args.spec.now c.requires.valid (Poly c.in-Poly.poly) built.result made.result c.in-Poly.is made.ensures.net
    built.ensures.fits

pub returns-in-Poly-clause-adders : goal.returns-in-Poly-clause-adders
returns-in-Poly-clause-adders g c =
    let made = c.without_adders-in-Poly in
    made_adders c.args.spec.now c.requires.valid (Poly c.in-Poly.poly) made.result c.in-Poly.is made.ensures.adders

pub returns-in-Tfir-clause-net : goal.returns-in-Tfir-clause-net
returns-in-Tfir-clause-net g c =
    let made = c.build_transposed in
    made_net c.args.spec.now c.requires.valid (Tfir c.in-Tfir.taps) made.result c.in-Tfir.is made.ensures.net

pub returns-in-Tfir-clause-fits : goal.returns-in-Tfir-clause-fits
returns-in-Tfir-clause-fits g c =
    let made = c.build_transposed in
    made_fits c.args.spec.now c.requires.valid (Tfir c.in-Tfir.taps) made.result c.in-Tfir.is made.ensures.fits

pub returns-in-Tfir-clause-adders : goal.returns-in-Tfir-clause-adders
returns-in-Tfir-clause-adders g c =
    let made = c.build_transposed in
    made_adders c.args.spec.now c.requires.valid (Tfir c.in-Tfir.taps) made.result c.in-Tfir.is made.ensures.adders

pub returns-in-Sop-clause-net : goal.returns-in-Sop-clause-net
returns-in-Sop-clause-net g c =
    let built = c.build-in-Sop in
    let made = c.without_adders-in-Sop in
    plain_net c.args.spec.now c.requires.valid (Sop c.in-Sop.sop) built.result made.result c.in-Sop.is made.ensures.net built.ensures.net

pub returns-in-Sop-clause-fits : goal.returns-in-Sop-clause-fits
returns-in-Sop-clause-fits g c =
    let built = c.build-in-Sop in
    let made = c.without_adders-in-Sop in
    plain_fits c.args.spec.now c.requires.valid (Sop c.in-Sop.sop) built.result made.result c.in-Sop.is made.ensures.net
    built.ensures.fits

pub returns-in-Sop-clause-adders : goal.returns-in-Sop-clause-adders
returns-in-Sop-clause-adders g c =
    let made = c.without_adders-in-Sop in
    made_adders c.args.spec.now c.requires.valid (Sop c.in-Sop.sop) made.result c.in-Sop.is made.ensures.adders
