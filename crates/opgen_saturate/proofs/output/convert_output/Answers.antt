use Rattle.std.proofs.Common.{sym, subst, rules}
use Rattle.opgen_net.specs.Valid.{IsValid}
use Rattle.opgen_saturate.specs.Output.{ConvertsOutput}
use Rattle.opgen_saturate.proofs.Slices.{net_converted}
use Rattle.opgen_saturate.proofs.output.convert_output.Goals as goal

pub returns-clause-ok : goal.returns-clause-ok
returns-clause-ok c = search rules

pub returns-clause-valid : goal.returns-clause-valid
returns-clause-valid c =
    let all = net_converted c.args.overflow c.args.net.now c.args.format c.args.to c.requires.net c.requires.formats in
    subst IsValid (sym (returns-clause-ok c)) all.valid

pub returns-clause-converts : goal.returns-clause-converts
returns-clause-converts c =
    let net = c.args.net.now in
    let all = net_converted c.args.overflow net c.args.format c.args.to c.requires.net c.requires.formats in
    subst (ConvertsOutput c.args.overflow net c.args.format c.args.to) (sym (returns-clause-ok c)) all.converts
