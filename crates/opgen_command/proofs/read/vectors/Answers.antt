use Rattle.std.proofs.Common.{rules}
use Rattle.clap.specs.Words.{found_of, rows_of}
use Rattle.opgen_command.proofs.Meaning.{passed, vectors, no_seed, no_cycles}
use Rattle.opgen_command.proofs.read.vectors.Goals as goal

pub returns-in_err-seed : goal.returns-in_err-seed
returns-in_err-seed c =
    let rows = rows_of (found_of c.args.found.now) in
    passed _ _ _ c.from_residual.ensures.1 (λ usage. no_seed rows c.in_err-seed.ensures.value)

pub returns-in_err-cycles : goal.returns-in_err-cycles
returns-in_err-cycles c =
    let rows = rows_of (found_of c.args.found.now) in
    passed _ _ _ c.from_residual-in_err-cycles.ensures.1
    (λ usage. no_cycles rows _ c.in_ok-seed.ensures.value c.in_err-cycles.ensures.value)

pub returns : goal.returns
returns c =
    let rows = rows_of (found_of c.args.found.now) in
    (vectors rows _ _ _ c.in_ok-spec.ensures.text c.in_ok-seed.ensures.value c.in_ok-cycles.ensures.value, search rules)
