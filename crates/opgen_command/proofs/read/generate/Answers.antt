use Rattle.std.proofs.Common.{rules}
use Rattle.clap.specs.Words.{found_of, rows_of}
use Rattle.opgen_command.proofs.Meaning.{passed, generate, no_workers}
use Rattle.opgen_command.proofs.read.generate.Goals as goal

pub returns-in_err-workers : goal.returns-in_err-workers
returns-in_err-workers c =
    let rows = rows_of (found_of c.args.found.now) in
    passed _ _ _ c.from_residual.ensures.1 (λ usage. no_workers rows c.in_err-workers.ensures.value)

pub returns : goal.returns
returns c =
    let rows = rows_of (found_of c.args.found.now) in
    (generate rows _ _ _ c.in_ok-spec.ensures.text c.in_ok-workers.ensures.value c.is_set.ensures, search rules)
