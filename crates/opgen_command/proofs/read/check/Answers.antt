use Rattle.std.proofs.Common.{rules}
use Rattle.clap.specs.Words.{found_of, rows_of}
use Rattle.opgen_command.proofs.Meaning.{passed, check, no_vhdl, no_rows, no_latency}
use Rattle.opgen_command.proofs.read.check.Goals as goal

pub returns-in_err-latency : goal.returns-in_err-latency
returns-in_err-latency c =
    let rows = rows_of (found_of c.args.found.now) in
    passed _ _ _ c.from_residual.ensures.1 (λ usage. no_latency rows c.in_err-latency.ensures.value)

pub returns-in_err-vhdl : goal.returns-in_err-vhdl
returns-in_err-vhdl c =
    let rows = rows_of (found_of c.args.found.now) in
    passed _ _ _ c.from_residual-in_err-vhdl.ensures.1
    (λ usage. no_vhdl rows _ c.in_ok-spec.ensures.text (c.in_err-vhdl.ensures.usage usage))

pub returns-in_err-vectors : goal.returns-in_err-vectors
returns-in_err-vectors c =
    let rows = rows_of (found_of c.args.found.now) in
    passed _ _ _ c.from_residual-in_err-vectors.ensures.1
    (λ usage. no_rows rows _ _ c.in_ok-spec.ensures.text c.in_ok-vhdl.ensures.text (c.in_err-vectors.ensures.usage usage))

pub returns : goal.returns
returns c =
    let rows = rows_of (found_of c.args.found.now) in (
      check rows _ _ _ _ c.in_ok-spec.ensures.text c.in_ok-vhdl.ensures.text c.in_ok-vectors.ensures.text c.in_ok-latency.ensures.value,
      search rules,
    )
