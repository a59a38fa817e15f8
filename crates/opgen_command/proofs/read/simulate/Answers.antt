use Rattle.clap.specs.Words.{found_of, rows_of}
use Rattle.opgen_command.proofs.Meaning.{passed, simulate, no_vectors, no_out}
use Rattle.opgen_command.proofs.read.simulate.Goals as goal

pub returns-in_err-vectors : goal.returns-in_err-vectors
returns-in_err-vectors c =
    let rows = rows_of (found_of c.args.found.now) in
    passed _ _ _ c.from_residual-in_err-vectors.ensures.1
    (λ usage. no_vectors rows _ c.in_ok-vhdl.ensures.text (c.in_err-vectors.ensures.usage usage))

pub returns-in_err-out : goal.returns-in_err-out
returns-in_err-out c =
    let rows = rows_of (found_of c.args.found.now) in
    passed _ _ _ c.from_residual-in_err-out.ensures.1
    (λ usage. no_out rows _ _ c.in_ok-vhdl.ensures.text c.in_ok-vectors.ensures.text (c.in_err-out.ensures.usage usage))

pub returns : goal.returns
returns c =
    let rows = rows_of (found_of c.args.found.now) in
    (simulate rows _ _ _ c.in_ok-vhdl.ensures.text c.in_ok-vectors.ensures.text c.in_ok-out.ensures.text, tt)
