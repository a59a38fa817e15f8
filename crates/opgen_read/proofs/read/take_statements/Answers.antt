use Rattle.opgen_read.specs.Seen.{seen}
use Rattle.opgen_read.proofs.WholeTexts.{read_ok, read_few, read_err}
use Rattle.opgen_read.proofs.read.take_statements.Goals as goal

pub returns-in-None-clause-ok : goal.returns-in-None-clause-ok
returns-in-None-clause-ok c =
    read_ok c.args.bytes.now c.in-None.ensures.none c.take_pieces-read.result (seen c.take_pieces-read.new.draft) c.take_pieces-read.ensures.ok

pub returns-in-None-clause-few : goal.returns-in-None-clause-few
returns-in-None-clause-few c =
    read_few c.args.bytes.now c.in-None.ensures.none c.take_pieces-read.result (seen c.take_pieces-read.new.draft)
    c.take_pieces-read.ensures.ok c.requires.size

pub returns-in-None-clause-err : goal.returns-in-None-clause-err
returns-in-None-clause-err c =
    read_err c.args.bytes.now c.in-None.ensures.none c.take_pieces-read.result c.take_pieces-read.ensures.err
