use Rattle.opgen_lex.proofs.HeldToken.{held-some, held-none, held-short, held-numeral}
use Rattle.opgen_lex.proofs.cursor.Cursor.token.Goals as goal

pub returns : goal.returns
returns c = record {
  some = held-some c.args.self.first;
  none = held-none c.args.self.first;
  short = held-short c.args.self.first c.args.self.fitting;
  numeral = held-numeral c.args.self.first c.args.self.fitting;
}
