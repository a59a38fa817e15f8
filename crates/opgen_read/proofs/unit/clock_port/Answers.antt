use Rattle.std.proofs.Common.{codes, drop, sym, ◌∙◌}
use Rattle.opgen_vhdl.specs.declared.kind.TokenKind.TheVariants.{LeftParen, Colon}
use Rattle.opgen_vhdl.specs.Symbols.{mark, word}
use Rattle.opgen_vhdl.specs.Reader.{clock_port}
use Rattle.opgen_lex.specs.Left.{left}
use Rattle.opgen_lex.proofs.Phrases.{eaten, all_eaten, phrase_read}
use Rattle.opgen_read.proofs.unit.clock_port.Goals as goal

pub returns : goal.returns
returns c =
    c.end.ensures ∙ sym (phrase_read clock_port (left c.args.rest) _ _ c.new.ensures (
    eaten _ _ (word (codes "is")) (drop 1 clock_port) c.word.ensures ∙
    eaten _ _ (word (codes "port")) (drop 2 clock_port) c.word-2.ensures ∙
    eaten _ _ (mark LeftParen) (drop 3 clock_port) c.mark.ensures ∙
    eaten _ _ (word (codes "clk")) (drop 4 clock_port) c.word-3.ensures ∙
    eaten _ _ (mark Colon) (drop 5 clock_port) c.mark-2.ensures ∙
    eaten _ _ (word (codes "in")) (drop 6 clock_port) c.word-4.ensures ∙
    eaten _ _ (word (codes "std_logic")) (drop 7 clock_port) c.word-5.ensures ∙
    all_eaten _))
