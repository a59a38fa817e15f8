use Rattle.std.proofs.Common.{codes, drop, sym, ◌∙◌}
use Rattle.opgen_vhdl.specs.declared.kind.TokenKind.TheVariants.{ZeroChar, RightParen, Arrow}
use Rattle.opgen_vhdl.specs.Symbols.{mark, word}
use Rattle.opgen_vhdl.specs.Reader.{others_zero}
use Rattle.opgen_lex.specs.Left.{left}
use Rattle.opgen_lex.proofs.Phrases.{eaten, all_eaten, phrase_read}
use Rattle.opgen_read.proofs.unit.others_zero.Goals as goal

pub returns : goal.returns
returns c =
    c.end.ensures ∙ sym (phrase_read others_zero (left c.args.rest) _ _ c.new.ensures (
    eaten _ _ (word (codes "others")) (drop 1 others_zero) c.word.ensures ∙
    eaten _ _ (mark Arrow) (drop 2 others_zero) c.mark.ensures ∙
    eaten _ _ (mark ZeroChar) (drop 3 others_zero) c.mark-2.ensures ∙
    eaten _ _ (mark RightParen) (drop 4 others_zero) c.mark-3.ensures ∙
    all_eaten _))
