use Rattle.std.proofs.Common.{◌∙◌, ap, sym, arith}
use Rattle.opgen_lex.proofs.Words.{further, walk-start, walk-more, walk-twice, walk-other, walk-end, ended-at, word_end-word}
use Rattle.opgen_lex.proofs.front.word_len.Goals as goal

pub bytes-init : goal.bytes-init
bytes-init c = record { walked = walk-start c.args.bytes.now; within = omega arith }

pub bytes-preserved : goal.bytes-preserved
bytes-preserved c = record {
  walked = rw c.is_underscore-underscore.ensures
      (walk-more c.args.bytes.now c.bytes.len c.bytes.underscore (omega arith)
      (sym c.is_word_byte.ensures ∙ c.if-not-is_word_byte.false) (sym c.is_second.ensures ∙ c.if-is_second.false) ∙ c.bytes.invariant.walked);
  within = omega arith;
}

pub returns-then-not-is_word_byte : goal.returns-then-not-is_word_byte
returns-then-not-is_word_byte c =
    c.ended.ensures ∙ ended-at c.bytes.len c.bytes.underscore
    ∙ ap (further c.bytes.len) (sym (walk-other c.args.bytes.now c.bytes.len c.bytes.underscore (omega arith)
    (sym c.is_word_byte.ensures ∙ c.if-not-is_word_byte.true)))
    ∙ c.bytes.invariant.walked ∙ word_end-word c.args.bytes.now

pub returns-then-is_second : goal.returns-then-is_second
returns-then-is_second c =
    sym (walk-twice c.args.bytes.now c.bytes.len c.bytes.underscore (omega arith)
    (sym c.is_word_byte.ensures ∙ c.if-not-is_word_byte.false) (sym c.is_second.ensures ∙ c.if-is_second.true))
    ∙ c.bytes.invariant.walked ∙ word_end-word c.args.bytes.now

pub returns : goal.returns
returns c =
    c.ended-2.ensures ∙ ended-at c.bytes.len c.bytes.underscore
    ∙ ap (further c.bytes.len) (sym (walk-end c.args.bytes.now c.bytes.len c.bytes.underscore (omega arith)))
    ∙ c.bytes.invariant.walked ∙ word_end-word c.args.bytes.now
