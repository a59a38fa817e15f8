use Rattle.opgen_write.proofs.expression.+put_bits.Given as goal

abbrev pub decreases-put_bits : goal.decreases-put_bits
decreases-put_bits l = l.width
