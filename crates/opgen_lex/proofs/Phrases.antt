-- Phrases: what is left behind symbols that are read one by one.
use Rattle.std.proofs.Common.{◌≡◌, List, [], ◌∷◌, Option, Some, None, refl, ap, sym, ◌∙◌}
use Rattle.opgen_vhdl.specs.Symbols.{Symbol}
use Rattle.opgen_vhdl.specs.Reader.{and_then, eat, eat_all, end_at, phrase_at}

-- one symbol and those behind it
pub eaten : (m n : Option (List Symbol)) (p : Symbol) (ps : List Symbol) → n ≡ and_then m (eat p)
    → and_then m (eat_all (p ∷ ps)) ≡ and_then n (eat_all ps)
unfolding and_then
eaten None n p ps e = ap (λ u. and_then u (eat_all ps)) (sym e)
eaten (Some ss) n p ps e = ap (λ u. and_then u (eat_all ps)) (sym e)

-- no further symbol
pub all_eaten : (m : Option (List Symbol)) → and_then m (eat_all []) ≡ m
unfolding and_then
all_eaten None = refl
all_eaten (Some ss) = refl

-- the whole phrase, and the piece is over
pub phrase_read : (ps ss : List Symbol) (m n : Option (List Symbol)) → m ≡ Some ss → and_then m (eat_all ps) ≡ n
    → phrase_at ps ss ≡ and_then n end_at
unfolding and_then
phrase_read ps ss m n e h = ap (λ u. and_then u end_at) (ap (λ u. and_then u (eat_all ps)) (sym e) ∙ h)
