-- Two scopes that agree on what an expression reads give it one value; how wide what is chosen is.
use Rattle.std.proofs.Common.{◌≡◌, ℕ, Bool, List, map, refl, ap, ◌∙◌, true, false, [], ◌∷◌, length}
use Rattle.std.specs.Prelude.{not}
use Rattle.opgen_design.specs.declared.expr.Op.{Op}
use Rattle.opgen_design.specs.Tree.{Tree, Trees, name, part, bits, port, inverse, chain, none, more}
use Rattle.opgen_design.specs.Value.{Scope, value, chain_value, value_on, cut, combined, chosen}
use Rattle.opgen_design.specs.Sound.{AllReads, AllOperandsRead}

module _ (P Q : ℕ → Type 0) (s r : Scope) (names : (n : ℕ) → P n → s.names n ≡ r.names n)
    (ports : (n : ℕ) → Q n → s.ports n ≡ r.ports n) where
  mutual
    pub same_value : (t : Tree) → AllReads P Q t → value s t ≡ value r t
    same_value (name n) h = names n h
    same_value (part n high low) h = ap (cut high low) (names n h)
    same_value (bits w) h = refl
    same_value (port n) h = ports n h
    same_value (inverse t) h = ap (map not) (same_value t h)
    same_value (chain op ts) h = same_chain op ts h

    same_chain : (op : Op) (ts : Trees) → AllOperandsRead P Q ts → chain_value s op ts ≡ chain_value r op ts
    same_chain op none h = refl
    same_chain op (more t ts) h = ap (λ w. value_on s op w ts) (same_value t h.0) ∙ same_on op (value r t) ts h.1

    same_on : (op : Op) (w : List Bool) (ts : Trees) → AllOperandsRead P Q ts → value_on s op w ts ≡ value_on r op w ts
    same_on op w none h = refl
    same_on op w (more t ts) h =
        ap (λ v. value_on s op (combined op w v) ts) (same_value t h.0) ∙ same_on op (combined op w (value r t)) ts h.1

-- the word that is chosen
pub length-chosen : (c a b : List Bool) (w : ℕ) → length a ≡ w → length b ≡ w → length (chosen c a b) ≡ w
length-chosen [] a b w h k = k
length-chosen (true ∷ []) a b w h k = h
length-chosen (true ∷ d ∷ c) a b w h k = k
length-chosen (false ∷ c) a b w h k = k
