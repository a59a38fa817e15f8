-- An expression of the grammar is read, and what is read as an expression is one.
use Rattle.std.specs.Prelude.{is_some}
use Rattle.std.proofs.Common.{◌≡◌, inl, inr, ℕ, zero, suc, ◌≤◌, Bool, true, false, cond, List, [], ◌∷◌, codes, length, Option, Some, None, refl, ap, sym, ◌∙◌, arith}
use Rattle.std.proofs.lemmas.Option.{same_Some}
use Rattle.opgen_vhdl.specs.declared.kind.TokenKind.TheVariants.{LeftParen, RightParen}
use Rattle.opgen_design.specs.declared.expr.Op.{Op}
use Rattle.opgen_design.specs.declared.expr.Op.TheVariants as op
use Rattle.opgen_design.specs.Tree.{Tree, Trees, name, part, bits, port, inverse, chain, none, more}
use Rattle.opgen_vhdl.specs.Symbols.{Symbol, word, number, mark}
use Rattle.opgen_vhdl.specs.Grammar.{Names, place_of, IsIndex, value, operator, IsSignalPart, whole, slice, IsPrimary, signal, literal, input, group, IsFactor, plain, opposite, AreOperands, done, next, IsExpression, single, several}
use Rattle.opgen_vhdl.specs.Reader.{◌>>=◌, and_then, choice, eat, range_at, part_at, input_at, closed, op_at, primary_at, factor_at, operands_at, expression_at, inside}
use Rattle.opgen_vhdl.proofs.Steps.{bind_then, choice_then, found, found_is, cases_option, eat_some, name_some, index_then, string_some, name-reads, index-reads, no_keyword, refused-not, refused-unsigned}

operator-open : (o : Op) (ss : List Symbol) → eat (mark LeftParen) (operator o ∷ ss) ≡ None
operator-open op.And ss = refl
operator-open op.Or ss = refl
operator-open op.Xor ss = refl
operator-open op.Cat ss = refl
operator-open op.Plus ss = refl
operator-open op.Minus ss = refl

pub operator-reads : (o : Op) (ss : List Symbol) → op_at (operator o ∷ ss) ≡ Some o
unfolding op_at
operator-reads op.And ss = refl
operator-reads op.Or ss = refl
operator-reads op.Xor ss = refl
operator-reads op.Cat ss = refl
operator-reads op.Plus ss = refl
operator-reads op.Minus ss = refl

eat-operator : (o : Op) (ss : List Symbol) → eat (operator o) (operator o ∷ ss) ≡ Some ss
eat-operator op.And ss = refl
eat-operator op.Or ss = refl
eat-operator op.Xor ss = refl
eat-operator op.Cat ss = refl
eat-operator op.Plus ss = refl
eat-operator op.Minus ss = refl

some_not_none : {A : Type 0} (a : A) → Some a ≡ None → ⊥
some_not_none a e = cc

-- what begins with no operator does not begin with this one
no_operator : (o : Op) (ss : List Symbol) → op_at ss ≡ None → eat (operator o) ss ≡ None
no_operator o ss h = elim (cases_option (eat (operator o) ss)) [
  | inl e ↦ e
  | inr e ↦ absurd (some_not_none o (sym (operator-reads o e.0) ∙ ap op_at (sym (eat_some (operator o) ss e.0 e.1)) ∙ h))
]

if_test : {A : Type 0} (b : Bool) (x y z : A) (G : Type 0) → cond b x y ≡ z → (b ≡ true → x ≡ z → G) → (y ≡ z → G) → G
if_test true x y z G e f g = f refl e
if_test false x y z G e f g = g e

opened : {A : Type 0} (o : Option A) → is_some o ≡ true → (a : A) × (o ≡ Some a)
opened None h = cc
opened (Some a) h = (a, refl)

this_operator : (p o : Op) (ss : List Symbol) → is_some (eat (operator p) ss) ≡ true → Some p ≡ Some o → (rest : List Symbol)
    × (eat (operator o) ss ≡ Some rest)
this_operator p o ss h e = let (rest, r) = opened (eat (operator p) ss) h in (rest, ap (λ q. eat (operator q) ss) (sym (same_Some _ _ e)) ∙ r)

-- the operator that was found stands at the front
operator_some : (ss : List Symbol) (o : Op) → op_at ss ≡ Some o → (rest : List Symbol) × (eat (operator o) ss ≡ Some rest)
unfolding op_at
operator_some ss o e =
    if_test _ _ _ _ _ e (this_operator op.And o ss) (λ e. if_test _ _ _ _ _ e (this_operator op.Or o ss)
    (λ e. if_test _ _ _ _ _ e (this_operator op.Xor o ss) (λ e. if_test _ _ _ _ _ e (this_operator op.Cat o ss)
    (λ e. if_test _ _ _ _ _ e (this_operator op.Plus o ss) (λ e. if_test _ _ _ _ _ e (this_operator op.Minus o ss) (λ e. cc))))))

pub shorter : (n m : ℕ) → suc n ≤ m → (k : ℕ) × (m ≡ suc k) × (n ≤ k)
shorter n zero h = absurd (omega arith)
shorter n (suc k) h = (k, refl, omega arith)

operands-done : (names : Names) (f : List Symbol → Option (Tree × List Symbol)) (o : Op) (n : ℕ) (ss : List Symbol) → eat (operator o) ss
    ≡ None → operands_at names f n o ss ≡ found none ss
unfolding operands_at and_then choice
operands-done names f o zero ss h = refl
operands-done names f o (suc n) ss h = rw h refl

operands-more : (names : Names) (f : List Symbol → Option (Tree × List Symbol)) (o : Op) (m n : ℕ) (qs rs ss : List Symbol) (t : Tree)
    (ts : Trees) → n ≡ suc m → factor_at names f qs ≡ found t rs → operands_at names f m o rs ≡ found ts ss
    → operands_at names f n o (operator o ∷ qs) ≡ found (more t ts) ss
unfolding operands_at and_then choice
operands-more names f o m n qs rs ss t ts e g h = rw (e, eat-operator o qs, g, h) refl

pub closes : (rest : List Symbol) → op_at (mark RightParen ∷ rest) ≡ None
unfolding op_at
closes rest = refl

module _ {names : Names} where
  part-shrinks : {t : Tree} {rs ss : List Symbol} → IsSignalPart names t rs ss → suc (length ss) ≤ length rs
  part-shrinks (whole n) = omega arith
  part-shrinks (slice n h l) = omega arith

  mutual
    primary-shrinks : {d : ℕ} {t : Tree} {rs ss : List Symbol} → IsPrimary names d t rs ss → suc (length ss) ≤ length rs
    primary-shrinks (signal p) = part-shrinks p
    primary-shrinks literal = omega arith
    primary-shrinks (input n) = omega arith
    primary-shrinks (group r) = omega (arith, expression-shrinks r)

    factor-shrinks : {d : ℕ} {t : Tree} {rs ss : List Symbol} → IsFactor names d t rs ss → suc (length ss) ≤ length rs
    factor-shrinks (plain r) = primary-shrinks r
    factor-shrinks (opposite r) = omega (arith, primary-shrinks r)

    operands-shrink : {d : ℕ} {o : Op} {ts : Trees} {rs ss : List Symbol} → AreOperands names d o ts rs ss → length ss ≤ length rs
    operands-shrink done = omega arith
    operands-shrink (next f r) = omega (arith, factor-shrinks f, operands-shrink r)

    expression-shrinks : {d : ℕ} {t : Tree} {rs ss : List Symbol} → IsExpression names d t rs ss → suc (length ss) ≤ length rs
    expression-shrinks (single f) = factor-shrinks f
    expression-shrinks (several f r) = omega (arith, factor-shrinks f, operands-shrink r)

  operands-open : {d : ℕ} {o : Op} {ts : Trees} {rs ss : List Symbol} → AreOperands names d o ts rs ss → eat (mark LeftParen) ss ≡ None
      → eat (mark LeftParen) rs ≡ None
  operands-open done h = h
  operands-open {o = o} (next {ss = qs} f r) h = operator-open o qs

  operands-operator : {d : ℕ} {o : Op} {t : Tree} {ts : Trees} {rs ss : List Symbol} → AreOperands names d o (more t ts) rs ss → op_at rs
      ≡ Some o
  operands-operator {o = o} (next {ss = qs} f r) = operator-reads o qs

  part-not : {t : Tree} {rs ss : List Symbol} → IsSignalPart names t rs ss → eat (word (codes "not")) rs ≡ None
  part-not (whole {n = n} {rest = rest} h) = no_keyword (codes "not") n rest refused-not h
  part-not (slice {n = n} h i j) = no_keyword (codes "not") n _ refused-not h

  primary-not : {d : ℕ} {t : Tree} {rs ss : List Symbol} → IsPrimary names d t rs ss → eat (word (codes "not")) rs ≡ None
  primary-not (signal p) = part-not p
  primary-not literal = refl
  primary-not (input n) = refl
  primary-not (group r) = refl

  pub part-reads : {t : Tree} {rs ss : List Symbol} → IsSignalPart names t rs ss → eat (mark LeftParen) ss ≡ None → part_at names rs
      ≡ found t ss
  unfolding part_at range_at and_then choice
  part-reads (whole {n = n} {rest = rest} named) h = rw (name-reads n rest named, h) refl
  part-reads (slice {n = n} {high = i} {low = j} {rest = rest} named high low) h = rw
      (name-reads n _ named, index-reads i _ high, index-reads j _ low) refl

  part-primary : (f : List Symbol → Option (Tree × List Symbol)) {t : Tree} {rs ss : List Symbol} → IsSignalPart names t rs ss
      → primary_at names f rs ≡ part_at names rs
  unfolding primary_at choice
  part-primary f (whole {n = n} {rest = rest} named) = rw (no_keyword (codes "unsigned") n rest refused-unsigned named) refl
  part-primary f (slice {n = n} named high low) = rw (no_keyword (codes "unsigned") n _ refused-unsigned named) refl

  mutual
    unfolding primary_at factor_at operands_at expression_at inside input_at and_then choice

    primary-reads : {d : ℕ} {t : Tree} {rs ss : List Symbol} → IsPrimary names d t rs ss → eat (mark LeftParen) ss ≡ None
        → primary_at names (inside names d) rs ≡ found t ss
    primary-reads {d = d} (signal p) h = part-primary (inside names d) p ∙ part-reads p h
    primary-reads literal h = refl
    primary-reads (input {n = n} {rest = rest} named) h = rw (name-reads n _ named) refl
    primary-reads (group {rest = rest} r) h = rw (expression-reads r refl (closes rest)) refl

    factor-reads : {d : ℕ} {t : Tree} {rs ss : List Symbol} → IsFactor names d t rs ss → eat (mark LeftParen) ss ≡ None
        → factor_at names (inside names d) rs ≡ found t ss
    factor-reads (plain r) h = rw (primary-not r, primary-reads r h) refl
    factor-reads (opposite r) h = rw (primary-reads r h) refl

    operands-read : {d : ℕ} {o : Op} {ts : Trees} {rs ss : List Symbol} → AreOperands names d o ts rs ss → (n : ℕ) → length rs ≤ n
        → eat (mark LeftParen) ss ≡ None → op_at ss ≡ None → operands_at names (inside names d) n o rs ≡ found ts ss
    operands-read {d = d} {o = o} {ss = ss} done n fuel h k = operands-done names (inside names d) o n ss (no_operator o ss k)
    operands-read {d = d} {o = o} (next {ss = qs} {middle = rs} f r) n fuel h k =
        let (m, e, less) = shorter (length qs) n fuel in
        operands-more names (inside names d) o m n qs rs _ _ _ e (factor-reads f (operands-open r h))
        (operands-read r m (omega (arith, factor-shrinks f, less)) h k)

    -- an expression is read where no parenthesis and no operator follows it
    pub expression-reads : {d : ℕ} {t : Tree} {rs ss : List Symbol} → IsExpression names d t rs ss → eat (mark LeftParen) ss ≡ None
        → op_at ss ≡ None → expression_at names (inside names d) rs ≡ found t ss
    expression-reads (single f) h k = rw (factor-reads f h, k) refl
    expression-reads {d = d} (several {o = o} {middle = rs} f r) h k = rw
        (factor-reads f (operands-open r h), operands-operator r, operands-read r (length rs) (omega arith) h k) refl

-- what is read is in the grammar
range_some : (ss : List Symbol) (r : ℕ × ℕ) (rest : List Symbol) → range_at ss ≡ found r rest →
    (high low : List ℕ) × (ss ≡ number high ∷ word (codes "downto") ∷ number low ∷ mark RightParen ∷ rest) × IsIndex high × IsIndex low
    × (r ≡ (value high, value low))
unfolding range_at
range_some ss r rest e =
    bind_then _ _ _ e (λ a e1 f1.
    bind_then _ _ _ f1 (λ b e2 f2.
    bind_then _ _ _ f2 (λ c e3 f3.
    bind_then _ _ _ f3 (λ d e4 f4.
    let (p, q) = found_is (a.0, c.0) r d rest f4 in
    index_then ss a.0 a.1 e1 (λ high s1 h1 v1.
    let s2 = eat_some (word (codes "downto")) a.1 b e2 in
    index_then b c.0 c.1 e3 (λ low s3 h3 v3.
    let s4 = eat_some (mark RightParen) c.1 d e4 in
    (high, low, cc, h1, h3, sym p ∙ ap (λ u. (u, c.0)) v1 ∙ ap (λ u. (value high, u)) v3)))))))

pub range_then : {G : Type 0} (ss : List Symbol) (r : ℕ × ℕ) (rest : List Symbol) → range_at ss ≡ found r rest →
    ((high low : List ℕ) → ss ≡ number high ∷ word (codes "downto") ∷ number low ∷ mark RightParen ∷ rest → IsIndex high → IsIndex low → r
    ≡ (value high, value low) → G) → G
range_then ss r rest e go = let x = range_some ss r rest e in go x.0 x.1 x.2 x.3 x.4 x.5

pub part_some : (names : Names) (ss : List Symbol) (t : Tree) (rest : List Symbol) → part_at names ss ≡ found t rest
    → IsSignalPart names t ss rest
unfolding part_at
part_some names ss t rest e =
    bind_then _ _ _ e (λ n e1 f1.
    let (s1, named) = name_some ss n.0 n.1 e1 in
    choice_then _ _ _ _ f1
    (λ h k. let (p, q) = found_is (name (place_of names.signals n.0)) t n.1 rest k in rw (← p, s1, q) (whole named))
    (λ a h k.
    bind_then _ _ _ k (λ r e2 f2.
    let (p, q) = found_is (part (place_of names.signals n.0) r.0.0 r.0.1) t r.1 rest f2 in
    let s2 = eat_some (mark LeftParen) n.1 a h in
    range_then a r.0 r.1 e2 (λ high low s3 h3 l3 v3.
    let v4 : r.0.0 ≡ value high = ap (λ (x : ℕ × ℕ). x.0) v3 in
    let v5 : r.0.1 ≡ value low = ap (λ (x : ℕ × ℕ). x.1) v3 in
    rw (← p, s1, s2, s3, q, v4, v5) (slice named h3 l3)))))

input_some : (names : Names) (d : ℕ) (ss : List Symbol) (t : Tree) (rest : List Symbol) → input_at names ss ≡ found t rest
    → IsPrimary names d t (word (codes "unsigned") ∷ ss) rest
unfolding input_at
input_some names d ss t rest e =
    bind_then _ _ _ e (λ a e1 f1.
    bind_then _ _ _ f1 (λ n e2 f2.
    bind_then _ _ _ f2 (λ b e3 f3.
    let (p, q) = found_is (port (place_of names.ports n.0)) t b rest f3 in
    let s1 = eat_some (mark LeftParen) ss a e1 in
    let (s2, named) = name_some a n.0 n.1 e2 in
    let s3 = eat_some (mark RightParen) n.1 b e3 in
    rw (← p, s1, s2, s3, q) (input named))))

module _ (names : Names) (f : List Symbol → Option (Tree × List Symbol)) (d : ℕ)
    (inner : (t : Tree) (rs ss : List Symbol) → f rs ≡ found t (mark RightParen ∷ ss) → IsPrimary names d t (mark LeftParen ∷ rs) ss) where
  closed_some : (t : Tree) (rs ss : List Symbol) → closed (f rs) ≡ found t ss → IsPrimary names d t (mark LeftParen ∷ rs) ss
  closed_some t rs ss e =
      bind_then _ _ _ e (λ a e1 f1.
      bind_then _ _ _ f1 (λ b e2 f2.
      let (p, q) = found_is a.0 t b ss f2 in
      rw (← p, ← q) (inner a.0 rs b (e1 ∙ ap (λ u. found a.0 u) (eat_some (mark RightParen) a.1 b e2)))))

  primary_some : (t : Tree) (rs ss : List Symbol) → primary_at names f rs ≡ found t ss → IsPrimary names d t rs ss
  unfolding primary_at
  primary_some t rs ss e = choice_then _ _ _ _ e
      (λ h k. choice_then _ _ _ _ k
      (λ h k. choice_then _ _ _ _ k
      (λ h k. signal (part_some names rs t ss k))
      (λ w h k. let (p, q) = found_is (bits w.0) t w.1 ss k in rw (← p, ← q, string_some rs w.0 w.1 h) literal))
      (λ a h k. rw (eat_some (word (codes "unsigned")) rs a h) (input_some names d a t ss k)))
      (λ a h k. rw (eat_some (mark LeftParen) rs a h) (closed_some t a ss k))

  factor_some : (t : Tree) (rs ss : List Symbol) → factor_at names f rs ≡ found t ss → IsFactor names d t rs ss
  unfolding factor_at
  factor_some t rs ss e = choice_then _ _ _ _ e
      (λ h k. plain (primary_some t rs ss k))
      (λ a h k.
      bind_then _ _ _ k (λ x e1 f1.
      let (p, q) = found_is (inverse x.0) t x.1 ss f1 in
      rw (← p, eat_some (word (codes "not")) rs a h) (opposite (primary_some x.0 a ss (e1 ∙ ap (λ u. found x.0 u) q)))))

  operands_some : (n : ℕ) (o : Op) (ts : Trees) (rs ss : List Symbol) → operands_at names f n o rs ≡ found ts ss
      → AreOperands names d o ts rs ss
  unfolding operands_at
  operands_some zero o ts rs ss e = let (p, q) = found_is none ts rs ss e in rw (← p, ← q) done
  operands_some (suc n) o ts rs ss e = choice_then _ _ _ _ e
      (λ h k. let (p, q) = found_is none ts rs ss k in rw (← p, ← q) done)
      (λ a h k.
      bind_then _ _ _ k (λ x e1 f1.
      bind_then _ _ _ f1 (λ xs e2 f2.
      let (p, q) = found_is (more x.0 xs.0) ts xs.1 ss f2 in
      rw (← p, eat_some (operator o) rs a h) (next (factor_some x.0 a x.1 e1) (operands_some n o xs.0 x.1 ss (e2 ∙ ap (λ u. found xs.0 u)
      q))))))

  -- where the operator stands at the front, there is an operand
  some_operand : (n : ℕ) (o : Op) (rs rest ss : List Symbol) → eat (operator o) rs ≡ Some rest → operands_at names f (suc n) o rs
      ≡ found none ss → ⊥
  unfolding operands_at
  some_operand n o rs rest ss h e = choice_then _ _ _ _ e
      (λ g k. some_not_none rest (sym h ∙ g))
      (λ a g k.
      bind_then _ _ _ k (λ x e1 f1.
      bind_then _ _ _ f1 (λ xs e2 f2.
      let (p, q) = found_is (more x.0 xs.0) none xs.1 ss f2 in
      cc)))

  chain_some : (o : Op) (t : Tree) (us : Trees) (qs rs ss : List Symbol) → op_at rs ≡ Some o → factor_at names f qs ≡ found t rs
      → operands_at names f (length rs) o rs ≡ found us ss → IsExpression names d (chain o (more t us)) qs ss
  chain_some o t none qs [] ss h e g = let (rest, r) = operator_some [] o h in cc
  chain_some o t none qs (r ∷ rs) ss h e g = let (rest, k) = operator_some (r ∷ rs) o h in absurd
      (some_operand (length rs) o (r ∷ rs) rest ss k g)
  chain_some o t (more u us) qs rs ss h e g = several (factor_some t qs rs e) (operands_some (length rs) o (more u us) rs ss g)

  expression_some : (t : Tree) (rs ss : List Symbol) → expression_at names f rs ≡ found t ss → IsExpression names d t rs ss
  unfolding expression_at
  expression_some t rs ss e =
      bind_then _ _ _ e (λ x e1 f1.
      choice_then _ _ _ _ f1
      (λ h k. let (p, q) = found_is x.0 t x.1 ss k in rw (← p, ← q) (single (factor_some x.0 rs x.1 e1)))
      (λ o h k.
      bind_then _ _ _ k (λ xs e2 f2.
      let (p, q) = found_is (chain o (more x.0 xs.0)) t xs.1 ss f2 in
      rw (← p, ← q) (chain_some o x.0 xs.0 rs x.1 xs.1 h e1 e2))))

grouped : (names : Names) (d : ℕ) (t : Tree) (rs ss : List Symbol) → inside names d rs ≡ found t (mark RightParen ∷ ss)
    → IsPrimary names d t (mark LeftParen ∷ rs) ss
unfolding inside
grouped names zero t rs ss e = absurd cc
grouped names (suc d) t rs ss e = group (expression_some names (inside names d) d (grouped names d) t rs (mark RightParen ∷ ss) e)

-- what is read as an expression is one
pub expression-is : (names : Names) (d : ℕ) (t : Tree) (rs ss : List Symbol) → expression_at names (inside names d) rs ≡ found t ss
    → IsExpression names d t rs ss
expression-is names d = expression_some names (inside names d) d (grouped names d)

-- a factor that was read is not empty
pub factor-shorter : (names : Names) (d : ℕ) (rs : List Symbol) (t : Tree) (ss : List Symbol) → factor_at names (inside names d) rs
    ≡ found t ss → suc (length ss) ≤ length rs
factor-shorter names d rs t ss e = factor-shrinks (factor_some names (inside names d) d (grouped names d) t rs ss e)

pub operator_eaten : (o : Op) (rs rest : List Symbol) → eat (operator o) rs ≡ Some rest → length rs ≡ suc (length rest)
operator_eaten o rs rest e = ap length (eat_some (operator o) rs rest e)

-- how many operands are allowed makes no difference where they are enough
module _ (names : Names) (d : ℕ) (o : Op) (m n : ℕ)
    (same_rest : (rs : List Symbol) → length rs ≤ m → length rs ≤ n → operands_at names (inside names d) m o rs
    ≡ operands_at names (inside names d) n o rs) where
  after_factor : (a : List Symbol) → length a ≤ m → length a ≤ n → (x : Option (Tree × List Symbol)) → factor_at names (inside names d) a
      ≡ x →
      (x >>= λ x. operands_at names (inside names d) m o x.1 >>= λ xs. found (more x.0 xs.0) xs.1)
      ≡ (x >>= λ x. operands_at names (inside names d) n o x.1 >>= λ xs. found (more x.0 xs.0) xs.1)
  unfolding and_then
  after_factor a h k None e = refl
  after_factor a h k (Some x) e =
      let short = factor-shorter names d a x.0 x.1 e in
      ap (λ u. u >>= λ xs. found (more x.0 xs.0) xs.1) (same_rest x.1 (omega (arith, short)) (omega (arith, short)))

  after_operator : (rs : List Symbol) → length rs ≤ suc m → length rs ≤ suc n → (e : Option (List Symbol)) → eat (operator o) rs ≡ e →
      choice e (found none rs) (λ rest. factor_at names (inside names d) rest >>= λ x. operands_at names (inside names d) m o x.1 >>= λ xs.
      found (more x.0 xs.0) xs.1)
      ≡ choice e (found none rs) (λ rest. factor_at names (inside names d) rest >>= λ x. operands_at names (inside names d) n o x.1 >>= λ
      xs. found (more x.0 xs.0) xs.1)
  unfolding choice
  after_operator rs h k None e = refl
  after_operator rs h k (Some a) e = after_factor a (omega (arith, operator_eaten o rs a e)) (omega (arith, operator_eaten o rs a e))
      (factor_at names (inside names d) a) refl

operator-end : (o : Op) → eat (operator o) [] ≡ None
operator-end o = refl

pub enough : (names : Names) (d : ℕ) (o : Op) (m n : ℕ) (rs : List Symbol) → length rs ≤ m → length rs ≤ n
    → operands_at names (inside names d) m o rs ≡ operands_at names (inside names d) n o rs
unfolding operands_at choice
enough names d o zero zero rs h k = refl
enough names d o (suc m) zero [] h k = refl
enough names d o (suc m) zero (s ∷ rs) h k = absurd (omega arith)
enough names d o zero (suc n) [] h k = refl
enough names d o zero (suc n) (s ∷ rs) h k = absurd (omega arith)
enough names d o (suc m) (suc n) rs h k = after_operator names d o m n (λ rs h k. enough names d o m n rs h k) rs h k
    (eat (operator o) rs) refl
