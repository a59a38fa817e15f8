-- What expressions read, as lists.
use Rattle.std.proofs.Common.{◌≡◌, ℕ, ◌+◌, ◌<◌, List, [], ◌∷◌, ◌++◌, length, take, get_or, refl, sym, ap, ◌∙◌, subst, inl, inr, arith, None, zero, suc}
use Rattle.std.specs.Prelude.{Contains, All}
use Rattle.std.proofs.lemmas.List.{append_assoc, append-nil, take_more, get_or_append_left, get_or-append-add, length-append}
use Rattle.std.proofs.lemmas.List.Elements.{All-nil, All-cons, All-append, All-head, Contains-append_left, Contains-append_right, Contains-append_cases}
use Rattle.opgen_design.specs.declared.expr.Expr.{Expr}
use Rattle.opgen_design.specs.declared.expr.Op.{Op}
use Rattle.opgen_design.specs.Tree.{Tree, Trees, name, part, bits, port, inverse, chain, none, more}
use Rattle.opgen_design.specs.Plain.{plain, plain_all}
use Rattle.opgen_design.specs.Value.{chain_width}
use Rattle.opgen_design.specs.Sound.{AllReads, AllOperandsRead, ReadsName, SomeOperandReads, names_read, operand_names, ports_read, operand_ports}

pub short-chain : (ns ps : List ℕ) (op : Op) (es : List Expr) → length es < 2 → chain_width ns ps op (plain_all es) ≡ None
short-chain ns ps op [] h = refl
short-chain ns ps op (e ∷ []) h = refl
short-chain ns ps op (e ∷ f ∷ es) h = absurd (omega (arith, h))

module _ (f : Tree → List ℕ) (g : Trees → List ℕ) (at_none : g none ≡ [])
    (at_more : (t : Tree) (ts : Trees) → g (more t ts) ≡ f t ++ g ts) where
  push-all : (xs : List Expr) (x : Expr) → g (plain_all (xs ++ x ∷ [])) ≡ g (plain_all xs) ++ f (plain x)
  push-all [] x = at_more (plain x) none ∙ ap (λ l. f (plain x) ++ l) at_none ∙ append-nil (f (plain x))
      ∙ sym (ap (λ l. l ++ f (plain x)) at_none)
  push-all (y ∷ xs) x =
      at_more (plain y) (plain_all (xs ++ x ∷ []))
      ∙ ap (λ l. f (plain y) ++ l) (push-all xs x)
      ∙ sym (append_assoc (f (plain y)) (g (plain_all xs)) (f (plain x)))
      ∙ ap (λ l. l ++ f (plain x)) (sym (at_more (plain y) (plain_all xs)))

  pub all-more : (xs : List Expr) (i : ℕ) (x : Expr) → i < length xs → x ≡ get_or xs i x → g (plain_all (take (i + 1) xs))
      ≡ g (plain_all (take i xs)) ++ f (plain x)
  all-more xs i x l e = ap (λ l. g (plain_all l)) (take_more xs i x l) ∙ push-all (take i xs) (get_or xs i x)
      ∙ ap (λ y. g (plain_all (take i xs)) ++ f (plain y)) (sym e)

pub names-more : (xs : List Expr) (i : ℕ) (x : Expr) → i < length xs → x ≡ get_or xs i x → operand_names (plain_all (take (i + 1) xs))
    ≡ operand_names (plain_all (take i xs)) ++ names_read (plain x)
names-more = all-more names_read operand_names refl (λ t ts. refl)

pub ports-more : (xs : List Expr) (i : ℕ) (x : Expr) → i < length xs → x ≡ get_or xs i x → operand_ports (plain_all (take (i + 1) xs))
    ≡ operand_ports (plain_all (take i xs)) ++ ports_read (plain x)
ports-more = all-more ports_read operand_ports refl (λ t ts. refl)

-- what all reads are, on the lists
module _ (P Q : ℕ → Type 0) where
  mutual
    pub reads-lists : (t : Tree) → AllReads P Q t → All P (names_read t) × All Q (ports_read t)
    reads-lists (name n) h = (All-cons P n [] h (All-nil P), All-nil Q)
    reads-lists (part n high low) h = (All-cons P n [] h (All-nil P), All-nil Q)
    reads-lists (bits w) h = (All-nil P, All-nil Q)
    reads-lists (port n) h = (All-nil P, All-cons Q n [] h (All-nil Q))
    reads-lists (inverse t) h = reads-lists t h
    reads-lists (chain op ts) h = operands-lists ts h

    pub operands-lists : (ts : Trees) → AllOperandsRead P Q ts → All P (operand_names ts) × All Q (operand_ports ts)
    operands-lists none h = (All-nil P, All-nil Q)
    operands-lists (more t ts) h =
        let a = reads-lists t h.0 in
        let b = operands-lists ts h.1 in
        (All-append P (names_read t) (operand_names ts) a.0 b.0, All-append Q (ports_read t) (operand_ports ts) a.1 b.1)

module _ (P : ℕ → Type 0) where
  pub all-front : (xs ys : List ℕ) → All P (xs ++ ys) → All P xs
  all-front xs ys h = λ k d l. subst P (get_or_append_left xs ys d k l) (h k d (omega (arith, l, length-append xs ys)))

  pub all-back : (xs ys : List ℕ) → All P (xs ++ ys) → All P ys
  all-back xs ys h = λ k d l. subst P (get_or-append-add xs ys k d) (h (length xs + k) d (omega (arith, l, length-append xs ys)))

module _ (P Q : ℕ → Type 0) where
  mutual
    pub lists-reads : (t : Tree) → All P (names_read t) → All Q (ports_read t) → AllReads P Q t
    lists-reads (name n) h k = All-head P n [] h
    lists-reads (part n high low) h k = All-head P n [] h
    lists-reads (bits w) h k = tt
    lists-reads (port n) h k = All-head Q n [] k
    lists-reads (inverse t) h k = lists-reads t h k
    lists-reads (chain op ts) h k = lists-operands ts h k

    pub lists-operands : (ts : Trees) → All P (operand_names ts) → All Q (operand_ports ts) → AllOperandsRead P Q ts
    lists-operands none h k = tt
    lists-operands (more t ts) h k = (
      lists-reads t (all-front P (names_read t) (operand_names ts) h) (all-front Q (ports_read t) (operand_ports ts) k),
      lists-operands ts (all-back P (names_read t) (operand_names ts) h) (all-back Q (ports_read t) (operand_ports ts) k),
    )

mutual
  pub reads-contains : (r : ℕ) (t : Tree) → ReadsName r t → Contains (names_read t) r
  reads-contains r (name n) h = (0, omega arith, h)
  reads-contains r (part n high low) h = (0, omega arith, h)
  reads-contains r (bits w) h = absurd h
  reads-contains r (port n) h = absurd h
  reads-contains r (inverse t) h = reads-contains r t h
  reads-contains r (chain op ts) h = some-contains r ts h

  pub some-contains : (r : ℕ) (ts : Trees) → SomeOperandReads r ts → Contains (operand_names ts) r
  some-contains r none h = absurd h
  some-contains r (more t ts) h = elim h [
    | inl a ↦ Contains-append_left (names_read t) (operand_names ts) r (reads-contains r t a)
    | inr b ↦ Contains-append_right (names_read t) (operand_names ts) r (some-contains r ts b)
  ]

pub one_contains : (n r : ℕ) → Contains (n ∷ []) r → n ≡ r
one_contains n r (zero, l, e) = e
one_contains n r (suc k, l, e) = absurd (omega (arith, l))

mutual
  pub contains-reads : (r : ℕ) (t : Tree) → Contains (names_read t) r → ReadsName r t
  contains-reads r (name n) h = one_contains n r h
  contains-reads r (part n high low) h = one_contains n r h
  contains-reads r (bits w) h = absurd (omega (arith, h.1))
  contains-reads r (port n) h = absurd (omega (arith, h.1))
  contains-reads r (inverse t) h = contains-reads r t h
  contains-reads r (chain op ts) h = contains-some r ts h

  pub contains-some : (r : ℕ) (ts : Trees) → Contains (operand_names ts) r → SomeOperandReads r ts
  contains-some r none h = absurd (omega (arith, h.1))
  contains-some r (more t ts) h = elim (Contains-append_cases (names_read t) (operand_names ts) r h) [
    | inl a ↦ inl (contains-reads r t a)
    | inr b ↦ inr (contains-some r ts b)
  ]

pub all-names : (P : ℕ → Type 0) (xs : List ℕ) → ((x : ℕ) → P x) → All P xs
all-names P xs h = λ k d l. h (get_or xs k d)
