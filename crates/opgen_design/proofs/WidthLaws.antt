-- What the width of an expression says of it: what it reads, that it stays over longer lists, and how long its value is.
use Rattle.std.proofs.Common.{◌≡◌, ℕ, ◌+◌, ◌-◌, ◌<◌, ◌≤◌, Bool, true, false, List, [], ◌∷◌, length, map, drop, Option, Some, None, refl, ap, ◌∙◌, subst, arith}
use Rattle.std.specs.Prelude.{not, ◌&&◌, ◌||◌, slice_get, option_and_then, nat_le, nat_lt, nat_eq, if◌then◌else◌, IsSome}
use Rattle.std.proofs.lemmas.Bool.{cond-true, and_from, le-leb, ltb-true, leb-true, eqb-true, and_parts}
use Rattle.std.proofs.lemmas.List.{length-append, length-drop, length-map, length-take-le}
use Rattle.std.proofs.lemmas.Option.{slice_get_within, cond_some}
use Rattle.opgen_num.specs.declared.format.TheConstants.{MAX_WIDTH}
use Rattle.opgen_num.specs.Words.{xor, majority, pairwise, sum_with}
use Rattle.opgen_design.specs.declared.expr.Op.{Op}
use Rattle.opgen_design.specs.declared.expr.Op.TheVariants.{And, Or, Xor, Cat, Plus, Minus}
use Rattle.opgen_design.specs.Tree.{Tree, Trees, name, part, bits, port, inverse, chain, none, more}
use Rattle.opgen_design.specs.Value.{Scope, value, chain_value, value_on, cut, combined, IsWidth, as_width, joined, width, chain_width, width_on}
use Rattle.opgen_design.specs.Sound.{AllReads, AllOperandsRead}

pub length-pairwise : (f : Bool → Bool → Bool) (a b : List Bool) → length a ≡ length b → length (pairwise f a b) ≡ length a
length-pairwise f [] b h = refl
length-pairwise f (x ∷ a) [] h = absurd (omega (arith, h))
length-pairwise f (x ∷ a) (y ∷ b) h = omega (arith, length-pairwise f a b (omega (arith, h)))

pub length-sum_with : (k : Bool) (a b : List Bool) → length a ≡ length b → length (sum_with k a b) ≡ length a
length-sum_with k [] b h = refl
length-sum_with k (x ∷ a) [] h = absurd (omega (arith, h))
length-sum_with k (x ∷ a) (y ∷ b) h = omega (arith, length-sum_with (majority x y k) a b (omega (arith, h)))

pub length-cut : (high low : ℕ) (v : List Bool) → low ≤ high → high < length v → length (cut high low v) ≡ high + 1 - low
length-cut high low v l m = length-take-le (high + 1 - low) (drop low v) (omega (arith, length-drop low v, l, m))

-- a step that gave a width had one before
pub some_before : (o : Option ℕ) (f : ℕ → Option ℕ) (w : ℕ) → option_and_then f o ≡ Some w → (x : ℕ) × (o ≡ Some x) × (f x ≡ Some w)
some_before None f w h = absurd (cc)
some_before (Some x) f w h = (x, refl, h)

pub as_width-some : (x w : ℕ) → as_width x ≡ Some w → (x ≡ w) × IsWidth w
as_width-some x w h =
    let a = cond_some (nat_le 1 x && nat_le x MAX_WIDTH) x w h in
    let b = and_parts (nat_le 1 x) (nat_le x MAX_WIDTH) a.0 in
    (a.1, (omega (arith, leb-true 1 x b.0, a.1), omega (arith, leb-true x MAX_WIDTH b.1, a.1)))

pub as_width-of : (w : ℕ) → IsWidth w → as_width w ≡ Some w
as_width-of w h = cond-true (nat_le 1 w && nat_le w MAX_WIDTH) (Some w) None
    (and_from (nat_le 1 w) (nat_le w MAX_WIDTH) (le-leb 1 w h.0) (le-leb w MAX_WIDTH h.1))

-- a width that is there
pub some_width : (o : Option ℕ) → IsSome o → (w : ℕ) × (o ≡ Some w)
some_width None h = absurd (cc)
some_width (Some w) h = (w, refl)

pub equal_widths : (a b w : ℕ) → (if nat_eq a b then Some a else None) ≡ Some w → (a ≡ b) × (a ≡ w)
equal_widths a b w h = let s = cond_some (nat_eq a b) a w h in (eqb-true a b s.0, s.1)

-- two operands of widths that join, of which the first is the width of a signal
pub joined-is_width : (op : Op) (a b w : ℕ) → IsWidth a → joined op a b ≡ Some w → IsWidth w
joined-is_width And a b w h e = subst IsWidth (equal_widths a b w e).1 h
joined-is_width Or a b w h e = subst IsWidth (equal_widths a b w e).1 h
joined-is_width Xor a b w h e = subst IsWidth (equal_widths a b w e).1 h
joined-is_width Cat a b w h e = (as_width-some (a + b) w e).1
joined-is_width Plus a b w h e = subst IsWidth (equal_widths a b w e).1 h
joined-is_width Minus a b w h e = subst IsWidth (equal_widths a b w e).1 h

combined-width : (op : Op) (a b w : ℕ) (x y : List Bool) → length x ≡ a → length y ≡ b → joined op a b ≡ Some w → length (combined op x y)
    ≡ w
combined-width And a b w x y h k e = let s = equal_widths a b w e in length-pairwise ◌&&◌ x y (omega (arith, h, k, s.0)) ∙ h ∙ s.1
combined-width Or a b w x y h k e = let s = equal_widths a b w e in length-pairwise ◌||◌ x y (omega (arith, h, k, s.0)) ∙ h ∙ s.1
combined-width Xor a b w x y h k e = let s = equal_widths a b w e in length-pairwise xor x y (omega (arith, h, k, s.0)) ∙ h ∙ s.1
combined-width Cat a b w x y h k e = let s = as_width-some (a + b) w e in omega (arith, length-append y x, h, k, s.0)
combined-width Plus a b w x y h k e = let s = equal_widths a b w e in length-sum_with false x y (omega (arith, h, k, s.0)) ∙ h ∙ s.1
combined-width Minus a b w x y h k e =
    let s = equal_widths a b w e in
    length-sum_with true x (map not y) (omega (arith, h, k, s.0, length-map y not)) ∙ h ∙ s.1

-- the width of a part
abbrev width_of_part : (high low : ℕ) → ℕ → Option ℕ
width_of_part high low w = if nat_le low high && nat_lt high w then as_width (high + 1 - low) else None

pub record PartFits (high low w v : ℕ) : Type 0 where
  pub in_order : low ≤ high
  pub within : high < w
  pub width : high + 1 - low ≡ v
  pub is_width : IsWidth v

some_if_width : (b : Bool) (x w : ℕ) → (if b then as_width x else None) ≡ Some w → (b ≡ true) × (as_width x ≡ Some w)
some_if_width true x w h = (refl, h)
some_if_width false x w h = absurd (cc)

pub part_fits : (high low w v : ℕ) → (if nat_le low high && nat_lt high w then as_width (high + 1 - low) else None) ≡ Some v
    → PartFits high low w v
part_fits high low w v h =
    let a = some_if_width (nat_le low high && nat_lt high w) (high + 1 - low) v h in
    let b = and_parts (nat_le low high) (nat_lt high w) a.0 in
    let c = as_width-some (high + 1 - low) v a.1 in
    record { in_order = leb-true low high b.0; within = ltb-true high w b.1; width = c.0; is_width = c.1 }

module _ (ns ps : List ℕ) where
  mutual
    -- a width is the width of a signal
    pub width-is_width : (t : Tree) (w : ℕ) → width ns ps t ≡ Some w → IsWidth w
    width-is_width (name n) w h = let a = some_before (slice_get ns n) as_width w h in (as_width-some a.0 w a.2).1
    width-is_width (part n high low) w h =
        let a = some_before (slice_get ns n) (λ v. if nat_le low high && nat_lt high v then as_width (high + 1 - low) else None) w h in
        (part_fits high low a.0 w a.2).is_width
    width-is_width (bits v) w h = (as_width-some (length v) w h).1
    width-is_width (port n) w h = let a = some_before (slice_get ps n) as_width w h in (as_width-some a.0 w a.2).1
    width-is_width (inverse t) w h = width-is_width t w h
    width-is_width (chain op ts) w h = chain-is_width op ts w h

    chain-is_width : (op : Op) (ts : Trees) (w : ℕ) → chain_width ns ps op ts ≡ Some w → IsWidth w
    chain-is_width op none w h = absurd (cc)
    chain-is_width op (more t none) w h = absurd (cc)
    chain-is_width op (more t (more u ts)) w h =
        let a = some_before (width ns ps t) (λ x. width_on ns ps op x (more u ts)) w h in
        on-is_width op a.0 (more u ts) w (width-is_width t a.0 a.1) a.2

    on-is_width : (op : Op) (v : ℕ) (ts : Trees) (w : ℕ) → IsWidth v → width_on ns ps op v ts ≡ Some w → IsWidth w
    on-is_width op v none w k h = let same : v ≡ w = cc in subst IsWidth same k
    on-is_width op v (more t ts) w k h =
        let a = some_before (width ns ps t) (λ x. option_and_then (λ u. width_on ns ps op u ts) (joined op v x)) w h in
        let b = some_before (joined op v a.0) (λ u. width_on ns ps op u ts) w a.2 in
        on-is_width op b.0 ts w (joined-is_width op v a.0 b.0 k b.1) b.2

  mutual
    -- each name and port that is read is there
    pub width-reads : (t : Tree) (w : ℕ) → width ns ps t ≡ Some w → AllReads (λ r. r < length ns) (λ p. p < length ps) t
    width-reads (name n) w h = let a = some_before (slice_get ns n) as_width w h in slice_get_within ns n a.0 a.1
    width-reads (part n high low) w h =
        let a = some_before (slice_get ns n) (λ v. if nat_le low high && nat_lt high v then as_width (high + 1 - low) else None) w h in
        slice_get_within ns n a.0 a.1
    width-reads (bits v) w h = tt
    width-reads (port n) w h = let a = some_before (slice_get ps n) as_width w h in slice_get_within ps n a.0 a.1
    width-reads (inverse t) w h = width-reads t w h
    width-reads (chain op ts) w h = chain-reads op ts w h

    chain-reads : (op : Op) (ts : Trees) (w : ℕ) → chain_width ns ps op ts ≡ Some w
        → AllOperandsRead (λ r. r < length ns) (λ p. p < length ps) ts
    chain-reads op none w h = absurd (cc)
    chain-reads op (more t none) w h = absurd (cc)
    chain-reads op (more t (more u ts)) w h =
        let a = some_before (width ns ps t) (λ x. width_on ns ps op x (more u ts)) w h in
        (width-reads t a.0 a.1, on-reads op a.0 (more u ts) w a.2)

    on-reads : (op : Op) (v : ℕ) (ts : Trees) (w : ℕ) → width_on ns ps op v ts ≡ Some w
        → AllOperandsRead (λ r. r < length ns) (λ p. p < length ps) ts
    on-reads op v none w h = tt
    on-reads op v (more t ts) w h =
        let a = some_before (width ns ps t) (λ x. option_and_then (λ u. width_on ns ps op u ts) (joined op v x)) w h in
        let b = some_before (joined op v a.0) (λ u. width_on ns ps op u ts) w a.2 in
        (width-reads t a.0 a.1, on-reads op b.0 ts w b.2)

-- over lists that have the same widths at the same places
module _ (ns ps ms qs : List ℕ) (names : (n w : ℕ) → slice_get ns n ≡ Some w → slice_get ms n ≡ Some w)
    (ports : (n w : ℕ) → slice_get ps n ≡ Some w → slice_get qs n ≡ Some w) where
  mutual
    pub width-kept : (t : Tree) (w : ℕ) → width ns ps t ≡ Some w → width ms qs t ≡ Some w
    width-kept (name n) w h =
        let a = some_before (slice_get ns n) as_width w h in
        ap (option_and_then as_width) (names n a.0 a.1) ∙ a.2
    width-kept (part n high low) w h =
        let f : ℕ → Option ℕ = λ v. if nat_le low high && nat_lt high v then as_width (high + 1 - low) else None in
        let a = some_before (slice_get ns n) f w h in
        ap (option_and_then f) (names n a.0 a.1) ∙ a.2
    width-kept (bits v) w h = h
    width-kept (port n) w h =
        let a = some_before (slice_get ps n) as_width w h in
        ap (option_and_then as_width) (ports n a.0 a.1) ∙ a.2
    width-kept (inverse t) w h = width-kept t w h
    width-kept (chain op ts) w h = chain-kept op ts w h

    chain-kept : (op : Op) (ts : Trees) (w : ℕ) → chain_width ns ps op ts ≡ Some w → chain_width ms qs op ts ≡ Some w
    chain-kept op none w h = absurd (cc)
    chain-kept op (more t none) w h = absurd (cc)
    chain-kept op (more t (more u ts)) w h =
        let a = some_before (width ns ps t) (λ x. width_on ns ps op x (more u ts)) w h in
        ap (option_and_then (λ x. width_on ms qs op x (more u ts))) (width-kept t a.0 a.1) ∙ on-kept op a.0 (more u ts) w a.2

    on-kept : (op : Op) (v : ℕ) (ts : Trees) (w : ℕ) → width_on ns ps op v ts ≡ Some w → width_on ms qs op v ts ≡ Some w
    on-kept op v none w h = h
    on-kept op v (more t ts) w h =
        let a = some_before (width ns ps t) (λ x. option_and_then (λ u. width_on ns ps op u ts) (joined op v x)) w h in
        let b = some_before (joined op v a.0) (λ u. width_on ns ps op u ts) w a.2 in
        ap (option_and_then (λ x. option_and_then (λ u. width_on ms qs op u ts) (joined op v x))) (width-kept t a.0 a.1)
        ∙ ap (option_and_then (λ u. width_on ms qs op u ts)) b.1
        ∙ on-kept op b.0 ts w b.2

-- the value of an expression has its width
module _ (ns ps : List ℕ) (s : Scope) (names : (n w : ℕ) → slice_get ns n ≡ Some w → length (s.names n) ≡ w)
    (ports : (n w : ℕ) → slice_get ps n ≡ Some w → length (s.ports n) ≡ w) where
  mutual
    pub value-width : (t : Tree) (w : ℕ) → width ns ps t ≡ Some w → length (value s t) ≡ w
    value-width (name n) w h =
        let a = some_before (slice_get ns n) as_width w h in
        names n a.0 a.1 ∙ (as_width-some a.0 w a.2).0
    value-width (part n high low) w h =
        let a = some_before (slice_get ns n) (λ v. if nat_le low high && nat_lt high v then as_width (high + 1 - low) else None) w h in
        let b = part_fits high low a.0 w a.2 in
        length-cut high low (s.names n) b.in_order (omega (arith, b.within, names n a.0 a.1)) ∙ b.width
    value-width (bits v) w h = (as_width-some (length v) w h).0
    value-width (port n) w h =
        let a = some_before (slice_get ps n) as_width w h in
        ports n a.0 a.1 ∙ (as_width-some a.0 w a.2).0
    value-width (inverse t) w h = length-map (value s t) not ∙ value-width t w h
    value-width (chain op ts) w h = chain-width op ts w h

    chain-width : (op : Op) (ts : Trees) (w : ℕ) → chain_width ns ps op ts ≡ Some w → length (chain_value s op ts) ≡ w
    chain-width op none w h = absurd (cc)
    chain-width op (more t none) w h = absurd (cc)
    chain-width op (more t (more u ts)) w h =
        let a = some_before (width ns ps t) (λ x. width_on ns ps op x (more u ts)) w h in
        on-width op (value s t) a.0 (more u ts) w (value-width t a.0 a.1) a.2

    on-width : (op : Op) (x : List Bool) (v : ℕ) (ts : Trees) (w : ℕ) → length x ≡ v → width_on ns ps op v ts ≡ Some w
        → length (value_on s op x ts) ≡ w
    on-width op x v none w e h = let same : v ≡ w = cc in e ∙ same
    on-width op x v (more t ts) w e h =
        let a = some_before (width ns ps t) (λ y. option_and_then (λ u. width_on ns ps op u ts) (joined op v y)) w h in
        let b = some_before (joined op v a.0) (λ u. width_on ns ps op u ts) w a.2 in
        on-width op (combined op x (value s t)) b.0 ts w (combined-width op v a.0 b.0 x (value s t) e (value-width t a.0 a.1) b.1) b.2
