-- Runs of steps.
use Rattle.std.proofs.Common.{◌≡◌, ℕ, zero, suc, ◌+◌, ◌-◌, ◌*◌, ◌/◌, ◌%◌, ◌^◌, ◌<◌, ◌≤◌, List, [], ◌∷◌, ◌++◌, length, get_or, take, drop, Some, refl, sym, ap, ◌∙◌, subst, arith, length-append}
use Rattle.std.specs.Prelude.{bit_and, bit_or, bit_xor, if◌then◌else◌, nat_eq, slice_get}
use Rattle.std.proofs.lemmas.Nat.{and_le_r}
use Rattle.std.proofs.Math.ListN.{set}
use Rattle.std.proofs.Math.Seq.{get_or-append_seam}
use Rattle.std.proofs.lemmas.List.{get_or-take, get_or_append_left, take_more_set, drop_more}
use Rattle.opgen_machine.specs.declared.step.Step.{Step}
use Rattle.opgen_machine.specs.declared.step.Step.TheVariants.{Constant, Copy, Choose, Look, Turn, Both, Either, Differ, Add, Subtract, Part, Join}
use Rattle.opgen_machine.specs.Steps.{act, Reads, AreFine, exec}

-- a step reads what stands in the places that it names
module _ (n : ℕ) (m k : List ℕ) (same : (i : ℕ) → i < n → get_or m i 0 ≡ get_or k i 0) where
  two : (f : ℕ → ℕ → ℕ) (a b : ℕ) → a < n → b < n → f (get_or m a 0) (get_or m b 0) ≡ f (get_or k a 0) (get_or k b 0)
  two f a b h g = ap (λ x. f x (get_or m b 0)) (same a h) ∙ ap (f (get_or k a 0)) (same b g)

  pub act-same : (s : Step) → Reads n s → act s m ≡ act s k
  act-same (Constant c) h = refl
  act-same (Copy of) h = same of h
  act-same (Choose on one other) h =
      ap (λ x. if nat_eq x 1 then get_or m one 0 else get_or m other 0) (same on h.0)
      ∙ ap (λ x. if nat_eq (get_or k on 0) 1 then x else get_or m other 0) (same one h.1)
      ∙ ap (λ x. if nat_eq (get_or k on 0) 1 then get_or k one 0 else x) (same other h.2)
  act-same (Look from on mask) h =
      ap (λ x. get_or m (from + bit_and x mask) 0) (same on h.0)
      ∙ same (from + bit_and (get_or k on 0) mask) (omega (arith, and_le_r (get_or k on 0) mask, h.1))
  act-same (Turn of mask) h = ap (λ x. (mask + (2 ^ 64 - x)) % 2 ^ 64) (same of h)
  act-same (Both a b) h = two bit_and a b h.0 h.1
  act-same (Either a b) h = two bit_or a b h.0 h.1
  act-same (Differ a b) h = two bit_xor a b h.0 h.1
  act-same (Add a b mask) h = two (λ x y. bit_and ((x + y) % 2 ^ 64) mask) a b h.0 h.1
  act-same (Subtract a b mask) h = two (λ x y. bit_and ((x + (2 ^ 64 - y)) % 2 ^ 64) mask) a b h.0 h.1
  act-same (Part of low mask) h = ap (λ x. bit_and (x / 2 ^ low) mask) (same of h.0)
  act-same (Join high low shift) h = two (λ x y. bit_or (x * 2 ^ shift % 2 ^ 64) y) high low h.0 h.1

pub reads-more : (n k : ℕ) → n ≤ k → (s : Step) → Reads n s → Reads k s
reads-more n k l (Constant c) h = tt
reads-more n k l (Copy of) h = omega (arith, h, l)
reads-more n k l (Look from on mask) h = (omega (arith, h.0, l), omega (arith, h.1, l))
reads-more n k l (Choose on one other) h = (omega (arith, h.0, l), omega (arith, h.1, l), omega (arith, h.2, l))
reads-more n k l (Turn of mask) h = omega (arith, h, l)
reads-more n k l (Both a b) h = (omega (arith, h.0, l), omega (arith, h.1, l))
reads-more n k l (Either a b) h = (omega (arith, h.0, l), omega (arith, h.1, l))
reads-more n k l (Differ a b) h = (omega (arith, h.0, l), omega (arith, h.1, l))
reads-more n k l (Add a b mask) h = (omega (arith, h.0, l), omega (arith, h.1, l))
reads-more n k l (Subtract a b mask) h = (omega (arith, h.0, l), omega (arith, h.1, l))
reads-more n k l (Part of low mask) h = (omega (arith, h.0, l), h.1)
reads-more n k l (Join high low shift) h = (omega (arith, h.0, l), omega (arith, h.1, l), h.2)

pub fine-at : (n : ℕ) (ss : List Step) (i : ℕ) (s : Step) → AreFine n ss → i < length ss → Reads (n + i) (get_or ss i s)
fine-at n [] i s h l = absurd (omega (arith, l))
fine-at n (x ∷ ss) zero s h l = let e : n ≡ n + 0 = omega arith in subst (λ k. Reads k x) e h.0
fine-at n (x ∷ ss) (suc i) s h l =
    let e : n + 1 + i ≡ n + suc i = omega arith in
    subst (λ k. Reads k (get_or ss i s)) e (fine-at (n + 1) ss i s h.1 (omega (arith, l)))

pub fine-append : (n : ℕ) (ss : List Step) (s : Step) → AreFine n ss → Reads (n + length ss) s → AreFine n (ss ++ s ∷ [])
fine-append n [] s h r = let e : n + 0 ≡ n = omega arith in (subst (λ k. Reads k s) e r, tt)
fine-append n (x ∷ ss) s h r =
    let e : n + length (x ∷ ss) ≡ n + 1 + length ss = omega arith in
    (h.0, fine-append (n + 1) ss s h.1 (subst (λ k. Reads k s) e r))

pub exec-append : (a b : List Step) (m : List ℕ) → exec (a ++ b) m ≡ exec b (exec a m)
exec-append [] b m = refl
exec-append (s ∷ a) b m = exec-append a b (m ++ act s m ∷ [])

pub exec-length : (ss : List Step) (m : List ℕ) → length (exec ss m) ≡ length m + length ss
exec-length [] m = omega arith
exec-length (s ∷ ss) m = omega (arith, exec-length ss (m ++ act s m ∷ []), length-append m (act s m ∷ []))

-- what stands before a run stays
pub exec-kept : (ss : List Step) (m : List ℕ) (i : ℕ) → i < length m → get_or (exec ss m) i 0 ≡ get_or m i 0
exec-kept [] m i h = refl
exec-kept (s ∷ ss) m i h =
    exec-kept ss (m ++ act s m ∷ []) i (omega (arith, length-append m (act s m ∷ []), h)) ∙ get_or_append_left m (act s m ∷ []) 0 i h

-- the number of one more step stands last
pub exec-last : (ss : List Step) (s : Step) (m : List ℕ) → get_or (exec (ss ++ s ∷ []) m) (length m + length ss) 0 ≡ act s (exec ss m)
exec-last ss s m =
    ap (λ l. get_or l (length m + length ss) 0) (exec-append ss (s ∷ []) m)
    ∙ ap (λ n. get_or (exec ss m ++ act s (exec ss m) ∷ []) n 0) (sym (exec-length ss m))
    ∙ get_or-append_seam (exec ss m) (act s (exec ss m)) [] 0

-- one turn of the loop: the number goes to the next place of the whole list
pub turn : (ss : List Step) (d : Step) (from i : ℕ) (m : List ℕ) (x : ℕ) → i < length ss → AreFine from ss → length m ≡ from + length ss
    → x ≡ act (get_or ss i d) m → exec (drop (i + 1) ss) (take (from + (i + 1)) (set m (from + i) x)) ≡ exec (drop i ss)
    (take (from + i) m)
turn ss d from i m x l fine room is =
    let s = get_or ss i d in
    let within : from + i < length m = omega (arith, l, room) in
    let reads : Reads (from + i) s = fine-at from ss i d fine l in
    let same : act s m ≡ act s (take (from + i) m) = act-same (from + i) m (take (from + i) m)
    (λ k h. sym (get_or-take (from + i) m k 0 h)) s reads in
    let n : from + (i + 1) ≡ from + i + 1 = omega arith in
    ap (λ k. exec (drop (i + 1) ss) (take k (set m (from + i) x))) n
    ∙ ap (exec (drop (i + 1) ss)) (take_more_set m (from + i) x within)
    ∙ ap (λ y. exec (drop (i + 1) ss) (take (from + i) m ++ y ∷ [])) (is ∙ same)
    ∙ sym (ap (λ l. exec l (take (from + i) m)) (drop_more ss i d l))

-- the number of a step stands at its place
pub exec-at : (ss : List Step) (m : List ℕ) (i : ℕ) (s : Step) → AreFine (length m) ss → slice_get ss i ≡ Some s
    → get_or (exec ss m) (length m + i) 0 ≡ act s (exec ss m)
exec-at [] m i s fine e = absurd (cc)
exec-at (x ∷ ss) m zero s fine e =
    let same : x ≡ s = cc in
    let more = m ++ act x m ∷ [] in
    let n : length m < length more = omega (arith, length-append m (act x m ∷ [])) in
    let at : length m + 0 ≡ length m = omega arith in
    ap (λ k. get_or (exec ss more) k 0) at
    ∙ exec-kept ss more (length m) n
    ∙ get_or-append_seam m (act x m) [] 0
    ∙ act-same (length m) m (exec ss more)
    (λ k l. sym (exec-kept ss more k (omega (arith, l, n)) ∙ get_or_append_left m (act x m ∷ []) 0 k l)) x fine.0
    ∙ ap (λ y. act y (exec ss more)) same
exec-at (x ∷ ss) m (suc i) s fine e =
    let more = m ++ act x m ∷ [] in
    let n : length m + 1 ≡ length more = omega (arith, length-append m (act x m ∷ [])) in
    let at : length m + suc i ≡ length more + i = omega (arith, n) in
    ap (λ k. get_or (exec ss more) k 0) at ∙ exec-at ss more i s (subst (λ k. AreFine k ss) n fine.1) e
