-- One step of a loop over the nodes of a net, or over the copies of a node.
use Rattle.std.proofs.Common.{◌≡◌, ℕ, ◌+◌, ◌<◌, ◌≤◌, Bool, true, false, List, [], ◌∷◌, ◌++◌, length, map, get_or, take, drop, refl, sym, ap, ◌∙◌, arith}
use Rattle.std.specs.Prelude.{not, cond, filter}
use Rattle.std.specs.List.{range_with_len}
use Rattle.std.proofs.lemmas.List.{length-drop, map_more, append-nil, append_assoc}
use Rattle.std.proofs.lemmas.List.Elements.{filter-append}
use Rattle.std.proofs.lemmas.List.FromFn.{map-range_with_len_more}
use Rattle.opgen_design.specs.declared.design.Driver.{Driver}
use Rattle.opgen_design.specs.Order.{is_register}
use Rattle.opgen_net.specs.declared.node.Node.{Node}
use Rattle.opgen_net.specs.declared.node.Node.TheVariants.{Input, Constant, Cells, Choice, Table, Delay}
use Rattle.opgen_net.specs.Made.{addressed}
use Rattle.opgen_net.specs.Valid.{is_delay}
use Rattle.opgen_pipe.specs.declared.standing.Standing.{Standing}
use Rattle.opgen_pipe.specs.Pipelined.{all_of, own_driver, copy_register}
pub use Rattle.opgen_schedule.proofs.Passes.{drop-item}

-- an item more of a list made from a function
pub range-more : {X : Type 0} (f : ℕ → X) (a n j : ℕ) (old now : List X) (x : X) → now ≡ old ++ map f (range_with_len a n) → a + n ≡ j → x
    ≡ f j
    → now ++ x ∷ [] ≡ old ++ map f (range_with_len a (n + 1))
range-more f a n j old now x e p is =
    ap (λ xs. xs ++ x ∷ []) e
    ∙ append_assoc old (map f (range_with_len a n)) (x ∷ [])
    ∙ ap (λ y. old ++ (map f (range_with_len a n) ++ y ∷ [])) is
    ∙ ap (λ xs. old ++ xs) (sym (map-range_with_len_more f a n j p))

-- the value of an item more
pub mapped-more : {X Y : Type 0} (f : X → Y) (xs : List X) (i : ℕ) (x : X) (old now next : List Y) (y : Y) → i < length xs
    → x ≡ get_or xs i x → y ≡ f x → now ≡ old ++ map f (take i xs) → next ≡ now ++ y ∷ [] → next ≡ old ++ map f (take (i + 1) xs)
mapped-more f xs i x old now next y l e is before after =
    let front = map f (take i xs) in
    after ∙ ap (λ ys. ys ++ y ∷ []) before ∙ append_assoc old front (y ∷ [])
    ∙ ap (λ z. old ++ (front ++ z ∷ [])) (is ∙ ap f e)
    ∙ ap (λ ys. old ++ ys) (sym (map_more f xs i x l))

module _ {X : Type 0} (f : ℕ → Node → List X) where
  pub all-at : (ns : List Node) (i : ℕ) (n : Node) → i < length ns → n ≡ get_or ns i n → all_of f i (drop i ns)
      ≡ f i n ++ all_of f (i + 1) (drop (i + 1) ns)
  all-at ns i n l e = ap (all_of f i) (drop-item ns i n l e)

  -- the items of a node more
  pub all-more : (ns : List Node) (i : ℕ) (n : Node) (now next : List X) → i < length ns → n ≡ get_or ns i n → next ≡ now ++ f i n
      → next ++ all_of f (i + 1) (drop (i + 1) ns) ≡ now ++ all_of f i (drop i ns)
  all-more ns i n now next l e is =
      ap (λ xs. xs ++ all_of f (i + 1) (drop (i + 1) ns)) is
      ∙ append_assoc now (f i n) (all_of f (i + 1) (drop (i + 1) ns))
      ∙ ap (λ xs. now ++ xs) (sym (all-at ns i n l e))

  -- and those of them that pass
  pub passing-more : (p : X → Bool) (ns : List Node) (i : ℕ) (n : Node) (now next : List X) → i < length ns → n ≡ get_or ns i n → next
      ≡ now ++ filter p (f i n)
      → next ++ filter p (all_of f (i + 1) (drop (i + 1) ns)) ≡ now ++ filter p (all_of f i (drop i ns))
  passing-more p ns i n now next l e is =
      let rest = all_of f (i + 1) (drop (i + 1) ns) in
      ap (λ xs. xs ++ filter p rest) is
      ∙ append_assoc now (filter p (f i n)) (filter p rest)
      ∙ ap (λ xs. now ++ xs) (sym (filter-append p (f i n) rest))
      ∙ ap (λ xs. now ++ filter p xs) (sym (all-at ns i n l e))

no_plain_copies : (o : Standing) (ks : List ℕ) → filter (λ k. not (is_register k)) (map (copy_register o) ks) ≡ []
no_plain_copies o [] = refl
no_plain_copies o (k ∷ ks) = no_plain_copies o ks

all_copies : (o : Standing) (ks : List ℕ) → filter is_register (map (copy_register o) ks) ≡ map (copy_register o) ks
all_copies o [] = refl
all_copies o (k ∷ ks) = ap (λ xs. copy_register o k ∷ xs) (all_copies o ks)

module _ (first : ℕ) (ps : List Standing) (o : Standing) where
  pub own-register : (n : Node) → is_register (own_driver first ps o n) ≡ is_delay n
  own-register (Input port w) = refl
  own-register (Constant w) = refl
  own-register (Cells class w e) = refl
  own-register (Choice on one other) = refl
  own-register (Table address rows) = refl
  own-register (Delay of) = refl

  abbrev items : Node → List Driver
  items n = own_driver first ps o n ∷ map (copy_register o) (range_with_len 0 o.copies)

  pub plain-own : (n : Node) → is_delay n ≡ false
      → filter (λ k. not (is_register k)) (own_driver first ps o n ∷ map (copy_register o) (range_with_len 0 o.copies))
      ≡ own_driver first ps o n ∷ []
  plain-own n h =
      let rest = filter (λ k. not (is_register k)) (map (copy_register o) (range_with_len 0 o.copies)) in
      ap (λ b. cond (not b) (own_driver first ps o n ∷ rest) rest) (own-register n ∙ h)
      ∙ ap (λ xs. own_driver first ps o n ∷ xs) (no_plain_copies o (range_with_len 0 o.copies))

  pub plain-delay : (n : Node) → is_delay n ≡ true
      → filter (λ k. not (is_register k)) (own_driver first ps o n ∷ map (copy_register o) (range_with_len 0 o.copies)) ≡ []
  plain-delay n h =
      let rest = filter (λ k. not (is_register k)) (map (copy_register o) (range_with_len 0 o.copies)) in
      ap (λ b. cond (not b) (own_driver first ps o n ∷ rest) rest) (own-register n ∙ h) ∙ no_plain_copies o (range_with_len 0 o.copies)

  pub register-own : (n : Node) → is_delay n ≡ false
      → filter is_register (own_driver first ps o n ∷ map (copy_register o) (range_with_len 0 o.copies))
      ≡ map (copy_register o) (range_with_len 0 o.copies)
  register-own n h =
      let rest = filter is_register (map (copy_register o) (range_with_len 0 o.copies)) in
      ap (λ b. cond b (own_driver first ps o n ∷ rest) rest) (own-register n ∙ h) ∙ all_copies o (range_with_len 0 o.copies)

  pub register-delay : (n : Node) → is_delay n ≡ true
      → filter is_register (own_driver first ps o n ∷ map (copy_register o) (range_with_len 0 o.copies))
      ≡ own_driver first ps o n ∷ map (copy_register o) (range_with_len 0 o.copies)
  register-delay n h =
      let rest = filter is_register (map (copy_register o) (range_with_len 0 o.copies)) in
      ap (λ b. cond b (own_driver first ps o n ∷ rest) rest) (own-register n ∙ h)
      ∙ ap (λ xs. own_driver first ps o n ∷ xs) (all_copies o (range_with_len 0 o.copies))

pub addressed_end : (w : ℕ) (done : List (List Bool × List Bool)) (rows : List (List Bool)) (a : ℕ) → length rows ≤ a + 1
    → done ++ addressed w a (drop a rows) ≡ done
addressed_end w done rows a l = ap (λ xs. done ++ xs) (go rows a l) ∙ append-nil done
  where
    go : (rows : List (List Bool)) (a : ℕ) → length rows ≤ a + 1 → addressed w a (drop a rows) ≡ []
    go rows a l = short (drop a rows) a (omega (arith, l, length-drop a rows))
      where
        short : (xs : List (List Bool)) (a : ℕ) → length xs ≤ 1 → addressed w a xs ≡ []
        short [] a h = refl
        short (x ∷ []) a h = refl
        short (x ∷ y ∷ xs) a h = absurd (omega (arith, h))
