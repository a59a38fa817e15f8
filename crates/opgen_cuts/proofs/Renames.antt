-- Expressions over other nodes have the values, the widths, the nesting and the class that they had.
use Rattle.std.proofs.Common.{◌≡◌, ℕ, zero, suc, ◌+◌, ◌-◌, max, Bool, List, [], ◌∷◌, ◌++◌, map, Option, Some, None, refl, sym, ap, ◌∙◌, subst, arith}
use Rattle.std.specs.Prelude.{All, Contains, IsTrue, not, ◌&&◌, nat_le, nat_lt, if◌then◌else◌, option_and_then, slice_get, slice_index}
use Rattle.std.proofs.lemmas.List.{get_or-map, length-map, map-append}
use Rattle.std.proofs.lemmas.List.Elements.{All-map, All-weaker}
use Rattle.opgen_design.specs.declared.expr.Op.{Op}
use Rattle.opgen_design.specs.declared.expr.Op.TheVariants.{And, Or, Xor, Cat, Plus, Minus}
use Rattle.opgen_design.specs.Sound.{AllReads, AllOperandsRead}
use Rattle.opgen_design.specs.Tree.{Tree, Trees, name, part, bits, port, inverse, chain, none, more}
use Rattle.opgen_design.specs.Value.{Scope, cut, combined, value, chain_value, value_on, as_width, joined, width, chain_width, width_on, in_chain, in_not, nesting, operands_nesting}
use Rattle.opgen_design.proofs.WidthLaws.{some_before}
use Rattle.opgen_net.specs.Cells.{Bit, bits_up, both, both_by, gates_of, reads, chain_reads, reads_on, AreFew, IsLogic, is_bitwise, are_bitwise, levels, operand_levels}
use Rattle.opgen_cuts.specs.Renamed.{renamed, renamed_all}

-- any port may be read: none is
abbrev pub AnyPort : ℕ → Type 0
AnyPort _ = Unit {0}

-- the words of nodes, without ports
abbrev pub words_at : (ℕ → List Bool) → Scope
words_at f = record { names = f; ports = λ n. [] }

module _ (ps : List ℕ) where
  abbrev at : ℕ → ℕ
  at n = slice_index ps n

  -- the values: each place has the word of its node
  module _ (now was : ℕ → List Bool) where
    abbrev HasWord : ℕ → Type 0
    HasWord n = now (at n) ≡ was n

    mutual
      pub renamed-value : (t : Tree) → AllReads HasWord AnyPort t → value (words_at now) (renamed ps t) ≡ value (words_at was) t
      renamed-value (name n) h = h
      renamed-value (part n high low) h = ap (cut high low) h
      renamed-value (bits w) h = refl
      renamed-value (port p) h = refl
      renamed-value (inverse t) h = ap (map not) (renamed-value t h)
      renamed-value (chain op ts) h = chain-value op ts h

      chain-value : (op : Op) (ts : Trees) → AllOperandsRead HasWord AnyPort ts
          → chain_value (words_at now) op (renamed_all ps ts) ≡ chain_value (words_at was) op ts
      chain-value op none h = refl
      chain-value op (more t ts) h =
          ap (λ w. value_on (words_at now) op w (renamed_all ps ts)) (renamed-value t h.0) ∙ on-value op (value (words_at was) t) ts h.1

      on-value : (op : Op) (w : List Bool) (ts : Trees) → AllOperandsRead HasWord AnyPort ts
          → value_on (words_at now) op w (renamed_all ps ts) ≡ value_on (words_at was) op w ts
      on-value op w none h = refl
      on-value op w (more t ts) h =
          ap (λ v. value_on (words_at now) op (combined op w v) (renamed_all ps ts)) (renamed-value t h.0)
          ∙ on-value op (combined op w (value (words_at was) t)) ts h.1

  -- the widths: each place has the width of its node
  module _ (now was : List ℕ) where
    abbrev HasWidth : ℕ → Type 0
    HasWidth n = (w : ℕ) → slice_get was n ≡ Some w → slice_get now (at n) ≡ Some w

    mutual
      pub renamed-width : (t : Tree) (w : ℕ) → AllReads HasWidth AnyPort t → width was [] t ≡ Some w → width now [] (renamed ps t) ≡ Some w
      renamed-width (name n) w h e =
          let a = some_before (slice_get was n) as_width w e in
          ap (option_and_then as_width) (h a.0 a.1) ∙ a.2
      renamed-width (part n high low) w h e =
          let f : ℕ → Option ℕ = λ v. if nat_le low high && nat_lt high v then as_width (high + 1 - low) else None in
          let a = some_before (slice_get was n) f w e in
          ap (option_and_then f) (h a.0 a.1) ∙ a.2
      renamed-width (bits v) w h e = e
      renamed-width (port p) w h e = e
      renamed-width (inverse t) w h e = renamed-width t w h e
      renamed-width (chain op ts) w h e = chain-width op ts w h e

      chain-width : (op : Op) (ts : Trees) (w : ℕ) → AllOperandsRead HasWidth AnyPort ts → chain_width was [] op ts ≡ Some w
          → chain_width now [] op (renamed_all ps ts) ≡ Some w
      chain-width op none w h e = absurd (cc)
      chain-width op (more t none) w h e = absurd (cc)
      chain-width op (more t (more u ts)) w h e =
          let a = some_before (width was [] t) (λ x. width_on was [] op x (more u ts)) w e in
          ap (option_and_then (λ x. width_on now [] op x (renamed_all ps (more u ts)))) (renamed-width t a.0 h.0 a.1)
          ∙ on-width op a.0 (more u ts) w h.1 a.2

      on-width : (op : Op) (v : ℕ) (ts : Trees) (w : ℕ) → AllOperandsRead HasWidth AnyPort ts → width_on was [] op v ts ≡ Some w
          → width_on now [] op v (renamed_all ps ts) ≡ Some w
      on-width op v none w h e = e
      on-width op v (more t ts) w h e =
          let a = some_before (width was [] t) (λ x. option_and_then (λ u. width_on was [] op u ts) (joined op v x)) w e in
          let b = some_before (joined op v a.0) (λ u. width_on was [] op u ts) w a.2 in
          ap (option_and_then (λ x. option_and_then (λ u. width_on now [] op u (renamed_all ps ts)) (joined op v x)))
          (renamed-width t a.0 h.0 a.1)
          ∙ ap (option_and_then (λ u. width_on now [] op u (renamed_all ps ts))) b.1
          ∙ on-width op b.0 ts w h.1 b.2

  -- the shape is the same
  renamed-in_chain : (t : Tree) → in_chain (renamed ps t) ≡ in_chain t
  renamed-in_chain (name n) = refl
  renamed-in_chain (part n high low) = refl
  renamed-in_chain (bits w) = refl
  renamed-in_chain (port p) = refl
  renamed-in_chain (inverse t) = refl
  renamed-in_chain (chain op ts) = refl

  renamed-in_not : (t : Tree) → in_not (renamed ps t) ≡ in_not t
  renamed-in_not (name n) = refl
  renamed-in_not (part n high low) = refl
  renamed-in_not (bits w) = refl
  renamed-in_not (port p) = refl
  renamed-in_not (inverse t) = refl
  renamed-in_not (chain op ts) = refl

  mutual
    pub renamed-nesting : (t : Tree) → nesting (renamed ps t) ≡ nesting t
    renamed-nesting (name n) = refl
    renamed-nesting (part n high low) = refl
    renamed-nesting (bits w) = refl
    renamed-nesting (port p) = refl
    renamed-nesting (inverse t) = ap (λ k. k + nesting (renamed ps t)) (renamed-in_not t) ∙ ap (λ k. in_not t + k) (renamed-nesting t)
    renamed-nesting (chain op ts) = operands-nesting ts

    operands-nesting : (ts : Trees) → operands_nesting (renamed_all ps ts) ≡ operands_nesting ts
    operands-nesting none = refl
    operands-nesting (more t ts) =
        ap (λ k. max (k + nesting (renamed ps t)) (operands_nesting (renamed_all ps ts))) (renamed-in_chain t)
        ∙ ap (λ k. max (in_chain t + k) (operands_nesting (renamed_all ps ts))) (renamed-nesting t)
        ∙ ap (λ k. max (in_chain t + nesting t) k) (operands-nesting ts)

  mutual
    renamed-bitwise : (t : Tree) → is_bitwise (renamed ps t) ≡ is_bitwise t
    renamed-bitwise (name n) = refl
    renamed-bitwise (part n high low) = refl
    renamed-bitwise (bits w) = refl
    renamed-bitwise (port p) = refl
    renamed-bitwise (inverse t) = renamed-bitwise t
    renamed-bitwise (chain And ts) = operands-bitwise ts
    renamed-bitwise (chain Or ts) = operands-bitwise ts
    renamed-bitwise (chain Xor ts) = operands-bitwise ts
    renamed-bitwise (chain Cat ts) = operands-bitwise ts
    renamed-bitwise (chain Plus ts) = refl
    renamed-bitwise (chain Minus ts) = refl

    operands-bitwise : (ts : Trees) → are_bitwise (renamed_all ps ts) ≡ are_bitwise ts
    operands-bitwise none = refl
    operands-bitwise (more t ts) =
        ap (λ c. c && are_bitwise (renamed_all ps ts)) (renamed-bitwise t) ∙ ap (λ c. is_bitwise t && c) (operands-bitwise ts)

  mutual
    renamed-levels : (t : Tree) → levels (renamed ps t) ≡ levels t
    renamed-levels (name n) = refl
    renamed-levels (part n high low) = refl
    renamed-levels (bits w) = refl
    renamed-levels (port p) = refl
    renamed-levels (inverse t) = renamed-levels t
    renamed-levels (chain op ts) = ap (λ k. gates_of op + k) (operands-levels ts)

    operands-levels : (ts : Trees) → operand_levels (renamed_all ps ts) ≡ operand_levels ts
    operands-levels none = refl
    operands-levels (more t ts) =
        ap (λ k. max k (operand_levels (renamed_all ps ts))) (renamed-levels t) ∙ ap (λ k. max (levels t) k) (operands-levels ts)

  -- the bits that are read are those of the places
  abbrev moved : Bit → Bit
  moved b = (at b.0, b.1)

  abbrev all_moved : List (List Bit) → List (List Bit)
  all_moved = map (map moved)

  up-moved : (n low count : ℕ) → bits_up (at n) low count ≡ all_moved (bits_up n low count)
  up-moved n low zero = refl
  up-moved n low (suc k) = ap (λ r. ((at n, low) ∷ []) ∷ r) (up-moved n (suc low) k)

  none-moved : (w : List Bool) → map (λ b. []) w ≡ all_moved (map (λ b. []) w)
  none-moved [] = refl
  none-moved (b ∷ w) = ap (λ r. [] ∷ r) (none-moved w)

  both-moved : (a b : List (List Bit)) → both (all_moved a) (all_moved b) ≡ all_moved (both a b)
  both-moved [] b = refl
  both-moved (x ∷ a) [] = refl
  both-moved (x ∷ a) (y ∷ b) =
      ap (λ r. r ∷ both (all_moved a) (all_moved b)) (sym (map-append moved x y)) ∙ ap (λ r. map moved (x ++ y) ∷ r) (both-moved a b)

  by-moved : (op : Op) (a b : List (List Bit)) → both_by op (all_moved a) (all_moved b) ≡ all_moved (both_by op a b)
  by-moved And a b = both-moved a b
  by-moved Or a b = both-moved a b
  by-moved Xor a b = both-moved a b
  by-moved Cat a b = sym (map-append (map moved) b a)
  by-moved Plus a b = both-moved a b
  by-moved Minus a b = both-moved a b

  module _ (now was : List ℕ) where
    abbrev SameWidth : ℕ → Type 0
    SameWidth n = slice_index now (at n) ≡ slice_index was n

    mutual
      renamed-reads : (t : Tree) → AllReads SameWidth AnyPort t → reads now (renamed ps t) ≡ all_moved (reads was t)
      renamed-reads (name n) h = ap (bits_up (at n) 0) h ∙ up-moved n 0 (slice_index was n)
      renamed-reads (part n high low) h = up-moved n low (high + 1 - low)
      renamed-reads (bits w) h = none-moved w
      renamed-reads (port p) h = refl
      renamed-reads (inverse t) h = renamed-reads t h
      renamed-reads (chain op ts) h = chain-reads op ts h

      chain-reads : (op : Op) (ts : Trees) → AllOperandsRead SameWidth AnyPort ts
          → chain_reads now op (renamed_all ps ts) ≡ all_moved (chain_reads was op ts)
      chain-reads op none h = refl
      chain-reads op (more t ts) h =
          ap (λ r. reads_on now op r (renamed_all ps ts)) (renamed-reads t h.0) ∙ on-reads op (reads was t) ts h.1

      on-reads : (op : Op) (read : List (List Bit)) (ts : Trees) → AllOperandsRead SameWidth AnyPort ts
          → reads_on now op (all_moved read) (renamed_all ps ts) ≡ all_moved (reads_on was op read ts)
      on-reads op read none h = refl
      on-reads op read (more t ts) h =
          ap (λ r. reads_on now op (both_by op (all_moved read) r) (renamed_all ps ts)) (renamed-reads t h.0)
          ∙ ap (λ r. reads_on now op r (renamed_all ps ts)) (by-moved op read (reads was t))
          ∙ on-reads op (both_by op read (reads was t)) ts h.1

    few-moved : (read : List Bit) → AreFew read → AreFew (map moved read)
    few-moved read h = record {
      among = map moved h.among;
      six = omega (arith, length-map h.among moved, h.six);
      all = All-map (Contains (map moved h.among)) moved read
          (All-weaker (Contains h.among) (λ b. Contains (map moved h.among) (moved b)) (λ b c. contains-moved b c) read h.all);
    }
      where
        contains-moved : (b : Bit) → Contains h.among b → Contains (map moved h.among) (moved b)
        contains-moved b c =
            (c.0, omega (arith, c.1, length-map h.among moved), get_or-map moved h.among c.0 b (moved b) c.1 ∙ ap moved c.2)

    -- logic over the nodes is logic over their places
    pub renamed-logic : (t : Tree) → AllReads SameWidth AnyPort t → IsLogic was t → IsLogic now (renamed ps t)
    renamed-logic t h k = record {
      bitwise = subst IsTrue (sym (renamed-bitwise t)) k.bitwise;
      shallow = omega (arith, renamed-levels t, k.shallow);
      few = subst (All AreFew) (sym (renamed-reads t h))
          (All-map AreFew (map moved) (reads was t)
          (All-weaker AreFew (λ r. AreFew (map moved r)) (λ r f. few-moved r f) (reads was t) k.few));
    }
