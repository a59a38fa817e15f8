-- Before cycle 0 a net stands still: its words are one and the same at all negative times and for all inputs.
use Rattle.std.proofs.Common.{◌≡◌, ℕ, suc, List, [], ◌∷◌, ◌++◌, length, length-append, refl, sym, ap, ◌∙◌, inl, inr, arith}
use Rattle.std.specs.Prelude.{negsuc}
use Rattle.std.proofs.lemmas.Bool.{cases_order}
use Rattle.std.proofs.lemmas.List.{get_or_append_left, get_or_at, get_or_past}
use Rattle.opgen_num.specs.Words.{nat}
use Rattle.opgen_net.specs.declared.node.Node.{Node}
use Rattle.opgen_net.specs.declared.node.Node.TheVariants.{Input, Constant, Cells, Choice, Table, Delay}
use Rattle.opgen_design.specs.Tree.{Tree, Trees, name, part, bits, port, inverse, chain, none, more}
use Rattle.opgen_design.specs.Sound.{AllReads, AllOperandsRead}
use Rattle.opgen_design.specs.Value.{word_at, cut, chosen}
use Rattle.opgen_net.specs.Flow.{Stream, Inputs, stream_at, part_at, stream_of, streams_on, flow}
use Rattle.opgen_design.proofs.ValueLaws.{same_value}

abbrev Any : ℕ → Type 0
Any _ = Unit {0}

mutual
  any_reads : (t : Tree) → AllReads Any Any t
  any_reads (name n) = tt
  any_reads (part n high low) = tt
  any_reads (bits w) = tt
  any_reads (port n) = tt
  any_reads (inverse t) = any_reads t
  any_reads (chain op ts) = any_operands ts

  any_operands : (ts : Trees) → AllOperandsRead Any Any ts
  any_operands none = tt
  any_operands (more t ts) = (any_reads t, any_operands ts)

-- streams that agree at negative times
record Agree (ss rs : List Stream) : Type 0 where
  count : length ss ≡ length rs
  words : (i a b : ℕ) → stream_at ss i (negsuc a) ≡ stream_at rs i (negsuc b)

module _ (inputs others : Inputs) where
  stream-before : (ss rs : List Stream) (n : Node) (a b : ℕ) → Agree ss rs → stream_of inputs ss n (negsuc a)
      ≡ stream_of others rs n (negsuc b)
  stream-before ss rs (Input place w) a b h = refl
  stream-before ss rs (Constant w) a b h = refl
  stream-before ss rs (Cells class w e) a b h =
      same_value Any Any (record { names = λ i. stream_at ss i (negsuc a); ports = λ i. [] })
      (record { names = λ i. stream_at rs i (negsuc b); ports = λ i. [] }) (λ i _. h.words i a b) (λ i _. refl) e (any_reads e)
  stream-before ss rs (Choice on one other) a b h =
      ap (λ w. chosen w (part_at ss one (negsuc a)) (part_at ss other (negsuc a))) (h.words on a b)
      ∙ ap (λ w. chosen (stream_at rs on (negsuc b)) (cut one.high one.low w) (part_at ss other (negsuc a))) (h.words one.node a b)
      ∙ ap (λ w. chosen (stream_at rs on (negsuc b)) (part_at rs one (negsuc b)) (cut other.high other.low w)) (h.words other.node a b)
  stream-before ss rs (Table address rows) a b h = ap (λ w. word_at rows (nat w)) (h.words address a b)
  stream-before ss rs (Delay of) a b h = h.words of (suc a) (suc b)

  agree-on : (ss rs : List Stream) (ns : List Node) → Agree ss rs → Agree (streams_on inputs ss ns) (streams_on others rs ns)
  agree-on ss rs [] h = h
  agree-on ss rs (n ∷ ns) h =
      let s : Stream = stream_of inputs ss n in
      let r : Stream = stream_of others rs n in
      agree-on (ss ++ s ∷ []) (rs ++ r ∷ []) ns record {
        count = omega (arith, h.count, length-append ss (s ∷ []), length-append rs (r ∷ []));
        words = λ i a b. elim (cases_order i (length ss)) [
          | inl e ↦ ap (λ k. stream_at (ss ++ s ∷ []) k (negsuc a)) e
              ∙ ap (λ x. x (negsuc a)) (get_or_at ss s [] (λ u. []) (length ss) refl)
              ∙ stream-before ss rs n a b h
              ∙ ap (λ x. x (negsuc b)) (sym (get_or_at rs r [] (λ u. []) i (sym h.count ∙ sym e)))
          | inr o ↦ elim o [
            | inl l ↦ ap (λ x. x (negsuc a)) (get_or_append_left ss (s ∷ []) (λ u. []) i l)
                ∙ h.words i a b
                ∙ ap (λ x. x (negsuc b)) (sym (get_or_append_left rs (r ∷ []) (λ u. []) i (omega (arith, l, h.count))))
            | inr l ↦ ap (λ x. x (negsuc a)) (get_or_past (ss ++ s ∷ []) i (λ u. []) (omega (arith, l, length-append ss (s ∷ []))))
                ∙ ap (λ x. x (negsuc b)) (sym (get_or_past (rs ++ r ∷ []) i (λ u. []) (omega (
                  arith,
                  l,
                  h.count,
                  length-append rs
                      (r ∷ []),
                ))))
          ]
        ];
      }

pub flow-before : (nodes : List Node) (inputs others : Inputs) (i a b : ℕ) → flow nodes inputs i (negsuc a) ≡ flow nodes others i (negsuc b)
flow-before nodes inputs others i a b = (agree-on inputs others [] [] nodes (record { count = refl; words = λ i a b. refl })).words i a b
