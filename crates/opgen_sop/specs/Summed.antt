-- What the bits of the terms add up to, in units of the lowest guard bit, and how far that is from the exact value.
use Rattle.std.specs.Prelude.{ℕ, ◌≡◌, ◌+◌, ◌*◌, ◌^◌, All, List, map, ◌++◌, ℤ, pos, ◌+ℤ◌, ◌*ℤ◌, ◌≤ℤ◌}
use Rattle.opgen_design.specs.Run.{AreWords}
use Rattle.opgen_heap.specs.Adding.{residue}
use Rattle.opgen_heap.specs.Standing.{AllThere}
use Rattle.opgen_heap.specs.Sum.{heap_sum}
use Rattle.opgen_net.specs.Flow.{Inputs, flow, input_at}
use Rattle.opgen_net.specs.Grown.{HasGrown}
use Rattle.opgen_net.specs.Valid.{IsValid, input_widths}
use Rattle.opgen_num.specs.Words.{val}
use Rattle.opgen_partial.specs.declared.pairs.Work.{Work}
use Rattle.opgen_terms.specs.declared.sop.Sop.{Sop}
use Rattle.opgen_terms.specs.declared.sop.Scaled.{Scaled}
use Rattle.opgen_terms.specs.declared.sop.Times.{Times}
use Rattle.opgen_terms.specs.Sop.{Term, format_of, scaled_term, times_term, offset_terms, total, height}
use Rattle.opgen_sop.specs.Recipe.{input_net, heap_width}
use Rattle.opgen_sop.specs.Sizes.{tables, tables_of, tables_in, floors_of, floors_in}
use Rattle.opgen_sop.specs.Small.{units}

-- the numbers of the inputs at a time
abbrev pub numbers : Sop → Inputs → ℤ → (input : ℕ) → ℤ
numbers s inputs t input = let f = format_of s input in val (input_at inputs input f.width t) f

-- a term in units of the deepest place, over the denominator, times the units of the guard bits
abbrev pub share : Sop → (guard : ℕ) → (x : (input : ℕ) → ℤ) → Term → ℤ
share s guard x t = (t.number x *ℤ pos (2 ^ height s t)) *ℤ pos (2 ^ guard)

abbrev pub twice : ℤ → ℤ
twice z = z +ℤ z

-- m * e is n but for half of m for each table, and less than m that is lost for each floor
pub record IsNear (m : ℕ) (n e : ℤ) (tables floors : ℕ) : Type 0 where
  pub low : twice (pos m *ℤ e) ≤ℤ (twice n +ℤ pos (tables * m))
  pub high : twice n ≤ℤ (twice (pos m *ℤ e) +ℤ pos ((tables + 2 * floors) * m))

-- a sum that has grown by a term, modulo 2 to a width
pub record HasTerm (s : Sop) (n : ℤ) (tables floors width old new : ℕ) : Type 0 where
  pub by : ℤ
  pub near : IsNear (units s) n by tables floors
  pub sum : new ≡ residue (pos old +ℤ by) (2 ^ width)

-- the terms that are not yet added, and what they are together
abbrev pub rest_terms : Sop → List Scaled → List Times → List Term
rest_terms s ts us = map (scaled_term s) ts ++ (map (times_term s) us ++ offset_terms s)

abbrev pub share_of : Sop → (guard : ℕ) → (x : (input : ℕ) → ℤ) → List Scaled → List Times → ℤ
share_of s guard x ts us = total (share s guard x) (rest_terms s ts us)

-- the sum of all terms but those
pub record IsSummed (s : Sop) (guard : ℕ) (x : (input : ℕ) → ℤ) (ts : List Scaled) (us : List Times) (n : ℕ) : Type 0 where
  pub number : ℤ
  pub rounded : ℕ
  pub cut : ℕ
  pub sum : ℤ
  pub near : IsNear (units s) number sum rounded cut
  pub numbers : number +ℤ share_of s guard x ts us ≡ share_of s guard x s.scaled s.products
  pub all_rounded : rounded + tables_in s guard ts ≡ tables s guard
  pub all_cut : cut + floors_in s guard us ≡ floors_in s guard s.products
  pub is : n ≡ residue sum (2 ^ heap_width s guard)

-- a net that has grown from the inputs, and a heap of its bits
pub record Stands (s : Sop) (guard : ℕ) (w : Work) : Type 0 where
  pub valid : IsValid w.net
  pub grown : HasGrown (input_net s) w.net
  pub there : AllThere w.net w.heap.columns
  pub width : w.heap.width ≡ heap_width s guard

-- its sum at a time
abbrev pub sum_at : Work → Inputs → ℤ → ℕ
sum_at w inputs t = heap_sum (λ n. flow w.net.nodes inputs n t) w.heap

-- at every time and for all inputs
abbrev pub Always : Sop → (Inputs → ℤ → Type 0) → Type 0
Always s IsSo = (inputs : Inputs) (t : ℤ) → All (AreWords (input_widths (input_net s))) inputs → IsSo inputs t

abbrev pub HasScaled : Sop → (guard : ℕ) → Scaled → (old new : Work) → Type 0
HasScaled s guard t old new =
    Always s (λ inputs u. HasTerm s (share s guard (numbers s inputs u) (scaled_term s t)) (tables_of s guard t) 0 (heap_width s guard)
    (sum_at old inputs u) (sum_at new inputs u))

abbrev pub HasTimes : Sop → (guard : ℕ) → Times → (old new : Work) → Type 0
HasTimes s guard t old new =
    Always s (λ inputs u. HasTerm s (share s guard (numbers s inputs u) (times_term s t)) 0 (floors_of s guard t) (heap_width s guard)
    (sum_at old inputs u) (sum_at new inputs u))

abbrev pub AreSummed : Sop → (guard : ℕ) → List Scaled → List Times → Work → Type 0
AreSummed s guard ts us w = Always s (λ inputs u. IsSummed s guard (numbers s inputs u) ts us (sum_at w inputs u))
