use Rattle.std.proofs.Common.{ℕ, ◌≡◌, ◌<◌, ◌≤◌, ◌+◌, List, ◌++◌, Option, Some, None, IfSome, length, take, drop, sym, ap, subst, ◌∙◌, append-nil, length-append, length-take, length-take-le, take_all, arith}
use Rattle.std.proofs.KnownBytes.{Consumes-kept, Consumes-trans, Consumes-whole}
use Rattle.std.proofs.Math.Seq.{take-append-le, take-append_seam}
use Rattle.std.specs.Io.KnownBytes.{Consumes, IsAtEnd}
use Rattle.opgen_io.proofs.whole.read_within.Goals as goal
use Rattle.opgen_io.proofs.whole.read_within.Goals.{in-Ok+in-Ok-extend_from_slice, in-Err+else-ne}

-- bytes that fill the room are the first of those that were left
filled : (a b : Option (List ℕ)) (bytes : List ℕ) (room : ℕ) → Consumes a b bytes → length bytes ≡ room
    → IfSome a (λ left. bytes ≡ take room left)
filled None b bytes room given full = tt
filled (Some left) None bytes room given full = absurd given
filled (Some left) (Some rest) bytes room given full = rw (given, ← full) (sym (take-append_seam bytes rest))

-- where a read gives nothing, the bytes are all that were left
ended : (a b c : Option (List ℕ)) (bytes piece : List ℕ) (given room : ℕ) → Consumes a b bytes
    → Consumes b c (take given piece) × (given ≡ 0 → 0 < length piece → IsAtEnd c) → given ≡ 0 → 0 < length piece → length bytes ≤ room
    → IfSome a (λ left. bytes ≡ take room left)
ended a b c bytes piece given room before read none some within =
    let all : Consumes a c bytes = subst (Consumes a c) (ap (λ n. bytes ++ take n piece) none ∙ append-nil bytes)
    (Consumes-trans a b c bytes (take given piece) before read.0) in
    Consumes-whole a c bytes (λ left. bytes ≡ take room left) all (read.1 none some) (sym (take_all room bytes within))

-- the bytes after those of a piece
module _ (bytes piece rest more : List ℕ) (given : ℕ) (bound : given ≤ length piece) (is : more ≡ bytes ++ take given (piece ++ rest)) where
  joined : bytes ++ take given piece ≡ more
  joined = ap (λ taken. bytes ++ taken) (sym (take-append-le given piece rest bound)) ∙ sym is

  grown : length more ≡ length bytes + given
  grown = rw is (length-append bytes (take given (piece ++ rest))
      ∙ ap (λ n. length bytes + n) (length-take-le given (piece ++ rest) (omega (arith, length-append piece rest, bound))))

pub returns-then-wanted-eq0-clause-whole : goal.returns-then-wanted-eq0-clause-whole
returns-then-wanted-eq0-clause-whole g c =
    filled _ _ c.reads.bytes.items c.args.room c.reads.invariant.given (omega arith)

pub returns-in-Ok-eq0-clause-whole : goal.returns-in-Ok-eq0-clause-whole
returns-in-Ok-eq0-clause-whole g c =
    let some : 0 < length c.read_piece.new.piece = omega (arith, length-take c.min-wanted.result c.reads.piece) in
    ended _ _ _ c.reads.bytes.items c.read_piece.new.piece c.in-Ok-eq0.field-0 c.args.room c.reads.invariant.given
    c.in-Ok-eq0.ensures.bytes c.in-Ok-eq0.field-0-test some c.reads.invariant.within

pub reads-preserved : goal.reads-preserved
reads-preserved g c = elim c.match-read_piece.branch [
  | in-Ok+in-Ok-extend_from_slice w ↦
      let bound : w.in-Ok.given ≤ length c.read_piece.new.piece = w.in-Ok.ensures.bound.0 in
      let rest = drop c.min-wanted.result c.reads.piece in
      let more = w.extend_from_slice.new.self.items in
      let is : more ≡ c.reads.bytes.items ++ take w.in-Ok.given (c.read_piece.new.piece ++ rest) = w.in-Ok-extend_from_slice.ensures.items in
      let long = grown c.reads.bytes.items c.read_piece.new.piece rest more w.in-Ok.given bound is in
      let given = joined c.reads.bytes.items c.read_piece.new.piece rest more w.in-Ok.given bound is in
      rw w.bytes-is record {
        within = omega (arith, long, length-take c.min-wanted.result c.reads.piece);
        given = subst (Consumes _ _) given (Consumes-trans _ _ _ _ _ c.reads.invariant.given w.in-Ok.ensures.bytes.0);
      }
  | in-Err+else-ne w ↦ rw w.bytes-is record {
    within = c.reads.invariant.within;
    given = Consumes-kept _ _ _ _ c.reads.invariant.given w.in-Err.ensures.bytes;
  }
]
