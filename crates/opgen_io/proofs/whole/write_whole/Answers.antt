use Rattle.std.proofs.Common.{ℕ, ◌≡◌, ◌≤◌, ◌+◌, ◌-◌, List, ◌++◌, length, take, drop, ap, sym, subst, ◌∙◌, arith}
use Rattle.std.proofs.KnownBytes.{Appends-trans, Appends-kept}
use Rattle.std.proofs.Math.Seq.{take-add}
use Rattle.std.proofs.lemmas.Grind.{common_steps}
use Rattle.std.proofs.lemmas.List.{take_rest}
use Rattle.std.specs.Io.KnownBytes.{Appends}
use Rattle.opgen_io.proofs.whole.write_whole.Goals as goal
use Rattle.opgen_io.proofs.whole.write_whole.Goals.{in-Ok, in-Err+else-ne}

-- the bytes that are done, and those taken from the rest
take_more : (bytes : List ℕ) (done taken more : ℕ) → more ≡ done + taken
    → take done bytes ++ take taken (take (length bytes - done) (drop done bytes)) ≡ take more bytes
take_more bytes done taken more h =
    ap (λ rest. take done bytes ++ take taken rest) (take_rest bytes done) ∙ sym (take-add done taken bytes)
    ∙ ap (λ n. take n bytes) (sym h)

within_more : (bytes : List ℕ) (done taken more : ℕ) → more ≡ done + taken → done ≤ length bytes
    → taken ≤ length (take (length bytes - done) (drop done bytes)) → more ≤ length bytes
within_more bytes done taken more h within bound = grind (arith, common_steps)

pub writes-preserved : goal.writes-preserved
writes-preserved g c = elim c.match-write.branch [
  | in-Ok w ↦ record {
    within = within_more c.args.bytes.now c.writes.done w.in-Ok.taken c.match-write.done w.done-is c.writes.invariant.within
        w.in-Ok.ensures.bound;
    appended = subst (Appends _ _) (take_more c.args.bytes.now c.writes.done w.in-Ok.taken c.match-write.done w.done-is)
        (Appends-trans _ _ _ _ _ c.writes.invariant.appended w.in-Ok.ensures.bytes);
  }
  | in-Err+else-ne w ↦ record {
    within = rw w.done-is c.writes.invariant.within;
    appended = rw w.done-is (Appends-kept _ _ _ _ c.writes.invariant.appended w.in-Err.ensures.bytes);
  }
]
