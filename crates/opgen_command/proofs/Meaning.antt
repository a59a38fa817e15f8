-- The command that was found, by its words and its numbers.
use Rattle.std.proofs.Common.{◌≡◌, ℕ, Bool, List, Option, Some, None, Result, Ok, Err, refl}
use Rattle.std.specs.Prelude.{codes, option_and_then, IfOk, IfErr}
use Rattle.std.specs.Result.{IsErrAnd}
use Rattle.std.proofs.lemmas.Result.{err_from_is_err_and}
use Rattle.clap.specs.Words.{Row}
use Rattle.opgen_command.specs.Command.{word_of, number_of, is_set, generate_of, vectors_of, simulate_of, check_of, HasRanges, IsRead}
use Rattle.opgen_command.specs.declared.command.Command.{Command}
use Rattle.opgen_command.specs.declared.command.Command.TheVariants.{Generate, Vectors, Simulate, Check}
use Rattle.opgen_command.specs.declared.fault.CommandFault.{CommandFault}
use Rattle.opgen_command.specs.declared.fault.CommandFault.TheVariants.{Usage}

-- a fault that is passed on: a usage error where the words mean no command
pub passed : (r : Result Command CommandFault) (fault : CommandFault) (meant : Option Command) → IsErrAnd r (λ other. other ≡ fault)
    → (fault ≡ Usage → meant ≡ None) → IsRead meant r
passed r fault meant is h = let p = err_from_is_err_and r is in rw (p.1, p.2) h

-- the same command, stated otherwise
pub carried : (r : Result Command CommandFault) (same meant : Option Command) → same ≡ meant → IsRead meant r → IsRead same r
carried r same meant e h = rw e h

-- the clauses of `read_command`, of a command that is read
module _ (meant : Option Command) where
  pub the_command : (r : Result Command CommandFault) → IsRead meant r → IfOk r (λ c. meant ≡ Some c)
  the_command (Ok c) h = h.0
  the_command (Err fault) h = tt

  pub the_usage : (r : Result Command CommandFault) → IsRead meant r → IfErr r (λ fault. fault ≡ Usage → meant ≡ None)
  the_usage (Ok c) h = tt
  the_usage (Err fault) h = h

  pub the_ranges : (r : Result Command CommandFault) → IsRead meant r → IfOk r HasRanges
  the_ranges (Ok c) h = h.1
  the_ranges (Err fault) h = tt

-- none, whatever comes before
module _ {A B : Type 0} (f : A → Option B) (none : (x : A) → f x ≡ None) where
  none_after : (o : Option A) → option_and_then f o ≡ None
  none_after None = refl
  none_after (Some x) = none x

module _ (found : List Row) where
  pub generate : (spec : List ℕ) (workers : ℕ) (enable : Bool) → word_of (codes "SPEC") found ≡ Some spec
      → Some workers ≡ number_of (codes "workers") 1 32 (Some 1) found → enable ≡ is_set (codes "enable") found
      → generate_of found ≡ Some (Generate spec workers enable)
  generate spec workers enable w n set = rw (w, ← n, set) refl

  pub no_workers : None ≡ number_of (codes "workers") 1 32 (Some 1) found → generate_of found ≡ None
  no_workers n = rw (← n) (none_after _ (λ _. refl) (word_of (codes "SPEC") found))

  pub vectors : (spec : List ℕ) (seed cycles : ℕ) → word_of (codes "SPEC") found ≡ Some spec
      → Some seed ≡ number_of (codes "seed") 0 4294967295 (Some 0) found
      → Some cycles ≡ number_of (codes "cycles") 1 100000 (Some 16) found → vectors_of found ≡ Some (Vectors spec seed cycles)
  vectors spec seed cycles w s n = rw (w, ← s, ← n) refl

  pub no_seed : None ≡ number_of (codes "seed") 0 4294967295 (Some 0) found → vectors_of found ≡ None
  no_seed s = rw (← s) (none_after _ (λ _. refl) (word_of (codes "SPEC") found))

  pub no_cycles : (seed : ℕ) → Some seed ≡ number_of (codes "seed") 0 4294967295 (Some 0) found
      → None ≡ number_of (codes "cycles") 1 100000 (Some 16) found → vectors_of found ≡ None
  no_cycles seed s n = rw (← s, ← n) (none_after _ (λ _. refl) (word_of (codes "SPEC") found))

  pub simulate : (vhdl vectors out : List ℕ) → word_of (codes "VHDL") found ≡ Some vhdl
      → word_of (codes "VECTORS") found ≡ Some vectors → word_of (codes "OUT") found ≡ Some out
      → simulate_of found ≡ Some (Simulate vhdl vectors out)
  simulate vhdl vectors out v w o = rw (v, w, o) refl

  pub no_vectors : (vhdl : List ℕ) → word_of (codes "VHDL") found ≡ Some vhdl → word_of (codes "VECTORS") found ≡ None
      → simulate_of found ≡ None
  no_vectors vhdl v w = rw (v, w) refl

  pub no_out : (vhdl vectors : List ℕ) → word_of (codes "VHDL") found ≡ Some vhdl → word_of (codes "VECTORS") found ≡ Some vectors
      → word_of (codes "OUT") found ≡ None → simulate_of found ≡ None
  no_out vhdl vectors v w o = rw (v, w, o) refl

  pub check : (spec vhdl vectors : List ℕ) (latency : ℕ) → word_of (codes "SPEC") found ≡ Some spec
      → word_of (codes "VHDL") found ≡ Some vhdl → word_of (codes "VECTORS") found ≡ Some vectors
      → Some latency ≡ number_of (codes "LATENCY") 0 100000 None found → check_of found ≡ Some (Check spec vhdl vectors latency)
  check spec vhdl vectors latency s v w n = rw (s, v, w, ← n) refl

  pub no_vhdl : (spec : List ℕ) → word_of (codes "SPEC") found ≡ Some spec → word_of (codes "VHDL") found ≡ None → check_of found ≡ None
  no_vhdl spec s v = rw (s, v) refl

  pub no_rows : (spec vhdl : List ℕ) → word_of (codes "SPEC") found ≡ Some spec → word_of (codes "VHDL") found ≡ Some vhdl
      → word_of (codes "VECTORS") found ≡ None → check_of found ≡ None
  no_rows spec vhdl s v w = rw (s, v, w) refl

  pub no_latency : None ≡ number_of (codes "LATENCY") 0 100000 None found → check_of found ≡ None
  no_latency n = rw (← n) (none_after _ (λ _. none_after _ (λ _. none_after _ (λ _. refl) (word_of (codes "VECTORS") found))
      (word_of (codes "VHDL") found)) (word_of (codes "SPEC") found))
