-- A file of a command that was not fetched decides the answer.
use Rattle.std.proofs.Common.{◌≡◌, ◌⊎◌, inl, inr, ℕ, ◌≤◌, true, cond, List, length, Option, Some, None, Ok, Err, refl, sym, ap, ◌∙◌, subst, arith}
use Rattle.std.specs.Prelude.{nat_le}
use Rattle.std.proofs.lemmas.Bool.{cases_lt}
use Rattle.std.proofs.lemmas.Bool.Decides.{nat_tests}
use Rattle.opgen_command.specs.declared.command.Command.{Command}
use Rattle.opgen_io.specs.Fetched.{fetched}
use Rattle.opgen_io.specs.Counts.{Rose, Stood}
use Rattle.opgen_io.specs.Files.{Files}
use Rattle.opgen_io.specs.declared.folder.FetchFault.TheVariants as fetch
use Rattle.opgen_top.specs.declared.line.Line.{Line}
use Rattle.opgen_top.specs.declared.line.Line.TheVariants as printed
use Rattle.opgen_top.specs.Answer.{Answer, refusal}
use Rattle.opgen_top.specs.Due.{OnFetch, IsAnswerOf}
use Rattle.opgen_top.specs.Prepared.{Reads, Kept, IsPrepared, IsUnfetched}
use Rattle.opgen_top.specs.Targets.{Device}
use Rattle.opgen_top.proofs.Listed.{listed_refusal}

-- a count rose or stood
pub rose_or_stood : (before now : ℕ) → Rose before now ⊎ Stood before now
rose_or_stood before now = elim (cases_lt now _) [ inl stood ↦ inr stood | inr rose ↦ inl rose ]

-- a file that was fetched whole
pub on_fetch : (under : Option (List ℕ)) (most : ℕ) (bytes : List ℕ) (a : Answer) (said : List ℕ → Type 0) → under ≡ Some bytes
    → length bytes ≤ most → said bytes → OnFetch (fetched under most) a said
on_fetch under most bytes a said e few h =
    let fits : nat_le (length bytes) most ≡ true = grind (arith, nat_tests, few) in
    let whole : fetched under most ≡ Ok bytes = ap (λ o. fetched o most) e ∙ ap (λ b. cond b (Ok bytes) (Err fetch.TooLong)) fits in
    subst (λ r. OnFetch r a said) (sym whole) h

-- a file that is not there
pub on_missing : (under : Option (List ℕ)) (most : ℕ) (said : List ℕ → Type 0) → under ≡ None
    → OnFetch (fetched under most) (refusal printed.ReadFault) said
on_missing under most said e = subst (λ o. OnFetch (fetched o most) (refusal printed.ReadFault) said) (sym e) refl

-- a file that is too long
pub on_longer : (under : Option (List ℕ)) (most : ℕ) (said : List ℕ → Type 0) → fetched under most ≡ Err fetch.TooLong
    → OnFetch (fetched under most) (refusal printed.TooLong) said
on_longer under most said e = subst (λ r. OnFetch r (refusal printed.TooLong) said) (sym e) refl

-- what a later fetch counts was counted since before
rose-before : (before mid now : ℕ) → before ≤ mid → Rose mid now → Rose before now
rose-before before mid now le rose = omega (arith, le, rose)

stood-after : (before mid now : ℕ) → before ≤ mid → Stood before now → Stood mid now
stood-after before mid now le stood = omega (arith, le, stood)

pub unfetched-before : (name : List ℕ) (most : ℕ) (told : Option Files) (before mid now : Reads) (line : Line) → Kept before mid
    → IsUnfetched name most told mid now line → IsUnfetched name most told before now line
unfetched-before name most told before mid now line kept cause = record {
  either = cause.either;
  read_counted = λ h. elim (cause.read_counted h) [
    | inl rose ↦ inl (rose-before before.faults mid.faults now.faults kept.faults rose)
    | inr rose ↦ inr (rose-before before.lacks mid.lacks now.lacks kept.lacks rose)
  ];
  long_counted = λ h. rose-before before.longs mid.longs now.longs kept.longs (cause.long_counted h);
  missing = λ files is stood h. cause.missing files is (stood-after before.faults mid.faults now.faults kept.faults stood) h;
  longer = cause.longer;
}

module _ (command : Option Command) (devices : List Device) (told : Option Files) (before now : Reads) (name : List ℕ) (most : ℕ)
    (missing_due : (files : Files) → told ≡ Some files → files name ≡ None
    → IsAnswerOf command devices files (refusal printed.ReadFault))
    (longer_due : (files : Files) → told ≡ Some files → fetched (files name) most ≡ Err fetch.TooLong
    → IsAnswerOf command devices files (refusal printed.TooLong)) where
  unread : Rose before.faults now.faults ⊎ Rose before.lacks now.lacks
      → ((files : Files) → told ≡ Some files → Stood before.faults now.faults → files name ≡ None)
      → IsPrepared command devices told before now (refusal printed.ReadFault)
  unread counted missing = record {
    listed = listed_refusal printed.ReadFault tt;
    usage = λ other. absurd (omega (arith, other));
    read_counted = λ _. counted;
    long_counted = λ other. absurd (omega (arith, other));
    due = λ files is. elim (rose_or_stood before.faults now.faults) [
      | inl rose ↦ inl (refl, rose)
      | inr stood ↦ inr (missing_due files is (missing files is stood))
    ];
  }

  exceeds : Rose before.longs now.longs → ((files : Files) → told ≡ Some files → fetched (files name) most ≡ Err fetch.TooLong)
      → IsPrepared command devices told before now (refusal printed.TooLong)
  exceeds counted longer = record {
    listed = listed_refusal printed.TooLong tt;
    usage = λ other. absurd (omega (arith, other));
    read_counted = λ other. absurd (omega (arith, other));
    long_counted = λ _. counted;
    due = λ files is. inr (longer_due files is (longer files is));
  }

  pub unfetched : (line : Line) → IsUnfetched name most told before now line
      → IsPrepared command devices told before now (refusal line)
  unfetched line cause = elim cause.either [
    | inl e ↦ subst (λ l. IsPrepared command devices told before now (refusal l)) (sym e)
        (unread (cause.read_counted e) (λ files is stood. cause.missing files is stood e))
    | inr e ↦ subst (λ l. IsPrepared command devices told before now (refusal l)) (sym e)
        (exceeds (cause.long_counted e) (λ files is. cause.longer files is e))
  ]
