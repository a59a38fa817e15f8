-- A refusal that is passed on as it is, and a fetch from a folder that has the same files.
use Rattle.std.proofs.Common.{◌≡◌, Result, Ok, Err, subst, sym}
use Rattle.std.specs.Prelude.{ℕ, IfOk, List, Option, Vec}
use Rattle.std.specs.declared.alloc.Global.{Global}
use Rattle.std.specs.Result.{IsErrAnd}
use Rattle.std.proofs.lemmas.Result.{err_from_is_err_and}
use Rattle.opgen_top.specs.declared.answer.Answer.{Answer as Held}
use Rattle.opgen_top.specs.declared.answer.Refusal.{Refusal}
use Rattle.opgen_top.specs.declared.answer.Refusal.TheVariants as refusals
use Rattle.opgen_io.specs.Files.{Files}
use Rattle.opgen_num.specs.declared.memory.Memory.{Memory}
use Rattle.opgen_top.specs.Answer.{Answer, refusal}
use Rattle.opgen_top.specs.Prepared.{Fetches, IfRefused, IsAnswerOrLine, OnAnswer, OnRefusal, Reads, answer_of}

pub answer_passed : (r : Result Held Refusal) (refusal : Refusal) (said : Answer → Type 0) → IsErrAnd r (λ other. other ≡ refusal)
    → OnRefusal refusal said → OnAnswer r said
answer_passed r refusal said is h = let p = err_from_is_err_and r is in rw (p.1, p.2) h

pub refusal_passed : {X : Type 0} (r : Result X Refusal) (refusal : Refusal) (said : Answer → Type 0) → IsErrAnd r (λ other. other ≡ refusal)
    → OnRefusal refusal said → IfRefused r said
refusal_passed r refusal said is h = let p = err_from_is_err_and r is in rw (p.1, p.2) h

pub fetched_alike : (name : List ℕ) (most : ℕ) (told other : Option Files) (before now : Reads) (r : Result (Vec ℕ Global) Refusal)
    → told ≡ other → Fetches name most told before now r → Fetches name most other before now r
fetched_alike name most told other before now r same h = subst (λ it. Fetches name most it before now r) same h

-- what is said of a refusal, or of an answer, may be exchanged for what follows from it
pub refusal-map : (refusal : Refusal) (said other : Answer → Type 0) → ((a : Answer) → said a → other a) → OnRefusal refusal said
    → OnRefusal refusal other
refusal-map (refusals.Line line) said other f h = f (refusal line) h
refusal-map refusals.Memory said other f h = tt

pub answers-map : (r : Result Held Refusal) (said other : Answer → Type 0) → ((a : Answer) → said a → other a) → OnAnswer r said
    → OnAnswer r other
answers-map (Ok held) said other f h = f (answer_of held) h
answers-map (Err refusal) said other f h = refusal-map refusal said other f h

-- what is said of an answer or a refusal is said of the answer that is given for it
or_line : (r : Result Held Refusal) (a : Answer) (said : Answer → Type 0) → IsAnswerOrLine r a → OnAnswer r said → said a
or_line (Ok held) a said is h = subst said (sym is) h
or_line (Err (refusals.Line line)) a said is h = subst said (sym is) h
or_line (Err refusals.Memory) a said is h = absurd is

pub answers_given : (r : Result Held Refusal) (given : Result Held Memory) (said : Answer → Type 0)
    → IfOk given (λ held. IsAnswerOrLine r (answer_of held)) → OnAnswer r said → IfOk given (λ held. said (answer_of held))
answers_given r (Ok held) said is h = or_line r (answer_of held) said is h
answers_given r (Err want) said is h = tt
