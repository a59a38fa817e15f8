use Rattle.std.proofs.Common.{Some, Err, map, ◌++◌, inl, inr, refl, ap, ◌∙◌, subst}
use Rattle.opgen_io.specs.Counts.{Rose}
use Rattle.opgen_top.specs.Due.{IsAnswerOf}
use Rattle.opgen_top.specs.Prepared.{answer_of, store_of}
use Rattle.opgen_top.specs.Statuses.{Refuses}
use Rattle.opgen_top.specs.Stores.{stored_all, HasBroken, HasFirst}
use Rattle.opgen_top.specs.Targets.{devices_of}
use Rattle.opgen_top.proofs.Ending.{later_reads, line_taken, gives_due, gives_missing, gives_all, due_now, left_unprinted, left_memory, is_printed, nothing_printed, left_unstored, left_first}
use Rattle.opgen_top.proofs.Heading.{heading}
use Rattle.opgen_top.proofs.Listed.{listed_status}
use Rattle.opgen_top.proofs.Parts.{told_status}
use Rattle.opgen_top.proofs.Puts.{line_put, no_put, rose_stood}
use Rattle.opgen_top.proofs.program.run.Goals as goal

pub returns-in-Ok-store_all-clause-answered : goal.returns-in-Ok-store_all-clause-answered
returns-in-Ok-store_all-clause-answered g c files told due =
    let prepared = later_reads _ _ _ _ _ _ _ _ _ c.store_all.ensures.read_faults_same c.in-Ok.ensures.prepared in
    let said = c.print_line.ensures in
    let text = c.as_str.ensures.value ∙ c.in-Ok-text.ensures in
    gives_due _ _ _ _ _ _ prepared _ _ _ _ _ _ said.status _ text said.taken said.part
    (λ fs is. c.in-Ok-store_all.ensures.ok fs (c.answer_words.ensures.told_same ∙ is)
    ∙ ap (λ xs. Some (stored_all (map store_of xs) fs)) c.deref.ensures.value)
    files told due

pub returns-in-Ok-store_all-clause-missing : goal.returns-in-Ok-store_all-clause-missing
returns-in-Ok-store_all-clause-missing g c files told stood three =
    let prepared = later_reads _ _ _ _ _ _ _ _ _ c.store_all.ensures.read_faults_same c.in-Ok.ensures.prepared in
    let said = c.print_line.ensures in
    let text = c.as_str.ensures.value ∙ c.in-Ok-text.ensures in
    gives_missing _ _ _ _ _ _ prepared _ _ _ _ _ _ said.status _ text said.taken said.part
    (λ fs is. c.in-Ok-store_all.ensures.ok fs (c.answer_words.ensures.told_same ∙ is)
    ∙ ap (λ xs. Some (stored_all (map store_of xs) fs)) c.deref.ensures.value)
    files told stood three

pub returns-in-Ok-store_all-clause-complete : goal.returns-in-Ok-store_all-clause-complete
returns-in-Ok-store_all-clause-complete g c files told read write put =
    let prepared = later_reads _ _ _ _ _ _ _ _ _ c.store_all.ensures.read_faults_same c.in-Ok.ensures.prepared in
    let said = c.print_line.ensures in
    let text = c.as_str.ensures.value ∙ c.in-Ok-text.ensures in
    gives_all _ _ _ _ _ _ prepared _ _ _ _ _ _ said.status _ text said.taken said.part
    (λ fs is. c.in-Ok-store_all.ensures.ok fs (c.answer_words.ensures.told_same ∙ is)
    ∙ ap (λ xs. Some (stored_all (map store_of xs) fs)) c.deref.ensures.value)
    files told read put (listed_status c.in-Ok.answer.line)

-- an answer that refuses has no store
pub returns-in-Ok-store_all-clause-unchanged : goal.returns-in-Ok-store_all-clause-unchanged
returns-in-Ok-store_all-clause-unchanged g c refuses =
    let status = told_status _ _ _ _ c.print_line.ensures.status (inr refuses) in
    let none = c.in-Ok.ensures.prepared.listed.no_store (subst Refuses status refuses) in
    c.in-Ok-store_all.ensures.none_same (ap (map store_of) c.deref.ensures.value ∙ none) ∙ c.answer_words.ensures.told_same

pub returns-in-Ok-store_all-clause-left_by_fault : goal.returns-in-Ok-store_all-clause-left_by_fault
returns-in-Ok-store_all-clause-left_by_fault g c files told four =
    let prepared = later_reads _ _ _ _ _ _ _ _ _ c.store_all.ensures.read_faults_same c.in-Ok.ensures.prepared in
    let said = c.print_line.ensures in
    let text = c.as_str.ensures.value ∙ c.in-Ok-text.ensures in
    left_unprinted _ _ _ _ _ _ prepared _ _ _ _ _ _ said.status _ text said.taken said.part
    (λ fs is. c.in-Ok-store_all.ensures.ok fs (c.answer_words.ensures.told_same ∙ is)
    ∙ ap (λ xs. Some (stored_all (map store_of xs) fs)) c.deref.ensures.value)
    files _ told (listed_status c.in-Ok.answer.line) four

pub returns-in-Ok-store_all-clause-left_by_memory : goal.returns-in-Ok-store_all-clause-left_by_memory
returns-in-Ok-store_all-clause-left_by_memory g c files told five =
    let prepared = later_reads _ _ _ _ _ _ _ _ _ c.store_all.ensures.read_faults_same c.in-Ok.ensures.prepared in
    let said = c.print_line.ensures in
    let text = c.as_str.ensures.value ∙ c.in-Ok-text.ensures in
    left_memory _ _ _ _ _ _ prepared _ _ _ _ _ _ said.status _ text said.taken said.part
    (λ fs is. c.in-Ok-store_all.ensures.ok fs (c.answer_words.ensures.told_same ∙ is)
    ∙ ap (λ xs. Some (stored_all (map store_of xs) fs)) c.deref.ensures.value)
    files told

pub returns-in-Ok-store_all-clause-printed : goal.returns-in-Ok-store_all-clause-printed
returns-in-Ok-store_all-clause-printed g c held holds =
    let prepared = later_reads _ _ _ _ _ _ _ _ _ c.store_all.ensures.read_faults_same c.in-Ok.ensures.prepared in
    let said = c.print_line.ensures in
    let text = c.as_str.ensures.value ∙ c.in-Ok-text.ensures in
    is_printed _ _ _ _ _ _ prepared _ _ _ _ _ _ said.status _ text said.taken said.part
    (λ fs is. c.in-Ok-store_all.ensures.ok fs (c.answer_words.ensures.told_same ∙ is)
    ∙ ap (λ xs. Some (stored_all (map store_of xs) fs)) c.deref.ensures.value)
    (listed_status c.in-Ok.answer.line) said.none said.silent held holds

pub returns-in-Ok-store_all-clause-headline : goal.returns-in-Ok-store_all-clause-headline
returns-in-Ok-store_all-clause-headline g c file workers enable asked files told ok =
    let prepared = later_reads _ _ _ _ _ _ _ _ _ c.store_all.ensures.read_faults_same c.in-Ok.ensures.prepared in
    let said = c.print_line.ensures in
    let text = c.as_str.ensures.value ∙ c.in-Ok-text.ensures in
    let a = answer_of c.in-Ok.answer in
    let stores = c.in-Ok-store_all.ensures.ok files (c.answer_words.ensures.told_same ∙ told)
    ∙ ap (λ xs. Some (stored_all (map store_of xs) files)) c.deref.ensures.value in
    let due = due_now _ _ _ _ _ _ prepared _ _ _ _ _ _ said.status _ text said.taken said.part
    (λ fs is. c.in-Ok-store_all.ensures.ok fs (c.answer_words.ensures.told_same ∙ is)
    ∙ ap (λ xs. Some (stored_all (map store_of xs) fs)) c.deref.ensures.value)
    files told ok in
    let targets = c.args.targets.items in
    let devices = devices_of (λ t. (goal.Target-dyn g (t.vtable, t.value)).target_name t.value)
    (λ t. (goal.Target-dyn g (t.vtable, t.value)).delays t.value)
    (λ t. (goal.Target-dyn g (t.vtable, t.value)).adjustable t.value) targets in
    heading c.circuits_serve.ensures c.circuits_recover.ensures file workers enable devices files a _ _ _
    (subst (λ command. IsAnswerOf command devices files a) asked due.0) due.1 stores
    (λ held holds. line_taken _ held _ _ (inl ok) (said.taken held holds) ∙ ap (λ b. Some (held ++ b)) text)

pub returns-in-Err-Failed-clause-left_by_fault : goal.returns-in-Err-Failed-clause-left_by_fault
returns-in-Err-Failed-clause-left_by_fault g c files told four =
    let prepared = later_reads _ _ _ _ _ _ _ _ _ c.store_all.ensures.read_faults_same c.in-Ok.ensures.prepared in
    let failed = c.in-Err-Failed.ensures in
    let why = subst (λ n. Rose n (g.F.Folder.write_faults c.store_all.new.folder)) c.answer_words.ensures.write_faults_same
    (failed.failed_counted (ap Err c.in-Err-Failed.field-0-is)) in
    let broken = subst (λ xs. HasBroken (map store_of xs) files (g.F.Folder.told c.store_all.new.folder)) c.deref.ensures.value
    (failed.failed files (c.answer_words.ensures.told_same ∙ told) (ap Err c.in-Err-Failed.field-0-is)) in
    left_unstored _ _ _ _ _ _ prepared _ _ _ (λ e. let bad = c.in-Err-Failed.ensures.none (ap (map store_of) c.deref.ensures.value
    ∙ e) in cc) files _ _ told why broken refl

pub returns-in-Err-Failed-clause-printed : goal.returns-in-Err-Failed-clause-printed
returns-in-Err-Failed-clause-printed g c held holds = nothing_printed 4 _ _ _ _ (inl refl) refl held holds

pub returns-clause-left_by_memory : goal.returns-clause-left_by_memory
returns-clause-left_by_memory g c files told five =
    let prepared = later_reads _ _ _ _ _ _ _ _ _ c.store_all.ensures.read_faults_same c.in-Ok.ensures.prepared in
    let first = subst (λ xs. HasFirst (map store_of xs) files (g.F.Folder.told c.store_all.new.folder)) c.deref.ensures.value
    (c.in-Err-Memory.ensures.memory files (c.answer_words.ensures.told_same ∙ told) (ap Err c.in-Err-Memory.field-0-is)) in
    left_first _ _ _ _ _ _ prepared _ (g.K.Sink.taken c.args.out.now) (g.K.Sink.taken c.args.out.now)
    (λ e. let bad = c.in-Err-Memory.ensures.none (ap (map store_of) c.deref.ensures.value ∙ e) in cc) files told first

pub returns-in-Ok-store_all-clause-one_put : goal.returns-in-Ok-store_all-clause-one_put
returns-in-Ok-store_all-clause-one_put g c = line_put _ _ _ _ _ c.print_line.ensures.one_put c.print_line.ensures.silent

pub returns-in-Err-Failed-clause-one_put : goal.returns-in-Err-Failed-clause-one_put
returns-in-Err-Failed-clause-one_put g c =
    let rose = subst (λ n. Rose n (g.F.Folder.write_faults c.store_all.new.folder)) c.answer_words.ensures.write_faults_same
    (c.in-Err-Failed.ensures.failed_counted (ap Err c.in-Err-Failed.field-0-is)) in
    no_put 4 _ _ _ (inl refl) (λ four stood. rose_stood _ _ rose stood)
