use Rattle.std.proofs.Common.{ℕ, ◌∙◌, ap, refl}
use Rattle.acct_outside.specs.Calls.{CallResult, Found, reads, found_within}
use Rattle.acct_outside.specs.Moment.{Past}
use Rattle.acct_outside.specs.Contract.{GivesRead, found_of, found_result}
use Rattle.memory_folder.specs.Logged.{past_in, with_event, folder_after}
use Rattle.memory_folder.specs.Memory.{past_of}
use Rattle.memory_folder.specs.Events.{done_event}
use Rattle.memory_folder.proofs.ToldLemmas.{told_want, told_done}
use Rattle.acct_outside.specs.Folder.{Folder}
use Rattle.acct_outside.specs.History.{History, after}
use Rattle.acct_outside.specs.declared.Name.{Name}
use Rattle.memory_folder.proofs.memory_calls.MemoryFolderFolder.read.Goals as goal

-- the read gives what stands up to its limit
abbrev gives_read : ℕ → (name : Name) → Folder → History → CallResult Found → Type 0
gives_read limit name first between result = GivesRead limit (after first between) name result

pub returns-in_err-found-clause-told : goal.returns-in_err-found-clause-told
returns-in_err-found-clause-told c =
    told_want (past_of c.args.self.now) (past_in c.read.new.self) c.args.by.now
    (reads c.args.name) (gives_read c.args.limit c.args.name) found_result refl
    c.from_residual-in_err-found.result c.from_residual-in_err-found.ensures
    (c.in_err-found.ensures.err ∙ ap past_of c.in_ok-pass.ensures.same)

pub returns-clause-told : goal.returns-clause-told
returns-clause-told c =
    let by = c.args.by.now in
    let name = c.args.name in
    let found = found_of c.in_ok-found.found in
    let same = ap past_of c.in_ok-pass.ensures.same in
    told_done (past_of c.args.self.now) (past_in c.read.new.self) by (reads name)
    (gives_read c.args.limit name) found
    (c.in_ok-found.ensures.ok ∙ ap (with_event (done_event by (reads name) found)) same)
    (c.in_ok-found.ensures.value
    ∙ ap (λ (past : Past). found_within c.args.limit ((folder_after past).file name)) same)
