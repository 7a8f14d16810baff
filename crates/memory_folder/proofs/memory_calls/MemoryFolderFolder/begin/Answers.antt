use Rattle.std.proofs.Common.{◌≡◌, refl, subst, List, Ok, Err, Some, Result}
use Rattle.std.specs.Prelude.{IfOk}
use Rattle.acct_outside.specs.declared.FolderFault.{FolderFault}
use Rattle.acct_outside.specs.Tokens.{Token}
use Rattle.acct_outside.specs.Calls.{Command}
use Rattle.memory_folder.specs.NewTokens.{IsFirstUnused}
use Rattle.acct_outside.specs.Moment.{Past}
use Rattle.acct_outside.specs.Contract.{MayAct}
use Rattle.memory_folder.specs.Logged.{with_event}
use Rattle.memory_folder.specs.Events.{begin_event, command_of}
use Rattle.memory_folder.specs.Memory.{alive_of, moment_of, past_of, HasRunning}
use Rattle.memory_folder.specs.declared.memory.MemoryFolder.{MemoryFolder}
use Rattle.memory_folder.proofs.ToldLemmas.{Begins, begin_memory, begin_fault, begin_started, begun_runs, may_act}
use Rattle.memory_folder.proofs.memory_calls.MemoryFolderFolder.begin.Goals as goal

-- a session that a begin started runs
starts : (old : Past) (new : MemoryFolder) (outsiders : List Token) (command : Command)
    (result : Result Token FolderFault)
    → IfOk result (λ token. past_of new ≡ with_event (begin_event (Some token) command) old)
    → IfOk result (IsFirstUnused old outsiders)
    → IfOk result (HasRunning new)
starts old new outsiders command (Ok token) is first =
    record { runs = begun_runs old (past_of new) command token first.unused.no_event is }
starts old new outsiders command (Err fault) is first = tt

-- a session that a begin started may call the folder
may_call : (new : MemoryFolder) (result : Result Token FolderFault)
    → IfOk result (HasRunning new)
    → IfOk result (MayAct (moment_of new))
may_call new (Ok token) runs = may_act new token runs
may_call new (Err fault) runs = tt

pub returns-in_default-clause-told : goal.returns-in_default-clause-told
returns-in_default-clause-told c =
    let past = past_of c.args.self.now in
    begin_memory past past
    (record { words = c.args.words.now; input = c.args.input.now; day = c.args.day }) refl

pub returns-in-Ok-None-clause-told : goal.returns-in-Ok-None-clause-told
returns-in-Ok-None-clause-told c =
    let old = past_of c.args.self.now in
    let new = past_of c.start.new.self in
    let is : command_of c.in-Ok.command
    ≡ record { words = c.args.words.now; input = c.args.input.now; day = c.args.day } =
    (λ i. record {
      words = c.in-Ok.ensures.words i;
      input = c.in-Ok.ensures.input i;
      day = c.in-Ok.ensures.day i;
    }) in
    subst (λ (command : Command). Begins old new command c.start.result) is
    (begin_started old new (alive_of c.args.self.now) (command_of c.in-Ok.command)
    c.start.result c.start.ensures.ok c.start.ensures.is_token
    c.start.ensures.token c.start.ensures.memory c.start.ensures.same)

pub returns-in-Ok-None-clause-runs : goal.returns-in-Ok-None-clause-runs
returns-in-Ok-None-clause-runs c =
    starts (past_of c.args.self.now) c.start.new.self (alive_of c.args.self.now)
    (command_of c.in-Ok.command) c.start.result c.start.ensures.ok c.start.ensures.token

pub returns-in-Ok-None-clause-acts : goal.returns-in-Ok-None-clause-acts
returns-in-Ok-None-clause-acts c =
    may_call c.start.new.self c.start.result
    (starts (past_of c.args.self.now) c.start.new.self (alive_of c.args.self.now)
    (command_of c.in-Ok.command) c.start.result c.start.ensures.ok c.start.ensures.token)

pub returns-in-Ok-Some-clause-told : goal.returns-in-Ok-Some-clause-told
returns-in-Ok-Some-clause-told c =
    let old = past_of c.args.self.now in
    let new = past_of c.fail_begin.new.self in
    let is : command_of c.in-Ok.command
    ≡ record { words = c.args.words.now; input = c.args.input.now; day = c.args.day } =
    (λ i. record {
      words = c.in-Ok.ensures.words i;
      input = c.in-Ok.ensures.input i;
      day = c.in-Ok.ensures.day i;
    }) in
    subst (λ (command : Command). Begins old new command (Err c.fail_begin.result)) is
    (begin_fault old new (command_of c.in-Ok.command) c.fail_begin.result
    c.fail_begin.ensures.failed c.fail_begin.ensures.memory)

pub returns-clause-told : goal.returns-clause-told
returns-clause-told c =
    let past = past_of c.args.self.now in
    begin_memory past past
    (record { words = c.args.words.now; input = c.args.input.now; day = c.args.day }) refl
