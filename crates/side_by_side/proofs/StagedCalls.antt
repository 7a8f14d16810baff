-- Claims: what a call of a staged folder tells, in the words of the trait: after the events of its
-- sessions (`calls-so`, `lists-so`, `reads-so`, `begins-so`), or where these found no
-- memory (`want-of` and its likes); that they take part still (`part-so`, `begin-part`); and that the
-- next list is taken before the call (`calls-next`), or breaks off (`breaks-off`): both in one for a
-- call with an event of its own (`call-made`, `call-wanted`).
-- Way: StagedLemmas. The staged folder is `start` before and `between` after the steps of its sessions;
-- `folder` is the folder in memory after its own call.
use Rattle.std.proofs.Common.{◌≡◌, inl, inr, refl, sym, ap, subst, ℕ, ◌≤◌, List, [], ◌∷◌, Some, Result, Ok, Err, arith}
use Rattle.std.specs.Prelude.{IfOk, IsErr, IsErrAnd}
use Rattle.std.specs.Global.{Vec}
use Rattle.acct_outside.specs.declared.Name.{Name}
use Rattle.acct_outside.specs.declared.FolderFault.{FolderFault}
use Rattle.acct_outside.specs.declared.FolderFault.TheVariants.{Failed, Memory}
use Rattle.acct_outside.specs.declared.Found.{Found as Reading}
use Rattle.memory_folder.specs.declared.memory.MemoryFolder.{MemoryFolder}
use Rattle.acct_outside.specs.Tokens.{Token}
use Rattle.acct_outside.specs.Folder.{Folder}
use Rattle.acct_outside.specs.Calls.{Answer, Call, CallResult, Command, answers, begins, lists, reads}
use Rattle.acct_outside.specs.Contract.{BeginsSession, CallsFolder, GivesRead, ListsLocks, MayAct, MayAnswer, NeverAdmits, Passes, ReadsFolder, Tells, TellsBegin, TellsCall, TellsRead, WhereTold, found_result, locks_result}
use Rattle.acct_outside.specs.Faults.{CountsFailure}
use Rattle.acct_outside.specs.Gives.{GivesResult}
use Rattle.acct_outside.specs.History.{History, after}
use Rattle.memory_folder.specs.Memory.{NotesIn, TellsIn, faults_of, moment_of, no_others, past_of}
use Rattle.acct_outside.specs.Journal.{Entry, Reply, listing_reply, makes, plain_reply, reply_of, was_done, was_refused}
use Rattle.acct_outside.proofs.JournalLemmas.{refused}
use Rattle.acct_outside.specs.Moment.{Moment}
use Rattle.side_by_side.specs.Scenes.{Scene, TakePart, scene, telling}
use Rattle.side_by_side.specs.Advances.{Advances, IsOutsider, by_sessions}
use Rattle.side_by_side.specs.Staged.{Stage, scene_in, stage_with, staged_moment}
use Rattle.side_by_side.specs.Lists.{CallsAtOnce, CallsNext, PlaysNext, next_list}
use Rattle.side_by_side.specs.Steps.{TakesSteps}
use Rattle.side_by_side.proofs.SceneLemmas.{advances-narrow, advances-none}
use Rattle.side_by_side.proofs.StagedLemmas.{OneCame, acting-outside, answering-outside, begin-strangers, begins-after, begun-one, begun-outside, begun_token, never-outsiders, part-after, passes-after, tells-after, told-one}

-- the stage with another folder in memory and another journal
abbrev pub with_files : MemoryFolder → List Entry → Stage → Stage
with_files folder journal stage = stage_with folder stage.others stage.left journal

-- the stage with another journal
abbrev pub with_journal : List Entry → Stage → Stage
with_journal journal stage = stage_with stage.files stage.others stage.left journal

-- the journal of the stage has this entry more
abbrev pub NotesAt : Stage → List Entry → Entry → Type 0
NotesAt start journal entry = journal ≡ entry ∷ start.journal

-- what the folder gives to a call
abbrev pub gives_call : Token → (call : Call) → Folder → History → CallResult (Answer call) → Type 0
gives_call token call first between result =
    GivesResult (after first between) between token call result

-- what it gives to a read up to a limit
abbrev pub gives_read : ℕ → (name : Name) → Folder → History →
    CallResult (Answer (reads name)) → Type 0
gives_read limit name first between result = GivesRead limit (after first between) name result

module _ (start between : Stage) (folder : MemoryFolder) (journal : List Entry)
    (advances : Advances (scene_in start) (scene_in between)) (token : Token) where
  -- the scene after the call
  abbrev later : Scene
  later = scene folder between.others

  -- a call
  pub calls-so : (call : Call) (result : Result (Answer call) FolderFault) →
      TellsIn between.files folder token call result →
      CountsFailure Failed (faults_of between.files) (faults_of folder) result →
      NotesAt start journal (makes call (reply_of call result)) →
      CallsFolder (staged_moment start)
      (staged_moment (with_files folder journal between)) token call result
  calls-so call result told counts noted =
      passes-after (scene_in start) (scene_in between) later advances refl token
      (told-one (telling between.files) (telling folder) token call
      (gives_call token call) result told)
      _ (tells-after (scene_in start) (scene_in between) later advances refl token call
      (gives_call token call) result told) result counts start.journal journal _ noted

  -- a listing
  pub lists-so : (result : Result (Vec ℕ) FolderFault) →
      TellsIn between.files folder token lists (locks_result result) →
      CountsFailure Failed (faults_of between.files) (faults_of folder) result →
      NotesAt start journal (makes lists (listing_reply (locks_result result))) →
      ListsLocks (staged_moment start) (staged_moment (with_files folder journal between)) token
      result
  lists-so result told counts noted =
      passes-after (scene_in start) (scene_in between) later advances refl token
      (told-one (telling between.files) (telling folder) token lists (gives_call token lists)
      (locks_result result) told)
      _ (tells-after (scene_in start) (scene_in between) later advances refl token lists
      (gives_call token lists) (locks_result result) told) result counts start.journal journal _
      noted

  -- a read
  pub reads-so : (name : Name) (limit : ℕ) (result : Result Reading FolderFault) →
      TellsRead (moment_of between.files) (moment_of folder) token name limit result →
      CountsFailure Failed (faults_of between.files) (faults_of folder) result →
      NotesAt start journal (makes (reads name) (plain_reply result)) →
      ReadsFolder (staged_moment start)
      (staged_moment (with_files folder journal between)) token name limit result
  reads-so name limit result told counts noted =
      passes-after (scene_in start) (scene_in between) later advances refl token
      (told-one (telling between.files) (telling folder) token (reads name) (gives_read limit name)
      (found_result result) told)
      _ (tells-after (scene_in start) (scene_in between) later advances refl token (reads name)
      (gives_read limit name) (found_result result) told) result counts start.journal journal _
      noted

  -- the sessions after a call of an outsider
  pub part-so : (call : Call) (gives : Folder → History → CallResult (Answer call) → Type 0)
      (result : Result (Answer call) FolderFault) →
      WhereTold (Some (past_of between.files)) (Some (past_of folder))
      (λ first old new. TellsCall no_others token call (gives first) result old new) →
      IsOutsider (scene_in start) token → TakePart (scene_in between) → TakePart later
  part-so call gives result told outsider part =
      part-after (telling between.files) (telling folder) token
      (told-one (telling between.files) (telling folder) token call gives result told)
      between.others
      (advances.outsiders token outsider).stranger part

-- ---- Where the sessions found no memory

module _ (start between : Stage) (journal : List Entry)
    (advances : Advances (scene_in start) (scene_in between)) where
  -- the stage then
  abbrev wanted : Stage
  wanted = with_journal journal between

  -- the folder passes on with what is told
  want-passes : {T : Type 0} (Told : Type 0) (entry : Entry) → NotesAt start journal entry → Told →
      Passes {T = T} (staged_moment start) (staged_moment wanted) Told entry (Err Memory)
  want-passes Told entry noted told = record {
    told = told;
    noted = noted;
    narrows = advances-narrow (scene_in start) (scene_in between) advances;
    faults = record {
      never_falls = advances.never_falls;
      failed = λ is. absurd (cc is);
    };
  }

  -- a result that passes on want of memory
  want-result : (T : Type 0) (Told : Result T FolderFault → Type 0) (call : Call)
      (reply : Result T FolderFault → Reply) → reply (Err Memory) ≡ was_refused →
      NotesAt start journal (makes call was_refused) → Told (Err Memory) →
      (result : Result T FolderFault) → IsErr result × IsErrAnd result (λ fault. fault ≡ Memory) →
      Passes (staged_moment start) (staged_moment wanted) (Told result) (makes call (reply result))
      result
  want-result T Told call reply refused_is noted told (Ok value) is = absurd (cc (is.0))
  want-result T Told call reply refused_is noted told (Err fault) is =
      subst (λ (one : FolderFault). Passes {T = T} (staged_moment start) (staged_moment wanted)
      (Told (Err one)) (makes call (reply (Err one))) (Err one)) (sym is.1)
      (want-passes (Told (Err Memory)) (makes call (reply (Err Memory)))
      (subst (λ (one : Reply). NotesAt start journal (makes call one)) (sym refused_is) noted) told)

  -- a call
  pub want-of : (token : Token) (call : Call) → NotesAt start journal (makes call was_refused) →
      (result : Result (Answer call) FolderFault) →
      IsErr result × IsErrAnd result (λ fault. fault ≡ Memory) →
      CallsFolder (staged_moment start) (staged_moment wanted) token call result
  want-of token call noted = want-result (Answer call)
      (Tells (staged_moment start) (staged_moment wanted) token call) call (reply_of call)
      (refused call Memory) noted (advances.first, advances.came)

  -- a listing
  pub want-lists : (token : Token) → NotesAt start journal (makes lists was_refused) →
      (result : Result (Vec ℕ) FolderFault) →
      IsErr result × IsErrAnd result (λ fault. fault ≡ Memory) →
      ListsLocks (staged_moment start) (staged_moment wanted) token result
  want-lists token noted = want-result (Vec ℕ)
      (λ result. Tells (staged_moment start) (staged_moment wanted)
      token lists (locks_result result)) lists (λ result. listing_reply (locks_result result)) refl
      noted (advances.first, advances.came)

  -- a read
  pub want-reads : (token : Token) (name : Name) (limit : ℕ) →
      NotesAt start journal (makes (reads name) was_refused) →
      (result : Result Reading FolderFault) →
      IsErr result × IsErrAnd result (λ fault. fault ≡ Memory) →
      ReadsFolder (staged_moment start) (staged_moment wanted) token name limit result
  want-reads token name limit noted = want-result Reading
      (TellsRead (staged_moment start) (staged_moment wanted) token name limit) (reads name)
      (λ result. plain_reply result) refl noted (advances.first, advances.came)

  -- a begin
  pub want-begins : (command : Command) → NotesAt start journal (makes (begins command) was_refused)
      →
      (result : Result Token FolderFault) →
      IsErr result × IsErrAnd result (λ fault. fault ≡ Memory) →
      BeginsSession (staged_moment start) (staged_moment wanted) command result
  want-begins command noted = want-result Token
      (λ result. WhereTold (staged_moment start).told (staged_moment wanted).told
      (TellsBegin (staged_moment start).admits command result)) (begins command)
      (λ result. plain_reply result) refl noted (advances.first, advances.came)

-- ---- A begin

module _ {start between : Stage} (played : PlaysNext start between) (folder : MemoryFolder)
    (journal : List Entry) (command : Command) (result : Result Token FolderFault)
    (told : WhereTold (Some (past_of between.files)) (Some (past_of folder))
    (TellsBegin no_others command result)) where
  -- its one event
  begin-one : OneCame (telling between.files) (telling folder) (begun_token result)
  begin-one = begun-one (telling between.files) (telling folder) command result told

  -- what it tells
  pub begins-so : CountsFailure Failed (faults_of between.files) (faults_of folder) result →
      NotesAt start journal (makes (begins command) (plain_reply result)) →
      BeginsSession (staged_moment start) (staged_moment (with_files folder journal between))
      command result
  begins-so counts noted =
      passes-after (scene_in start) (scene_in between) (scene folder between.others) played.advances
      refl (begun_token result) begin-one _
      (begins-after (scene_in start) (scene_in between) (scene folder between.others)
      played.advances refl command result told) result counts start.journal journal _ noted

  -- the sessions after it
  pub begin-part : TakePart (scene folder between.others)
  begin-part = part-after (telling between.files) (telling folder) (begun_token result) begin-one
      between.others
      (begin-strangers (telling between.files) (telling folder) command result told
      between.others played.take_part.each)
      played.take_part

-- none of the events of the session that begins is admitted
pub begin-own : {start between : Stage} → PlaysNext start between → (folder : MemoryFolder)
    (command : Command) (result : Result Token FolderFault) →
    WhereTold (Some (past_of between.files)) (Some (past_of folder))
    (TellsBegin no_others command result) →
    IfOk result (NeverAdmits (by_sessions (scene folder between.others)))
begin-own {between = between} played folder command (Ok token) told =
    never-outsiders (scene folder between.others) token
    (begun-outside (telling between.files) (telling folder) command token told
    between.others played.take_part.each)
begin-own played folder command (Err fault) told = tt

-- ---- In the words of a call, whose staged folder has this value before

-- a call of the folder in memory, which admits none of others, passes on so
pub in-memory : {T : Type 0} (old new : MemoryFolder) (Told : Type 0) → Told →
    (result : Result T FolderFault) → CountsFailure Failed (faults_of old) (faults_of new) result →
    (entry : Entry) → NotesIn old new entry → Passes (moment_of old) (moment_of new) Told entry
    result
in-memory old new Told told result counts entry noted = record {
  told = told;
  noted = noted;
  narrows = λ history event admitted. admitted;
  faults = counts;
}

-- what a call with an event tells: in the words of the trait, and that the next list came first
abbrev pub TellsNext : Stage → Stage → Token → (made : Call) → Result (Answer made) FolderFault
    → Type 0
TellsNext value now token made result = record {
  call : CallsFolder (staged_moment value) (staged_moment now) token made result;
  next : CallsNext value now (λ before after. CallsFolder before after token made result) result;
}

module _ {start value between : Stage} (is : start ≡ value) (played : PlaysNext start between) where
  -- what is said of the parts is said of the value
  said : (Says : Stage → Type 0) → Says start → Says value
  said Says told = subst Says is told

  -- who may call is an outsider
  may-outside : (token : Token) → MayAct (staged_moment value) token →
      IsOutsider (scene_in start) token
  may-outside token may = acting-outside (scene_in start) token start.journal
      (subst (λ (parts : Stage). MayAct (staged_moment parts) token) (sym is) may)

  -- a call
  calls-told : (folder : MemoryFolder) (journal : List Entry) (token : Token) (call : Call)
      (result : Result (Answer call) FolderFault) →
      TellsIn between.files folder token call result →
      CountsFailure Failed (faults_of between.files) (faults_of folder) result →
      NotesAt start journal (makes call (reply_of call result)) →
      CallsFolder (staged_moment value)
      (staged_moment (with_files folder journal between)) token call result
  calls-told folder journal token call result told counts noted = said
      (λ parts. CallsFolder (staged_moment parts)
      (staged_moment (with_files folder journal between)) token call result)
      (calls-so start between folder journal played.advances token call result told counts noted)

  -- the sessions after it
  pub calls-part : (folder : MemoryFolder) (token : Token) (call : Call)
      (result : Result (Answer call) FolderFault) →
      TellsIn between.files folder token call result → MayAct (staged_moment value) token →
      TakePart (scene folder between.others)
  calls-part folder token call result told may = part-so start between folder [] played.advances
      token
      call (gives_call token call) result told (may-outside token may) played.take_part

  -- a listing
  pub lists-told : (folder : MemoryFolder) (journal : List Entry) (token : Token)
      (result : Result (Vec ℕ) FolderFault) →
      TellsIn between.files folder token lists (locks_result result) →
      CountsFailure Failed (faults_of between.files) (faults_of folder) result →
      NotesAt start journal (makes lists (listing_reply (locks_result result))) →
      ListsLocks (staged_moment value) (staged_moment (with_files folder journal between)) token
      result
  lists-told folder journal token result told counts noted = said
      (λ parts. ListsLocks (staged_moment parts)
      (staged_moment (with_files folder journal between)) token result)
      (lists-so start between folder journal played.advances token result told counts noted)

  -- a read
  pub reads-told : (folder : MemoryFolder) (journal : List Entry) (token : Token) (name : Name)
      (limit : ℕ) (result : Result Reading FolderFault) →
      TellsRead (moment_of between.files) (moment_of folder) token name limit result →
      CountsFailure Failed (faults_of between.files) (faults_of folder) result →
      NotesAt start journal (makes (reads name) (plain_reply result)) →
      ReadsFolder (staged_moment value)
      (staged_moment (with_files folder journal between)) token name limit result
  reads-told folder journal token name limit result told counts noted = said
      (λ parts. ReadsFolder (staged_moment parts)
      (staged_moment (with_files folder journal between)) token name limit
      result)
      (reads-so start between folder journal played.advances token name limit result told counts
      noted)

  -- the sessions after it
  pub reads-part : (folder : MemoryFolder) (token : Token) (name : Name) (limit : ℕ)
      (result : Result Reading FolderFault) →
      TellsRead (moment_of between.files) (moment_of folder) token name limit result →
      MayAct (staged_moment value) token → TakePart (scene folder between.others)
  reads-part folder token name limit result told may = part-so start between folder []
      played.advances token (reads name) (gives_read limit name) (found_result result) told
      (may-outside token may) played.take_part

  -- a begin
  pub begins-told : (folder : MemoryFolder) (journal : List Entry) (command : Command)
      (result : Result Token FolderFault) →
      WhereTold (Some (past_of between.files)) (Some (past_of folder))
      (TellsBegin no_others command result) →
      CountsFailure Failed (faults_of between.files) (faults_of folder) result →
      NotesAt start journal (makes (begins command) (plain_reply result)) →
      BeginsSession (staged_moment value) (staged_moment (with_files folder journal between))
      command result
  begins-told folder journal command result told counts noted = said
      (λ parts. BeginsSession (staged_moment parts)
      (staged_moment (with_files folder journal between)) command result)
      (begins-so played folder journal command result told counts noted)

  -- want of memory, of a call
  want-told : (journal : List Entry) (token : Token) (call : Call) →
      NotesAt start journal (makes call was_refused) → (result : Result (Answer call) FolderFault) →
      IsErr result × IsErrAnd result (λ fault. fault ≡ Memory) →
      CallsFolder (staged_moment value) (staged_moment (with_journal journal between)) token call
      result
  want-told journal token call noted result none = said
      (λ parts. CallsFolder (staged_moment parts) (staged_moment (with_journal journal between))
      token call result)
      (want-of start between journal played.advances token call noted result none)

  -- of a listing
  pub want-listed : (journal : List Entry) (token : Token) →
      NotesAt start journal (makes lists was_refused) → (result : Result (Vec ℕ) FolderFault) →
      IsErr result × IsErrAnd result (λ fault. fault ≡ Memory) →
      ListsLocks (staged_moment value) (staged_moment (with_journal journal between)) token result
  want-listed journal token noted result none = said
      (λ parts. ListsLocks (staged_moment parts) (staged_moment (with_journal journal between))
      token
      result)
      (want-lists start between journal played.advances token noted result none)

  -- of a read
  pub want-read : (journal : List Entry) (token : Token) (name : Name) (limit : ℕ) →
      NotesAt start journal (makes (reads name) was_refused) →
      (result : Result Reading FolderFault) →
      IsErr result × IsErrAnd result (λ fault. fault ≡ Memory) →
      ReadsFolder (staged_moment value) (staged_moment (with_journal journal between)) token name
      limit result
  want-read journal token name limit noted result none = said
      (λ parts. ReadsFolder (staged_moment parts) (staged_moment (with_journal journal between))
      token
      name limit result)
      (want-reads start between journal played.advances token name limit noted result none)

  -- of a begin
  pub want-begun : (journal : List Entry) (command : Command) →
      NotesAt start journal (makes (begins command) was_refused) →
      (result : Result Token FolderFault) →
      IsErr result × IsErrAnd result (λ fault. fault ≡ Memory) →
      BeginsSession (staged_moment value) (staged_moment (with_journal journal between)) command
      result
  want-begun journal command noted result none = said
      (λ parts. BeginsSession (staged_moment parts) (staged_moment (with_journal journal between))
      command result)
      (want-begins start between journal played.advances command noted result none)

  -- the list was taken, and the call was made
  pub calls-next : {T : Type 0} (folder : MemoryFolder) (journal : List Entry) →
      TakesSteps (next_list start.left) (scene_in start) (scene_in between) →
      (Told : Moment → Moment → Type 0) (result : Result T FolderFault) →
      Told (moment_of between.files) (moment_of folder) →
      CallsNext value (with_files folder journal between) Told result
  calls-next folder journal taken Told result told = said
      (λ before. CallsNext before (with_files folder journal between) Told result)
      (inl (
        between,
        record { left = played.left; taken = taken },
        record { told = told; others = refl; left = refl },
      ))

  -- the list broke off
  pub breaks-off : {T : Type 0} (journal : List Entry) (Told : Moment → Moment → Type 0)
      (result : Result T FolderFault) → IsErr result × IsErrAnd result (λ fault. fault ≡ Memory) →
      CallsNext value (with_journal journal between) Told result
  breaks-off journal Told (Ok answer) wrong = absurd (cc (wrong.0))
  breaks-off {T = T} journal Told (Err fault) is_memory = said
      (λ before. CallsNext {T = T} before (with_journal journal between) Told (Err fault))
      (inr (
        record { left = played.left; taken = played.front },
        ap (λ (one : FolderFault). Err one) is_memory.1,
      ))

  -- the list broke off, and a call with an event wasn't made
  pub call-wanted : (journal : List Entry) (token : Token) (call : Call) →
      NotesAt start journal (makes call was_refused) → (result : Result (Answer call) FolderFault) →
      IsErr result × IsErrAnd result (λ fault. fault ≡ Memory) →
      TellsNext value (with_journal journal between) token call result
  call-wanted journal token call noted result none = record {
    call = want-told journal token call noted result none;
    next = breaks-off journal (λ before now. CallsFolder before now token call result) result none;
  }

  -- it was made
  pub call-made : (folder : MemoryFolder) (journal : List Entry) →
      TakesSteps (next_list start.left) (scene_in start) (scene_in between) →
      (token : Token) (call : Call) (result : Result (Answer call) FolderFault) →
      TellsIn between.files folder token call result →
      CountsFailure Failed (faults_of between.files) (faults_of folder) result →
      NotesAt start journal (makes call (reply_of call result)) →
      NotesIn between.files folder (makes call (reply_of call result)) →
      TellsNext value (with_files folder journal between) token call result
  call-made folder journal whole token call result told counts noted beside = record {
    call = calls-told folder journal token call result told counts noted;
    next = calls-next folder journal whole
        (λ before now. CallsFolder before now token call result) result
        (in-memory between.files folder _ told result counts _ beside);
  }

-- who may answer is an outsider, so the sessions take part still, and the answer is told
module _ (start value : Stage) (folder : MemoryFolder) (journal : List Entry) (is : start ≡ value)
    (token : Token) (status : ℕ)
    (told : TellsIn start.files folder token (answers status) (Ok tt)) where
  -- the sessions after it
  pub answered-part : MayAnswer (staged_moment value) token → TakePart (scene_in start) →
      TakePart (scene folder start.others)
  answered-part may part = part-so start start folder journal (advances-none (scene_in start)) token
      (answers status) (gives_call token (answers status)) (Ok tt) told
      (answering-outside (scene_in start) token start.journal
      (subst (λ (parts : Stage). MayAnswer (staged_moment parts) token) (sym is)
      may)) part

  -- an answer is no fault
  answered-counts : faults_of folder ≡ faults_of start.files →
      CountsFailure {T = Answer (answers status)} Failed
      (faults_of start.files) (faults_of folder) (Ok tt)
  answered-counts same = record {
    never_falls = subst (λ (count : ℕ). faults_of start.files ≤ count) (sym same) (omega arith);
    failed = λ wrong. absurd (cc wrong);
  }

  -- what it tells
  pub answered-told : faults_of folder ≡ faults_of start.files →
      NotesAt start journal (makes (answers status) was_done) →
      CallsFolder (staged_moment value)
      (staged_moment (with_files folder journal start)) token (answers status)
      (Ok tt)
  answered-told same noted = subst
      (λ (parts : Stage). CallsFolder (staged_moment parts)
      (staged_moment (with_files folder journal start)) token (answers status) (Ok tt)) is
      (calls-so start start folder journal (advances-none (scene_in start)) token (answers status)
      (Ok tt) told (answered-counts same) noted)

  -- it is told at once
  pub answered-at-once : faults_of folder ≡ faults_of start.files →
      NotesIn start.files folder (makes (answers status) was_done) →
      CallsAtOnce value (with_files folder journal start)
      (λ before now. CallsFolder before now token (answers status) (Ok tt))
  answered-at-once same beside = subst
      (λ (parts : Stage). CallsAtOnce parts (with_files folder journal start)
      (λ before now. CallsFolder before now token (answers status) (Ok tt))) is
      (record {
        told = in-memory start.files folder _ told (Ok tt) (answered-counts same) _ beside;
        others = refl;
        left = refl;
      })
