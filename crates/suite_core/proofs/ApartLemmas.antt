-- Claims: no ID gets one more holder (`no-new-holders`), and IDs stay apart (`ids-stay-apart`). Way: what each deed keeps, a
-- command keeps, whose words may ask for nothing (`command-keeps`), and so do commands one after another (`fold-keeps`). The
-- settled files of a lawful history are their fold.
use Rattle.std.proofs.Common.{◌≡◌, ℕ, Bool, List, [], ◌∷◌, refl, sym, subst, arith, Option, Some, None, option_map, unwrap_or, Result, Ok, Err}
use Rattle.std.specs.Prelude.{⊤}
use Rattle.acct_text.specs.Bytes.{Bytes}
use Rattle.acct_text.specs.Contents.{Contents}
use Rattle.acct_text.specs.Files.{table_of}
use Rattle.acct_text.specs.declared.files.Files.{Files}
use Rattle.acct_outside.specs.Calls.{Command}
use Rattle.acct_outside.specs.Folder.{settings_file}
use Rattle.acct_outside.specs.History.{after}
use Rattle.account_model.specs.declared.word_fault.WordFault.{WordFault}
use Rattle.account_model.specs.Answer.{deed}
use Rattle.account_model.specs.Request.{Request}
use Rattle.account_model.specs.Words.{Asks, request_of}
use Rattle.account_model.proofs.AsksLaws.{asks_iff_read}
use Rattle.suite_rules.specs.Deeds.{SuiteDeeds}
use Rattle.suite_rules.specs.Laws.{LawfulSettles}
use Rattle.suite_rules.specs.Settled.{settled}
use Rattle.suite_rules.specs.Committed.{Commitment, committed, fold_deeds, folded}
use Rattle.suite_session.specs.Deeds.{AreOfTools, files_of, tools_deed}
use Rattle.ids_apart.specs.Apart.{UidsAreDistinct, GidsAreDistinct, SubuidsAreApart, SubgidsAreApart}
use Rattle.ids_apart.specs.Holders.{gid_holders, shares_gid, shares_uid, subgid_holders, subuid_holders, uid_holders}
use Rattle.ids_apart.specs.Laws.{AddsNoHolder, DeedsAddNoHolders, IsKept, MeetNoMore, NoneDoes, ShareNoIds, DeedsKeepIdsApart}
use Rattle.suite_core.specs.Apart.{AddsNoHolders, AreAny, AreNone, AreWithoutSharing, NoNewHolders, StaysSo, IdsStayApart}

-- a deed by what the words ask for
abbrev pub deed_by : Result Request WordFault → Command → Contents → Option Bytes → Option Contents
deed_by read command contents defs = elim read [
  | Err fault ↦ None
  | Ok request ↦ option_map table_of
      (deed request command.input command.day (files_of contents) defs)
]

module _ (IsAsked : Request → List ℕ → Type 0) (Holds : Files → Type 0)
    (kept : IsKept IsAsked Holds) where
  -- the files after a deed, if there is one
  deed-keeps :
      (request : Request) (command : Command) (contents : Contents) (defs : Option Bytes)
      (made : Option Files)
      → IsAsked request command.input
      → deed request command.input command.day (files_of contents) defs ≡ made
      → Holds (files_of contents)
      → Holds (files_of (unwrap_or (option_map table_of made) contents))
  deed-keeps request command contents defs None asked makes holds = holds
  deed-keeps request command contents defs (Some new) asked makes holds =
      kept request command.input command.day (files_of contents) defs new asked makes holds

  -- the files after a command, by what its words ask for
  read-keeps :
      (command : Command) (contents : Contents) (defs : Option Bytes)
      (read : Result Request WordFault)
      → ((request : Request) → read ≡ Ok request → IsAsked request command.input)
      → Holds (files_of contents)
      → Holds (files_of (unwrap_or (deed_by read command contents defs) contents))
  read-keeps command contents defs (Err fault) asked holds = holds
  read-keeps command contents defs (Ok request) asked holds =
      deed-keeps request command contents defs
      (deed request command.input command.day (files_of contents) defs)
      (asked request refl) refl holds

  -- the files after a command
  command-keeps :
      (command : Command) (contents : Contents) (defs : Option Bytes)
      → ((request : Request) → Asks command.words request → IsAsked request command.input)
      → Holds (files_of contents)
      → Holds (files_of (unwrap_or (tools_deed command contents defs) contents))
  command-keeps command contents defs asked holds =
      read-keeps command contents defs (request_of command.words)
      (λ request read. asked request ((asks_iff_read command.words request).1 read)) holds

  module _ (AreSuch : List Commitment → Type 0)
      (first_is : (one : Commitment) (list : List Commitment) → AreSuch (one ∷ list)
      → (request : Request) → Asks one.command.words request
      → IsAsked request one.command.input)
      (rest_are : (one : Commitment) (list : List Commitment) → AreSuch (one ∷ list)
      → AreSuch list) where
    -- the files after commands, one after another
    fold-keeps :
        (deeds : SuiteDeeds)
        → AreOfTools deeds
        → (defs : Option Bytes) (list : List Commitment) (contents : Contents)
        → AreSuch list
        → Holds (files_of contents)
        → Holds (files_of (fold_deeds deeds defs contents list))
    fold-keeps deeds ours defs [] contents such holds = holds
    fold-keeps deeds ours defs (one ∷ list) contents such holds =
        fold-keeps deeds ours defs list (unwrap_or (deeds.deed one.command contents defs) contents)
        (rest_are one list such)
        (subst (λ (by : Command → Contents → Option Bytes → Option Contents).
        Holds (files_of (unwrap_or (by one.command contents defs) contents)))
        (sym ours.is_deed)
        (command-keeps one.command contents defs (first_is one list such) holds))

    -- and so it is in any history
    stays-so : LawfulSettles → StaysSo AreSuch Holds
    stays-so settles = record {
      after_front = λ deeds ours first history front later is such holds.
          fold-keeps deeds ours (settings_file first) front (settled first) such holds;
      at_present = λ deeds ours first history lawful such holds.
          let same : settled (after first history) ≡ folded deeds first (committed history) =
          λ i table. settles.is_fold deeds first history lawful table i
          in subst (λ (contents : Contents). Holds (files_of contents)) (sym same)
          (fold-keeps deeds ours (settings_file first) (committed history)
          (settled first) such holds);
    }

-- what every command keeps
any-stays :
    (Holds : Files → Type 0)
    → IsKept (λ request input. ⊤) Holds
    → LawfulSettles
    → StaysSo AreAny Holds
any-stays Holds kept settles = stays-so (λ request input. ⊤) Holds kept AreAny
    (λ one list such request asks. tt) (λ one list such. tt) settles

-- what commands without `-o` keep
own-stays :
    (Holds : Files → Type 0)
    → IsKept ShareNoIds Holds
    → LawfulSettles
    → StaysSo AreWithoutSharing Holds
own-stays Holds kept settles = stays-so ShareNoIds Holds kept AreWithoutSharing
    (λ one list such request asks. such.0 request asks) (λ one list such. such.1) settles

-- ---- Holders

-- a bound on the holders stays, after each deed that adds none
met-kept :
    (IsAsked : Request → List ℕ → Type 0) (holders : Files → ℕ) (most : ℕ)
    → AddsNoHolder IsAsked holders
    → IsKept IsAsked (λ files. MeetNoMore most (holders files))
met-kept IsAsked holders most adds request input day old defs new asked e met =
    omega (arith, met, adds request input day old defs new asked e)

-- so no more come to an ID than at first
adds-none :
    (AreSuch : List Commitment → Type 0) (holders : Files → ℕ)
    → ((most : ℕ) → StaysSo AreSuch (λ files. MeetNoMore most (holders files)))
    → AddsNoHolders AreSuch holders
adds-none AreSuch holders stays = record {
  after_front = λ deeds ours first history front later is such.
      (stays (holders (files_of (settled first)))).after_front deeds ours first history front later
      is such (omega arith);
  at_present = λ deeds ours first history lawful such.
      (stays (holders (files_of (settled first)))).at_present deeds ours first history lawful such
      (omega arith);
}

-- whatever is committed
any-adds-none :
    (holders : Files → ℕ)
    → AddsNoHolder (λ request input. ⊤) holders
    → LawfulSettles
    → AddsNoHolders AreAny holders
any-adds-none holders adds settles = adds-none AreAny holders
    (λ most. any-stays (λ files. MeetNoMore most (holders files))
    (met-kept (λ request input. ⊤) holders most adds) settles)

-- where no committed command shares it
unshared-adds-none :
    (shares : Request → Bool) (holders : Files → ℕ)
    → AddsNoHolder (NoneDoes shares) holders
    → LawfulSettles
    → AddsNoHolders (AreNone shares) holders
unshared-adds-none shares holders adds settles = adds-none (AreNone shares) holders
    (λ most. stays-so (NoneDoes shares) (λ files. MeetNoMore most (holders files))
    (met-kept (NoneDoes shares) holders most adds) (AreNone shares)
    (λ one list such request asks. such.0 request asks) (λ one list such. such.1) settles)

-- the law of holders
pub no-new-holders : DeedsAddNoHolders → LawfulSettles → NoNewHolders
no-new-holders adds settles = record {
  uids = λ uid. unshared-adds-none (shares_uid uid) (uid_holders uid) (adds.uids uid) settles;
  gids = λ gid. unshared-adds-none (shares_gid gid) (gid_holders gid) (adds.gids gid) settles;
  subuids = λ number. any-adds-none (subuid_holders number) (adds.subuids number) settles;
  subgids = λ number. any-adds-none (subgid_holders number) (adds.subgids number) settles;
}

-- ---- All apart

-- the law
pub ids-stay-apart : DeedsKeepIdsApart → LawfulSettles → IdsStayApart
ids-stay-apart keeps settles = record {
  subuids = any-stays SubuidsAreApart keeps.subuids settles;
  subgids = any-stays SubgidsAreApart keeps.subgids settles;
  uids = own-stays UidsAreDistinct keeps.uids settles;
  gids = own-stays GidsAreDistinct keeps.gids settles;
}
