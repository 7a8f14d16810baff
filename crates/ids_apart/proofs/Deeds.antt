-- Claim: after a deed no ID has one more holder beside others (`deeds-add-none`). Way: what a tool makes that doesn't refuse
-- and touches no multiple name is so, as the records of each table are those of the old, edited; so is what a deed makes,
-- which is made by its tool or, line by line, by those of a batch (`deed-adds-none`).
use Rattle.std.proofs.Common.{◌≡◌, ℕ, false, true, Bool, List, [], ap, inl, inr, refl, subst, arith}
use Rattle.std.specs.Prelude.{⊤, Option, Some, unwrap_or, Ok}
use Rattle.std.specs.List.{AllByRecursion}
use Rattle.acct_text.specs.declared.files.Files.{Files}
use Rattle.account_model.specs.Records.{passwd_format, group_format, subid_format}
use Rattle.account_model.specs.Tables.{Script, files_after}
use Rattle.account_model.specs.Batch.{ensures}
use Rattle.account_model.specs.BatchLines.{line_requests}
use Rattle.account_model.specs.Settings.{Setting, settings_of}
use Rattle.account_model.specs.Request.{Request}
use Rattle.account_model.specs.Words.{is_batch}
use Rattle.account_model.specs.Action.{Made, outcome_of}
use Rattle.account_model.specs.Change.{action_of}
use Rattle.account_model.specs.Answer.{deed}
use Rattle.account_model.proofs.BatchLaws.{IsMade, any-line, batch-keeps, outcome-made}
use Rattle.account_model.proofs.DeedLaws.{deed-makes}
use Rattle.account_model.proofs.LawfulScripts.{IsWrittenOn}
use Rattle.account_model.proofs.ToolLaws.{meaning}
use Rattle.account_model.proofs.SameLaws.{passwd-tells, group-tells, subid-tells}
use Rattle.account_model.proofs.EditLines.{table-edited}
use Rattle.ids_apart.specs.Holders.{gid_holders, range_has, shares_gid, shares_uid, subgid_holders, subuid_holders, uid_holders}
use Rattle.ids_apart.specs.Laws.{AddsNoHolder, DeedsAddNoHolders, MeetNoMore, NoneDoes}
use Rattle.ids_apart.proofs.Keys.{has_key}
use Rattle.ids_apart.proofs.Kept.{uid_key, gid_key, KeepsApart, table-meets}
use Rattle.ids_apart.proofs.Tools.{tool-keeps}

-- ---- What a tool makes

module _ (request : Request) (input : List ℕ) (day : ℕ) (old : Files) (settings : List Setting)
    (made : Made)
    (outcome : outcome_of (action_of request input day old settings) old ≡ Ok made) where
  -- the edits
  abbrev script : Script
  script = (action_of request input day old settings).script

  -- nothing refuses
  is_made : IsMade (action_of request input day old settings) old made
  is_made = outcome-made (action_of request input day old settings) old made outcome

  -- the edits make the new files
  made_files : files_after script old ≡ made.files
  made_files = ap (λ (one : Made). one.files) is_made.makes

  -- what they print of the four tables reads back
  written : IsWrittenOn day script
  written = ((meaning request.tool request input day old settings).script is_made.passes).written

  -- what the tool keeps apart
  keeps : KeepsApart request.tool request old script
  keeps = tool-keeps request input day old settings request.tool is_made.passes is_made.single

  -- subuid
  subuids-met : (number : ℕ) → MeetNoMore (subuid_holders number old)
      (subuid_holders number made.files)
  subuids-met number =
      subst (λ files. MeetNoMore (subuid_holders number old) (subuid_holders number files))
      made_files (table-meets subid_format (range_has number) old.subuid script.subuid
      (table-edited subid_format subid-tells refl) written.subuid (keeps.subuids number))

  -- subgid
  subgids-met : (number : ℕ) → MeetNoMore (subgid_holders number old)
      (subgid_holders number made.files)
  subgids-met number =
      subst (λ files. MeetNoMore (subgid_holders number old) (subgid_holders number files))
      made_files (table-meets subid_format (range_has number) old.subgid script.subgid
      (table-edited subid_format subid-tells refl) written.subgid (keeps.subgids number))

  -- passwd
  uids-met : (uid : ℕ) → shares_uid uid request ≡ false
      → MeetNoMore (uid_holders uid old) (uid_holders uid made.files)
  uids-met uid shares =
      subst (λ files. MeetNoMore (uid_holders uid old) (uid_holders uid files)) made_files
      (table-meets passwd_format (has_key uid_key uid) old.passwd script.passwd
      (table-edited passwd_format passwd-tells refl) written.passwd (keeps.uids uid shares))

  -- group
  gids-met : (gid : ℕ) → shares_gid gid request ≡ false
      → MeetNoMore (gid_holders gid old) (gid_holders gid made.files)
  gids-met gid shares =
      subst (λ files. MeetNoMore (gid_holders gid old) (gid_holders gid files)) made_files
      (table-meets group_format (has_key gid_key gid) old.group script.group
      (table-edited group_format group-tells refl) written.group (keeps.gids gid shares))

-- ---- What a deed makes

-- a step after others
then-met : (first middle last : ℕ) → MeetNoMore first middle → MeetNoMore middle last
    → MeetNoMore first last
then-met first middle last one more = omega (arith, one, more)

-- and none
itself-met : (first : ℕ) → MeetNoMore first first
itself-met first = omega arith

-- what holds of the tools for requests that are so, holds of a deed for a request that is so, of which the lines are so
-- where it is a batch
deed-adds-none :
    (holders : Files → ℕ) (IsSo : Request → Type 0)
    → ((request : Request) (input : List ℕ) (day : ℕ) (old : Files) (settings : List Setting)
    (made : Made) → outcome_of (action_of request input day old settings) old ≡ Ok made
    → IsSo request → MeetNoMore (holders old) (holders made.files))
    → (request : Request) (input : List ℕ) (day : ℕ) (old : Files) (defs : Option (List ℕ))
    (new : Files)
    → IsSo request
    → (is_batch request.tool ≡ true
    → AllByRecursion (λ line. IsSo line.request) (line_requests input))
    → deed request input day old defs ≡ Some new
    → MeetNoMore (holders old) (holders new)
deed-adds-none holders IsSo adds request input day old defs new so lines e =
    let settings = settings_of (unwrap_or defs [])
    in let Met = λ (files : Files). MeetNoMore (holders old) (holders files)
    in elim (deed-makes request input day old defs new e) [
      | inl by_lines ↦ subst Met by_lines.files
          (batch-keeps (ensures request) day settings Met
          (λ line. IsSo line.request) (line_requests input) old by_lines.written
          (λ line is files made outcome met.
          then-met (holders old) (holders files) (holders made.files) met
          (adds line.request [] day files settings made outcome is))
          (lines by_lines.is) by_lines.outcome (itself-met (holders old)))
      | inr by_tool ↦ subst Met by_tool.files
          (adds request input day old settings by_tool.made by_tool.outcome so)
    ]

-- whatever is asked for
always-met :
    (holders : Files → ℕ)
    → ((request : Request) (input : List ℕ) (day : ℕ) (old : Files) (settings : List Setting)
    (made : Made) → outcome_of (action_of request input day old settings) old ≡ Ok made
    → MeetNoMore (holders old) (holders made.files))
    → AddsNoHolder (λ request input. ⊤) holders
always-met holders adds request input day old defs new any =
    deed-adds-none holders (λ asked. ⊤)
    (λ asked given today files settings made outcome so.
    adds asked given today files settings made outcome)
    request input day old defs new tt
    (λ is. any-line (λ line. ⊤) (line_requests input) (λ line. tt))

-- where it isn't asked for with `-o`
unshared-met :
    (holders : Files → ℕ) (shares : Request → Bool)
    → ((request : Request) (input : List ℕ) (day : ℕ) (old : Files) (settings : List Setting)
    (made : Made) → outcome_of (action_of request input day old settings) old ≡ Ok made
    → shares request ≡ false → MeetNoMore (holders old) (holders made.files))
    → AddsNoHolder (NoneDoes shares) holders
unshared-met holders shares adds request input day old defs new none =
    deed-adds-none holders (λ asked. shares asked ≡ false) adds request input day old defs new
    none.itself none.lines

-- the claim
pub deeds-add-none : DeedsAddNoHolders
deeds-add-none = record {
  uids = λ uid. unshared-met (uid_holders uid) (shares_uid uid)
      (λ request input day old settings made outcome shares.
      uids-met request input day old settings made outcome uid shares);
  gids = λ gid. unshared-met (gid_holders gid) (shares_gid gid)
      (λ request input day old settings made outcome shares.
      gids-met request input day old settings made outcome gid shares);
  subuids = λ number. always-met (subuid_holders number)
      (λ request input day old settings made outcome.
      subuids-met request input day old settings made outcome number);
  subgids = λ number. always-met (subgid_holders number)
      (λ request input day old settings made outcome.
      subgids-met request input day old settings made outcome number);
}
