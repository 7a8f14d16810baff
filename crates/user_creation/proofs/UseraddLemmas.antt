-- Claim: the primary GID is that of the user's own group, where it has one (`own-gid`); useradd answers
-- the first refusal of its words (`refused-by_words`), then that of its conflicts
-- (`refused-by_conflict`), and else its edits (`made-user`), which add a user of the planned UID
-- (`adds-planned`). Way: what it does by its plan is what it has to do under the settings, as the plan
-- is that of the settings.
use Rattle.std.proofs.Common.{◌≡◌, ℕ, Bool, true, false, List, [], ◌∷◌, ◌++◌, refl, sym, ap, ◌∙◌}
use Rattle.std.specs.Prelude.{Option, Some, None, Err, is_none, take, option_and_then, option_map, unwrap_or, if◌then◌else◌}
use Rattle.acct_text.specs.declared.files.Files.{Files}
use Rattle.account_model.specs.declared.new_user.Plan.{Plan}
use Rattle.account_model.specs.declared.records.ShadowRecord.{ShadowRecord}
use Rattle.account_model.specs.declared.refusal.Refusal.{Refusal}
use Rattle.account_model.specs.declared.refusal.Refusal.TheVariants.{NoFreeUid, NoFreeGid}
use Rattle.account_model.specs.GivenGroups.{given_group}
use Rattle.account_model.specs.NewAccount.{free_gid, kind_of}
use Rattle.account_model.specs.Ids.{is_used, used_gids}
use Rattle.account_model.specs.Refusals.{refuse_if}
use Rattle.account_model.specs.Request.{Request}
use Rattle.account_model.specs.Settings.{Setting}
use Rattle.account_model.specs.Text.{first_some}
use Rattle.account_model.specs.Useradd.{add_user, default_gid, gid_beside, makes_group, new_shadow, new_uid, own_gid, plan_of, primary_gid, useradd_by, useradd_checks, useradd_conflicts, useradd_refusals, useradd_script, useradd_under, used_up}
use Rattle.account_model.proofs.DeedLaws.{first-none}
use Rattle.tool_answers.specs.Refusing.{IsFaultOf}
use Rattle.tool_answers.specs.declared.tool_fault.ToolFault.{ToolFault}
use Rattle.tool_answers.specs.declared.tool_fault.ToolFault.TheVariants.{Refused, Memory}
use Rattle.table_edits.proofs.ActingLemmas.{first_some-before, first_some-behind}
use Rattle.table_edits.specs.Acting.{ActsBy, IsScriptOf}
use Rattle.carried_tables.specs.Scripts.{seen_script}
use Rattle.table_edits.specs.Stopping.{StopsBy}
use Rattle.carried_tables.specs.declared.script.Script.{Script}
use Rattle.user_creation.specs.Added.{added_uid}
use Rattle.user_creation.specs.Plans.{ArePlannedIds}
use Rattle.user_creation.specs.declared.plan.NewIds.{NewIds}

-- ---- The primary GID

-- a group can have a GID that isn't used
pub free-beside :
    (request : Request) (files : Files) (settings : List Setting) (uid : ℕ)
    → is_used (used_gids files) uid ≡ false
    → Some uid ≡ gid_beside request files settings uid
free-beside request files settings uid unused =
    sym (ap (λ used. if used then free_gid (kind_of request) files settings else Some uid) unused)

-- where the user has a group of its own, it is that of the group
pub own-gid :
    (request : Request) (files : Files) (settings : List Setting) (uid : ℕ) (gid : Option ℕ)
    → makes_group request settings ≡ true
    → Some uid ≡ new_uid request files settings
    → gid ≡ gid_beside request files settings uid
    → gid ≡ primary_gid request files settings
own-gid request files settings uid gid makes same is =
    is
    ∙ ap (option_and_then (gid_beside request files settings)) same
    ∙ ap (λ (makes : Bool). if makes then own_gid request files settings
    else Some (unwrap_or (option_map (λ group. group.gid) (given_group request files)) default_gid))
    (sym makes)

-- ---- The action, under the settings with those of `-K`

module _ (request : Request) (files : Files) (settings : List Setting) (day : ℕ) where
  -- a refusal of the words is the first
  pub refused-by_words :
      (fault : ToolFault)
      → IsFaultOf (first_some (useradd_checks request)) fault
      → ActsBy (useradd_under settings request files day) (Err fault)
  refused-by_words (Refused refusal) is =
      first_some-before (useradd_checks request)
      (useradd_conflicts request files (plan_of request files settings)) refusal is
  refused-by_words Memory is = tt

  module _ (plan : Plan) (planned : plan ≡ plan_of request files settings)
      (good : first_some (useradd_checks request) ≡ None) where
    -- where the words are good, the first refusal is that of the conflicts
    behind-words :
        first_some (useradd_under settings request files day).refusals
        ≡ first_some (useradd_conflicts request files plan)
    behind-words =
        first_some-behind (useradd_checks request)
        (useradd_conflicts request files (plan_of request files settings)) good
        ∙ ap (λ plan. first_some (useradd_conflicts request files plan)) (sym planned)

    -- so it refuses
    pub refused-by_conflict :
        (fault : ToolFault)
        → StopsBy {X = NewIds} (first_some (useradd_conflicts request files plan)) (Err fault)
        → ActsBy (useradd_under settings request files day) (Err fault)
    refused-by_conflict (Refused refusal) is = behind-words ∙ is
    refused-by_conflict Memory is = tt

    -- the edits where there are both IDs
    script-of_ids :
        (ids : NewIds) (shadow : ShadowRecord)
        → ArePlannedIds plan ids
        → add_user request files plan shadow ids.uid ids.gid
        ≡ (useradd_by plan shadow request files).script
    script-of_ids ids shadow has =
        ap (λ uid. useradd_script request files plan shadow uid (Some ids.gid)) (sym has.uid)
        ∙ ap (useradd_script request files plan shadow plan.uid) (sym has.gid)

    -- where nothing refuses, the script makes the user
    pub made-user :
        (ids : NewIds) (shadow : ShadowRecord) (script : Script)
        → first_some (useradd_conflicts request files plan) ≡ None
        → ArePlannedIds plan ids
        → shadow ≡ new_shadow request settings day
        → seen_script script ≡ add_user request files plan shadow ids.uid ids.gid
        → IsScriptOf (useradd_under settings request files day) script
    made-user ids shadow script free has same seen = record {
      unrefused = behind-words ∙ free;
      edits = seen
          ∙ script-of_ids ids shadow has
          ∙ ap (λ plan. (useradd_by plan shadow request files).script) planned
          ∙ ap (λ shadow.
          (useradd_by (plan_of request files settings) shadow request files).script) same;
    }

-- ---- What is told of the new user

-- of refusals none of which is there, none behind the first is
none-behind :
    (before behind : List (Option Refusal))
    → first_some (before ++ behind) ≡ None
    → first_some behind ≡ None
none-behind [] behind none = none
none-behind (None ∷ before) behind none = none-behind before behind none
none-behind (Some refusal ∷ before) behind none = cc

-- where there are both IDs, the script adds a user of the UID
adds-by :
    (request : Request) (files : Files) (plan : Plan) (shadow : ShadowRecord) (uid gid : Option ℕ)
    → refuse_if (is_none uid) NoFreeUid ≡ None
    → refuse_if (is_none gid) NoFreeGid ≡ None
    → added_uid (useradd_script request files plan shadow uid gid) ≡ uid
adds-by request files plan shadow (Some uid) (Some gid) has_uid has_gid = refl
adds-by request files plan shadow (Some uid) None has_uid has_gid = cc
adds-by request files plan shadow None gid has_uid has_gid = cc

-- where nothing refuses, the script adds a user of the planned UID
pub adds-planned :
    (request : Request) (files : Files) (plan : Plan) (shadow : ShadowRecord)
    → first_some (useradd_refusals request files plan) ≡ None
    → added_uid (useradd_by plan shadow request files).script ≡ plan.uid
adds-planned request files plan shadow none =
    let conflicts = none-behind (useradd_checks request)
    (useradd_conflicts request files plan) none in
    let left = none-behind (take 5 (useradd_conflicts request files plan))
    (used_up plan) conflicts in
    let uid = first-none (refuse_if (is_none plan.uid) NoFreeUid) _ left in
    let gid = first-none (refuse_if (is_none plan.gid) NoFreeGid) _ uid.1 in
    adds-by request files plan shadow plan.uid plan.gid uid.0 gid.0
