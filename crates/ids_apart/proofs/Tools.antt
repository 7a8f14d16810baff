-- Claim: a tool that doesn't refuse gives no number to one more range that is in one, and no ID to one more user or group,
-- but where it is asked for it with `-o` (`tool-keeps`). Way: by the four tools that
-- give IDs; the others give none (`keep` of `IsLawful`).
use Rattle.std.proofs.Common.{◌≡◌, ℕ, List, refl}
use Rattle.std.specs.Prelude.{None}
use Rattle.acct_text.specs.declared.files.Files.{Files}
use Rattle.account_model.specs.declared.tool.Tool.{Tool}
use Rattle.account_model.specs.declared.tool.Tool.TheVariants.{Useradd, Usermod, Groupadd, Groupmod}
use Rattle.account_model.specs.Text.{first_some}
use Rattle.account_model.specs.Request.{Request}
use Rattle.account_model.specs.Settings.{Setting}
use Rattle.account_model.specs.Action.{Action, multiple_entries}
use Rattle.account_model.specs.Change.{action_by}
use Rattle.account_model.proofs.ToolLaws.{meaning}
use Rattle.ids_apart.proofs.Kept.{KeepsApart, kept-apart}
use Rattle.ids_apart.proofs.Useradd.{useradd-apart}
use Rattle.ids_apart.proofs.Usermod.{usermod-apart}
use Rattle.ids_apart.proofs.Groupadd.{groupadd-apart}
use Rattle.ids_apart.proofs.Groupmod.{groupmod-apart}

module _ (request : Request) (input : List ℕ) (day : ℕ) (files : Files)
    (settings : List Setting) where
  -- what a tool does
  abbrev action : Tool → Action
  action tool = action_by tool request input day files settings

  pub tool-keeps :
      (tool : Tool)
      → first_some (action tool).refusals ≡ None
      → multiple_entries (action tool).script files ≡ None
      → KeepsApart tool request files (action tool).script
  tool-keeps Useradd none single = useradd-apart request files settings day none
  tool-keeps Usermod none single =
      let written = ((meaning Usermod request input day files settings).script none).written
      in usermod-apart request files day none single written.subuid written.subgid
  tool-keeps Groupadd none single = groupadd-apart request files settings none
  tool-keeps Groupmod none single = groupmod-apart request files none single
  tool-keeps tool none single =
      kept-apart (((meaning tool request input day files settings).script none).keep refl)
