-- All tools are lawful (`meaning`). So one that doesn't refuse prints only records that read back (`tools-written`).
use Rattle.std.proofs.Common.{◌≡◌, ℕ, ◌≤◌, List}
use Rattle.std.specs.Prelude.{None}
use Rattle.acct_text.specs.declared.files.Files.{Files}
use Rattle.account_model.specs.declared.tool.Tool.{Tool}
use Rattle.account_model.specs.declared.tool.Tool.TheVariants.{Useradd, Usermod, Userdel, Chfn, Chsh, Groupadd, Groupmod, Groupdel, Gpasswd, Groupmems, Chage, Chpasswd, Chgpasswd, Passwd, Pwconv, Pwunconv, Grpconv, Grpunconv, Pwck, Grpck, Getsubids, Batch}
use Rattle.account_model.specs.Text.{first_some}
use Rattle.account_model.specs.Records.{greatest_days}
use Rattle.account_model.specs.Request.{Request}
use Rattle.account_model.specs.Settings.{Setting}
use Rattle.account_model.specs.Change.{action_of}
use Rattle.account_model.specs.WrittenScript.{IsWrittenScript}
use Rattle.account_model.proofs.LawfulScripts.{written-small}
use Rattle.account_model.proofs.LawfulTools.{LawfulTool}
use Rattle.account_model.proofs.GroupToolScripts.{groupadd-lawful, groupmod-lawful, groupdel-lawful, gpasswd-lawful}
use Rattle.account_model.proofs.GroupmemsScripts.{groupmems-lawful}
use Rattle.account_model.proofs.UseraddScripts.{useradd-lawful}
use Rattle.account_model.proofs.UserdelScripts.{userdel-lawful}
use Rattle.account_model.proofs.UsermodScripts.{usermod-lawful}
use Rattle.account_model.proofs.AgingToolScripts.{chage-lawful, chgpasswd-lawful, chpasswd-lawful}
use Rattle.account_model.proofs.ChfnScripts.{chfn-lawful, chsh-lawful}
use Rattle.account_model.proofs.PasswdScripts.{passwd-lawful}
use Rattle.account_model.proofs.ConversionScripts.{pwconv-lawful, pwunconv-lawful, grpconv-lawful, grpunconv-lawful}
use Rattle.account_model.proofs.ReportScripts.{pwck-lawful, grpck-lawful, getsubids-lawful, batch-lawful}

-- what each tool means is lawful
pub meaning : (tool : Tool) → LawfulTool tool
meaning Useradd = useradd-lawful
meaning Usermod = usermod-lawful
meaning Userdel = userdel-lawful
meaning Chfn = chfn-lawful
meaning Chsh = chsh-lawful
meaning Groupadd = groupadd-lawful
meaning Groupmod = groupmod-lawful
meaning Groupdel = groupdel-lawful
meaning Gpasswd = gpasswd-lawful
meaning Groupmems = groupmems-lawful
meaning Chage = chage-lawful
meaning Chpasswd = chpasswd-lawful
meaning Chgpasswd = chgpasswd-lawful
meaning Passwd = passwd-lawful
meaning Pwconv = pwconv-lawful
meaning Pwunconv = pwunconv-lawful
meaning Grpconv = grpconv-lawful
meaning Grpunconv = grpunconv-lawful
meaning Pwck = pwck-lawful
meaning Grpck = grpck-lawful
meaning Getsubids = getsubids-lawful
meaning Batch = batch-lawful

-- so a tool that doesn't refuse prints only records that read back
pub tools-written :
    (request : Request) (input : List ℕ) (day : ℕ) (files : Files) (settings : List Setting)
    → day ≤ greatest_days
    → first_some (action_of request input day files settings).refusals ≡ None
    → IsWrittenScript (action_of request input day files settings).script
tools-written request input day files settings small none =
    written-small ((meaning request.tool request input day files settings).script none).written small
