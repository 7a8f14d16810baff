use Rattle.std.proofs.Common.{◌≡◌, sym, ap, ◌∙◌, Bool, true, false, Option, true≢false}
use Rattle.std.specs.Option.{option_copied}
use Rattle.acct_text.specs.Bytes.{Bytes}
use Rattle.acct_text.specs.declared.files.Files.{Files}
use Rattle.account_model.specs.Request.{is_report}
use Rattle.account_model.specs.Words.{Asks}
use Rattle.suite_session.specs.declared.tools.Decided.{Decided}
use Rattle.suite_session.specs.declared.tools.Decided.TheVariants.{Change, Stay}
use Rattle.suite_session.specs.Loading.{DecidesOn}
use Rattle.suite_session.specs.Runner.{Question, Runner}
use Rattle.suite_session.proofs.ReportStays.{report-unchanging}
use Rattle.suite_session.proofs.reporting.decided_on.Goals as goal

-- it is a change
abbrev is_changing : Decided → Bool
is_changing (Change new given) = true
is_changing (Stay given) = false

-- no tool decides a change of a report
never-changes : (asked : Question) (files : Files) (defs : Option Bytes) (decided : Decided) →
    is_changing decided ≡ true → DecidesOn asked files defs decided →
    Asks asked.command.words asked.request → is_report asked.request ≡ true → ⊥
never-changes asked files defs (Change new given) changes decides asks is =
    report-unchanging asked asks is files _ defs decides.1
never-changes asked files defs (Stay given) changes decides asks is =
    true≢false (sym changes)

pub unreachable-requires : goal.unreachable-requires
unreachable-requires g c =
    never-changes c.runner.inside.asked c.files.result.now (option_copied c.defs.result)
    c.in-Ok-Change.field-0 (ap is_changing c.in-Ok-Change.field-0-is) c.in-Ok-Change.ensures
    c.tool.ensures.asks
    (ap (λ (runner : Runner). is_report runner.asked.request) c.runner.view_is ∙ c.requires.report)
