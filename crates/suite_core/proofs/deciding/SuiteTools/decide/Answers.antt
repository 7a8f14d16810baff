use Rattle.std.proofs.Common.{◌≡◌, sym, ap, subst, ◌∙◌, ℕ, List, Option}
use Rattle.std.specs.Prelude.{option_map}
use Rattle.std.specs.Option.{option_copied}
use Rattle.account_model.specs.Answer.{BadSettingAt}
use Rattle.account_model.specs.Request.{Request}
use Rattle.account_model.specs.Settings.{settings_of}
use Rattle.suite_tools.specs.Deciding.{command_decision}
use Rattle.suite_session.specs.declared.tools.Decided.{Decided}
use Rattle.suite_session.specs.Loading.{DecidesOn}
use Rattle.suite_core.specs.Deciding.{bad_line, settings_text}
use Rattle.suite_core.proofs.DecidingLemmas.{decides-on, decides-setting, if-ok, loaded-problem, settings-bad, settings-good, settings-sound}
use Rattle.suite_core.proofs.deciding.SuiteTools.decide.Goals as goal

pub returns-in_ok-decision-in-Ok : goal.returns-in_ok-decision-in-Ok
returns-in_ok-decision-in-Ok c =
    let files = c.args.files.now in
    let defs = option_copied c.args.defs in
    let text = settings_text defs in
    let good = settings-good c.settings_in.result text c.settings_in.ensures.fault c.in-Ok.is in
    let sound = loaded-problem files c.requires.passwd c.requires.group c.requires.small defs
    ∙ (settings-sound defs c.requires.small_defs
    ∙ ap (λ (line : Option ℕ). option_map BadSettingAt line) good) in
    let asked = c.args.asked.now in
    -- the request is that of the command, with its whole input, and the day is its day
    let told = λ (request : Request) (input : List ℕ) (day : ℕ). c.in_ok-decision-in-Ok.decision
    ≡ command_decision request input day files (settings_of text) in
    if-ok (λ decided is. subst (λ (one : Decided). DecidesOn asked files defs one) (sym is)
    (decides-on asked files defs sound c.requires.small c.in_ok-decision-in-Ok.decision
    (subst (λ (day : ℕ). told asked.request asked.command.input day) c.day-day.ensures.value
    (subst (λ (input : List ℕ). told asked.request input c.day-day.result) c.input-input.ensures.value
    (subst (λ (request : Request). told request c.input-input.result.now c.day-day.result)
    c.parsed-parsed.ensures
    (c.in_ok-decision-in-Ok.ensures (settings_of text) c.in-Ok.ensures.settings))))))
    c.answer_to.result c.answer_to.ensures

pub returns-in-Err : goal.returns-in-Err
returns-in-Err c =
    let files = c.args.files.now in
    let defs = option_copied c.args.defs in
    let text = settings_text defs in
    let bad = settings-bad c.settings_in.result text c.in-Err.fault
    c.settings_in.ensures.fault c.in-Err.is in
    let problem = loaded-problem files c.requires.passwd c.requires.group c.requires.small defs
    ∙ (settings-sound defs c.requires.small_defs
    ∙ ap (λ (line : Option ℕ). option_map BadSettingAt line) bad) in
    if-ok (λ decided is.
    subst (λ (one : Decided). DecidesOn c.args.asked.now files defs one) (sym is)
    (decides-setting c.args.asked.now files defs (bad_line c.in-Err.fault) problem))
    c.bad_setting.result c.bad_setting.ensures
