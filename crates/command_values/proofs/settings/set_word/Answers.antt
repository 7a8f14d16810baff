use Rattle.std.proofs.Common.{◌∙◌}
use Rattle.login_defs.specs.Held.{AddsSetting}
use Rattle.command_values.proofs.SettingLemmas.{is_ok-told, setting-told, setting-set, no_setting}
use Rattle.command_values.proofs.settings.set_word.Goals as goal

pub returns-in-Some-clause-told : goal.returns-in-Some-clause-told
returns-in-Some-clause-told c =
    let cut = c.in-Some.cut in
    setting-told c.args.word.now cut.before.now cut.behind.now c.is_ok.result c.in-Some.ensures.cut
    (c.is_ok.ensures.value ∙ is_ok-told _ _ c.with.ensures.fault)

pub returns-in-Some-clause-set : goal.returns-in-Some-clause-set
returns-in-Some-clause-set c =
    let cut = c.in-Some.cut in
    setting-set c.with.result c.is_ok.result (AddsSetting c.args.settings.now c.with.new.self)
    c.args.word.now cut.before.now cut.behind.now c.in-Some.ensures.cut
    c.is_ok.ensures.value c.with.ensures.set

pub returns-in-None-clause-told : goal.returns-in-None-clause-told
returns-in-None-clause-told c = no_setting c.args.word.now c.in-None.ensures.cut
