use Rattle.std.proofs.Common.{◌∙◌, ℕ, List, ap}
use Rattle.std.proofs.lemmas.Result.{on_ok_weaker}
use Rattle.account_model.specs.Chpasswd.{set_last_change}
use Rattle.account_model.specs.Hashes.{demand_shadow, each_user_hash}
use Rattle.account_model.specs.Tables.{followed_by}
use Rattle.carried_tables.specs.Scripts.{seen_script}
use Rattle.aging_commands.proofs.ScriptLemmas.{three-also}
use Rattle.aging_commands.proofs.chpasswd.set_user_hash.Goals as goal

pub returns : goal.returns
returns c =
    let name = c.args.new.now.name.now in
    let hash = c.args.new.now.hash.now in
    let files = c.args.tables.now in
    let demanded = seen_script c.demand_shadow.new.script in
    on_ok_weaker c.change_shadow.result
    (three-also (demand_shadow name files) (each_user_hash name (λ old. hash) files)
    (set_last_change name c.args.day) (seen_script c.args.script.now) demanded
    (seen_script c.change_user_hash.new.script) (seen_script c.change_shadow.new.self)
    (c.in_ok-demand_shadow.ensures {u = tt})
    (c.in_ok-change_user_hash.ensures {u = tt}
    ∙ ap (λ (h : List ℕ). followed_by demanded (each_user_hash name (λ old. h) files))
    (c.in_ok-of.ensures {u = tt})))
    c.change_shadow.ensures
