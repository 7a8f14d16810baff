use Rattle.std.proofs.Common.{◌≡◌, ◌∙◌, ◌+◌, ◌++◌, ◌≤◌, [], ◌∷◌, ℕ, Bool, List, length, drop, not, sym, ap, subst, arith, append_assoc, append-nil}
use Rattle.std.specs.Prelude.{map, option_map}
use Rattle.std.specs.List.{cons_option}
use Rattle.std.specs.Option.{option_copied}
use Rattle.std.proofs.lemmas.List.{drop_all}
use Rattle.account_model.specs.declared.given.Given.{Given}
use Rattle.account_model.specs.declared.refusal.Refusal.TheVariants.{BadKey}
use Rattle.account_model.specs.Settings.{bad_word, is_setting_word, word_setting}
use Rattle.login_defs.specs.Held.{HasSettings}
use Rattle.tool_answers.specs.Refusing.{IsFaultOf}
use Rattle.command_values.proofs.OptionLemmas.{values_in, values-from}
use Rattle.tool_answers.proofs.FirstRefusal.{handed-on, refused-first, passed-first}
use Rattle.command_values.proofs.asked.Asked.settings.Goals as goal
use Rattle.command_values.proofs.asked.Asked.settings.Goals.{in-Some+in_ok-put_word, in_default}

-- the words of `-K` among options
abbrev words_in : List Given → List (List ℕ)
words_in options = values_in 75 options

-- whether a word is no setting
abbrev is_bad : List ℕ → Bool
is_bad word = not (is_setting_word word)

pub returns-in_err-put_word-clause-refused : goal.returns-in_err-put_word-clause-refused
returns-in_err-put_word-clause-refused c =
    let options = c.options-option-items.result.now in
    let place = c.loop-option.option-index in
    let word = c.in-Some.word.now in
    let fault = c.in_err-put_word.field-0.0 in
    let behind = words_in (drop (place + 1) options) in
    let from : words_in (drop place options) ≡ word ∷ behind =
    values-from 75 options place c.option-item.result c.loop-option-test.true c.option-item.is
    ∙ ap (λ value. cons_option value behind) (sym (c.in-Some.ensures {u = tt})) in
    handed-on _ c.from_residual.result fault c.from_residual.ensures.1
    (subst (λ bad. IsFaultOf (option_map BadKey bad) fault)
    (ap bad_word (sym from) ∙ c.loop-option.invariant.refused
    ∙ ap (λ options. bad_word (words_in options)) c.options-option-items.ensures)
    (refused-first is_bad BadKey word behind fault (c.in_err-put_word.ensures {u = tt}).refused))

pub loop-option-preserved : goal.loop-option-preserved
loop-option-preserved c =
    let options = c.options-option-items.result.now in
    let place = c.loop-option.option-index in
    let behind = words_in (drop (place + 1) options) in
    let from =
    values-from 75 options place c.option-item.result c.loop-option-test.true c.option-item.is in
    elim c.match-value_at.branch [
      | in-Some+in_ok-put_word w ↦
          let word = w.in-Some.word.now in
          let first : words_in (drop place options) ≡ word ∷ behind =
          from ∙ ap (λ value. cons_option value behind) (sym (w.in-Some.ensures {u = tt})) in
          record {
            refused =
                sym (passed-first is_bad BadKey word behind
                (w.in_ok-put_word.ensures {u = tt}).refused)
                ∙ ap bad_word (sym first) ∙ c.loop-option.invariant.refused;
            held = λ settings has.
                let held = c.loop-option.invariant.held settings has in
                let more = held.0 ++ word_setting word ∷ [] in (
                  more,
                  subst (λ defs. HasSettings defs more) (sym w.settings-is)
                      ((w.in_ok-put_word.ensures {u = tt}).put held.0 held.1),
                  append_assoc held.0 (word_setting word ∷ []) (map word_setting behind)
                      ∙ ap (λ words. held.0 ++ map word_setting words) (sym first) ∙ held.2,
                );
          }
      | in_default w ↦
          let none : words_in (drop place options) ≡ behind =
          from ∙ ap (λ value. cons_option value behind)
          (sym c.value_at.ensures ∙ ap option_copied w.in_default.is) in
          record {
            refused = ap bad_word (sym none) ∙ c.loop-option.invariant.refused;
            held = λ settings has.
                let held = c.loop-option.invariant.held settings has in (
                  held.0,
                  subst (λ defs. HasSettings defs held.0) (sym w.settings-is) held.1,
                  ap (λ words. held.0 ++ map word_setting words) (sym none) ∙ held.2,
                );
          }
    ]

pub returns-clause-settings : goal.returns-clause-settings
returns-clause-settings c = λ settings has.
    let options = c.options-option-items.result.now in
    let held = c.loop-option.invariant.held settings has in
    let reached : length options ≤ c.loop-option.option-index = omega arith in
    let end = drop_all c.loop-option.option-index options reached in
    subst (HasSettings c.loop-option.settings)
    (sym (append-nil held.0)
    ∙ ap (λ options. held.0 ++ map word_setting (words_in options)) (sym end) ∙ held.2
    ∙ ap (λ options. settings ++ map word_setting (words_in options))
    c.options-option-items.ensures)
    held.1
