use Rattle.std.proofs.Common.{◌≡◌, ◌∙◌, ◌++◌, ◌∷◌, ◌<◌, [], ℕ, Bool, false, List, get_or, length, map, take, inl, inr, refl, sym, ap, arith}
use Rattle.std.specs.Prelude.{Option, Some, None, filter_map, find, option_map}
use Rattle.std.specs.List.{cons_option, position_or_len}
use Rattle.std.proofs.lemmas.List.{map-append, take_more}
use Rattle.std.proofs.lemmas.List.Elements.{filter_map-append}
use Rattle.std.proofs.lemmas.List.Folds.{find_at}
use Rattle.std.proofs.lemmas.List.Sums.{fails_before_first}
use Rattle.std.proofs.lemmas.Option.{slice_get_cases}
use Rattle.account_model.specs.declared.records.GroupRecord.{GroupRecord}
use Rattle.account_model.specs.declared.refusal.Refusal.TheVariants.{NoGroup}
use Rattle.account_model.specs.GivenGroups.{find_group, is_unknown_group}
use Rattle.account_model.specs.Tables.{group_records}
use Rattle.table_edits.proofs.given_groups.group_names.Goals as goal

-- the name of a group, where there is one
one-name :
    (found : Option GroupRecord)
    → cons_option (option_map (λ group. group.name) found) []
    ≡ map (λ group. group.name) (cons_option found [])
one-name None = refl
one-name (Some group) = refl

-- where no word is unknown, that in each place is known
known :
    (test : List ℕ → Bool) (words : List (List ℕ)) (place : ℕ) (word : List ℕ)
    → option_map NoGroup (find test words) ≡ None
    → place < length words
    → test (get_or words place word) ≡ false
known test words place word none inside =
    elim (slice_get_cases words (position_or_len test words)).1 [
      | inl found ↦
          absurd (cc (sym none ∙ ap (option_map NoGroup) (find_at test words ∙ found.2)))
      | inr behind ↦ fails_before_first test words place word (omega (arith, inside, behind.0))
    ]

pub push_named-requires : goal.push_named-requires
push_named-requires c =
    let words = c.as_slice-word-items.result.now in
    let test = is_unknown_group c.args.tables.now in
    let given = c.as_slice-word-items.ensures ∙ c.in_ok-words.ensures {u = tt} in
    ap test c.as_slice.ensures
    ∙ ap test c.word-item.is
    ∙ known test words c.loop-word.word-index c.word-item.result
    (ap (λ words. option_map NoGroup (find test words)) given ∙ c.requires) c.loop-word-test.true

pub loop-word-preserved : goal.loop-word-preserved
loop-word-preserved c =
    let words = c.as_slice-word-items.result.now in
    let place = c.loop-word.word-index in
    let word = c.word-item.result in
    let found = λ (word : List ℕ). find_group word (group_records c.args.tables.now) in
    let name = λ (group : GroupRecord). group.name in
    let names_of = λ (words : List (List ℕ)). map name (filter_map found words) in
    let before = take place words in
    c.in_ok-push_named.ensures {u = tt}
    ∙ ap (λ word. c.loop-word.names ++ cons_option (option_map name (found word)) [])
    c.as_slice.ensures
    ∙ ap (λ names. c.loop-word.names ++ names) (one-name (found word))
    ∙ ap (λ names. names ++ names_of (word ∷ [])) c.loop-word.invariant
    ∙ sym (map-append name (filter_map found before) (filter_map found (word ∷ [])))
    ∙ ap (map name) (sym (filter_map-append found before (word ∷ [])))
    ∙ ap names_of (ap (λ word. before ++ word ∷ []) c.word-item.is
    ∙ sym (take_more words place word c.loop-word-test.true))
