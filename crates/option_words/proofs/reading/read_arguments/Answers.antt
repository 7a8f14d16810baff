use Rattle.std.proofs.Common.{◌≡◌, ◌<◌, ◌∙◌, ◌∷◌, ◌+◌, ℕ, List, Err, Some, suc, ap, sym, drop, get_or, length, inl, inr, arith}
use Rattle.std.proofs.Math.Numerals.{add-one}
use Rattle.std.proofs.Math.Seq.{drop-cons}
use Rattle.std.proofs.lemmas.List.{drop_all}
use Rattle.account_model.specs.declared.word_fault.WordFault.TheVariants.{MissingValue}
use Rattle.account_model.specs.Options.{Word}
use Rattle.account_model.specs.Words.{request_of_tool}
use Rattle.option_words.specs.Reading.{outcome_of}
use Rattle.option_words.proofs.ReadingLemmas.{outcome_of-no_words, outcome_of-missing, outcome_of-end, answers-fault}
use Rattle.option_words.proofs.reading.read_arguments.Goals as goal

-- a word at a place is the first of those from there on
split_at : (words : List Word) (place : ℕ) (word : Word) → place < length words
    → word ≡ get_or words place word → drop place words ≡ word ∷ drop (place + 1) words
split_at words place word before here =
    drop-cons words place word before ∙ ap (λ first. first ∷ drop (suc place) words) (sym here)
    ∙ ap (λ n. word ∷ drop n words) (sym (add-one place))

pub words-init : goal.words-init
words-init c =
    ap (λ reading. outcome_of reading 1 c.args.words.now) c.new-reading.ensures
    ∙ outcome_of-no_words c.args.alloc c.args.whose c.args.tool c.args.words.now

pub words-preserved : goal.words-preserved
words-preserved c =
    let words = c.args.words.now in
    let place = c.words.place in
    let word = c.index-words-place.result in
    let rest = drop (place + 1) words in
    let same = c.as_slice.ensures in
    let split =
    split_at words place word c.words-test.true c.index-words-place.is
    ∙ ap (λ word. word ∷ rest) (sym same) in
    sym (c.in_ok-take.ensures {u = tt} rest)
    ∙ ap (λ n. outcome_of c.words.reading n (c.as_slice.result.now ∷ rest)) (add-one place)
    ∙ ap (outcome_of c.words.reading (suc place)) (sym split) ∙ c.words.invariant

pub returns-in_err-take : goal.returns-in_err-take
returns-in_err-take c =
    let words = c.args.words.now in
    let place = c.words.place in
    let word = c.index-words-place.result in
    let rest = drop (place + 1) words in
    let split =
    split_at words place word c.words-test.true c.index-words-place.is
    ∙ ap (λ word. word ∷ rest) (sym c.as_slice.ensures) in
    answers-fault (request_of_tool c.args.whose (Some c.args.tool) words) c.from_residual.result
    c.in_err-take.field-0.0 c.from_residual.ensures.1
    (elim (c.in_err-take.ensures {u = tt}) [
      | inl memory ↦ inl memory
      | inr is ↦ inr (sym c.words.invariant ∙ ap (outcome_of c.words.reading (suc place)) split
          ∙ ap (λ n. outcome_of c.words.reading n (c.as_slice.result.now ∷ rest)) (sym (add-one place))
          ∙ is rest)
    ])

pub returns-in-ValueOf : goal.returns-in-ValueOf
returns-in-ValueOf c =
    let words = c.args.words.now in
    let place = c.words.place in
    let end : place ≡ length words = omega arith in
    inr (sym c.words.invariant
    ∙ ap (outcome_of c.words.reading (suc place)) (drop_all place words c.words-test.false)
    ∙ outcome_of-missing c.words.reading place c.in-ValueOf.field-0 c.in-ValueOf.is
    ∙ ap (λ place. Err (MissingValue place)) end)

pub returns : goal.returns
returns c =
    sym c.words.invariant
    ∙ ap (outcome_of c.words.reading (suc c.words.place))
    (drop_all c.words.place c.args.words.now c.words-test.false)
    ∙ outcome_of-end c.words.reading (suc c.words.place) c.in_default.not-ValueOf
