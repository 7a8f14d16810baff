use Rattle.std.proofs.Common.{◌∙◌, ◌==◌, ap, Bool}
use Rattle.std.specs.Prelude.{is_some, find}
use Rattle.acct_text.proofs.FoundOnes.{is_some-find}
use Rattle.account_model.specs.declared.given.Given.{Given}
use Rattle.option_words.proofs.parsed.Options.has.Goals as goal

pub returns : goal.returns
returns c =
    let test : Given → Bool = λ option. option.letter == c.args.letter in
    c.has_letter.ensures ∙ is_some-find test c.as_slice.result.now
    ∙ ap (λ options. is_some (find test options)) (c.as_slice.ensures.value ∙ c.self.view_is)
