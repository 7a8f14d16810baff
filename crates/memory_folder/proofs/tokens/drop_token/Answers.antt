use Rattle.std.proofs.Common.{◌≡◌, ◌∙◌, not, ap, rules}
use Rattle.std.specs.Prelude.{bytes_eq}
use Rattle.std.specs.List.{filter}
use Rattle.std.proofs.lemmas.Fn.{filter_same}
use Rattle.memory_folder.specs.Events.{has_token}
use Rattle.memory_folder.proofs.TokenLemmas.{without}
use Rattle.memory_folder.proofs.tokens.drop_token.Goals as goal

pub returns-clause-rest : goal.returns-clause-rest
returns-clause-rest c = λ other.
    let token = c.args.token.now in
    let tokens = c.args.tokens.now.items in
    let kept : c.retain.new.self.items ≡ filter (λ x. not (bytes_eq x token)) tokens =
    filter_same _ (λ x. not (bytes_eq x token)) _ (λ x b q r. search rules) _ _
    c.retain.ensures.filtered in
    ap (has_token other) kept ∙ without token other tokens
