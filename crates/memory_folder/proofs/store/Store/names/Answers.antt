use Rattle.std.proofs.Common.{◌≡◌, ◌∙◌, ℕ, Some, All, sym, ap, subst}
use Rattle.std.proofs.lemmas.List.{take_all}
use Rattle.std.proofs.lemmas.List.Elements.{All-more}
use Rattle.acct_outside.specs.declared.Name.TheVariants.{Lock}
use Rattle.acct_outside.specs.Tokens.{held_text}
use Rattle.memory_folder.specs.Store.{file_in}
use Rattle.memory_folder.specs.Stored.{folder_in}
use Rattle.memory_folder.proofs.NewTokenLemmas.{unnamed}
use Rattle.memory_folder.proofs.store.Store.names.Goals as goal

pub loop-number-preserved : goal.loop-number-preserved
loop-number-preserved c =
    All-more
    (λ n. ¬ (file_in c.args.self.now.files.items (Lock n) ≡ Some (held_text c.args.token.now)))
    c.deref-number-items.result.now c.loop-number.number-index 0 c.loop-number-test.true
    c.loop-number.invariant
    (λ is. absurd (cc (c.if-has_lock.ensures.1 (is ∙ ap Some (sym c.in_ok-text.ensures)))))

pub returns : goal.returns
returns c =
    let self = c.args.self.now in
    let token = c.args.token.now in
    let numbers = c.deref-number-items.result.now in
    let Lacks : ℕ → Type 0 = λ n. ¬ (file_in self.files.items (Lock n) ≡ Some (held_text token)) in
    let all : All Lacks self.locks.items =
    subst (All Lacks)
    (take_all c.loop-number.number-index numbers c.loop-number-test.false
    ∙ c.deref-number-items.ensures.value)
    c.loop-number.invariant in (
      λ is. absurd cc,
      λ named. absurd (unnamed (folder_in self) token self.is_folder all named),
    )
