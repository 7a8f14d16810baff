use Rattle.std.proofs.Common.{ap, ◌∙◌, ◌≡◌, arith}
use Rattle.acct_outside.specs.Folder.{greatest}
use Rattle.lock_steps.specs.States.{Maker}
use Rattle.lock_steps.specs.Outcomes.{kept_of}
use Rattle.lock_steps.proofs.claiming.Claimed.after_listing.Goals as goal

pub returns-clause-shown : goal.returns-clause-shown
returns-clause-shown c =
    let numbers = c.in_ok-numbers.numbers.items in
    let is = c.greatest_of-greatest.ensures ∙ ap greatest c.deref.ensures.value in
    let number = ap (λ (maker : Maker). maker.number) c.self.view_is in
    let is_greatest : greatest numbers ≡ c.args.self.number =
    omega (arith, is, number, c.if-greatest-self.false, c.if-greatest-self-2.false) in
    rw c.in_ok-numbers.was (
      is_greatest,
      c.of_listing.ensures ∙ ap (λ (maker : Maker). kept_of maker numbers) c.self.view_is,
    )
