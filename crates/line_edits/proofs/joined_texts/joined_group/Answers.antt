use Rattle.std.proofs.Common.{◌∙◌, ℕ, List, [], ◌∷◌, ap, refl, sym}
use Rattle.std.specs.Prelude.{decimal}
use Rattle.acct_text.specs.Pieces.{line_of}
use Rattle.acct_lines.specs.Listed.{listed_behind}
use Rattle.acct_lines.specs.Shown.{group_shown}
use Rattle.line_edits.specs.Memberships.{group_by}
use Rattle.line_edits.proofs.JoinedTexts.{longer-listed}
use Rattle.line_edits.proofs.joined_texts.joined_group.Goals as goal

pub returns : goal.returns
returns c =
    let membership = c.args.membership.now in
    let group = c.in-Ok.group in
    let line = λ (list : List ℕ). line_of (group.name.now ∷ group.password.now
    ∷ decimal group.gid ∷ list ∷ []) in
    let adds = c.adds_to.ensures c.if-not-adds_to.false in
    record {
      old = group_shown group;
      new = group_by membership (group_shown group);
      reads = c.in-Ok.ensures;
      becomes = refl;
      kept_text =
          sym (c.in_ok-kept.ensures ∙ ap line (c.as_slice.ensures ∙ c.in_ok-members.ensures));
      new_text =
          sym (c.in_ok-new.ensures
          ∙ ap line (c.as_slice-3.ensures
          ∙ longer-listed membership group.name.now group.members.now c.in_ok-members.members
          c.push_listed.new.list adds c.in_ok-members.ensures
          (c.in_ok-push_listed.ensures
          ∙ ap (listed_behind c.in_ok-members.members) c.as_slice-2.ensures)));
    }
