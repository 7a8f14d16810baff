use Rattle.std.proofs.Common.{◌∙◌, ℕ, List, [], ◌∷◌, ap, refl, sym}
use Rattle.acct_text.specs.Pieces.{line_of}
use Rattle.account_model.specs.Records.{print_names, read_names}
use Rattle.acct_lines.specs.Listed.{listed_behind}
use Rattle.acct_lines.specs.Shown.{gshadow_shown}
use Rattle.line_edits.specs.Memberships.{gshadow_by}
use Rattle.line_edits.proofs.JoinedTexts.{longer-listed}
use Rattle.line_edits.proofs.NamingLemmas.{same-renamed}
use Rattle.line_edits.proofs.joined_texts.joined_gshadow.Goals as goal

pub returns : goal.returns
returns c =
    let membership = c.args.membership.now in
    let group = c.in-Ok.group in
    let line = λ (administrators members : List ℕ). line_of (group.name.now ∷ group.password.now
    ∷ administrators ∷ members ∷ []) in
    let adds = c.adds_to.ensures c.if-not-adds_to.false in
    let same =
    same-renamed membership.user membership.new_name (read_names group.administrators.now)
    adds.name in
    record {
      old = gshadow_shown group;
      new = gshadow_by membership (gshadow_shown group);
      reads = c.in-Ok.ensures;
      becomes = refl;
      kept_text =
          sym (c.in_ok-kept.ensures
          ∙ ap (λ list. line list c.as_slice-2.result.now)
          (c.as_slice.ensures ∙ c.in_ok-administrators.ensures)
          ∙ ap (line (print_names (read_names group.administrators.now)))
          (c.as_slice-2.ensures ∙ c.in_ok-members.ensures));
      new_text =
          sym (c.in_ok-new.ensures
          ∙ ap (λ list. line list c.as_slice-5.result.now)
          (c.as_slice-4.ensures ∙ c.in_ok-administrators.ensures ∙ ap print_names (sym same))
          ∙ ap (line (print_names (gshadow_by membership (gshadow_shown group)).administrators))
          (c.as_slice-5.ensures
          ∙ longer-listed membership group.name.now group.members.now c.in_ok-members.members
          c.push_listed.new.list adds c.in_ok-members.ensures
          (c.in_ok-push_listed.ensures
          ∙ ap (listed_behind c.in_ok-members.members) c.as_slice-3.ensures)));
    }
