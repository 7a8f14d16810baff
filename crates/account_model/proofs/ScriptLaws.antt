-- Claim: scripts are followed by one another as lists of edits are (`followed-assoc`,
-- `followed-none`), and in order also with one more at the end (`order-push`). Way: table by table.
use Rattle.std.proofs.Common.{◌≡◌, ◌∙◌, List, [], ◌∷◌, ◌++◌, sym, ap, append_assoc}
use Rattle.std.proofs.lemmas.List.{append-nil}
use Rattle.account_model.specs.Tables.{Script, followed_by, in_order, no_edits}

-- edits behind edits behind edits
pub followed-assoc :
    (a b c : Script)
    → followed_by (followed_by a b) c ≡ followed_by a (followed_by b c)
followed-assoc a b c = λ i. record {
  passwd = append_assoc a.passwd b.passwd c.passwd i;
  shadow = append_assoc a.shadow b.shadow c.shadow i;
  group = append_assoc a.group b.group c.group i;
  gshadow = append_assoc a.gshadow b.gshadow c.gshadow i;
  subuid = append_assoc a.subuid b.subuid c.subuid i;
  subgid = append_assoc a.subgid b.subgid c.subgid i;
}

-- no edits behind edits
pub followed-none : (a : Script) → followed_by a no_edits ≡ a
followed-none a = λ i. record {
  passwd = append-nil a.passwd i;
  shadow = append-nil a.shadow i;
  group = append-nil a.group i;
  gshadow = append-nil a.gshadow i;
  subuid = append-nil a.subuid i;
  subgid = append-nil a.subgid i;
}

-- one script more
pub order-push :
    (scripts : List Script) (last : Script)
    → in_order (scripts ++ last ∷ []) ≡ followed_by (in_order scripts) last
order-push [] last = followed-none last
order-push (script ∷ rest) last =
    ap (followed_by script) (order-push rest last)
    ∙ sym (followed-assoc script (in_order rest) last)
