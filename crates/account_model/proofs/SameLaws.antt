-- Claim: the test of each format tells whether two records are equal (`passwd-tells` and its likes).
-- Way: the test of each field does (`texts`, `names`, `days`, `numbers`); two tests together tell it of
-- pairs (`both`), and a record is the pairs of its fields (`made-of`).
use Rattle.std.proofs.Common.{◌≡◌, ℕ, sym, Bool, true, ◌&&◌, List, [], ◌∷◌, refl, ◌∙◌, ap}
use Rattle.std.specs.Prelude.{Option, Some, None, bytes_eq, ◌==◌}
use Rattle.std.specs.Bool.{Decides}
use Rattle.std.proofs.lemmas.Bool.Decides.{Decides-like, Decides-and, Decides-eqb}
use Rattle.std.proofs.lemmas.Slice.Eq.{bytes_eq-Decides}
use Rattle.account_model.specs.Text.{names_eq}
use Rattle.account_model.specs.Records.{days_eq, passwd_format, shadow_format, group_format, gshadow_format, subid_format}
use Rattle.account_model.specs.RecordEdits.{TellsSame}

-- a text passes the test with itself
pub bytes-self : (a : List ℕ) → bytes_eq a a ≡ true
bytes-self a = (bytes_eq-Decides a a).1 refl

-- the test tells whether two values are equal
record Tells {A : Type 0} (test : A → A → Bool) : Type 0 where
  decides : (a b : A) → Decides (test a b) (a ≡ b)

-- ---- Fields

-- the test of texts does
texts : Tells bytes_eq
texts = record { decides = bytes_eq-Decides }

-- that of numbers
numbers : Tells (λ (a b : ℕ). a == b)
numbers = record { decides = Decides-eqb }

-- that of lists of names
names : Tells names_eq
names = record { decides = decided }
  where
    decided : (a b : List (List ℕ)) → Decides (names_eq a b) (a ≡ b)
    decided [] [] = (λ e. refl, λ is. refl)
    decided [] (y ∷ b) = (λ e. cc, λ is. cc)
    decided (x ∷ a) [] = (λ e. cc, λ is. cc)
    decided (x ∷ a) (y ∷ b) = Decides-like _
        (λ are i. are.0 i ∷ are.1 i) (λ is. (cc, cc))
        (Decides-and _ _ (bytes_eq-Decides x y) (decided a b))

-- that of numbers of shadow
days : Tells days_eq
days = record { decides = decided }
  where
    decided : (a b : Option ℕ) → Decides (days_eq a b) (a ≡ b)
    decided None None = (λ e. refl, λ is. refl)
    decided None (Some b) = (λ e. cc, λ is. cc)
    decided (Some a) None = (λ e. cc, λ is. cc)
    decided (Some a) (Some b) = Decides-like _ (ap Some) (λ is. cc) (Decides-eqb a b)

-- ---- Records

-- two tests together tell it of pairs
both : {A B : Type 0} {f : A → A → Bool} {g : B → B → Bool} → Tells f → Tells g →
    Tells (λ (p q : A × B). f p.0 q.0 && g p.1 q.1)
both first second = record {
  decides = λ p q. Decides-like _
      (λ are i. (are.0 i, are.1 i)) (λ is. (ap (λ pair. pair.0) is, ap (λ pair. pair.1) is))
      (Decides-and _ _ (first.decides p.0 q.0) (second.decides p.1 q.1));
}

-- a test of the parts tells it of what they make
made-of : {R A : Type 0} {test : A → A → Bool} (parts : R → A) (made : A → R) →
    ((r : R) → made (parts r) ≡ r) → Tells test →
    (r s : R) → Decides (test (parts r) (parts s)) (r ≡ s)
made-of parts made again tells r s = Decides-like _
    (λ are. sym (again r) ∙ (ap made are ∙ again s)) (ap parts)
    (tells.decides (parts r) (parts s))

-- the test of passwd tells whether two records are equal
pub passwd-tells : TellsSame passwd_format
passwd-tells = made-of
    (λ r. ((((((r.name, r.password), r.uid), r.gid), r.comment), r.home), r.shell))
    (λ ((((((name, password), uid), gid), comment), home), shell). record {
      name = name;
      password = password;
      uid = uid;
      gid = gid;
      comment = comment;
      home = home;
      shell = shell;
    })
    (λ r. refl)
    (both (both (both (both (both (both texts texts) numbers) numbers) texts) texts) texts)

-- that of shadow does
pub shadow-tells : TellsSame shadow_format
shadow-tells = made-of
    (λ r. (
      (
        ((((((r.name, r.hash), r.last_change), r.minimum), r.maximum), r.warning), r.inactive),
        r.expiration,
      ),
      r.rest,
    ))
    (λ ((((((((name, hash), last), minimum), maximum), warning), inactive), expiration), rest).
    record {
      name = name;
      hash = hash;
      last_change = last;
      minimum = minimum;
      maximum = maximum;
      warning = warning;
      inactive = inactive;
      expiration = expiration;
      rest = rest;
    })
    (λ r. refl)
    (both (both (both (both (both (both (both (both texts texts) days) days) days) days) days) days)
    texts)

-- that of group
pub group-tells : TellsSame group_format
group-tells = made-of
    (λ r. (((r.name, r.password), r.gid), r.members))
    (λ (((name, password), gid), members).
    record { name = name; password = password; gid = gid; members = members })
    (λ r. refl) (both (both (both texts texts) numbers) names)

-- that of gshadow
pub gshadow-tells : TellsSame gshadow_format
gshadow-tells = made-of
    (λ r. (((r.name, r.password), r.administrators), r.members))
    (λ (((name, password), administrators), members).
    record { name = name; password = password; administrators = administrators; members = members })
    (λ r. refl) (both (both (both texts texts) names) names)

-- that of subuid and subgid
pub subid-tells : TellsSame subid_format
subid-tells = made-of
    (λ r. ((r.owner, r.first), r.count))
    (λ ((owner, first), count). record { owner = owner; first = first; count = count })
    (λ r. refl) (both (both texts numbers) numbers)
