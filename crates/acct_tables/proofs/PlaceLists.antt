-- Claims: the list of 0 is empty (`listed-none`), and another begins with the link of its number and goes
-- on with an older list (`listed-from`). Way: links are the newest first, so each list is found behind
-- all newer links.
use Rattle.std.proofs.Common.{◌≡◌, ◌∙◌, ℕ, ◌+◌, ◌<◌, ◌≤◌, List, [], ◌∷◌, ◌++◌, length, take, drop, get_or, reverse, refl, sym, ap, subst, arith, length-append}
use Rattle.std.proofs.lemmas.Bool.{eq-eqb, ne_eqb}
use Rattle.std.proofs.lemmas.List.{append_assoc, drop_more, length-reverse, length-take-le, reverse-append, take-append-drop}
use Rattle.acct_tables.specs.KeyPlaces.{AreLinked, listed_places}
use Rattle.acct_tables.specs.declared.place_lists.Link.{Link}

-- newer links don't change an older list
listed-older :
    (newer older : List Link) (number : ℕ)
    → number ≤ length older
    → listed_places (newer ++ older) number ≡ listed_places older number
listed-older [] older number below = refl
listed-older (link ∷ newer) older number below =
    let differs = ne_eqb number (length (newer ++ older) + 1)
    (λ same. omega (arith, same, below, length-append newer older)) in
    rw differs (listed-older newer older number below)

-- the list of a new link begins with its place
listed-new :
    (link : Link) (older : List Link) (number : ℕ)
    → number ≡ length older + 1
    → listed_places (link ∷ older) number ≡ link.place ∷ listed_places older link.older
listed-new link older number is = rw (eq-eqb number (length older + 1) is) refl

-- the list of 0 is empty
pub listed-none : (links : List Link) → listed_places links 0 ≡ []
listed-none [] = refl
listed-none (link ∷ older) =
    rw (ne_eqb 0 (length older + 1) (λ same. omega (arith, same))) (listed-none older)

-- a link goes on with an older list
linked-at :
    (newer older : List Link) (link : Link)
    → AreLinked (newer ++ link ∷ older)
    → link.older ≤ length older
linked-at [] older link linked = linked.0
linked-at (first ∷ newer) older link linked = linked-at newer older link linked.1

-- a list begins with the link of its number
listed-at :
    (newer older : List Link) (link : Link) (number : ℕ)
    → number ≡ length older + 1
    → AreLinked (newer ++ link ∷ older)
    → listed_places (newer ++ link ∷ older) number
    ≡ link.place ∷ listed_places (newer ++ link ∷ older) link.older
listed-at newer older link number is linked =
    let below = linked-at newer older link linked in
    listed-older newer (link ∷ older) number (omega (arith, is))
    ∙ listed-new link older number is
    ∙ ap (λ places. link.place ∷ places)
    (sym (listed-older newer (link ∷ older) link.older (omega (arith, below))
    ∙ listed-older (link ∷ []) older link.older below))

module _ (links : List Link) (index : ℕ) (link : Link) (inside : index < length links) where
  -- the newest first, as the list stands around one of them
  reversed-at :
      get_or links index link ≡ link
      → reverse links ≡ reverse (drop (index + 1) links) ++ link ∷ reverse (take index links)
  reversed-at is =
      let behind = drop (index + 1) links in
      let front = take index links in
      ap reverse (sym (take-append-drop index links)
      ∙ ap (λ rest. front ++ rest) (drop_more links index link inside
      ∙ ap (λ first. first ∷ behind) is))
      ∙ reverse-append front (link ∷ behind)
      ∙ ap (λ links. links ++ reverse front) (reverse-append (link ∷ []) behind)
      ∙ append_assoc (reverse behind) (link ∷ []) (reverse front)

  -- the list of a number goes on from its link
  pub listed-from :
      (number : ℕ)
      → number ≡ index + 1
      → get_or links index link ≡ link
      → AreLinked (reverse links)
      → (listed_places (reverse links) number
      ≡ link.place ∷ listed_places (reverse links) link.older) × (link.older < number)
  listed-from number counted is linked =
      let newer = reverse (drop (index + 1) links) in
      let older = reverse (take index links) in
      let here = reversed-at is in
      let count = length-reverse (take index links) ∙ length-take-le index links
      (omega (arith, inside)) in
      let stands = subst AreLinked here linked in (
        subst (λ links. listed_places links number ≡ link.place ∷ listed_places links link.older)
            (sym here) (listed-at newer older link number (omega (arith, counted, count)) stands),
        omega (arith, linked-at newer older link stands, counted, count),
      )
