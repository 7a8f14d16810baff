-- Claims: what is noted by some keys and then by more is noted by all (`notes-both`), and so those
-- of a list piece by piece (`notes-piece`). Way: a key of two lists together is one of either.
use Rattle.std.proofs.Common.{◌≡◌, ◌∙◌, ℕ, inl, inr, List, [], ◌∷◌, ◌++◌, refl, sym, ap, subst}
use Rattle.std.specs.Prelude.{◌==◌, Option}
use Rattle.std.proofs.lemmas.Bool.{or_cases}
use Rattle.std.proofs.lemmas.List.Folds.{list_any-append}
use Rattle.std.proofs.lemmas.List.{map-append}
use Rattle.account_model.specs.Text.{nonempty}
use Rattle.acct_lines.proofs.NamesCut.{pushed-piece}
use Rattle.acct_tables.specs.NameHashes.{name_hash}
use Rattle.table.specs.Keys.{name_keys}
use Rattle.acct_tables.specs.KeyPlaces.{NotesOf, has_key}
use Rattle.acct_tables.specs.declared.key_places.Spot.{Spot}

module _ (spot : Spot) (before between after : ℕ → Option (List ℕ)) where
  -- by some keys, and then by more
  pub notes-both :
      (keys more : List ℕ)
      → NotesOf keys spot before between
      → NotesOf more spot between after
      → NotesOf (keys ++ more) spot before after
  notes-both keys more first behind = record {
    kept = λ key place may. behind.kept key place (first.kept key place may);
    noted = λ key place has in_spot. elim (or_cases (has_key key keys) (has_key key more)
        (sym (list_any-append (λ other. other == key) keys more) ∙ has)) [
          | inl one ↦ behind.kept key place (first.noted key place one in_spot)
          | inr other ↦ behind.noted key place other in_spot
        ];
  }

  -- by the piece in front of a list, and then by the names of the rest
  pub notes-piece :
      (piece : List ℕ) (pieces rest : List (List ℕ))
      → pieces ≡ piece ∷ rest
      → NotesOf (name_keys (nonempty (piece ∷ []))) spot before between
      → NotesOf (name_keys (nonempty rest)) spot between after
      → NotesOf (name_keys (nonempty pieces)) spot before after
  notes-piece piece pieces rest is first behind =
      let front = nonempty (piece ∷ []) in
      subst (λ names. NotesOf (name_keys names) spot before after)
      (pushed-piece [] front piece rest refl ∙ ap nonempty (sym is))
      (subst (λ keys. NotesOf keys spot before after)
      (sym (map-append name_hash front (nonempty rest)))
      (notes-both (name_keys front) (name_keys (nonempty rest)) first behind))
