-- Where records with a key stand in a table, by slots into which keys fall (passwd(5), shadow(5),
-- group(5), gshadow(5), subuid(5), subgid(5)). A place is a number by which the caller knows a line.
-- `told` is what an index tells: for a key the places where records may have it; none where any place may.
use Rattle.std.specs.Prelude.{◌≡◌, ℕ, ◌+◌, ◌%◌, ◌<◌, ◌≤◌, ◌==◌, AllPairs, Bool, true, false, List, [], ◌∷◌, get_or, length, max, IfSome, Option, None, Some, ⊤, if◌then◌else◌}
use Rattle.std.specs.List.{list_any}
use Rattle.account_model.specs.Ids.{is_used}
use Rattle.acct_tables.specs.declared.key_places.Spot.{Spot}
use Rattle.acct_tables.specs.declared.key_places.Spot.TheVariants.{At, Anywhere}
use Rattle.acct_tables.specs.declared.place_lists.Link.{Link}

-- ---- What is told

-- whether the key is one of these
abbrev pub has_key : ℕ → List ℕ → Bool
has_key key keys = list_any (λ other. other == key) keys

-- by what is told, the record at this place may have the key
abbrev pub MayBeAt : (ℕ → Option (List ℕ)) → ℕ → ℕ → Type 0
MayBeAt told key place = IfSome (told key) (λ places. is_used places place ≡ true)

-- a place where the record may stand
abbrev pub IsIn : Spot → ℕ → Type 0
IsIn (At there) place = there ≡ place
IsIn Anywhere place = ⊤

-- what is told after is no less than what was told before
abbrev pub Widens : (before after : ℕ → Option (List ℕ)) → Type 0
Widens before after = (key place : ℕ) → MayBeAt before key place → MayBeAt after key place

-- what is told after is no less, and a record there may have these keys
pub record NotesOf (keys : List ℕ) (spot : Spot) (before after : ℕ → Option (List ℕ)) : Type 0 where
  pub kept : Widens before after
  pub noted : (key place : ℕ) → has_key key keys ≡ true → IsIn spot place → MayBeAt after key place

-- no key is told of
abbrev pub IsOfNone : (ℕ → Option (List ℕ)) → Type 0
IsOfNone told = (key : ℕ) → told key ≡ Some []

-- any place may have each key
abbrev pub IsUntold : (ℕ → Option (List ℕ)) → Type 0
IsUntold told = (key : ℕ) → told key ≡ None

-- these are the places that are told of the key, from the first to the last
pub record ArePlacesOf (told : ℕ → Option (List ℕ)) (key : ℕ) (places : List ℕ) : Type 0 where
  pub all : (place : ℕ) → MayBeAt told key place → is_used places place ≡ true
  pub only : (place : ℕ) → is_used places place ≡ true → MayBeAt told key place
  pub ascending : AllPairs (λ earlier later. earlier < later) places

-- ---- Slots and lists of places

-- The list of this number, counted from 1; that of 0 is empty. A link puts a place in front of an
-- older list. The newest link comes first.
abbrev pub listed_places : List Link → ℕ → List ℕ
listed_places [] number = []
listed_places (link ∷ older) number = if number == length older + 1
    then link.place ∷ listed_places older link.older
    else listed_places older number

-- the list that begins with the link; without one it is empty
abbrev pub list_from : List Link → Option Link → List ℕ
list_from links None = []
list_from links (Some link) = link.place ∷ listed_places links link.older

-- each link goes on with an older list
abbrev pub AreLinked : List Link → Type 0
AreLinked [] = ⊤
AreLinked (link ∷ older) = (link.older ≤ length older) × AreLinked older

-- the place in front of the others, where it isn't there already
abbrev pub with_place : ℕ → List ℕ → List ℕ
with_place place [] = place ∷ []
with_place place (newest ∷ older) = if newest == place
    then newest ∷ older
    else place ∷ newest ∷ older

-- what a slot holds where any place may have a key in it
abbrev pub open_slot : ℕ
open_slot = 4294967295

-- the number of the slot of the key, counted from 0
abbrev pub slot_number : List ℕ → ℕ → ℕ
slot_number slots key = key % max (length slots) 1

-- what the slot of the key holds; without slots any place may have each key
abbrev pub slot_of : List ℕ → ℕ → ℕ
slot_of slots key = get_or slots (slot_number slots key) open_slot

-- what a slot tells that holds this
abbrev pub told_in : List Link → ℕ → Option (List ℕ)
told_in links held = if held == open_slot then None else Some (listed_places links held)

-- by a slot that holds this, a record at the place may have a key in it
abbrev pub MayBeIn : List Link → ℕ → ℕ → Type 0
MayBeIn links held place = IfSome (told_in links held) (λ places. is_used places place ≡ true)

-- what an index with these slots and lists tells of a key
abbrev pub told_places : List ℕ × List Link → ℕ → Option (List ℕ)
told_places index key = told_in index.1 (slot_of index.0 key)

-- a slot that holds this is open, or has one of the lists
abbrev pub IsSlot : List Link → ℕ → Type 0
IsSlot links held = (held == open_slot) ≡ false → held ≤ length links

-- each slot is open, or has one of the lists
abbrev pub AreHeld : List Link → List ℕ → Type 0
AreHeld links slots = (key : ℕ) → IsSlot links (slot_of slots key)

-- the lists stay as more come, and what a slot holds then tells of the spot and of the old places
pub record IsHeldWith (spot : Spot) (held : ℕ) (before after : List Link) (new : ℕ) : Type 0 where
  pub kept : (number : ℕ) → number ≤ length before
      → listed_places after number ≡ listed_places before number
  pub grown : length before ≤ length after
  pub inside : IsSlot after new
  pub others : (place : ℕ) → MayBeIn before held place → MayBeIn after new place
  pub here : (place : ℕ) → IsIn spot place → MayBeIn after new place
