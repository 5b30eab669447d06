-- The rule of the queue below a lane. Before the first item the key goes through it, so that both ends know the
-- key; then what was sent is what was received and what lies in the queue. One pass at most sends, and one
-- receives.
use Rattle.std.specs.Prelude.{◌≡◌, ℕ, Bool, true, false, List, [], ◌∷◌, ◌++◌, length, map}
use mathlib.Core.Option.{some}
use lib.ListN.{get_elem?}
use Rattle.std.specs.declared.snapshot.Snapshot.{Snapshot}
use Rattle.pair_lane.specs.declared.rule.Slip.{Slip}
use Rattle.pair_lane.specs.declared.rule.Slip.TheVariants.{Opening, Item}
use Rattle.pair_lane.specs.declared.rule.Known.{Known}

module _ {T K : Type 0} where
  -- ---- views

  -- a pass that both sends and receives, of a lane through which nothing went
  abbrev pub both_ends : List K → Bool → Known T K
  both_ends keys opened = record { sends = true; receives = true; keys = keys; opened = opened; sent = []; got = [] }

  -- the first pass
  abbrev pub fresh : Known T K
  fresh = both_ends [] false

  abbrev pub sending_end : List K → List T → Known T K
  sending_end keys sent = record { sends = true; receives = false; keys = keys; opened = true; sent = sent; got = [] }

  abbrev pub receiving_end : List K → List T → Known T K
  receiving_end keys got = record { sends = false; receives = true; keys = keys; opened = true; sent = []; got = got }

  -- ---- the queue

  -- the items that lie in the queue
  abbrev pub items_in : List (Slip T K) → List T
  items_in [] = []
  items_in (Opening key ∷ slips) = items_in slips
  items_in (Item x ∷ slips) = x ∷ items_in slips

  -- items alone lie in the queue once the key was taken out, and before that the key alone, if anything
  abbrev pub Lie : Bool → List K → List (Slip T K) → Type 0
  Lie true keys slips = slips ≡ map Item (items_in slips)
  Lie false [] slips = slips ≡ []
  Lie false (key ∷ keys) slips = (s : Snapshot K) × (slips ≡ Opening s ∷ [])

  -- each item fits the key after the items before it
  abbrev pub AllFit : (K → List T → T → Type 0) → List K → List T → Type 0
  AllFit fits keys sent = (key : K) (earlier later : List T) (x : T) → keys ≡ key ∷ [] → sent ≡ earlier ++ x ∷ later → fits key earlier x

-- what happened on a lane: the key, once it is known, and whether it was taken out of the queue; the pass that
-- sends and the one that receives; what was sent, and what was received
pub record History (T K : Type 0) : Type 0 where
  pub keys : List K
  pub opened : Bool
  pub writer : ℕ
  pub reader : ℕ
  pub sent : List T
  pub got : List T

module _ {T K : Type 0} where
  -- the pass that sends knows the key and what was sent, and the one that receives knows it and what was received
  abbrev pub Knows : History T K → ℕ → Known T K → Type 0
  Knows h port v =
      (v.sends ≡ true → (port ≡ h.writer) × (v.keys ≡ h.keys) × (v.opened ≡ h.opened) × (v.sent ≡ h.sent))
      × (v.receives ≡ true → (port ≡ h.reader) × (v.keys ≡ h.keys) × (v.opened ≡ h.opened) × (v.got ≡ h.got))

  -- the rule
  pub record Laned (fits : K → List T → T → Type 0) (slips : List (Slip T K)) (views : List (Known T K)) : Type 0 where
    pub history : History T K
    pub lie : Lie history.opened history.keys slips
    pub flow : history.sent ≡ history.got ++ items_in slips
    pub fit : AllFit fits history.keys history.sent
    pub known : (port : ℕ) (v : Known T K) → get_elem? views port ≡ some v → Knows history port v

  -- ---- what each step tells

  -- the key went into the queue, and is known
  abbrev pub HasOpened : Slip T K → Known T K → Type 0
  HasOpened slip w = (s : Snapshot K) × (slip ≡ Opening s) × (w ≡ both_ends (s.value ∷ []) false)

  -- the key came out of the queue
  abbrev pub HasUnlocked : Known T K → Known T K → Type 0
  HasUnlocked v w = w ≡ both_ends v.keys true

  -- an item was sent
  abbrev pub HasSent : Known T K → Slip T K → Known T K → Type 0
  HasSent v slip w = (x : T) × (slip ≡ Item x) × (w ≡ sending_end v.keys (v.sent ++ x ∷ []))

  -- an item was received, which fits the key after those received before
  abbrev pub HasReceived : (K → List T → T → Type 0) → Known T K → Slip T K → Known T K → Type 0
  HasReceived fits v slip w = (x : T) × (slip ≡ Item x) × (w ≡ receiving_end v.keys (v.got ++ x ∷ []))
      × ((key : K) → v.keys ≡ key ∷ [] → fits key v.got x)

  -- nothing lies in the queue
  abbrev pub IsEmpty : List (Slip T K) → Type 0
  IsEmpty slips = slips ≡ []

  -- the key alone lies in the queue
  abbrev pub HoldsKey : List (Slip T K) → Type 0
  HoldsKey slips = length slips ≡ 1

  -- what lies in the queue are the items that were sent last
  abbrev pub Wait : List T → List (Slip T K) → Type 0
  Wait sent slips = (got : List T) × (waiting : List T) × (sent ≡ got ++ waiting) × (length waiting ≡ length slips)
