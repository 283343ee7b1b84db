-- The tokens of pins that a backend has given to its callers.
use Rattle.std.specs.Prelude.{◌≡◌, ◌≢◌, ℕ, ◌+◌, ◌-◌, ◌<◌, true, nat_eq, List, [], ◌∷◌, ◌++◌, map}
use Rattle.std.specs.Prelude.{take, length, get_or, Option, Some, None, if◌then◌else◌}
use Rattle.block_tag.specs.declared.tag.Tag.{Tag}
use Rattle.block_tag.specs.Names.{names_block, packed_tag}
use Rattle.buffer_frames.specs.declared.pins.HeldPin.{HeldPin}

-- A frame that is pinned for callers: the tag of its block, and how many tokens there are of the
-- pin
pub record HeldFrame : Type 0 where
  pub frame : ℕ
  pub tag : ℕ
  pub tokens : ℕ

-- the frames that are pinned for callers
abbrev pub Tokens : Type 0
Tokens = List HeldFrame

-- no tokens
abbrev pub no_tokens : Tokens
no_tokens = []

-- what is held at a frame
abbrev pub held_at : Tokens → ℕ → Option HeldFrame
held_at [] f = None
held_at (h ∷ hs) f = if nat_eq f h.frame then Some h else held_at hs f

-- how many tokens there are of what is held at a frame
abbrev pub tokens_of : Option HeldFrame → ℕ
tokens_of None = 0
tokens_of (Some h) = h.tokens

-- how many tokens there are in all
abbrev pub count_of : Tokens → ℕ
count_of [] = 0
count_of (h ∷ hs) = h.tokens + count_of hs

-- the tokens with the first one of a new pin
abbrev pub tokens_with : ℕ → ℕ → Tokens → Tokens
tokens_with f tag t = t ++ record { frame = f; tag = tag; tokens = 1 } ∷ []

-- the tokens with one more of a frame that is pinned
abbrev pub tokens_more : ℕ → Tokens → Tokens
tokens_more f [] = []
tokens_more f (h ∷ hs) =
    if nat_eq f h.frame then record h { tokens = h.tokens + 1 } ∷ hs else h ∷ tokens_more f hs

-- the tokens with one less of a frame: with its last token the pin goes
abbrev pub tokens_less : ℕ → Tokens → Tokens
tokens_less f [] = []
tokens_less f (h ∷ hs) =
    if nat_eq f h.frame
    then (if nat_eq h.tokens 1 then hs else record h { tokens = h.tokens - 1 } ∷ hs)
    else h ∷ tokens_less f hs

-- no frame is pinned for the block
abbrev pub IsNew : Tag → Tokens → Type 0
IsNew tag t = (f : ℕ) (h : HeldFrame) → held_at t f ≡ Some h → h.tag ≢ packed_tag tag

-- The frame is pinned for the block
pub record IsPinnedFor (tag : Tag) (f : ℕ) (t : Tokens) : Type 0 where
  pub held : HeldFrame
  pub there : held_at t f ≡ Some held
  pub same : held.tag ≡ packed_tag tag

-- each frame has a token, and none stands twice
abbrev pub TokensAreCounted : Tokens → Type 0
TokensAreCounted [] = Unit {0}
TokensAreCounted (h ∷ hs) = (0 < h.tokens) × (held_at hs h.frame ≡ None) × TokensAreCounted hs

-- what a list of pins shows
abbrev pub held_of : HeldPin → HeldFrame
held_of h = record { frame = h.pin.frame; tag = packed_tag h.tag; tokens = h.tokens }

abbrev pub held_in : List HeldPin → Tokens
held_in hs = map held_of hs

-- each pin is of a block
abbrev pub AreOfBlocks : List HeldPin → Type 0
AreOfBlocks [] = Unit {0}
AreOfBlocks (h ∷ hs) = (names_block h.tag ≡ true) × AreOfBlocks hs

-- The first pin of the frame stands at this place
pub record StandsAt (f i : ℕ) (hs : List HeldPin) : Type 0 where
  pub inside : i < length hs
  pub before : held_at (held_in (take i hs)) f ≡ None
  pub here : (h : HeldPin) → h ≡ get_or hs i h → h.pin.frame ≡ f

-- the pin at this place is of the block
abbrev pub IsOf : Tag → ℕ → List HeldPin → Type 0
IsOf tag i hs = (h : HeldPin) → h ≡ get_or hs i h → h.tag ≡ tag

-- no pin is of the block
abbrev pub AreOfOthers : Tag → List HeldPin → Type 0
AreOfOthers tag [] = Unit {0}
AreOfOthers tag (h ∷ hs) = (h.tag ≢ tag) × AreOfOthers tag hs
