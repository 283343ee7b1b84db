-- The sizes of forks: the kinds of step at one, and what holds of them.
use Rattle.std.specs.Prelude.{◌≡◌, ◌≢◌, ◌⊎◌, ℕ, ◌+◌, ◌-◌, ◌<◌, ◌≤◌, Bool, true, false, List, []}
use Rattle.std.specs.Prelude.{◌∷◌, ◌++◌, map, slice_set, Contains, Option, Some, None, nat_eq, not}
use mathlib.Core.Option.{some}
use lib.ListN.{get_elem?}
use Rattle.pin_core.specs.declared.view.Role.TheVariants.{HandedOut}
use Rattle.pin_core.specs.declared.view.Content.{Content}
use Rattle.pin_core.specs.declared.view.Content.TheVariants.{Unlocked, Shared, Exclusive}
use Rattle.pin_core.specs.declared.view.SizeRight.{SizeRight}
use Rattle.pin_core.specs.declared.view.SizeRight.TheVariants as size_right
use Rattle.pin_core.specs.declared.view.Resize.{Resize}
use Rattle.pin_core.specs.declared.view.SizeHold.{SizeHold}
use Rattle.pin_core.specs.declared.view.LoadedWord.{LoadedWord}
use Rattle.pin_core.specs.declared.view.LoadedWord.TheVariants as seen
use Rattle.pin_core.specs.declared.view.Link.{Link}
use Rattle.pin_core.specs.declared.view.Resident.{Resident}
use Rattle.pin_core.specs.declared.view.View.{View}
use Rattle.pin_core.specs.State.{State, SizeWord, no_tag, no_size, without_size, size_hold}
use Rattle.pin_core.specs.State.{link, tag_fork, tag_block, is_block, is_cut}
use Rattle.pin_core.specs.Kinds.{load_of, seen_gone}
use Rattle.pin_core.specs.Tallies.{flag_weight}
use Rattle.grid.specs.Shape.{Shape, Part, Grid, put}

-- The kinds of step at the size of a fork: no call on a table makes one yet
pub data SizeKind : Type 0 where
  -- a load of the size word
  load_size : SizeKind
  -- the fork is kept at its size
  share_size : SizeKind
  -- the fork's size becomes one backend's to change (`LockRelationForExtension`)
  exclude_size : SizeKind
  -- a shared right is given up; if a frame is named, the backend saw its block below the size
  unshare_size : Option ℕ → SizeKind
  -- an exclusive right is given up (`UnlockRelationForExtension`)
  unexclude_size : SizeKind
  -- before a cut to a number of blocks: the frame's tag is seen to be of no block that is to go
  -- (`DropRelationBuffers`)
  pass_frame : ℕ → ℕ → SizeKind
  -- the size word is stored
  store_size : SizeKind
  -- the growth of the fork by the frame's block is in the log, by a record that ends at a position
  enter_extension : ℕ → ℕ → SizeKind
  -- the cut of the fork to a number of blocks is in the log, by a record that ends at a position
  enter_cut : ℕ → ℕ → SizeKind

-- A view may get a right on a fork's size: the number is a fork's, nobody has the exclusive right,
-- and the view has no right on it
pub record CanTakeSize (s : State) (v : View) (fork : ℕ) : Type 0 where
  -- the number is that of a fork of the relations
  pub is_fork : s.is_fork fork ≡ true
  -- the view has no right on the fork's size
  pub unheld : (size_hold v fork).right ≡ size_right.Unheld
  -- nobody has the exclusive right on the fork's size
  pub free : (s.size fork).exclusive ≡ false

-- A view may get the exclusive right on a fork's size: nobody has a right on it, and forks may grow
-- and shrink
pub record CanExcludeSize (s : State) (v : View) (fork : ℕ) : Type 0 where
  -- the number is a fork's, nobody has the exclusive right on its size, and the view has no right
  -- on it
  pub free : CanTakeSize s v fork
  -- nobody has the shared right on the fork's size
  pub alone : (s.size fork).sharers ≡ 0
  -- forks may grow and shrink
  pub allowed : s.resizes ≡ true

-- The frame's pin remembers a tag of the fork, of a block below the size that the view found
pub record SeesBlock (s : State) (v : View) (fork f : ℕ) : Type 0 where
  -- the frame is one of the pool
  pub inside : f < s.frames
  -- a tag
  pub tag : ℕ
  -- the view's pin of the frame remembers the tag
  pub remembered : (link v f).tag ≡ Some tag
  -- the tag is of the fork
  pub of : tag_fork tag ≡ fork
  -- the tag's block is below the size that the view found
  pub below : tag_block tag < (size_hold v fork).blocks

-- if a frame is named, the view sees its block below the fork's size
abbrev pub MaySee : Option ℕ → State → View → ℕ → Type 0
MaySee None s v fork = Unit {0}
MaySee (Some f) s v fork = SeesBlock s v fork f

-- A view may give up the shared right on a fork's size
pub record CanUnshareSize (seen : Option ℕ) (s : State) (v : View) (fork : ℕ) : Type 0 where
  -- the view has the shared right on the fork's size
  pub right : (size_hold v fork).right ≡ size_right.Shared
  -- if a frame is named, its pin remembers a tag of the fork, of a block below the size that the
  -- view found
  pub sees : MaySee seen s v fork

-- A view may give up the exclusive right on a fork's size. The word is the fork's size by the log,
-- and the view notes no new block of the fork. If it made a cut, the record is flushed as far as it
-- knows, or it has seen the log down
pub record CanUnexcludeSize (s : State) (v : View) (fork : ℕ) : Type 0 where
  -- the view has the exclusive right on the fork's size
  pub right : (size_hold v fork).right ≡ size_right.Exclusive
  -- the size word is the fork's size by the log
  pub stored : (s.size fork).blocks ≡ (s.size fork).logged
  -- the view notes no new block of the fork
  pub unnoted : (f : ℕ) → f < s.frames → (link v f).noted ≡ true → tag_fork (s.frame f).tag ≢ fork
  -- if the view made a cut, its record is flushed as far as the view knows, or the view has seen
  -- the log down
  pub flushed : (r : Resize) → (size_hold v fork).made ≡ Some r → r.cut ≡ true
      → (r.end ≤ v.flushed) ⊎ (v.saw_down ≡ true)

-- The view has the exclusive right, under which it made no change yet
pub record MayResize (s : State) (v : View) (fork : ℕ) : Type 0 where
  -- the view has the exclusive right on the fork's size
  pub right : (size_hold v fork).right ≡ size_right.Exclusive
  -- the view made no change under its right
  pub unmade : (size_hold v fork).made ≡ None

-- A view may pass a frame before a cut. The new size is below the size, and the same for all
-- frames. The frame's tag word is loaded, and isn't of a block that the cut takes away
pub record CanPass (f n : ℕ) (s : State) (v : View) (fork : ℕ) : Type 0 where
  -- the view has the exclusive right on the fork's size, and made no change under it
  pub may : MayResize s v fork
  -- the frame is one of the pool
  pub inside : f < s.frames
  -- the new size is below the size that the view found
  pub shorter : n < (size_hold v fork).blocks
  -- if the view passed a frame before, it was for the same new size
  pub same : (m : ℕ) → (size_hold v fork).cut_to ≡ Some m → m ≡ n
  -- the frame's tag word is all ones, or is of a block that the cut leaves
  pub kept : (s.frame f).tag ≢ no_tag → is_cut fork n (s.frame f).tag ≡ false

-- A view that made a change may store the size word
pub record CanStoreSize (s : State) (v : View) (fork : ℕ) : Type 0 where
  -- the view has the exclusive right on the fork's size
  pub right : (size_hold v fork).right ≡ size_right.Exclusive
  -- the view made a change under its right
  pub made : (size_hold v fork).made ≢ None

-- A fork may grow by the frame's block: the view notes it as new, and the frame is assigned, valid
-- and dirty
pub record CanEnterExtension (f : ℕ) (s : State) (v : View) (fork : ℕ) : Type 0 where
  -- the view has the exclusive right on the fork's size, and made no change under it
  pub may : MayResize s v fork
  -- the frame is one of the pool
  pub inside : f < s.frames
  -- the frame's tag is of the fork
  pub of : tag_fork (s.frame f).tag ≡ fork
  -- the view notes that the frame has a new block
  pub noted : (link v f).noted ≡ true
  -- no tag word that the view stored there is still to be assigned
  pub settled : (link v f).pending ≡ false
  -- the frame is valid (BM_VALID is set)
  pub valid : (s.frame f).word.valid ≡ true
  -- the frame is dirty (BM_DIRTY is set)
  pub dirty : (s.frame f).word.dirty ≡ true

-- A fork may be cut to n blocks: all frames are passed for that size
pub record CanEnterCut (n : ℕ) (s : State) (v : View) (fork : ℕ) : Type 0 where
  -- the view has the exclusive right on the fork's size, and made no change under it
  pub may : MayResize s v fork
  -- the view passed frames for this size
  pub cut_to : (size_hold v fork).cut_to ≡ Some n
  -- the view has passed each frame
  pub passed : (f : ℕ) → f < s.frames → Contains (size_hold v fork).passed f

-- What a kind asks of the state and of the view
abbrev pub SizeAllowed : SizeKind → State → View → ℕ → Type 0
SizeAllowed load_size s v fork = Unit {0}
SizeAllowed share_size s v fork = CanTakeSize s v fork
SizeAllowed exclude_size s v fork = CanExcludeSize s v fork
SizeAllowed (unshare_size seen) s v fork = CanUnshareSize seen s v fork
SizeAllowed unexclude_size s v fork = CanUnexcludeSize s v fork
SizeAllowed (pass_frame f n) s v fork = CanPass f n s v fork
SizeAllowed store_size s v fork = CanStoreSize s v fork
SizeAllowed (enter_extension f end) s v fork = CanEnterExtension f s v fork
SizeAllowed (enter_cut n end) s v fork = CanEnterCut n s v fork

-- What a kind makes of the fork's size
abbrev pub size_after : SizeKind → SizeWord → SizeWord
size_after load_size w = w
size_after share_size w = record w { sharers = w.sharers + 1 }
size_after exclude_size w = record w { exclusive = true }
size_after (unshare_size seen) w = record w { sharers = w.sharers - 1 }
size_after unexclude_size w = record w { exclusive = false }
size_after (pass_frame f n) w = w
size_after store_size w = record w { blocks = w.logged }
size_after (enter_extension f end) w = record w { logged = w.logged + 1 }
size_after (enter_cut n end) w = record w { logged = n }

-- What a kind makes of what the view has of the fork's size
abbrev pub size_hold_after : SizeKind → ℕ → SizeWord → SizeHold → SizeHold
size_hold_after load_size fork w h = h
size_hold_after share_size fork w h = record no_size {
  fork = fork;
  right = size_right.Shared;
  blocks = w.blocks;
}
size_hold_after exclude_size fork w h = record no_size {
  fork = fork;
  right = size_right.Exclusive;
  blocks = w.blocks;
}
size_hold_after (unshare_size seen) fork w h = no_size
size_hold_after unexclude_size fork w h = no_size
size_hold_after (pass_frame f n) fork w h = record h {
  fork = fork;
  cut_to = Some n;
  passed = f ∷ h.passed;
}
size_hold_after store_size fork w h = record h { fork = fork; stored = true }
size_hold_after (enter_extension f end) fork w h = record h {
  fork = fork;
  made = Some (record { blocks = w.logged + 1; end = end; cut = false });
}
size_hold_after (enter_cut n end) fork w h = record h {
  fork = fork;
  made = Some (record { blocks = n; end = end; cut = true });
}

-- what the view has of the sizes of all forks after a kind
abbrev pub size_holds_after : SizeKind → ℕ → SizeWord → View → List SizeHold
size_holds_after load_size fork w v = v.sizes
size_holds_after (unshare_size seen) fork w v = without_size fork v.sizes
size_holds_after unexclude_size fork w v = without_size fork v.sizes
size_holds_after k fork w v = size_hold_after k fork w (size_hold v fork)
    ∷ without_size fork v.sizes

-- whether an entry was made under the content lock: under an exclusive one the growth is an entry
abbrev pub entered_under : Content → Bool → Bool
entered_under Unlocked entered = entered
entered_under Shared entered = entered
entered_under Exclusive entered = true

-- what the view has at frames once it has seen the named frame's block below its fork's size
abbrev pub links_seen : Option ℕ → View → List Link
links_seen None v = v.links
links_seen (Some f) v = slice_set v.links f (record (link v f) { inside = true })

-- what the view has at the frame of a new block once the growth is in the log: the pin is handed
-- out
abbrev pub extended_link : Link → Link
extended_link l = record l {
  role = HandedOut;
  noted = false;
  inside = true;
  entered = entered_under l.content l.entered;
}

-- What a kind makes of what the view has at frames
abbrev pub links_after : SizeKind → View → List Link
links_after (unshare_size seen) v = links_seen seen v
links_after (enter_extension f end) v = slice_set v.links f (extended_link (link v f))
links_after _ v = v.links

-- the word that a kind loads, as it sees it
abbrev pub sizes_seen : SizeKind → ℕ → State → List LoadedWord
sizes_seen load_size fork s = seen.Size fork (s.size fork).blocks ∷ []
sizes_seen share_size fork s = seen.Size fork (s.size fork).blocks ∷ []
sizes_seen exclude_size fork s = seen.Size fork (s.size fork).blocks ∷ []
sizes_seen (pass_frame f n) fork s = seen.Tag f (s.frame f).tag ∷ []
sizes_seen _ fork s = []

-- the listed blocks after a kind: of the frame that is passed, all but the one of its tag are gone
abbrev pub residents_sized : SizeKind → State → List Resident → List Resident
residents_sized (pass_frame f n) s rs
    = seen_gone (λ (r : Resident). not (nat_eq r.tag (s.frame f).tag)) f rs
residents_sized _ s rs = rs

-- how many steps other than loads a kind is
abbrev pub size_steps : SizeKind → ℕ
size_steps load_size = 0
size_steps (pass_frame f n) = 0
size_steps _ = 1

-- What a kind at the fork makes of the view
abbrev pub view_sized : SizeKind → ℕ → State → View → View
view_sized k fork s v = record v {
  links = links_after k v;
  sizes = size_holds_after k fork (s.size fork) v;
  loads = v.loads ++ map (load_of v) (sizes_seen k fork s);
  steps = v.steps + size_steps k;
  residents = residents_sized k s v.residents;
}

-- the state after a step of the kind k at the fork by backend i, whose view is v
abbrev pub state_sized : SizeKind → State → ℕ → ℕ → View → State
state_sized k s i fork v = record s {
  size = put s.size fork (size_after k (s.size fork));
  views = slice_set s.views i (view_sized k fork s v);
}

-- What is summed over the views' holds of a size
pub data SizeTally : Type 0 where
  -- the views that have the shared right
  sharers : SizeTally
  -- the views that have the exclusive right
  excluders : SizeTally
  -- the views that made a change which isn't in the size word yet
  unstored : SizeTally

-- 1 for the shared right
abbrev pub shared_weight : SizeRight → ℕ
shared_weight size_right.Unheld = 0
shared_weight size_right.Shared = 1
shared_weight size_right.Exclusive = 0

-- 1 for the exclusive right
abbrev pub exclusive_weight : SizeRight → ℕ
exclusive_weight size_right.Unheld = 0
exclusive_weight size_right.Shared = 0
exclusive_weight size_right.Exclusive = 1

-- 1 for a change that isn't in the size word yet
abbrev pub unstored_weight : Option Resize → Bool → ℕ
unstored_weight None stored = 0
unstored_weight (Some r) true = 0
unstored_weight (Some r) false = 1

-- what a view's hold of a size adds to a sum
abbrev pub size_weight : SizeTally → SizeHold → ℕ
size_weight sharers h = shared_weight h.right
size_weight excluders h = exclusive_weight h.right
size_weight unstored h = unstored_weight h.made h.stored

-- the grid of views and forks
abbrev pub size_shape : Shape
size_shape = record {
  Column = SizeWord;
  Link = SizeHold;
  View = View;
  Tally = SizeTally;
  Block = Unit {0};
  Own = Unit {0};
  weigh = size_weight;
  link = size_hold;
  own = λ _. tt;
  spot = λ _. 0;
}

-- What holds of a fork's size and of the views' rights there
pub record SizeLaw (w : SizeWord) (t : SizeTally → ℕ) : Type 0 where
  -- the word counts the views that have the shared right
  pub shared : w.sharers ≡ t sharers
  -- the word's bit is set if and only if one view has the exclusive right
  pub exclusive : flag_weight w.exclusive ≡ t excluders
  -- while the word's bit is set, nobody has the shared right
  pub excludes : w.exclusive ≡ true → w.sharers ≡ 0
  -- the word has the fork's size by the log, except between a change of that and its store
  pub stored : t unstored ≡ 0 → w.blocks ≡ w.logged

-- What holds of a fork's size and of what a view has of it
pub record SizeHoldLaw (w : SizeWord) (h : SizeHold) : Type 0 where
  -- a view without the exclusive right notes no cut, and no change
  pub resting : h.right ≢ size_right.Exclusive → (h.cut_to ≡ None) × (h.made ≡ None)
  -- until a change is made, the word isn't noted as stored
  pub unmade : h.made ≡ None → h.stored ≡ false
  -- under a right the word stays as it was found, until it is stored
  pub found : h.right ≢ size_right.Unheld → h.stored ≡ false → h.blocks ≡ w.blocks
  -- a change that was made is the fork's size by the log
  pub made : (r : Resize) → h.made ≡ Some r → w.logged ≡ r.blocks
  -- a cut is to a smaller size
  pub shorter : (n : ℕ) → h.cut_to ≡ Some n → n < h.blocks
  -- frames are passed only for a cut
  pub passed : h.cut_to ≡ None → h.passed ≡ []

-- what holds of a fork's size, and of what each view has of it
abbrev pub size_part : Part size_shape
size_part = record { column = λ _ w t. SizeLaw w t; cell = λ _ w _ h. SizeHoldLaw w h }

-- a view notes that the frame has a new block
abbrev pub IsNoted : State → ℕ → Type 0
IsNoted s f = (i : ℕ) × (v : View) × (get_elem? s.views i ≡ some v) × ((link v f).noted ≡ true)

-- The tag is of the block at its fork's size. The view has the exclusive right on that, and made no
-- change under it
pub record IsAtSize (s : State) (v : View) (tag : ℕ) : Type 0 where
  -- the view has the exclusive right on the size of the tag's fork, and made no change under it
  pub may : MayResize s v (tag_fork tag)
  -- the tag's block is the first one that its fork doesn't have by the log
  pub at : tag_block tag ≡ (s.size (tag_fork tag)).logged

-- a tag word that isn't all ones is of a block of the relations, or of a new block, which a view
-- notes
abbrev pub TagsAreBlocks : State → Type 0
TagsAreBlocks s = (f : ℕ) → f < s.frames → (s.frame f).tag ≢ no_tag
    → (is_block s (s.frame f).tag ≡ true) ⊎ IsNoted s f

-- a new block is at its fork's size, on which the view that notes it has the exclusive right
abbrev pub NotedAreAtSize : State → Type 0
NotedAreAtSize s = (i f : ℕ) (v : View) → get_elem? s.views i ≡ some v → f < s.frames
    → (link v f).noted ≡ true → IsAtSize s v (s.frame f).tag

-- a pin whose block was seen below its fork's size is of a block that is still there
abbrev pub InsidesAreBlocks : State → Type 0
InsidesAreBlocks s = (i f : ℕ) (v : View) → get_elem? s.views i ≡ some v → f < s.frames
    → (link v f).inside ≡ true → is_block s (s.frame f).tag ≡ true

-- a frame that a view has passed for a cut has no tag that the cut takes away
abbrev pub PassedAreFree : State → Type 0
PassedAreFree s = (i fork n f : ℕ) (v : View) → get_elem? s.views i ≡ some v
    → (size_hold v fork).cut_to ≡ Some n → Contains (size_hold v fork).passed f → f < s.frames
    → (s.frame f).tag ≢ no_tag → is_cut fork n (s.frame f).tag ≡ false

-- What holds of the sizes of forks
pub record SizesLaw (s : State) : Type 0 where
  -- what holds of each fork's size, and of what each view has of it
  pub words : (n : ℕ) → Grid size_shape size_part n s.size (λ _. tt) s.views
  -- a tag word that isn't all ones is of a block of the relations, or of a new block, which a view
  -- notes
  pub blocks : TagsAreBlocks s
  -- a new block is at its fork's size, on which the view that notes it has the exclusive right
  pub noted : NotedAreAtSize s
  -- a pin whose block was seen below its fork's size is of a block that is still there
  pub insides : InsidesAreBlocks s
  -- a frame that a view has passed for a cut has no tag that the cut takes away
  pub passed : PassedAreFree s
  -- if forks don't grow and shrink, no view has the exclusive right on a size
  pub quiet : s.resizes ≡ false → (fork : ℕ) → (s.size fork).exclusive ≡ false
